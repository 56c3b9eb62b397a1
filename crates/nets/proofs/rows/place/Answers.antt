-- `place` meets its contract: i(i+1)/2 entries stand before row i of a triangle.
use Prim.Native.Nat.{◌+◌}
use native.Mathlib.Nat.{div-eq_of_eq-mul_right}
use native.Mathlib.Omega.{arith}
use mathlib.Core.Path.{◌≡◌, sym, ap, ◌∙◌}
use lib.Dec.{lit≤}
use Rattle.nets.specs.Rows.{place_at}
use Rattle.entries.proofs.Lengths.{tri-double}
use Rattle.nets.proofs.rows.place.Goals as goal

pub returns : goal.returns
returns c =
    let two : c.args.dimension ≡ 2 = omega arith in
    ap (λ x. x + c.args.k) (div-eq_of_eq-mul_right (lit≤ tt) (sym (tri-double c.args.i)))
    ∙ sym (ap (λ n. place_at n c.args.i c.args.k) two)
