-- `scale_numbers` meets its contract: after c turns the first c numbers are written.
use borrow.Author.Rules.{sfits_of}
use Prim.Native.Nat.{◌+◌, ◌*◌, ◌-◌}
use native.Mathlib.Omega.{arith}
use mathlib.Core.Path.{◌≡◌, refl, ap, ◌∙◌}
use lib.IntN.{pos, ◌*ℤ◌}
use lib.ListN.{get_or}
use Rattle.integers.proofs.Signed.{seen, back_fits}
use Rattle.nets.specs.Rows.{written}
use Rattle.nets.proofs.Row.{element}
use Rattle.nets.proofs.Lists.{write-more}
use Rattle.nets.proofs.coordinates.scale_numbers.Goals as goal

pub loop-c-init : goal.loop-c-init
unfolding written
loop-c-init c = refl

pub loop-c-preserved : goal.loop-c-preserved
loop-c-preserved c =
    let l = c.loop-c in
    let p = c.args.width * c.args.to in
    let q = c.args.width * c.args.from in
    let place_is : l.c ≡ p + l.c - p = omega arith in
    write-more c.args.out.now l.out p l.c (seen c.scaled.result) (λ i. get_or c.args.coefficients.now (q + (i - p)) (pos 0) *ℤ seen c.args.factor) l.invariant
    (back_fits (sfits_of c.scaled.type_inv) ∙ c.scaled.ensures
    ∙ ap (λ v. v *ℤ seen c.args.factor) (element (get_or c.args.coefficients.now (q + l.c) (pos 0)) (omega arith))
    ∙ ap (λ i. get_or c.args.coefficients.now (q + i) (pos 0) *ℤ seen c.args.factor) place_is)
