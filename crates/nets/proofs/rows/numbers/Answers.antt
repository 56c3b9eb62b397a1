-- `numbers` meets its contract: the number of a group's entries in closed form.
use Prim.Native.Nat.{◌+◌, ◌*◌, ◌/◌, ◌≤◌}
use native.Mathlib.Nat.{mul-le-mul, div-eq_of_eq-mul_right}
use native.Mathlib.Omega.{arith}
use mathlib.Core.Path.{◌≡◌, sym, ap, ◌∙◌}
use lib.Dec.{lit≤}
use Rattle.polar.specs.Order.{counts}
use Rattle.entries.specs.Rows.{size, offset}
use Rattle.entries.proofs.Lengths.{tri-double}
use Rattle.nets.proofs.Ranks.{size-curve, size-patch}
use Rattle.nets.proofs.Places.{degree-below}
use Rattle.nets.proofs.rows.numbers.Goals as goal
use Rattle.nets.proofs.rows.numbers.Lts as lts
use Rattle.nets.proofs.rows.numbers.Reads as reads

abbrev Start : Type 0
Start = lts.Start reads.Pre reads.Post

below : (s : Start) → s.args.degree + 1 ≤ 180
below s = omega (arith, degree-below s.args.width s.args.dimension s.args.degree s.requires)

-- with two vertices
curve : (s : Start) → s.args.dimension ≡ 1 → size s.args.width s.args.dimension s.args.degree ≡ s.args.width * (s.args.degree + 1)
curve s one = ap (λ n. size s.args.width n s.args.degree) one ∙ size-curve s.args.width s.args.degree

-- with three
patch : (s : Start) → s.args.dimension ≡ 2 → size s.args.width s.args.dimension s.args.degree ≡ s.args.width * ((s.args.degree + 1) * (s.args.degree + 2) / 2)
patch s two =
    ap (λ n. size s.args.width n s.args.degree) two ∙ size-patch s.args.width s.args.degree
    ∙ ap (λ k. s.args.width * k) (sym (div-eq_of_eq-mul_right (lit≤ tt) doubled))
  where
    doubled : (s.args.degree + 1) * (s.args.degree + 2) ≡ 2 * offset (counts 1) (s.args.degree + 1)
    doubled = let d = tri-double (s.args.degree + 1) in omega (arith, d)

pub overflow_add-result : goal.overflow_add-result
overflow_add-result c = omega (arith, below c.before)

pub overflow_mul-result : goal.overflow_mul-result
overflow_mul-result c = omega (arith, curve c.before c.if-dimension-eq1.true, c.requires.room)

pub returns-then-dimension-eq1 : goal.returns-then-dimension-eq1
returns-then-dimension-eq1 c = sym (curve c.before c.if-dimension-eq1.true)

pub overflow_add-result-2 : goal.overflow_add-result-2
overflow_add-result-2 c = omega (arith, below c.before)

pub overflow_add-result-3 : goal.overflow_add-result-3
overflow_add-result-3 c = omega (arith, below c.before)

pub overflow_mul-result-2 : goal.overflow_mul-result-2
overflow_mul-result-2 c =
    let a = below c.before in
    let b : c.args.degree + 2 ≤ 181 = omega (arith, a) in
    omega (arith, mul-le-mul a b)

pub overflow_mul-result-3 : goal.overflow_mul-result-3
overflow_mul-result-3 c = omega (arith, patch c.before (omega (arith, c.requires, c.if-dimension-eq1.false)), c.requires.room)

pub returns : goal.returns
returns c = sym (patch c.before (omega (arith, c.requires, c.if-dimension-eq1.false)))
