-- `factorials_of` meets its contract: the product is what the multinomial divides m! by, so it is no larger.
use Prim.Native.Nat.{◌*◌, ◌≤◌}
use native.Mathlib.Nat.{le_trans, le_of_eq}
use native.Mathlib.Omega.{arith}
use mathlib.Core.Path.{◌≡◌, sym, ap₂, ◌∙◌, subst}
use Rattle.nets.specs.Coordinates.{denominator}
use Rattle.nets.proofs.Scaled.{parts, denominator-up, pair-up}
use Rattle.nets.proofs.coordinates.factorials_of.Goals as goal
use Rattle.nets.proofs.coordinates.factorials_of.Lts as lts
use Rattle.nets.proofs.coordinates.factorials_of.Tie as tie
use Rattle.nets.proofs.coordinates.factorials_of.Reads as reads

abbrev After-factorial_of-3 : Type 0
After-factorial_of-3 = lts.After-factorial_of3 tie.the-claims reads.Pre reads.Post

pub overflow_mul-result : goal.overflow_mul-result
overflow_mul-result c =
    omega (arith, le_trans (le_of_eq (ap₂ ◌*◌ c.factorial_of.ensures c.factorial_of-2.ensures)) (pair-up c.args.dimension c.args.degree c.args.h c.args.l c.requires))

product_is : (c : After-factorial_of-3)
    → let a = c.args in
    c.factorial_of.result * c.factorial_of-2.result * c.factorial_of-3.result ≡ denominator a.dimension a.degree a.h a.l
product_is c =
    ap₂ ◌*◌ (ap₂ ◌*◌ c.factorial_of.ensures c.factorial_of-2.ensures) c.factorial_of-3.ensures ∙ parts c.args.dimension c.args.degree c.args.h c.args.l c.requires

product-up : (c : After-factorial_of-3) → c.factorial_of.result * c.factorial_of-2.result * c.factorial_of-3.result ≤ 3628800
product-up c =
    subst (λ k. k ≤ 3628800) (sym (product_is c)) (denominator-up c.args.dimension c.args.degree c.args.h c.args.l c.requires)

pub overflow_mul-result-2 : goal.overflow_mul-result-2
overflow_mul-result-2 c = omega (arith, product-up c)

pub returns : goal.returns
returns c = (product_is c, product-up c)
