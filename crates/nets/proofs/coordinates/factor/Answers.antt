-- `factor` meets its contract: one division gives the quotient of the scale by the multinomial, which is no more than the scale and so fits.
use Prim.Native.Nat.{◌*◌, ◌/◌, ◌≤◌, ◌<◌}
use native.Mathlib.Nat.{le_trans, div-le_self}
use native.Mathlib.Omega.{arith}
use mathlib.Core.Path.{◌≡◌, sym, ap, ap₂, ◌∙◌, subst}
use lib.IntN.{pos, nat_abs}
use Rattle.integers.proofs.Signed.{fits-abs, back_fits}
use Rattle.polar.specs.Scale.{multinomial}
use Rattle.polar.proofs.Diagonal.{factorial-pos}
use Rattle.nets.specs.Coordinates.{exponents_at}
use Rattle.nets.proofs.Scaled.{one-division}
use Rattle.nets.proofs.coordinates.factor.Goals as goal
use Rattle.nets.proofs.coordinates.factor.Lts as lts
use Rattle.nets.proofs.coordinates.factor.Tie as tie
use Rattle.nets.proofs.coordinates.factor.Reads as reads

abbrev After-factorials_of-parts : Type 0
After-factorials_of-parts = lts.After-factorials_of tie.the-claims reads.Pre reads.Post

quotient_is : (c : After-factorials_of-parts)
    → let a = c.args in
    a.all * c.factorials_of-parts.result / a.whole ≡ a.all / multinomial a.degree (exponents_at a.dimension a.h a.l)
quotient_is c =
    let a = c.args in
    ap₂ (λ p q. a.all * p / q) c.factorials_of-parts.ensures.0 c.requires.2 ∙ one-division a.dimension a.degree a.h a.l c.requires.0 a.all

quotient-up : (c : After-factorials_of-parts) → let a = c.args in a.all * c.factorials_of-parts.result / a.whole ≤ 2520
quotient-up c =
    let a = c.args in
    subst (λ k. k ≤ 2520) (sym (quotient_is c)) (le_trans (div-le_self a.all (multinomial a.degree (exponents_at a.dimension a.h a.l))) c.requires.1)

pub nonzero_div-result : goal.nonzero_div-result
nonzero_div-result c = subst (λ k. 0 < k) (sym c.requires.2) (factorial-pos c.args.degree)

pub overflow_cast-result : goal.overflow_cast-result
overflow_cast-result c = let up = quotient-up c in fits-abs (pos (c.args.all * c.factorials_of-parts.result / c.args.whole)) (omega (arith, up))

pub returns : goal.returns
returns c =
    let read = back_fits {z = pos (c.args.all * c.factorials_of-parts.result / c.args.whole)} (overflow_cast-result c) in
    (read ∙ ap pos (quotient_is c), subst (λ r. nat_abs r ≤ 2520) (sym read) (quotient-up c))
