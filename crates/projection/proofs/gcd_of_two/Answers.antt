-- `gcd_of_two` meets its contract: the greatest common divisor of the two numbers stays as it was (`gcd-step`), and at the end it is the first (`gcd-end`).
-- The second number is the measure.
use mathlib.Core.Path.{sym, ap, ◌∙◌}
use mathlib.Core.List.{[], ◌∷◌}
use Prim.Native.Nat.{ℕ}
use Rattle.projection.specs.Gcd.{gcd}
use Rattle.projection.proofs.Gcd.{gcd-end, gcd-step}
use Rattle.projection.proofs.gcd_of_two.Goals as goal

pub loop-n-preserved : goal.loop-n-preserved
loop-n-preserved c = gcd-step c.loop-n.m c.loop-n.n ∙ c.loop-n.invariant

pub returns : goal.returns
returns c =
    let m = c.loop-n.m in
    sym (gcd-end m) ∙ ap (λ (n : ℕ). gcd (m ∷ n ∷ [])) (sym c.loop-n-test.false) ∙ c.loop-n.invariant
