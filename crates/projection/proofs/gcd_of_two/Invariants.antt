-- `gcd_of_two` meets its contract: the greatest common divisor of the two numbers stays as it was (`gcd-step`), and at the end it is the first (`gcd-end`).
-- The second number is the measure.
use mathlib.Core.Path.{◌≡◌}
use mathlib.Core.List.{[], ◌∷◌}
use Rattle.projection.specs.Gcd.{gcd}
use Rattle.projection.proofs.gcd_of_two.Given as goal

abbrev pub invariant-loop-n : goal.invariant-loop-n
invariant-loop-n l = gcd (l.m ∷ l.n ∷ []) ≡ gcd (l.a ∷ l.b ∷ [])

abbrev pub decreases-loop-n : goal.decreases-loop-n
decreases-loop-n l = l.n
