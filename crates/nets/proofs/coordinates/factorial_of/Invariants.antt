-- `factorial_of` meets its contract: after i turns the product is i!, which is small enough up to 10.
use mathlib.Core.Path.{◌≡◌}
use Rattle.polar.specs.Scale.{factorial}
use Rattle.nets.proofs.coordinates.factorial_of.Given as goal

abbrev pub invariant-loop-i : goal.invariant-loop-i
invariant-loop-i l = l.product ≡ factorial l.i
