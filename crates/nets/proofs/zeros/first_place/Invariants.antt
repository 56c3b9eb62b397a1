-- `first_place` meets its contract: the values before the d-th are four zeros, so what is left from it on is
-- what is left.
use Rattle.nets.proofs.ZeroPlaces.{Left}
use Rattle.nets.proofs.zeros.first_place.Given as goal

abbrev pub invariant-loop-d : goal.invariant-loop-d
invariant-loop-d l = Left l.vertex l.degree l.room l.d
