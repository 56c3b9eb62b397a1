-- `blend_across` meets its contract: the numbers before `from` and those not blended yet are as they were, so each blend
-- is of old numbers, and the blended ones are within the limit.
use Rattle.std.proofs.Common.{◌≡◌, true}
use Rattle.nets.specs.Rows.{written, ranged}
use Rattle.nets.specs.Sides.{mixed_across}
use Rattle.nets.proofs.sides.blend_across.Given as goal

abbrev pub invariant-loop-k : goal.invariant-loop-k
invariant-loop-k l =
    (l.xs ≡ written l.initial.xs l.from l.k (mixed_across l.initial.xs l.d l.e l.a l.b l.c))
    × (ranged l.limit (mixed_across l.initial.xs l.d l.e l.a l.b l.c) l.from l.k ≡ true)
