-- `blend_row` meets its contract: the numbers at and past f are as they were, so each blend is of the old numbers, and those before f are within the limit.
use Prim.Native.Nat.{◌+◌, ◌-◌, ◌≤◌}
use Rattle.nets.proofs.Row.{Blending}
use Rattle.nets.proofs.rows.blend_row.Given as goal

abbrev pub invariant-loop-f : goal.invariant-loop-f
invariant-loop-f l = (l.f ≤ l.from + l.count) × Blending l.initial.xs l.from l.d l.e l.fn.a l.fn.b l.fn.c l.limit l.xs l.f

abbrev pub decreases-loop-f : goal.decreases-loop-f
decreases-loop-f l = l.from + l.count - l.f
