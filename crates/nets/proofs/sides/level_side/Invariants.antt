-- `level_side` meets its contract: before a turn the rows past row i are done, and those up to it are as they were.
use Rattle.machine.specs.Calls.{weight_list}
use Rattle.nets.proofs.SideRows.{Done}
use Rattle.nets.proofs.sides.level_side.Given as goal

abbrev pub invariant-loop-i : goal.invariant-loop-i
invariant-loop-i g l = Done l.degree g.row.VERTEX l.h (weight_list l.weights) l.initial.xs l.xs l.i

abbrev pub decreases-loop-i : goal.decreases-loop-i
decreases-loop-i g l = l.i
