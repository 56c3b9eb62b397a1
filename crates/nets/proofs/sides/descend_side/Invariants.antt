-- `descend_side` meets its contract: after h turns every entry has as many copies of q as it had of the vertex, but at
-- most h, and all named values so far are in range.
use Rattle.machine.specs.Calls.{weight_list}
use Rattle.nets.proofs.SideValues.{Side}
use Rattle.nets.proofs.sides.descend_side.Given as goal

abbrev pub invariant-loop-h : goal.invariant-loop-h
invariant-loop-h g l = Side 4 2 l.degree g.row.VERTEX (weight_list l.weights) l.initial.xs l.xs l.h
