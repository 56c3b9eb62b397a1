-- `descend_back` meets its contract: after h turns every entry has as many copies of q as it had of the second vertex, but at most h, and all named values so far are in range.
use Rattle.machine.specs.Calls.{weight_list}
use Rattle.nets.proofs.SideValues.{Side}
use Rattle.nets.proofs.sides.descend_back.Given as goal

abbrev pub invariant-loop-h : goal.invariant-loop-h
invariant-loop-h l = Side l.width 1 l.degree 1 (weight_list l.weights) l.initial.cur l.cur l.h
