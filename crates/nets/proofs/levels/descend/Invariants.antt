-- `descend` meets its contract: after h turns the numbers are those of level h, and all levels so far are in range.
use Rattle.machine.specs.Calls.{weight_list}
use Rattle.nets.proofs.Descent.{At}
use Rattle.nets.proofs.levels.descend.Given as goal

abbrev pub invariant-loop-h : goal.invariant-loop-h
invariant-loop-h l = At l.width l.dimension l.degree (weight_list l.weights) l.initial.cur l.cur l.h
