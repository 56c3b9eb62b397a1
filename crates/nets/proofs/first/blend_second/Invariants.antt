-- `blend_second` meets its contract: after h turns there are h steps with the second vertex.
use Rattle.nets.proofs.Through.{VertexSteps}
use Rattle.nets.proofs.first.blend_second.Given as goal

abbrev pub invariant-loop-h : goal.invariant-loop-h
invariant-loop-h l = VertexSteps l.width l.dimension l.degree 1 l.frame l.initial.cur l.cur l.h
