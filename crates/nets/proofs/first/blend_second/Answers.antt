-- `blend_second` meets its contract: after h turns there are h steps with the second vertex.
use Prim.Native.Nat.{◌-◌}
use native.Mathlib.Omega.{arith}
use Rattle.nets.proofs.Through.{vertex-step, steps_first, steps_next, steps-left}
use Rattle.nets.proofs.first.blend_second.Goals as goal

pub loop-h-init : goal.loop-h-init
loop-h-init c = let a = c.args in steps_first a.width a.dimension a.degree 1 a.frame.now a.cur.now c.requires

pub blend_vertex-requires : goal.blend_vertex-requires
blend_vertex-requires c =
    let a = c.args in
    let l = c.loop-h in
    vertex-step a.width a.dimension (a.degree - l.h) 1 a.frame.now l.cur
    (steps-left a.width a.dimension a.degree 1 a.frame.now a.cur.now c.requires l.cur l.h l.invariant) (omega (arith, c.loop-h-test.true)) c.requires.sized.low

pub loop-h-preserved : goal.loop-h-preserved
loop-h-preserved c =
    let a = c.args in
    let l = c.loop-h in
    let b = c.blend_vertex in
    steps_next a.width a.dimension a.degree 1 a.frame.now a.cur.now c.requires l.cur b.new.cur l.h c.loop-h-test.true c.requires.sized.low l.invariant b.ensures b.auto.cur
