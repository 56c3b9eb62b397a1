-- `descend_back` meets its contract: after h turns every entry has as many copies of q as it had of the second vertex,
-- but at most h, and all named values so far are in range.
use Rattle.std.proofs.Common.{arith, ap, subst, ◌+◌, ◌*◌, ◌-◌, ◌≤◌, ◌<◌, [], ◌∷◌, nat_abs}
use native.Mathlib.Nat.{mul-le-mul_left}
use Rattle.entries.specs.Rows.{size}
use Rattle.machine.specs.Calls.{weight_list}
use Rattle.nets.specs.Rows.{weight_sum}
use Rattle.nets.specs.Sides.{Levelled}
use Rattle.nets.proofs.Row.{element}
use Rattle.nets.proofs.Ranks.{size-curve}
use Rattle.nets.proofs.Places.{degree-below}
use Rattle.nets.proofs.Blended.{bounded-less}
use Rattle.nets.proofs.SideValues.{side-first, side-room, side-bounded, side-next, side-fails, side-last}
use Rattle.nets.proofs.SideLine.{line-levelled}
use Rattle.nets.proofs.sides.descend_back.Goals as goal
use Rattle.nets.proofs.sides.descend_back.Goals.{After-blend_down}

-- the vertex is one of two
vertex : 1 < 2
vertex = omega arith

pub overflow_add-end : goal.overflow_add-end
overflow_add-end c = let most = degree-below c.args.width 1 c.args.degree c.requires.sized in omega arith

pub overflow_mul-end : goal.overflow_mul-end
overflow_mul-end c = let most = size-curve c.args.width c.args.degree in omega arith

pub loop-h-init : goal.loop-h-init
loop-h-init c = side-first c.args.width 1 c.args.degree 1 c.args.weights c.args.cur.now c.requires vertex

pub overflow_mul-from : goal.overflow_mul-from
overflow_mul-from c =
    let more = c.loop-h-test.true in
    let below : c.loop-h.h + 1 ≤ c.args.degree + 1 = omega arith in
    omega (arith, size-curve c.args.width c.args.degree, mul-le-mul_left c.args.width below)

pub blend_down-requires : goal.blend_down-requires
blend_down-requires c =
    let a = c.args in
    let l = c.loop-h in
    let w = a.weights in
    let more = c.loop-h-test.true in
    let below : l.h + 1 ≤ a.degree + 1 = omega arith in
    let ends = mul-le-mul_left a.width below in
    let whole = size-curve a.width a.degree in
    let room = side-room a.width 1 a.degree 1 w a.cur.now c.requires vertex l.cur l.h l.invariant in (
      c.requires.sized.some,
      omega arith,
      omega arith,
      omega arith,
      bounded-less l.cur (size a.width 1 a.degree) (a.width * (l.h + 1) - a.width) (a.width * (l.h + 1) + (a.width * (a.degree + 1) - a.width * (l.h + 1))) (weight_sum w) _
          (omega arith) (omega (arith, ap nat_abs (element w.r (omega arith)), ap nat_abs (element w.s (omega arith))))
          (side-bounded a.width 1 a.degree 1 w a.cur.now c.requires vertex l.cur l.h l.invariant),
    )

-- what a turn leaves is a level
levelled : (c : After-blend_down)
    → let a = c.args in
    let l = c.loop-h in
    Levelled a.width 1 a.degree (weight_list a.weights) 1 l.h l.cur c.blend_down.result c.blend_down.new.xs
levelled c =
    let a = c.args in
    let l = c.loop-h in
    let w = a.weights in
    let k = c.blend_down in
    let r = element w.r (omega arith) in
    let s = element w.s (omega arith) in
    subst (λ ws. Levelled a.width 1 a.degree ws 1 l.h l.cur k.result k.new.xs) (λ j. r j ∷ s j ∷ w.t ∷ w.u ∷ [])
    (line-levelled a.width a.degree l.h c.requires.sized.some c.loop-h-test.true _ _ w.t w.u l.cur
    (side-room a.width 1 a.degree 1 w a.cur.now c.requires vertex l.cur l.h l.invariant) k.result k.new.xs k.auto.xs k.ensures.0 k.ensures.1)

pub returns-then-not-blend_down : goal.returns-then-not-blend_down
returns-then-not-blend_down c =
    let a = c.args in
    let l = c.loop-h in
    let k = c.blend_down in
    side-fails a.width 1 a.degree 1 a.weights a.cur.now c.requires vertex l.cur l.h l.invariant c.loop-h-test.true
    k.result k.new.xs (levelled (goal.at.returns-then-not-blend_down c).After-blend_down) c.if-not-blend_down.true

pub loop-h-preserved : goal.loop-h-preserved
loop-h-preserved c =
    let a = c.args in
    let l = c.loop-h in
    let k = c.blend_down in
    side-next a.width 1 a.degree 1 a.weights a.cur.now c.requires vertex l.cur l.h l.invariant c.loop-h-test.true
    k.result k.new.xs (levelled (goal.at.loop-h-preserved c).After-blend_down) c.if-not-blend_down.false

pub returns : goal.returns
returns c =
    let a = c.args in
    let l = c.loop-h in
    side-last a.width 1 a.degree 1 a.weights a.cur.now c.requires vertex l.cur l.h l.invariant c.loop-h-test.false
