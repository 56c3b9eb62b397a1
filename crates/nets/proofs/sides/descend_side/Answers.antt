-- `descend_side` meets its contract: after h turns every entry has as many copies of q as it had of the vertex, but at
-- most h, and all named values so far are in range.
use Rattle.std.proofs.Common.{arith}
use Rattle.nets.proofs.SideValues.{side-first, side-room, side-bounded, side-next, side-fails, side-last}
use Rattle.nets.proofs.sides.descend_side.Goals as goal

pub loop-h-init : goal.loop-h-init
loop-h-init g c = side-first 4 2 c.args.degree g.row.VERTEX c.args.weights c.args.xs.now c.requires.0 (omega arith)

pub level_side-requires : goal.level_side-requires
level_side-requires g c =
    let a = c.args in
    let l = c.loop-h in (
      record {
        sized = c.requires.0.sized;
        below = l.invariant.below;
        long = side-room 4 2 a.degree g.row.VERTEX a.weights a.xs.now c.requires.0 (omega arith) l.xs l.h l.invariant;
        bounded = side-bounded 4 2 a.degree g.row.VERTEX a.weights a.xs.now c.requires.0 (omega arith) l.xs l.h l.invariant;
      },
      c.requires.1,
      c.requires.2,
    )

pub returns-then-not-level_side : goal.returns-then-not-level_side
returns-then-not-level_side g c =
    let a = c.args in
    let l = c.loop-h in
    let k = c.level_side in
    side-fails 4 2 a.degree g.row.VERTEX a.weights a.xs.now c.requires.0 (omega arith) l.xs l.h l.invariant c.loop-h-test.true
    k.result k.new.xs k.ensures c.if-not-level_side.true

pub loop-h-preserved : goal.loop-h-preserved
loop-h-preserved g c =
    let a = c.args in
    let l = c.loop-h in
    let k = c.level_side in
    side-next 4 2 a.degree g.row.VERTEX a.weights a.xs.now c.requires.0 (omega arith) l.xs l.h l.invariant c.loop-h-test.true
    k.result k.new.xs k.ensures c.if-not-level_side.false

pub returns : goal.returns
returns g c =
    let a = c.args in
    let l = c.loop-h in
    side-last 4 2 a.degree g.row.VERTEX a.weights a.xs.now c.requires.0 (omega arith) l.xs l.h l.invariant c.loop-h-test.false
