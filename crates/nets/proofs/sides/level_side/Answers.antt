-- `level_side` meets its contract: before a turn the rows past row i are done, and those up to it are as they were.
use Rattle.std.proofs.Common.{arith, sym, ap, subst, ◌+◌, ◌*◌, ◌-◌, nat_abs}
use Rattle.machine.specs.Calls.{weight_list}
use Rattle.nets.specs.Rows.{weight_sum}
use Rattle.nets.proofs.Row.{element}
use Rattle.nets.proofs.PatchRows.{row-end}
use Rattle.nets.proofs.SideRows.{row-start, row_room, row-least, rows_inside, side-most, Turned, second-turned, third-turned, done_first, done-bounded, done-fails, done-last}
use Rattle.nets.proofs.sides.level_side.Given.{Over}
use Rattle.nets.proofs.sides.level_side.Goals as goal
use Rattle.nets.proofs.sides.level_side.Goals.{Joined-this-eq1, then-this-eq1, else-this-eq1}

pub loop-i-init : goal.loop-i-init
loop-i-init g c = done_first c.args.degree g.row.VERTEX c.args.h (weight_list c.args.weights) c.args.xs.now c.requires.0.below

pub overflow_mul-row : goal.overflow_mul-row
overflow_mul-row g c = let small = row_room c.args.degree c.loop-i.i c.loop-i.invariant.high c.requires.0.sized.room in omega arith

pub overflow_add-row : goal.overflow_add-row
overflow_add-row g c = let small = row_room c.args.degree c.loop-i.i c.loop-i.invariant.high c.requires.0.sized.room in omega arith

pub overflow_mul-row-in-loop-i : goal.overflow_mul-row-in-loop-i
overflow_mul-row-in-loop-i g c = let small = row_room c.args.degree c.loop-i.i c.loop-i.invariant.high c.requires.0.sized.room in omega arith

pub overflow_mul-count : goal.overflow_mul-count
overflow_mul-count g c = let small = row_room c.args.degree c.loop-i.i c.loop-i.invariant.high c.requires.0.sized.room in omega arith

pub overflow_mul-i : goal.overflow_mul-i
overflow_mul-i g c = let small = row_room c.args.degree c.loop-i.i c.loop-i.invariant.high c.requires.0.sized.room in omega arith

pub overflow_mul-h : goal.overflow_mul-h
overflow_mul-h g c = let small = row_room c.args.degree c.loop-i.i c.loop-i.invariant.high c.requires.0.sized.room in omega arith

pub overflow_add-row-else-this-eq1 : goal.overflow_add-row-else-this-eq1
overflow_add-row-else-this-eq1 g c = let small = row_room c.args.degree c.loop-i.i c.loop-i.invariant.high c.requires.0.sized.room in omega arith

pub overflow_add-i : goal.overflow_add-i
overflow_add-i g c = let small = row_room c.args.degree c.loop-i.i c.loop-i.invariant.high c.requires.0.sized.room in omega arith

pub overflow_mul-i-else-this-eq1 : goal.overflow_mul-i-else-this-eq1
overflow_mul-i-else-this-eq1 g c = let small = row_room c.args.degree c.loop-i.i c.loop-i.invariant.high c.requires.0.sized.room in omega arith

pub blend_across-all_within-requires : goal.blend_across-all_within-requires
blend_across-all_within-requires g c =
    let l = c.loop-i in
    let a = c.args in
    let w = a.weights in
    let more = c.loop-i-test.true in
    let begins = row-start l.i in
    let ends = row-end 4 l.i in
    let least = row-least l.i in
    let inside = rows_inside a.degree l.i l.invariant.high in (
      least,
      omega arith,
      omega arith,
      omega (arith, begins, ends, inside, c.requires.0.long, l.invariant.long),
      done-bounded a.degree g.row.VERTEX a.h (weight_list w) a.xs.now l.xs l.i l.invariant (2 * l.i * (l.i + 1) - 4 * l.i) (2 * l.i * (l.i + 1) + 4 * (l.i - a.h) + 4)
          (weight_sum w) _ (omega (arith, begins, ends)) (omega (arith, ap nat_abs (element w.r (omega arith)), ap nat_abs (element w.s (omega arith)), ap nat_abs (element w.t (omega arith)))) c.requires.0.bounded,
    )

pub blend_down-all_within-requires : goal.blend_down-all_within-requires
blend_down-all_within-requires g c =
    let l = c.loop-i in
    let a = c.args in
    let w = a.weights in
    let more = c.loop-i-test.true in
    let begins = row-start l.i in
    let ends = row-end 4 l.i in
    let least = row-least l.i in
    let inside = rows_inside a.degree l.i l.invariant.high in (
      omega arith,
      omega arith,
      omega arith,
      omega (arith, begins, ends, inside, c.requires.0.long, l.invariant.long),
      done-bounded a.degree g.row.VERTEX a.h (weight_list w) a.xs.now l.xs l.i l.invariant (2 * l.i * (l.i + 1) + 4 * (a.h + 1) - 4 * (l.i + 1)) (2 * l.i * (l.i + 1) + 4 * (a.h + 1) + 4 * (l.i - a.h))
          (weight_sum w) _ (omega (arith, begins, ends)) (omega (arith, ap nat_abs (element w.r (omega arith)), ap nat_abs (element w.s (omega arith)), ap nat_abs (element w.t (omega arith)))) c.requires.0.bounded,
    )

-- what a turn leaves
turned : (g : Over) (c : Joined-this-eq1 g)
    → let a = c.args in
    Turned a.degree g.row.VERTEX a.h c.loop-i.i (weight_list a.weights) a.xs.now c.if-this-eq1.all_within c.if-this-eq1.xs
turned g c =
    let l = c.loop-i in
    let a = c.args in
    let w = a.weights in
    let more = c.loop-i-test.true in
    let T = Turned a.degree g.row.VERTEX a.h l.i (weight_list w) a.xs.now in
    elim c.if-this-eq1.branch [
      | then-this-eq1 t ↦
          let k = t.blend_across-all_within in
          subst (λ b. T b c.if-this-eq1.xs) (sym t.all_within-is) (subst (T k.result) (sym t.xs-is)
          (second-turned a.degree g.row.VERTEX a.h l.i w.r w.s w.t w.u _ _ _ (element w.r (omega arith)) (element w.s (omega arith)) (element w.t (omega arith))
          a.xs.now l.xs c.requires.0.long l.invariant more k.result k.new.xs t.if-this-eq1.true k.ensures))
      | else-this-eq1 t ↦
          let k = t.blend_down-all_within in
          subst (λ b. T b c.if-this-eq1.xs) (sym t.all_within-is) (subst (T k.result) (sym t.xs-is)
          (third-turned a.degree g.row.VERTEX a.h l.i w.r w.s w.t w.u _ _ _ (element w.r (omega arith)) (element w.s (omega arith)) (element w.t (omega arith))
          a.xs.now l.xs c.requires.0.long l.invariant more k.result k.new.xs (omega arith) k.ensures))
    ]

pub returns-then-not-all_within : goal.returns-then-not-all_within
returns-then-not-all_within g c =
    let l = c.loop-i in
    let a = c.args in
    done-fails a.degree g.row.VERTEX a.h (weight_list a.weights) a.xs.now l.xs l.i l.invariant c.if-this-eq1.xs c.if-this-eq1.auto.xs
    ((turned g (goal.at.returns-then-not-all_within g c).Joined-this-eq1).1 c.if-not-all_within.true)

pub loop-i-preserved : goal.loop-i-preserved
loop-i-preserved g c = (turned g (goal.at.loop-i-preserved g c).Joined-this-eq1).0 c.if-not-all_within.false

pub returns : goal.returns
returns g c =
    done-last c.args.degree g.row.VERTEX c.args.h (weight_list c.args.weights) c.args.xs.now c.loop-i.xs c.loop-i.i c.loop-i.invariant c.loop-i-test.false
    (side-most g.row.VERTEX c.requires.1 c.requires.2)
