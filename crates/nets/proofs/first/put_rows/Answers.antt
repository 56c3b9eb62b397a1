-- `put_rows` meets its contract: before each turn the rows after row i are made, and `base` has as many copies of the first vertex fixed as row i has.
use Prim.Native.Nat.{ℕ, ◌+◌, ◌*◌, ◌-◌, ◌≤◌, ◌<◌, zero-le}
use native.Mathlib.Nat.{le_trans, sub_self}
use native.Mathlib.Omega.{arith}
use mathlib.Core.Path.{◌≡◌, refl, sym, ap, ◌∙◌, subst}
use mathlib.Core.List.{◌++◌}
use lib.IntN.{pos}
use lib.ListN.{length, get_or, replicate}
use Rattle.entries.specs.Rows.{size}
use Rattle.nets.specs.Rows.{written, place_at}
use Rattle.nets.specs.FirstNet.{Stepping, vertex_of, value_at}
use Rattle.nets.proofs.Ranks.{size_mono}
use Rattle.nets.proofs.Places.{smaller}
use Rattle.nets.proofs.Through.{vertex-step, VertexSteps, steps_first, small_same, holds_same}
use Rattle.nets.proofs.FirstRows.{copied_at, base-left, base-next, holds-first, rows_last, rows_whole, row_before}
use Rattle.nets.proofs.first.put_rows.Goals as goal
use Rattle.nets.proofs.first.put_rows.Goals.{In-loop-before, After-copy}

-- a list as long as one with room for the whole net has room for its first rows
fewer : (w n m i k j : ℕ) → i ≤ m → j ≡ k → size w n m ≤ k → size w n i ≤ j
fewer w n m i k j b e room = subst (λ z. size w n i ≤ z) (sym e) (le_trans (size_mono w n i m b) room)

-- in a turn there is a row left, and as many copies of the first vertex are fixed as it has
steps : (c : In-loop-before)
    → let a = c.args in
    VertexSteps a.width a.dimension a.degree 0 a.frame.now a.base.now c.loop-before.base (a.degree - (c.loop-before.before - 1 + 1))
steps c =
    let a = c.args in
    let l = c.loop-before in
    let some = c.loop-before-test.true in
    let here : l.before ≡ l.before - 1 + 1 = omega arith in
    subst (λ i. VertexSteps a.width a.dimension a.degree 0 a.frame.now a.base.now l.base (a.degree - i)) here l.invariant.0

-- `cur` has the numbers of the base
same : (c : After-copy)
    → let a = c.args in
    let l = c.loop-before in
    (j : ℕ) → j < size a.width a.dimension (l.before - 1 + 1) → get_or c.copy.new.to j (pos 0) ≡ get_or l.base j (pos 0)
same c j b =
    let a = c.args in
    let l = c.loop-before in
    let some = c.loop-before-test.true in
    let count = c.numbers-count in
    ap (λ x. get_or x j (pos 0)) c.copy.ensures
    ∙ copied_at l.cur l.base count.result j (subst (λ k. j < k) (sym count.ensures) b)
    (subst (λ k. k ≤ length l.cur) (sym count.ensures) (fewer a.width a.dimension a.degree (l.before - 1 + 1) (length a.cur.now) (length l.cur) (omega arith) l.invariant.3 c.requires.2))

pub loop-before-init : goal.loop-before-init
loop-before-init c =
    let a = c.args in (
      subst (λ h. VertexSteps a.width a.dimension a.degree 0 a.frame.now a.base.now a.base.now h) (sym (sub_self a.degree))
          (steps_first a.width a.dimension a.degree 0 a.frame.now a.base.now c.requires.3),
      refl,
      refl,
      refl,
      λ G holds. rows_last a.width a.dimension a.degree a.out.now (value_at a.width a.dimension a.degree a.frame.now G) c.requires.3.sized.low c.requires.3.sized.high,
    )

pub numbers-count-requires : goal.numbers-count-requires
numbers-count-requires c = let some = c.loop-before-test.true in smaller c.requires.3.sized (omega arith)

pub copy-requires : goal.copy-requires
copy-requires c =
    let a = c.args in
    let l = c.loop-before in
    let some = c.loop-before-test.true in
    let i = l.before - 1 + 1 in
    let count = c.numbers-count in (
      subst (λ k. k ≤ length l.cur) (sym count.ensures) (fewer a.width a.dimension a.degree i (length a.cur.now) (length l.cur) (omega arith) l.invariant.3 c.requires.2),
      subst (λ k. k ≤ length l.base) (sym count.ensures) (fewer a.width a.dimension a.degree i (length a.base.now) (length l.base) (omega arith) l.invariant.0.kept c.requires.3.long),
    )

pub put_row-requires : goal.put_row-requires
put_row-requires c =
    let a = c.args in
    let l = c.loop-before in
    let some = c.loop-before-test.true in
    let i = l.before - 1 + 1 in
    let y = c.copy in
    let stands = base-left a.width a.dimension a.degree i a.frame.now a.base.now l.base c.requires.3 (omega arith) (steps (goal.at.put_row-requires c).In-loop-before) in (
      fewer a.width a.dimension a.degree i (length a.out.now) (length l.out) (omega arith) l.invariant.1 c.requires.0,
      fewer a.width a.dimension a.degree i (length a.work.now) (length l.work) (omega arith) l.invariant.2 c.requires.1,
      record {
        sized = stands.sized;
        long = fewer a.width a.dimension a.degree i (length a.cur.now) (length y.new.to) (omega arith) (y.auto.to ∙ l.invariant.3) c.requires.2;
        corners = stands.corners;
        small = small_same a.width a.dimension i l.base y.new.to (same (goal.at.put_row-requires c).After-copy) stands.small;
      },
    )

pub blend_vertex-requires : goal.blend_vertex-requires
blend_vertex-requires c =
    let a = c.args in
    let l = c.loop-before in
    let some = c.loop-before-test.true in
    let i = l.before - 1 + 1 in
    vertex-step a.width a.dimension i 0 a.frame.now l.base
    (base-left a.width a.dimension a.degree i a.frame.now a.base.now l.base c.requires.3 (omega arith) (steps (goal.at.blend_vertex-requires c).In-loop-before)) (omega arith) zero-le

pub loop-before-preserved : goal.loop-before-preserved
loop-before-preserved c =
    let a = c.args in
    let l = c.loop-before in
    let some = c.loop-before-test.true in
    let i = l.before - 1 + 1 in
    let here : l.before ≡ i = omega arith in
    let last : i - 1 ≡ l.before - 1 = omega arith in
    let y = c.copy in
    let r = c.put_row in
    let b = c.blend_vertex in
    let fixed = steps (goal.at.loop-before-preserved c).In-loop-before in (
      subst (λ j. VertexSteps a.width a.dimension a.degree 0 a.frame.now a.base.now b.new.cur (a.degree - j)) last
          (base-next a.width a.dimension a.degree i a.frame.now a.base.now l.base c.requires.3 (omega arith) fixed b.new.cur (omega arith) b.ensures b.auto.cur),
      r.auto.out ∙ l.invariant.1,
      r.auto.work ∙ l.invariant.2,
      r.auto.cur ∙ y.auto.to ∙ l.invariant.3,
      λ G holds.
          row_before a.width a.dimension a.degree i a.frame.now a.out.now l.out r.new.out G c.requires.3.sized (omega arith) c.requires.0
          (l.invariant.4 G holds
          ∙ ap (λ j. written a.out.now (a.width * place_at a.dimension (j + 1) 0) (size a.width a.dimension a.degree - a.width * place_at a.dimension (j + 1) 0) (value_at a.width a.dimension a.degree a.frame.now G)) here)
          (r.ensures (λ j ps. G j (replicate (a.degree - i) (vertex_of a.dimension a.frame.now 0) ++ ps))
          (holds_same a.width a.dimension i (λ j ps. G j (replicate (a.degree - i) (vertex_of a.dimension a.frame.now 0) ++ ps)) l.base y.new.to
          (same (goal.at.loop-before-preserved c).After-copy)
          (holds-first a.width a.dimension a.degree i a.frame.now a.base.now l.base c.requires.3 (omega arith) fixed G holds))),
    )

pub put_row-requires-2 : goal.put_row-requires-2
put_row-requires-2 c =
    let a = c.args in
    let l = c.loop-before in
    let none : l.before ≡ 0 = omega (arith, c.loop-before-test.false) in (
      fewer a.width a.dimension a.degree 0 (length a.out.now) (length l.out) zero-le l.invariant.1 c.requires.0,
      fewer a.width a.dimension a.degree 0 (length a.work.now) (length l.work) zero-le l.invariant.2 c.requires.1,
      subst (λ i. Stepping a.width a.dimension i a.frame.now l.base) none
          (base-left a.width a.dimension a.degree l.before a.frame.now a.base.now l.base c.requires.3 l.auto.before l.invariant.0),
    )

pub returns : goal.returns
returns c G holds =
    let a = c.args in
    let l = c.loop-before in
    let r = c.put_row-2 in
    let none : l.before ≡ 0 = omega (arith, c.loop-before-test.false) in
    let fixed = subst (λ i. VertexSteps a.width a.dimension a.degree 0 a.frame.now a.base.now l.base (a.degree - i)) none l.invariant.0 in
    row_before a.width a.dimension a.degree 0 a.frame.now a.out.now l.out r.new.out G c.requires.3.sized zero-le c.requires.0
    (l.invariant.4 G holds ∙ ap (λ i. written a.out.now (a.width * place_at a.dimension (i + 1) 0) (size a.width a.dimension a.degree - a.width * place_at a.dimension (i + 1) 0) (value_at a.width a.dimension a.degree a.frame.now G)) none)
    (r.ensures (λ j ps. G j (replicate (a.degree - 0) (vertex_of a.dimension a.frame.now 0) ++ ps)) (holds-first a.width a.dimension a.degree 0 a.frame.now a.base.now l.base c.requires.3 zero-le fixed G holds))
    ∙ rows_whole a.width a.dimension a.degree a.out.now (value_at a.width a.dimension a.degree a.frame.now G) c.requires.3.sized.low c.requires.3.sized.high
