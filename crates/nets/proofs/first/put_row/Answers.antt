-- `put_row` meets its contract: after k turns the entries before k are made, and `cur` has k copies of the third vertex fixed.
use Prim.Native.Nat.{suc, ◌+◌, ◌*◌, ◌-◌, ◌≤◌, ◌<◌}
use native.Mathlib.Nat.{mul-zero}
use native.Mathlib.Omega.{arith}
use mathlib.Core.Path.{◌≡◌, refl, sym, ap, ◌∙◌, subst}
use mathlib.Core.List.{◌++◌}
use lib.ListN.{replicate}
use Rattle.entries.specs.Rows.{size}
use Rattle.nets.specs.Rows.{written, place_at}
use Rattle.nets.specs.FirstNet.{Stepping, vertex_of, value_at}
use Rattle.nets.proofs.Places.{spread-most}
use Rattle.nets.proofs.Through.{vertex-step, VertexSteps, steps_first, steps_next, steps-left}
use Rattle.nets.proofs.FirstRows.{third-vertex, holds-third, entry_more}
use Rattle.nets.proofs.first.put_row.Goals as goal

pub loop-k-init : goal.loop-k-init
unfolding written
loop-k-init c =
    let a = c.args in (
      steps_first a.width a.dimension a.i 2 a.frame.now a.cur.now c.requires.2,
      refl,
      refl,
      λ G holds. ap (λ k. written a.out.now (a.width * place_at a.dimension a.i 0) k (value_at a.width a.dimension a.i a.frame.now G)) (sym (mul-zero a.width)),
    )

pub put_entry-requires : goal.put_entry-requires
put_entry-requires c =
    let a = c.args in
    let l = c.loop-k in (
      c.requires.2.sized,
      omega (arith, c.loop-k-test.true, c.spread-last.ensures),
      subst (λ k. size a.width a.dimension a.i ≤ k) (sym l.invariant.1) c.requires.0,
      subst (λ k. size a.width a.dimension a.i ≤ k) (sym l.invariant.2) c.requires.1,
      steps-left a.width a.dimension a.i 2 a.frame.now a.cur.now c.requires.2 l.cur l.k l.invariant.0,
    )

pub blend_vertex-requires : goal.blend_vertex-requires
blend_vertex-requires c =
    let a = c.args in
    let l = c.loop-k in
    let low = c.requires.2.sized.low in
    let high = c.requires.2.sized.high in
    let more : l.k < (a.dimension - 1) * a.i = omega (arith, c.loop-k-test.true, c.spread-last.ensures) in
    let left : 1 ≤ a.i - l.k = omega (arith, more, spread-most a.dimension a.i low high) in
    vertex-step a.width a.dimension (a.i - l.k) 2 a.frame.now l.cur
    (steps-left a.width a.dimension a.i 2 a.frame.now a.cur.now c.requires.2 l.cur l.k l.invariant.0) left (third-vertex a.dimension a.i l.k low high more)

pub loop-k-preserved : goal.loop-k-preserved
loop-k-preserved c =
    let a = c.args in
    let l = c.loop-k in
    let e = c.put_entry in
    let b = c.blend_vertex in
    let low = c.requires.2.sized.low in
    let high = c.requires.2.sized.high in
    let more : l.k < (a.dimension - 1) * a.i = omega (arith, c.loop-k-test.true, c.spread-last.ensures) in
    let third : l.k ≤ (a.dimension - 1) * a.i = omega arith in (
      steps_next a.width a.dimension a.i 2 a.frame.now a.cur.now c.requires.2 l.cur b.new.cur l.k (omega (arith, more, spread-most a.dimension a.i low high))
          (third-vertex a.dimension a.i l.k low high more) l.invariant.0 b.ensures b.auto.cur,
      e.auto.out ∙ l.invariant.1,
      e.auto.work ∙ l.invariant.2,
      λ G holds.
          entry_more a.width a.dimension a.i l.k a.frame.now a.out.now l.out e.new.out G holds.form low high third (l.invariant.3 G holds)
          (e.ensures (λ j ps. G j (replicate l.k (vertex_of a.dimension a.frame.now 2) ++ ps))
          (holds-third a.width a.dimension a.i l.k a.frame.now a.cur.now l.cur c.requires.2 third l.invariant.0 G holds)),
    )

pub last_entry-requires : goal.last_entry-requires
last_entry-requires c =
    let a = c.args in
    let l = c.loop-k in
    let last = c.spread-last in
    let done : l.k ≡ last.result = omega (arith, l.auto.k-end, c.loop-k-test.false) in (
      c.requires.2.sized,
      omega (arith, last.ensures),
      subst (λ k. size a.width a.dimension a.i ≤ k) (sym l.invariant.1) c.requires.0,
      subst (λ k. Stepping a.width a.dimension (a.i - k) a.frame.now l.cur) done (steps-left a.width a.dimension a.i 2 a.frame.now a.cur.now c.requires.2 l.cur l.k l.invariant.0),
    )

pub returns : goal.returns
returns c G holds =
    let a = c.args in
    let l = c.loop-k in
    let last = c.spread-last in
    let e = c.last_entry in
    let done : l.k ≡ last.result = omega (arith, l.auto.k-end, c.loop-k-test.false) in
    let third : last.result ≤ (a.dimension - 1) * a.i = omega (arith, last.ensures) in
    let count : last.result + 1 ≡ suc ((a.dimension - 1) * a.i) = omega (arith, last.ensures) in
    entry_more a.width a.dimension a.i last.result a.frame.now a.out.now l.out e.new.out G holds.form c.requires.2.sized.low c.requires.2.sized.high third
    (l.invariant.3 G holds ∙ ap (λ k. written a.out.now (a.width * place_at a.dimension a.i 0) (a.width * k) (value_at a.width a.dimension a.i a.frame.now G)) done)
    (e.ensures (λ j ps. G j (replicate last.result (vertex_of a.dimension a.frame.now 2) ++ ps))
    (holds-third a.width a.dimension a.i last.result a.frame.now a.cur.now l.cur c.requires.2 third
    (subst (λ k. VertexSteps a.width a.dimension a.i 2 a.frame.now a.cur.now l.cur k) done l.invariant.0) G holds))
    ∙ ap (λ k. written a.out.now (a.width * place_at a.dimension a.i 0) (a.width * k) (value_at a.width a.dimension a.i a.frame.now G)) count
