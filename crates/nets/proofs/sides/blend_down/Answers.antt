-- `blend_down` meets its contract: the numbers that are not blended yet are as they were, so each blend is of old
-- numbers, and the blended ones are within the limit.
use Rattle.std.proofs.Common.{arith, ◌≡◌, refl, sym, ap, ◌∙◌, ◌+◌, ◌-◌, ◌≤◌}
use borrow.Author.Rules.{sfits_of}
use native.Mathlib.Nat.{sub_self}
use Rattle.integers.specs.Test.{within}
use Rattle.integers.proofs.All.{clash}
use Rattle.integers.proofs.Signed.{seen, back_fits}
use Rattle.nets.specs.Rows.{written, ranged}
use Rattle.nets.specs.Sides.{mixed_down}
use Rattle.nets.proofs.Lists.{ranged-fails}
use Rattle.nets.proofs.SideRow.{three-fit, three-value, kept-before, write-before, range-before}
use Rattle.nets.proofs.sides.blend_down.Goals as goal
use Rattle.nets.proofs.sides.blend_down.Goals.{After-mix-v}

pub loop-k-init : goal.loop-k-init
unfolding written ranged
loop-k-init c = (rw sub_self refl, rw sub_self refl)

pub mix-v-requires : goal.mix-v-requires
mix-v-requires c =
    let a = c.args in
    let l = c.loop-k in
    let some = c.loop-k-test.true in
    let f = a.from + (l.k - 1) in
    let old = kept-before a.xs.now l.xs (a.from + l.k) (a.count - l.k) _ l.invariant.0 in
    three-fit a.xs.now l.xs f (f - a.d) (f - a.e) a.a a.b a.c c.ranges.a c.ranges.b c.ranges.c
    (old f (omega arith)) (old (f - a.d) (omega arith)) (old (f - a.e) (omega arith))
    (omega arith) (omega arith) (omega arith) (a.from - a.d) (a.from + a.count) c.requires.4
    (omega arith) (omega arith) (omega arith) (omega arith) (omega arith) (omega arith)

-- the number that was made is the blend of old numbers
value : (c : After-mix-v) → let a = c.args in seen c.mix-v.result ≡ mixed_down a.xs.now a.d a.e (seen a.a) (seen a.b) (seen a.c) (a.from + (c.loop-k.k - 1))
value c =
    let a = c.args in
    let l = c.loop-k in
    let some = c.loop-k-test.true in
    let f = a.from + (l.k - 1) in
    let old = kept-before a.xs.now l.xs (a.from + l.k) (a.count - l.k) _ l.invariant.0 in
    three-value a.xs.now l.xs f (f - a.d) (f - a.e) a.a a.b a.c c.ranges.a c.ranges.b c.ranges.c
    (old f (omega arith)) (old (f - a.d) (omega arith)) (old (f - a.e) (omega arith))
    (omega arith) (omega arith) (omega arith) c.mix-v.result (sfits_of c.mix-v.type_inv) c.mix-v.ensures

pub returns-then-not-is_within : goal.returns-then-not-is_within
returns-then-not-is_within c =
    let a = c.args in
    let some = c.loop-k-test.true in
    let v = value (goal.at.returns-then-not-is_within c).After-mix-v in
    let beyond = sym (ap (within a.limit) v) ∙ sym c.is_within.ensures ∙ c.if-not-is_within.true in
    let g = mixed_down a.xs.now a.d a.e (seen a.a) (seen a.b) (seen a.c) in (
      sym (ranged-fails a.limit g a.from (a.from + (c.loop-k.k - 1)) a.count (omega arith) (omega arith) beyond)
          ∙ ap (λ h. ranged a.limit h a.from a.count) (λ j. mixed_down a.xs.now a.d a.e (back_fits c.ranges.a j) (back_fits c.ranges.b j) (back_fits c.ranges.c j)),
      λ b. absurd (clash b refl),
    )

pub loop-k-preserved : goal.loop-k-preserved
loop-k-preserved c =
    let a = c.args in
    let l = c.loop-k in
    let some : 1 ≤ l.k = omega (arith, c.loop-k-test.true) in
    let v = value (goal.at.loop-k-preserved c).After-mix-v in
    let near = sym (ap (within a.limit) v) ∙ sym c.is_within.ensures ∙ c.if-not-is_within.false in (
      write-before a.xs.now l.xs a.from l.k a.count (seen c.mix-v.result) _ some l.auto.k l.invariant.0 v,
      range-before a.limit _ a.from l.k a.count some l.auto.k near l.invariant.1,
    )
