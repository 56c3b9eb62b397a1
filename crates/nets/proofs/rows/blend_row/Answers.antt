-- `blend_row` meets its contract: the numbers at and past f are as they were, so each blend is of the old numbers, and those before f are within the limit.
use borrow.Author.Rules.{sfits_of}
use native.Mathlib.Omega.{arith}
use mathlib.Core.Path.{refl, sym, ◌∙◌}
use Rattle.integers.proofs.All.{clash}
use Rattle.nets.proofs.Row.{blending_first, by_read, by_given, mix_fits, mix-is, blending_next, blending-fails, blending_last}
use Rattle.nets.proofs.rows.blend_row.Goals as goal

pub loop-f-init : goal.loop-f-init
loop-f-init c =
    let a = c.args in
    (omega arith, by_read c.ranges.a c.ranges.b c.ranges.c (blending_first a.xs.now a.from a.d a.e a.a a.b a.c a.limit))

pub mix-v-requires : goal.mix-v-requires
mix-v-requires c =
    let r = c.ranges in
    mix_fits (by_given r.a r.b r.c c.loop-f.invariant.1) c.requires.1 r.a r.b r.c (omega arith) (omega arith) (omega arith) c.args.count (omega arith) c.requires.3

pub returns-then-not-is_within : goal.returns-then-not-is_within
returns-then-not-is_within c =
    let r = c.ranges in
    let at = by_given r.a r.b r.c c.loop-f.invariant.1 in
    let is = mix-is at c.requires.1 r.a r.b r.c (omega arith) (omega arith) (omega arith) (sfits_of c.mix-v.type_inv) c.mix-v.ensures in
    (blending-fails at is c.args.count (omega arith) (sym c.if-not-is_within.true ∙ c.is_within.ensures), λ b. absurd (clash b refl))

pub loop-f-preserved : goal.loop-f-preserved
loop-f-preserved c =
    let r = c.ranges in
    let at = by_given r.a r.b r.c c.loop-f.invariant.1 in
    let is = mix-is at c.requires.1 r.a r.b r.c (omega arith) (omega arith) (omega arith) (sfits_of c.mix-v.type_inv) c.mix-v.ensures in
    (omega arith, by_read r.a r.b r.c (blending_next at is (sym c.if-not-is_within.false ∙ c.is_within.ensures)))

pub returns : goal.returns
returns c =
    let done = blending_last (by_given c.ranges.a c.ranges.b c.ranges.c c.loop-f.invariant.1) c.args.count c.loop-f-test.false in
    (done.0, λ b. done.1)
