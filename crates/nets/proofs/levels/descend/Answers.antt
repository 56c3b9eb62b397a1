-- `descend` meets its contract: after h turns the numbers are those of level h, and all levels so far are in range.
use native.Mathlib.Omega.{arith}
use mathlib.Core.Path.{refl, ◌∙◌}
use Rattle.integers.proofs.All.{clash}
use Rattle.nets.proofs.Places.{smaller}
use Rattle.nets.proofs.Descent.{at_first, at_next, at-fails, at_last, at_room, at-bounded}
use Rattle.nets.proofs.levels.descend.Goals as goal

pub loop-h-init : goal.loop-h-init
loop-h-init c = at_first c.requires

pub blend-requires : goal.blend-requires
blend-requires c =
    let at = c.loop-h.invariant in
    (smaller c.requires.sized (omega arith), omega (arith, c.loop-h-test.true), at_room c.requires at, at-bounded c.requires at)

pub returns-then-not-blend : goal.returns-then-not-blend
returns-then-not-blend c =
    record {
      named = at-fails c.requires c.loop-h.invariant c.loop-h-test.true c.blend.ensures.0 c.if-not-blend.true;
      last = λ b. absurd (clash b refl);
      kept = c.blend.auto.xs ∙ c.loop-h.invariant.long;
    }

pub loop-h-preserved : goal.loop-h-preserved
loop-h-preserved c =
    let ok = c.if-not-blend.false in
    at_next c.requires c.loop-h.invariant c.loop-h-test.true c.blend.ensures.0 ok (c.blend.ensures.1 ok) c.blend.auto.xs

pub returns : goal.returns
returns c =
    let done = at_last c.requires c.loop-h.invariant c.loop-h-test.false in
    record { named = done.0; last = λ b. done.1; kept = c.loop-h.invariant.long }
