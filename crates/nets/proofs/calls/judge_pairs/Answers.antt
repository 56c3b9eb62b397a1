-- `judge_pairs` meets its contract: a weight that is outside settles it, then the first pair that is all 0.
use borrow.Author.Rules.{rules}
use mathlib.Core.Path.{refl}
use mathlib.Core.Bool.{true, false}
use Rattle.nets.proofs.Judging.{pairs-judged}
use Rattle.nets.proofs.calls.judge_pairs.Goals as goal

pub returns-then-not-four_within : goal.returns-then-not-four_within
returns-then-not-four_within c = pairs-judged c.args.weights {a = false} (search (rules, c.if-not-four_within.ensures)) refl refl

pub returns-then-both_zero : goal.returns-then-both_zero
returns-then-both_zero c =
    pairs-judged c.args.weights {a = true} {e = true} (search (rules, c.if-not-four_within.ensures))
    (search (rules, c.if-both_zero.ensures)) refl

pub returns-then-both_zero-2 : goal.returns-then-both_zero-2
returns-then-both_zero-2 c =
    pairs-judged c.args.weights {a = true} {e = false} {f = true} (search (rules, c.if-not-four_within.ensures))
    (search (rules, c.if-both_zero.ensures)) (search (rules, c.if-both_zero-2.ensures))

pub returns : goal.returns
returns c =
    pairs-judged c.args.weights {a = true} {e = false} {f = false} (search (rules, c.if-not-four_within.ensures))
    (search (rules, c.if-both_zero.ensures)) (search (rules, c.if-both_zero-2.ensures))
