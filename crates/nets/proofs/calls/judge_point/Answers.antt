-- `judge_point` meets its contract: each test of the code is a row of the table.
use mathlib.Core.Path.{sym}
use mathlib.Core.Bool.{true, false}
use Rattle.nets.proofs.Judging.{point-unfit, point-judged}
use Rattle.nets.proofs.calls.judge_point.Goals as goal

pub returns-then-not-weights_fit : goal.returns-then-not-weights_fit
returns-then-not-weights_fit c = point-unfit _ _ (sym c.if-not-weights_fit.ensures)

pub returns-then-all_zero : goal.returns-then-all_zero
returns-then-all_zero c = point-judged _ _ (sym c.if-not-weights_fit.ensures) true (sym c.if-all_zero.ensures)

pub returns : goal.returns
returns c = point-judged _ _ (sym c.if-not-weights_fit.ensures) false (sym c.if-all_zero.ensures)
