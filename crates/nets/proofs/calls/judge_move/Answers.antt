-- `judge_move` meets its contract: each test of the code is a row of the table, and those of number 8 may come in any
-- order.
use borrow.Author.Rules.{sfits_of}
use native.Mathlib.Omega.{arith}
use mathlib.Core.Path.{sym, ap, ◌∙◌}
use mathlib.Core.Bool.{true, false}
use Rattle.projection.specs.Projection.{is_zero}
use Rattle.projection.proofs.Signed.{is-zero, not-zero}
use Rattle.nets.proofs.Judging.{no-vertex, past-vertices, unknown-operation, flip-weighted, move-unfit, flip-taken, replace-judged}
use Rattle.nets.proofs.calls.judge_move.Goals as goal

pub returns-then-vertex-eq0 : goal.returns-then-vertex-eq0
returns-then-vertex-eq0 c = no-vertex _ _ _ _ c.if-vertex-eq0.true

pub returns-then-dimension-v : goal.returns-then-dimension-v
returns-then-dimension-v c = past-vertices _ _ _ _ (omega arith)

pub returns-then-not-weights_fit : goal.returns-then-not-weights_fit
returns-then-not-weights_fit c = move-unfit _ _ _ _ (omega arith) (omega arith) (sym c.if-not-weights_fit.ensures)

pub returns-in-1 : goal.returns-in-1
returns-in-1 c =
    replace-judged _ _ _ _ (omega arith) (omega arith) (sym c.if-not-weights_fit.ensures) c.in-1.is true
    (sym (ap is_zero c.weight_at.ensures) ∙ is-zero c.weight_at.result (sfits_of c.weight_at.type_inv) c.if-weight_at-eq0.true)

pub returns-in-1-2 : goal.returns-in-1-2
returns-in-1-2 c =
    replace-judged _ _ _ _ (omega arith) (omega arith) (sym c.if-not-weights_fit.ensures) c.in-1.is false
    (sym (ap is_zero c.weight_at.ensures) ∙ not-zero c.weight_at.result (sfits_of c.weight_at.type_inv) c.if-weight_at-eq0.false)

pub returns-in-2 : goal.returns-in-2
returns-in-2 c = flip-taken _ _ _ _ (omega arith) (omega arith) (sym c.if-not-weights_fit.ensures) c.in-2.is (sym c.if-all_zero.ensures)

pub returns-in_default : goal.returns-in_default
returns-in_default c = flip-weighted _ _ _ _ c.in-2.is (sym c.if-all_zero.ensures)

pub returns-in_default-2 : goal.returns-in_default-2
returns-in_default-2 c = unknown-operation _ _ _ _ (λ e. omega (arith, c.in_default)) (λ e. omega (arith, c.in_default))
