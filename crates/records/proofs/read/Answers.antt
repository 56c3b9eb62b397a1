-- `read` meets its contract: each return computes to what the definition comes to by the same steps, and the
-- table tells what that is.
use Rattle.std.proofs.Common.{◌≡◌, ℕ, List, sym, subst, rules}
use Rattle.std.specs.Prelude.{Result, Ok}
use Rattle.records.specs.Reading.{reading_of, reading_told, reading_number, reading_values}
use Rattle.records.specs.Causes.{TableVerdict}
use Rattle.records.specs.declared.Layout.{Layout}
use Rattle.records.specs.declared.RefusedAt.{RefusedAt}
use Rattle.records.proofs.Causes.{table-verdict}
use Rattle.records.proofs.read.Goals as goal

-- a reading that is the definition's is told by the table
verdict : (s : List ℕ) (x : Result Layout RefusedAt) → reading_told x ≡ reading_of s
    → TableVerdict s (reading_number (reading_told x)) (reading_values (reading_told x))
verdict s x e = subst (λ r. TableVerdict s (reading_number r) (reading_values r)) (sym e) (table-verdict s)

pub returns-in_err-head-clause-verdict : goal.returns-in_err-head-clause-verdict
unfolding reading_of
returns-in_err-head-clause-verdict c = verdict c.args.input.now c.from_residual.result (search rules)

pub returns-in_err-frame-clause-verdict : goal.returns-in_err-frame-clause-verdict
unfolding reading_of
returns-in_err-frame-clause-verdict c = verdict c.args.input.now c.from_residual-in_err-frame.result (search rules)

pub returns-in_err-coefficients-clause-verdict : goal.returns-in_err-coefficients-clause-verdict
unfolding reading_of
returns-in_err-coefficients-clause-verdict c = verdict c.args.input.now c.from_residual-in_err-coefficients.result (search rules)

pub returns-in_err-moves-clause-verdict : goal.returns-in_err-moves-clause-verdict
unfolding reading_of
returns-in_err-moves-clause-verdict c = verdict c.args.input.now c.from_residual-in_err-moves.result (search rules)

pub returns-in_err-point-clause-verdict : goal.returns-in_err-point-clause-verdict
unfolding reading_of
returns-in_err-point-clause-verdict c = verdict c.args.input.now c.from_residual-in_err-point.result (search rules)

pub returns-in_err-read_nothing-clause-verdict : goal.returns-in_err-read_nothing-clause-verdict
unfolding reading_of
returns-in_err-read_nothing-clause-verdict c = verdict c.args.input.now c.from_residual-in_err-read_nothing.result (search rules)

pub returns-clause-verdict : goal.returns-clause-verdict
unfolding reading_of
returns-clause-verdict c =
    let layout : Layout = record {
      said = c.head_of-said.result;
      head = c.in_ok-head.head.extent;
      frame = c.in_ok-frame.frame.extent;
      coefficients = c.in_ok-coefficients.coefficients.extent;
      moves = c.in_ok-moves.moves.extent;
      point = c.in_ok-point.point.extent;
    } in
    verdict c.args.input.now (Ok layout) (search rules)
