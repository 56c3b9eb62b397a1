-- `blend_rows` meets its contract: after i turns the first i rows are blended, `from` is where row i begins, and the numbers before it are within the limit.
use Rattle.nets.proofs.PatchRows.{RowsBlended}
use Rattle.nets.proofs.rows.blend_rows.Given as goal

abbrev pub invariant-loop-i : goal.invariant-loop-i
invariant-loop-i l = RowsBlended l.width l.weights l.limit l.initial.xs l.xs l.from l.i
