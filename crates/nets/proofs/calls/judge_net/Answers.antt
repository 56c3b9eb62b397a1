-- `judge_net` meets its contract: the two rows of a handed net's table. A kind that is known has room for its entries
-- in the part that is lent.
use mathlib.Core.Path.{sym}
use mathlib.Core.Bool.{true, false}
use Rattle.nets.proofs.Steps.{handed-unknown, handed-range, entries-long}
use Rattle.nets.proofs.calls.judge_net.Goals as goal

pub returns-then-not-is_known : goal.returns-then-not-is_known
returns-then-not-is_known c = handed-unknown _ _ (sym c.if-not-is_known.ensures)

pub slice_bounds-entries_within-end : goal.slice_bounds-entries_within-end
slice_bounds-entries_within-end c = entries-long _ _ _ _ _ (sym c.if-not-is_known.ensures) c.number_count-count.ensures.entries c.requires

pub returns-then-not-entries_within : goal.returns-then-not-entries_within
returns-then-not-entries_within c =
    handed-range _ _ (sym c.if-not-is_known.ensures) _ c.number_count-count.ensures.entries false (sym c.if-not-entries_within.ensures)

pub returns : goal.returns
returns c =
    handed-range _ _ (sym c.if-not-is_known.ensures) _ c.number_count-count.ensures.entries true (sym c.if-not-entries_within.ensures)
