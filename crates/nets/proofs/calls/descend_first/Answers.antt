-- `descend_first` meets its contract: both ways go down the levels of rows of the same width.
use mathlib.Core.Path.{sym, ◌∙◌}
use Rattle.nets.proofs.Made.{row-of-four}
use Rattle.nets.proofs.calls.descend_first.Goals as goal

pub descend-requires : goal.descend-requires
descend-requires c =
    let four = row-of-four c.args.head.kind c.args.head.second (sym c.later_dimension.ensures ∙ c.if-later_dimension-eq0.true) in
    rw (four, ← c.dimension_of-n.ensures) at c.requires

pub returns-then-later_dimension-eq0 : goal.returns-then-later_dimension-eq0
returns-then-later_dimension-eq0 c =
    let four = row-of-four c.args.head.kind c.args.head.second (sym c.later_dimension.ensures ∙ c.if-later_dimension-eq0.true) in
    rw (four, ← c.dimension_of-n.ensures) c.descend.ensures
