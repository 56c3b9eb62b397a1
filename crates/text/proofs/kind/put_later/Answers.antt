-- `put_later` meets its contract: where there is no group after the first its number has no text.
use mathlib.Core.Path.{sym, ◌∙◌}
use Rattle.kinds.specs.Kinds.{later_dimension}
use Rattle.text.proofs.InParts.{later-none}
use Rattle.text.proofs.Over.{nothing_written}
use Rattle.text.proofs.Then.{wrote_as}
use Rattle.text.proofs.kind.put_later.Goals as goal

pub returns-then-later_dimension-eq0 : goal.returns-then-later_dimension-eq0
returns-then-later_dimension-eq0 c =
    let a = c.args in
    wrote_as (sym (later-none (later_dimension a.kind) a.n (sym c.later_dimension.ensures ∙ c.if-later_dimension-eq0.true))) (nothing_written a.page.now)
