-- `open` meets its contract: each return computes to what the definition comes to. What is left to show is
-- that the reader's kind and degrees are known where the first net is made.
use Rattle.std.proofs.Common.{ap, sym, ◌∙◌, rules}
use Rattle.records.specs.Reading.{reading_told}
use Rattle.opening.proofs.Records.{layout-known}
use Rattle.opening.proofs.open.Goals as goal

pub make_first-requires : goal.make_first-requires
make_first-requires c =
    (search rules, layout-known c.args.input.now c.in_ok-layout.layout (sym c.read.ensures.reading ∙ ap reading_told c.in_ok-layout.was))
