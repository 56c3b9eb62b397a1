-- What std's `all` answers is a test of the same members in the same order.
use Rattle.std.proofs.Common.{◌∙◌, rules, tests}
use Rattle.std.proofs.lemmas.Iterator.{YieldsList-from_slice}
use Rattle.std.proofs.lemmas.Iterator.Search.{all_from_yields_List}
use Rattle.integers.specs.Test.{within}
use Rattle.integers.proofs.All.{list_all-is}
use Rattle.integers.proofs.all_within.Goals as goal

pub returns : goal.returns
returns c =
    let test = within c.args.limit in
    all_from_yields_List test _ _ _ c.all.ensures.ran (YieldsList-from_slice c.args.xs.now cc) (λ x b q k. search (rules, tests))
    ∙ list_all-is test c.args.xs.now
