-- The two tests are those of the definition, and a determinant is 0 where its bits are.
use Rattle.std.proofs.Common.{◌≡◌, ◌*◌, ◌∙◌, true, false, suc, take, rules}
use Rattle.integers.specs.Test.{within, all}
use Rattle.kinds.proofs.Determinants.{frame-out, frame-by}
use Rattle.kinds.proofs.group_allowed.Goals as goal

pub returns-then-all_within : goal.returns-then-all_within
returns-then-all_within c =
    let a = c.args in
    let low : all (within 4) (take (suc a.dimension * suc a.dimension) a.numbers.now) ≡ true = search rules in
    frame-by a.dimension a.numbers.now low c.frame_determinant.result c.frame_determinant.type_inv c.frame_determinant.ensures

pub returns-else-all_within : goal.returns-else-all_within
returns-else-all_within c =
    let a = c.args in
    let out : all (within 4) (take (suc a.dimension * suc a.dimension) a.numbers.now) ≡ false = search rules in
    c.if-all_within.false ∙ frame-out a.dimension a.numbers.now out
