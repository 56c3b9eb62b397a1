-- `descend_line` meets its contract, vertex by vertex. The levels of the first vertex are those of a point, which leave the new net in place.
use mathlib.Core.Path.{sym, subst}
use Rattle.machine.specs.Calls.{weight_list}
use Rattle.nets.specs.Levels.{ReplacedInPlace}
use Rattle.nets.proofs.SideValues.{descended-replaces}
use Rattle.nets.proofs.sides.descend_line.Goals as goal

pub returns-then-vertex-eq0 : goal.returns-then-vertex-eq0
returns-then-vertex-eq0 c =
    let a = c.args in
    let left = c.descend.ensures in
    subst (λ v. ReplacedInPlace a.width 1 a.degree (weight_list a.weights) v a.xs.now c.descend.result c.descend.new.cur) (sym c.if-vertex-eq0.true)
    (descended-replaces a.width 1 a.degree c.requires.0.sized.some (weight_list a.weights) a.xs.now c.requires.0.long c.descend.result c.descend.new.cur left)
