-- `descend_triangle` meets its contract, vertex by vertex. The levels of the first vertex are those of a point, which leave the new net in place.
use mathlib.Core.Path.{sym, subst}
use Rattle.machine.specs.Calls.{weight_list}
use Rattle.nets.specs.Levels.{ReplacedInPlace}
use Rattle.nets.proofs.SideValues.{descended-replaces}
use Rattle.nets.proofs.sides.descend_triangle.Goals as goal

pub returns-then-vertex-eq0 : goal.returns-then-vertex-eq0
returns-then-vertex-eq0 c =
    let a = c.args in
    let k = c.descend in
    subst (λ v. ReplacedInPlace 4 2 a.degree (weight_list a.weights) v a.xs.now k.result k.new.cur) (sym c.if-vertex-eq0.true)
    (descended-replaces 4 2 a.degree c.requires.0.sized.some (weight_list a.weights) a.xs.now c.requires.0.long k.result k.new.cur k.ensures)
