-- `replace_in` meets its contract: the numbers are saved, the vertex is replaced in their places, and they are put back
-- where a named value is out of range.
use borrow.Author.Rules.{rules}
use native.Mathlib.Omega.{arith}
use mathlib.Core.Path.{◌∙◌}
use lib.IntN.{pos}
use lib.ListN.{replicate}
use Rattle.nets.proofs.Saved.{replaced-taken, replaced-refused}
use Rattle.nets.proofs.calls.replace_in.Goals as goal

pub whole_as_slice-copy : goal.whole_as_slice-copy
whole_as_slice-copy g c = omega arith

pub shared_whole_as_slice-copy : goal.shared_whole_as_slice-copy
shared_whole_as_slice-copy g c = omega arith

pub returns-then-descend_vertex : goal.returns-then-descend_vertex
returns-then-descend_vertex g c =
    replaced-taken _ _ _ _ _ _ c.requires.0 _ c.numbers-count.ensures c.descend_vertex.ensures c.if-descend_vertex.true

pub returns : goal.returns
returns g c =
    let back =
    replaced-refused _ _ _ _ _ _ c.requires.0 _ c.numbers-count.ensures c.descend_vertex.ensures c.if-descend_vertex.false
    (replicate g.row.N (pos 0)) c.copy.new.to (search rules) c.copy.ensures in
    (back.0, c.copy-2.ensures ∙ back.1)
