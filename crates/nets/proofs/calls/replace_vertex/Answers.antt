-- `replace_vertex` meets its contract: the vertex is one of the first group, which is replaced in its rows, or one of the
-- second, which is replaced in each part.
use native.Mathlib.Omega.{arith}
use mathlib.Core.Path.{sym, ◌∙◌}
use Rattle.nets.proofs.Made.{row-of-three, move-low, past_two, replace-asked, replace-stepped, parts-asked, parts-stepped}
use Rattle.nets.proofs.calls.replace_vertex.Goals as goal

pub overflow_sub-v : goal.overflow_sub-v
overflow_sub-v c = move-low c.requires.0

pub replace_entries-requires : goal.replace_entries-requires
replace_entries-requires c =
    let asked = replace-asked c.requires.0 (omega arith) _ _ c.later_count-width.ensures c.dimension_of-n.ensures in
    (asked.0, asked.1, λ three. c.later_count-width.ensures ∙ row-of-three c.args.head.kind c.args.head.second (sym c.dimension_of-n.ensures ∙ three))

pub returns-then-v-n : goal.returns-then-v-n
returns-then-v-n c =
    replace-stepped c.requires.0 (omega arith) _ _ c.later_count-width.ensures c.dimension_of-n.ensures c.requires.1 _ _ _
    c.judge_size.ensures c.replace_entries.ensures

pub overflow_sub-v-2 : goal.overflow_sub-v-2
overflow_sub-v-2 c = past_two c.requires.0 (omega arith)

pub replace_later-requires : goal.replace_later-requires
replace_later-requires c = parts-asked c.requires.0 (omega arith)

pub returns : goal.returns
returns c = parts-stepped c.requires.0 (omega arith) c.requires.1 _ _ _ c.judge_size-2.ensures c.replace_later.ensures
