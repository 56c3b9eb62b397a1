-- `flip_vertex` meets its contract: the vertex is one of the first group, whose rows it flips, or one of the second,
-- which it flips in each part.
use native.Mathlib.Omega.{arith}
use Rattle.nets.proofs.Made.{net-parts, move-low, own-high, past_two, second_group, flip-asked, flip-stepped, flip-made, parts-flipped}
use Rattle.nets.proofs.calls.flip_vertex.Goals as goal

pub overflow_sub-v : goal.overflow_sub-v
overflow_sub-v c = move-low c.requires.0

pub flip_entries-requires : goal.flip_entries-requires
flip_entries-requires c = flip-asked c.requires.0 (omega arith) _ _ c.later_count.ensures c.dimension_of-n.ensures

pub returns-then-v-n : goal.returns-then-v-n
returns-then-v-n c =
    flip-stepped c.requires.0 (omega arith) _ _ c.later_count.ensures c.dimension_of-n.ensures c.requires.1 _ c.flip_entries.ensures

pub overflow_sub-v-2 : goal.overflow_sub-v-2
overflow_sub-v-2 c = past_two c.requires.0 (omega arith)

pub flip_parts-requires : goal.flip_parts-requires
flip_parts-requires c =
    let o = c.requires.0 in
    rw c.later_dimension.ensures (record { parts = net-parts o (second_group o (omega arith)); vertex = own-high o (omega arith) })

pub returns : goal.returns
returns c =
    flip-made c.requires.0 c.requires.1 _ (parts-flipped c.requires.0 (omega arith) c.requires.1 _ (rw c.later_dimension.ensures at c.flip_parts.ensures))
