-- The moves and the point of a record (docs/RECORDS.md, 'The bytes', fields 4 and 5), decoded. Nothing is refused here: that is left to the making of them.
use Rattle.std.specs.Prelude.{ℕ, Bool, ◌&&◌, ◌||◌, cond, List, get_or, drop, eqb, leb}
use Rattle.kinds.specs.Kinds.{most_vertices}
use Rattle.machine.specs.declared.Weights.{Weights}
use Rattle.machine.specs.declared.Call.{Call}
use Rattle.machine.specs.declared.Call.TheVariants as call
use Rattle.decoding.specs.Numbers.{item, number_at}
use Rattle.decoding.specs.declared.Move.{Move}
use Rattle.decoding.specs.declared.Move.TheVariants.{Proper, Improper}

-- The weights, where the part begins with them: one whose two bytes the part does not have is 0. A point has as many weights as its kind has vertices, and a move
-- has three, so that the fourth weight of a move is 0.
unfoldable pub weights_of : List ℕ → Weights
unfolding number_at
weights_of part = record { r = number_at 2 part 0; s = number_at 2 part 1; t = number_at 2 part 2; u = number_at 2 part 3 }

-- a replace or a flip, of a vertex that some kind has
abbrev pub proper : ℕ → ℕ → Bool
proper operation vertex = (leb 1 vertex && leb vertex most_vertices) && (eqb operation 1 || eqb operation 2)

-- the move with an operation byte, a vertex byte and weights
abbrev pub move_of : ℕ → ℕ → Weights → Move
move_of operation vertex w = cond (proper operation vertex) (Proper operation vertex w) (Improper operation vertex w)

-- Move k of field 4's value: a byte for the operation, one for the vertex, and then the weights. Past the last move all its numbers are 0.
unfoldable pub move_at : List ℕ → ℕ → Move
unfolding item weights_of
move_at value k =
    let bytes = item 8 value k in
    move_of (get_or bytes 0 0) (get_or bytes 1 0) (weights_of (drop 2 bytes))

-- ---- the values of each case

-- the operation byte
abbrev pub operation_of : Move → ℕ
operation_of (Proper operation vertex w) = operation
operation_of (Improper operation vertex w) = operation

-- the vertex byte
abbrev pub vertex_of : Move → ℕ
vertex_of (Proper operation vertex w) = vertex
vertex_of (Improper operation vertex w) = vertex

-- the weights
abbrev pub move_weights : Move → Weights
move_weights (Proper operation vertex w) = w
move_weights (Improper operation vertex w) = w

-- the call that a move is
abbrev pub call_of : Move → Call
call_of m = call.Move (operation_of m) (vertex_of m) (move_weights m)

-- the call that move k's bytes are
unfoldable pub call_at : List ℕ → ℕ → Call
unfolding item weights_of
call_at value k =
    let bytes = item 8 value k in
    call.Move (get_or bytes 0 0) (get_or bytes 1 0) (weights_of (drop 2 bytes))
