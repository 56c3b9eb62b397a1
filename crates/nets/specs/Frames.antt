-- What the private functions on the frame of a net do. Its numbers stand in lent places, group after group and vertex after vertex.
use Rattle.std.specs.Prelude.{ℕ, zero, suc, pred, ◌+◌, ◌*◌, ◌≤◌, ◌<◌, ◌≡◌, cond, List, [], ◌∷◌, ◌++◌, map, eqb, ℤ, pos, neg_ℤ, nat_abs, ◌+ℤ◌, ◌*ℤ◌, length, get_or, take, drop}
use Rattle.polar.specs.Sigma.{Point}
use Rattle.polar.specs.Groups.{Group}
use Rattle.entries.specs.Frame.{combination, unit_point, vertex_at}
use Rattle.kinds.specs.Frames.{frame_of}
use Rattle.machine.specs.Calls.{weight_list, group_at, own_at, vertices_at}
use Rattle.machine.specs.declared.Weights.{Weights}
use Rattle.nets.specs.Rows.{weight_sum}

-- ---- the place of a vertex

-- how many numbers stand before the frame of group i
abbrev pub frame_start : List Group → ℕ → ℕ
frame_start [] i = 0
frame_start (g ∷ gs) zero = 0
frame_start (g ∷ gs) (suc i) = suc g.dimension * suc g.dimension + frame_start gs i

-- a vertex, counted from 1 through the groups: where its group's frame begins, how many vertices the group has, and which of them it is
pub record OwnVertex (gs : List Group) (vertex start count index : ℕ) : Type 0 where
  pub start_is : start ≡ 3 + frame_start gs (group_at gs (pred vertex))
  pub count-is : count ≡ vertices_at gs (group_at gs (pred vertex))
  pub index_is : index ≡ own_at gs (pred vertex)

-- ---- its new numbers

-- a number of a frame that is not refused
abbrev pub Small : List ℤ → ℕ → Type 0
Small xs i = nat_abs (get_or xs i (pos 0)) ≤ 281474976710656

-- a group of two or three vertices whose frame stands at `start`, and weights within their limit
pub record Blends (xs : List ℤ) (start count : ℕ) (weights : Weights) : Type 0 where
  pub two : 2 ≤ count
  pub three : count ≤ 3
  pub long : start + count * count ≤ length xs
  pub small : (k : ℕ) → k < count * count → Small xs (start + k)
  pub light : weight_sum weights ≤ 12288

pub record NewVertex (xs : List ℤ) (start count index : ℕ) (weights : Weights) : Type 0 where
  pub blends : Blends xs start count weights
  pub inside : index < count

-- a number of q, that of the first vertex standing at `at`: two vertices are two numbers apart, and three are three
abbrev pub of_two : List ℤ → ℤ → ℤ → ℕ → ℤ
of_two xs r s at = r *ℤ get_or xs at (pos 0) +ℤ (s *ℤ get_or xs (at + 2) (pos 0) +ℤ pos 0)

abbrev pub of_three : List ℤ → ℤ → ℤ → ℤ → ℕ → ℤ
of_three xs r s t at = r *ℤ get_or xs at (pos 0) +ℤ (s *ℤ get_or xs (at + 3) (pos 0) +ℤ t *ℤ get_or xs (at + 6) (pos 0))

-- the point that weights name in the group whose frame stands at `start`
abbrev pub point_at : ℕ → ℕ → List ℤ → List ℤ → Point
point_at start count ws xs = combination count ws (vertex_at (frame_of count (drop start xs)))

-- the weights that name what a move puts in the place of a vertex: those of a replace, and for a flip -1 of the vertex alone, which names its negative
abbrev pub new_weights : ℕ → ℕ → Weights → List ℤ
new_weights operation index weights = cond (eqb operation 1) (weight_list weights) (map neg_ℤ (unit_point 4 index))

abbrev pub new_vertex : ℕ → ℕ → ℕ → ℕ → Weights → List ℤ → Point
new_vertex start count index operation weights = point_at start count (new_weights operation index weights)

-- two or three numbers as three
abbrev pub padded : Point → List ℤ
padded p = take 3 (p ++ (pos 0 ∷ []))
