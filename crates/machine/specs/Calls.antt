-- What is refused of a call for its own arguments: 8 and 9 (docs/SPECIFICATION.md, 'Moves and points', 'Refusals'). Both machines share these.
use Rattle.std.specs.Prelude.{ℕ, zero, suc, pred, ◌-◌, ◌&&◌, ◌||◌, not, cond, List, [], ◌∷◌, map, leb, eqb, ℤ, pos, get_or, take, drop}
use Rattle.polar.specs.Groups.{Group}
use Rattle.projection.specs.Projection.{is_zero}
use Rattle.machine.specs.Refusals.{Test, ◌else◌}
use Rattle.integers.specs.Test.{within, all}
use Rattle.kinds.specs.Frames.{vertex_count}
use Rattle.machine.specs.declared.Weights.{Weights}
use Rattle.machine.specs.declared.Call.{Call}
use Rattle.machine.specs.declared.Call.TheVariants.{Move, Point}

-- the weights in the order of the vertices
abbrev pub weight_list : Weights → List ℤ
weight_list w = w.r ∷ w.s ∷ w.t ∷ w.u ∷ []

-- ---- vertices, which are counted through the groups

-- the group of vertex v, and its number there; all are counted from 0
abbrev pub group_at : List Group → ℕ → ℕ
group_at [] v = 0
group_at (g ∷ gs) v = cond (leb v g.dimension) 0 (suc (group_at gs (v - suc g.dimension)))

abbrev pub own_at : List Group → ℕ → ℕ
own_at [] v = v
own_at (g ∷ gs) v = cond (leb v g.dimension) v (own_at gs (v - suc g.dimension))

-- how many vertices group i has
abbrev pub vertices_at : List Group → ℕ → ℕ
vertices_at [] i = 0
vertices_at (g ∷ gs) zero = suc g.dimension
vertices_at (g ∷ gs) (suc i) = vertices_at gs i

-- ---- weights

-- each group's share of a point's weights
abbrev pub shares : List Group → List ℤ → List (List ℤ)
shares [] ws = []
shares (g ∷ gs) ws = take (suc g.dimension) ws ∷ shares gs (drop (suc g.dimension) ws)

-- The weights of a call by groups: 'a move's first two weights belong to its pair', whichever it is, and a
-- point has weights for all vertices, group after group. A move hands its weights to every group, since only
-- its vertex's group is asked for its q: no value that a move names, and no entry after it, takes q in
-- another group (`NamedByReplace` in Names.antt, `as_q`).
abbrev pub weights_for : List Group → Call → List (List ℤ)
weights_for gs (Move operation vertex weights) = map (λ g. weight_list weights) gs
weights_for gs (Point weights) = shares gs (weight_list weights)

-- the weights of a move that nothing uses: all of a flip, and of a replace those past the vertices of the vertex's group
abbrev pub unused : List Group → ℕ → ℕ → List ℤ → List ℤ
unused gs operation vertex ws = cond (eqb operation 2) ws (drop (vertices_at gs (group_at gs (pred vertex))) ws)

-- the weight of a move's vertex
abbrev pub weight_at : List Group → ℕ → List ℤ → ℤ
weight_at gs vertex ws = get_or ws (own_at gs (pred vertex)) (pos 0)

-- ---- the tests of a call for its own arguments

unfoldable pub own_tests : List Group → Call → List Test
own_tests gs (Move operation vertex weights) =
    -- 'operation, vertex, weight outside, or unused weight not 0'
    (eqb operation 1 || eqb operation 2) else 8
    ∷ (leb 1 vertex && leb vertex (vertex_count gs)) else 8
    ∷ all (within 4096) (weight_list weights) else 8
    ∷ all is_zero (unused gs operation vertex (weight_list weights)) else 8
    -- 'replaced vertex has weight 0'
    ∷ (eqb operation 2 || not (is_zero (weight_at gs vertex (weight_list weights)))) else 9
    ∷ []
own_tests gs (Point weights) =
    -- 'weight outside, or unused weight not 0'
    all (within 4096) (weight_list weights) else 8
    ∷ all is_zero (drop (vertex_count gs) (weight_list weights)) else 8
    -- 'point with all weights 0', of a rectangular patch in either pair
    ∷ all (λ ws. not (all is_zero ws)) (shares gs (weight_list weights)) else 9
    ∷ []
