-- Frames, the points that an entry takes from a frame, and the point that weights name (docs/SPECIFICATION.md, 'Frames and first nets' and 'Moves and points').
-- A group's frame is the list of its vertices, or a function from the vertex number, r being 0, s 1 and t 2, to a parameter point. A net has a frame for each group.
use Rattle.std.specs.Prelude.{ℕ, zero, suc, cond, List, [], ◌∷◌, ◌++◌, map, eqb, ℤ, pos, ◌*ℤ◌, get_or, set, replicate}
use Rattle.integers.specs.Sum.{sum, upto}
use Rattle.polar.specs.Sigma.{Point}
use Rattle.polar.specs.Groups.{Group, head, tail}

-- the points of an entry: as many copies of each vertex as the counts say, the vertices in order
abbrev pub entry_points : (ℕ → Point) → List ℕ → List Point
entry_points fr [] = []
entry_points fr (n ∷ e) = replicate n (fr 0) ++ entry_points (λ v. fr (suc v)) e

-- q = αr + βs (+ γt), coordinate by coordinate, for d vertices with d coordinates each
abbrev pub combination : ℕ → List ℤ → (ℕ → Point) → Point
combination d ws fr = map (λ c. sum (λ v. get_or ws v (pos 0) *ℤ get_or (fr v) c (pos 0)) (upto d)) (upto d)

-- the frame of the coordinates of a group with n of them before Z: Z's point first, each with its own coordinate 1 and the others 0
abbrev pub unit_point : ℕ → ℕ → Point
unit_point d c = map (λ i. cond (eqb i c) (pos 1) (pos 0)) (upto d)

abbrev pub units : ℕ → ℕ → Point
units n zero = unit_point (suc n) n
units n (suc v) = unit_point (suc n) v

-- ---- over groups

abbrev pub vertex_at : List Point → ℕ → Point
vertex_at frame v = get_or frame v []

-- the points of an entry, a list for each group
abbrev pub entry_points_over : List (List Point) → List (List ℕ) → List (List Point)
entry_points_over [] es = []
entry_points_over (frame ∷ frames) es = entry_points (vertex_at frame) (head es) ∷ entry_points_over frames (tail es)

-- the point q of each group, which its own weights name
abbrev pub points_over : List Group → List (List ℤ) → List (List Point) → List Point
points_over [] weights frames = []
points_over (g ∷ gs) weights frames = combination (suc g.dimension) (head weights) (vertex_at (head frames)) ∷ points_over gs (tail weights) (tail frames)

-- the frames with q before the vertices of each
abbrev pub frames_with_q : List Point → List (List Point) → List (List Point)
frames_with_q [] frames = []
frames_with_q (q ∷ qs) frames = (q ∷ head frames) ∷ frames_with_q qs (tail frames)

-- the frames with another point in the place of vertex v of group i
abbrev pub put_over : ℕ → ℕ → Point → List (List Point) → List (List Point)
put_over i v q frames = set frames i (set (get_or frames i []) v q)
