-- Frames from the numbers of a record, and which of them are accepted (docs/SPECIFICATION.md, 'Frames and first nets', refusal 5). The numbers of the groups follow each other.
use Rattle.std.specs.Prelude.{ℕ, zero, suc, ◌+◌, ◌*◌, Bool, true, ◌&&◌, not, cond, List, [], ◌∷◌, ◌++◌, map, ℤ, pos, neg_ℤ, ◌*ℤ◌, get_or, take, drop}
use Rattle.integers.specs.Sum.{sum, upto}
use Rattle.integers.specs.Test.{within, all}
use Rattle.polar.specs.Sigma.{Point}
use Rattle.polar.specs.Order.{joined}
use Rattle.polar.specs.Groups.{Group}
use Rattle.entries.specs.Entries.{odd}
use Rattle.projection.specs.Projection.{is_zero}

-- ---- one group

-- a frame from its numbers, d numbers for each of d vertices
unfoldable pub frame_of : ℕ → List ℤ → List Point
frame_of d numbers = map (λ v. map (λ c. get_or numbers (d * v + c) (pos 0)) (upto d)) (upto d)

-- a list without its member c
abbrev pub without : ℕ → List ℤ → List ℤ
without c xs = take c xs ++ drop (suc c) xs

-- the determinant of d rows, by the members of the first row: each times the determinant of the other rows without its column, the signs alternating
abbrev pub determinant : ℕ → List (List ℤ) → ℤ
determinant zero rows = pos 1
determinant (suc d) [] = pos 0
determinant (suc d) (row ∷ rows) =
    sum
    (λ c.
    let minor = get_or row c (pos 0) *ℤ determinant d (map (without c) rows) in
    cond (odd c) (neg_ℤ minor) minor)
    (upto (suc d))

-- 'Frame numbers in a record are −4 to 4 and the determinant is not 0'
unfoldable pub frame_allowed : ℕ → List ℤ → Bool
frame_allowed d numbers = all (within 4) (take (d * d) numbers) && not (is_zero (determinant d (frame_of d numbers)))

-- ---- all groups

-- how many vertices there are
abbrev pub vertex_count : List Group → ℕ
vertex_count [] = 0
vertex_count (g ∷ gs) = suc g.dimension + vertex_count gs

-- how many numbers their frames have
abbrev pub frame_count : List Group → ℕ
frame_count [] = 0
frame_count (g ∷ gs) = suc g.dimension * suc g.dimension + frame_count gs

-- an exact frame for each group: its vertices, each the list of its numbers
abbrev pub Frames : Type 0
Frames = List (List Point)

-- the frames that the first of some numbers make
unfoldable pub frames_of : List Group → List ℤ → Frames
frames_of [] numbers = []
frames_of (g ∷ gs) numbers =
    let d = suc g.dimension in
    frame_of d numbers ∷ frames_of gs (drop (d * d) numbers)

-- the numbers of frames, group after group and vertex after vertex
abbrev pub numbers_of : Frames → List ℤ
numbers_of frames = joined (joined (λ p. p)) frames

unfoldable pub frames_allowed : List Group → List ℤ → Bool
frames_allowed [] numbers = true
frames_allowed (g ∷ gs) numbers =
    let d = suc g.dimension in
    frame_allowed d numbers && frames_allowed gs (drop (d * d) numbers)
