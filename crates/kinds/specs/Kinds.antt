-- The kinds of net and their limits, as data: a kind is a list of groups of vertices, each with its highest degree.
--
-- To add a kind:
--   a row of `rows_of` below, and its case in the functions of src/lib.rt, each of which is held to this table;
--   for a group of another dimension, its row of scales (Scales.antt);
--   its word in the text (crates/text/specs/Text.antt, crates/text/src/kind.rt).
-- Polar values, nets, what a call does and names, refusals, the comparison machine and demand 3 are stated and proved over any list of groups, and stay as they are.
-- The code of crates/nets takes a first group and at most one after it; a kind of three groups would also want a third degree, in a net and in the record's field 1.
use Rattle.std.specs.Prelude.{ℕ, zero, suc, ◌+◌, Bool, true, false, ◌&&◌, cond, List, [], ◌∷◌, map, leb, eqb}
use Rattle.integers.specs.Sum.{upto}
use Rattle.integers.specs.Test.{all}
use Rattle.polar.specs.Groups.{Group}

-- a group of a kind: one vertex more than its dimension, and degrees from 1 to the highest
pub record Row : Type 0 where
  pub dimension : ℕ
  pub highest : ℕ

abbrev kind_row : ℕ → ℕ → Row
kind_row n m = record { dimension = n; highest = m }

-- 'kind byte (1 curve, 2 patch)', 'Kind 3 has degrees p and q, 1 to 5 each, a frame r1, s1, r2, s2'. A curve has the vertices r, s and degree 1 to 10, a patch r, s, t and
-- degree 1 to 8, a rectangular patch two pairs of vertices with a degree each; any other number is no kind.
abbrev pub rows_of : ℕ → List Row
rows_of zero = []
rows_of (suc zero) = kind_row 1 10 ∷ []
rows_of (suc (suc zero)) = kind_row 2 8 ∷ []
rows_of (suc (suc (suc zero))) = kind_row 1 5 ∷ kind_row 1 5 ∷ []
rows_of (suc (suc (suc (suc k)))) = []

-- ---- a kind with its degrees

-- a group of 1 + n vertices, of degree m
abbrev pub group : ℕ → ℕ → Group
group n m = record { dimension = n; degree = m }

-- the groups, one degree for each; degrees that are not there count as 0
abbrev pub groups_by : List Row → List ℕ → List Group
groups_by [] degrees = []
groups_by (r ∷ rows) [] = group r.dimension 0 ∷ groups_by rows []
groups_by (r ∷ rows) (m ∷ degrees) = group r.dimension m ∷ groups_by rows degrees

-- a net has two places for degrees
abbrev pub groups_of : ℕ → ℕ → ℕ → List Group
groups_of kind degree second = groups_by (rows_of kind) (degree ∷ second ∷ [])

-- the dimension of the first group; 0 where there is none
abbrev pub dimension_by : List Row → ℕ
dimension_by [] = 0
dimension_by (r ∷ rows) = r.dimension

abbrev pub dimension_of : ℕ → ℕ
dimension_of kind = dimension_by (rows_of kind)

-- the groups after the first, the first of them having the second degree
abbrev pub later_rows : List Row → List Row
later_rows [] = []
later_rows (r ∷ rows) = rows

abbrev pub later_groups : ℕ → ℕ → List Group
later_groups kind second = groups_by (later_rows (rows_of kind)) (second ∷ [])

abbrev pub later_dimension : ℕ → ℕ
later_dimension kind = dimension_by (later_rows (rows_of kind))

-- the vertices of all its groups
abbrev pub vertices_by : List Row → ℕ
vertices_by [] = 0
vertices_by (r ∷ rows) = suc r.dimension + vertices_by rows

-- the largest of a list of numbers
abbrev pub largest : List ℕ → ℕ
largest [] = 0
largest (n ∷ ns) = let m = largest ns in cond (leb n m) m n

-- the most vertices that a kind has, from the table; 4 and above are no kinds
abbrev pub most_vertices : ℕ
most_vertices = largest (map (λ kind. vertices_by (rows_of kind)) (upto 4))

-- each group's degree is from 1 to its highest, and a degree of no group is 0
abbrev pub degrees_allowed : List Row → List ℕ → Bool
degrees_allowed [] degrees = all (λ m. eqb m 0) degrees
degrees_allowed (r ∷ rows) [] = false
degrees_allowed (r ∷ rows) (m ∷ degrees) = (leb 1 m && leb m r.highest) && degrees_allowed rows degrees

-- there is a group
abbrev pub some : List Row → Bool
some [] = false
some (r ∷ rows) = true

-- a kind with its degrees; anything else is 'kind or degree outside', refusal 4
abbrev pub known : ℕ → ℕ → ℕ → Bool
known kind degree second = some (rows_of kind) && degrees_allowed (rows_of kind) (degree ∷ second ∷ [])
