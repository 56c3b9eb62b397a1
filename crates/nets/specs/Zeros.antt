-- The numbers projected of a point. What is left of a curve at a common zero stands in its net with one
-- vertex replaced by q.
use Rattle.std.specs.Prelude.{ℕ, suc, ◌*◌, ◌-◌, ◌≤◌, ◌≡◌, true, ◌&&◌, cond, List, map, eqb, ℤ, length}
use Rattle.integers.specs.Sum.{upto}
use Rattle.projection.specs.Projection.{is_zero, Four, four_numbers, is_four_zeros, first_not_zeros}
use Rattle.entries.specs.Rows.{size}
use Rattle.machine.specs.Calls.{weight_list}
use Rattle.machine.specs.Projected.{line_named_at_zero}
use Rattle.machine.specs.Nets.{net_four}
use Rattle.machine.specs.Carried.{four_at}
use Rattle.machine.specs.Lent.{put_at}
use Rattle.machine.specs.declared.Weights.{Weights}
use Rattle.machine.specs.declared.Call.TheVariants.{Point}
use Rattle.nets.specs.Levels.{all_named_at, Descends}
use Rattle.nets.specs.Calls.{net_from}

-- the vertex of a line that is replaced by q: the second, or the first where q's weight of the second is 0
abbrev pub replaced_vertex : Weights → ℕ
replaced_vertex weights = cond (is_zero weights.s) 0 1

-- the place of the entry with d copies of the other one
abbrev pub value_place : ℕ → ℕ → ℕ → ℕ
value_place vertex m d = cond (eqb vertex 0) (4 * d) (4 * (m - d))

-- the first of these entries, d from 1 on, that is not four zeros
unfoldable pub places_projected : ℕ → ℕ → List ℤ → Four
places_projected vertex m xs = first_not_zeros (map (λ d. four_at (value_place vertex m (suc d)) xs) (upto m))

-- what is left of a line: of the values that are named at a common zero the first that is not four zeros
unfoldable pub line_projected : ℕ → Weights → List ℤ → Four
line_projected m weights xs = first_not_zeros (map (net_four (net_from (record { kind = 1; degree = m; second = 0 }) xs) (Point weights)) (line_named_at_zero m weights.s))

-- what finding it asks of the line's entries and of a room for them: the point has passed the test of its
-- size
pub record LineAsked (m : ℕ) (weights : Weights) (xs room : List ℤ) : Type 0 where
  pub ready : Descends 4 1 m weights xs
  pub named : all_named_at 4 1 m (weight_list weights) xs ≡ true
  pub free : size 4 1 m ≤ length room
  pub low : 1 ≤ m
  pub high : m ≤ 10

-- the numbers projected of a point p of a net: its own or, where they are four zeros on a curve, what is left
abbrev pub point_projected : ℕ → ℕ → Weights → List ℤ → Four → Four
point_projected kind m weights xs p = cond (eqb kind 1 && is_four_zeros p) (line_projected m weights xs) p

-- what their putting asks for, and what it leaves: they stand behind the point's
pub record ProjectedAsked (kind m : ℕ) (weights : Weights) (xs room found : List ℤ) : Type 0 where
  pub line : kind ≡ 1 → LineAsked m weights xs room
  pub eight : 8 ≤ length found

abbrev pub projected_put : ℕ → ℕ → Weights → List ℤ → List ℤ → List ℤ
projected_put kind m weights xs found = put_at 4 (four_numbers (point_projected kind m weights xs (four_at 0 found))) found
