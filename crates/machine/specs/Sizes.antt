-- The size rule (docs/SPECIFICATION.md, 'Moves and points', 'Size'): replace and point are refused exactly when some polar value that they name is out of range.
-- A named value takes its points from the frames and from the q of each group: its counts say in each group how often q is taken and then how often each vertex.
use Rattle.std.specs.Prelude.{ℕ, zero, suc, pred, Bool, cond, List, [], ◌∷◌, ◌++◌, map, eqb, ℤ, replicate}
use Rattle.integers.specs.Sum.{upto}
use Rattle.polar.specs.Order.{counts}
use Rattle.polar.specs.Groups.{Group, pairs, counts_over}
use Rattle.entries.specs.Entries.{none_of_q}
use Rattle.projection.specs.Projection.{in_range}
use Rattle.machine.specs.Refusals.{Test, ◌else◌}
use Rattle.integers.specs.Test.{all}
use Rattle.machine.specs.Calls.{group_at, own_tests}
use Rattle.machine.specs.declared.Call.{Call}
use Rattle.machine.specs.declared.Call.TheVariants.{Move, Point}

-- a replace in group i: the points of that group from its frame and q, any number of each, as if q were a vertex before the others; those of the other groups from their frames
unfoldable pub named_by_replace : List Group → ℕ → List (List (List ℕ))
named_by_replace [] i = []
named_by_replace (g ∷ gs) zero = pairs (counts (suc g.dimension) g.degree) (map none_of_q (counts_over gs))
named_by_replace (g ∷ gs) (suc i) = pairs (none_of_q (counts g.dimension g.degree)) (named_by_replace gs i)

-- a point: the first group's as in a replace; then the first group's all q, and the groups after it as in a point
unfoldable pub named_by_point : List Group → List (List (List ℕ))
named_by_point [] = []
named_by_point (g ∷ gs) = named_by_replace (g ∷ gs) 0 ++ pairs ((g.degree ∷ replicate (suc g.dimension) 0) ∷ []) (named_by_point gs)

-- the polar values that a call names; a flip names none
unfoldable pub named_by : List Group → Call → List (List (List ℕ))
named_by gs (Move operation vertex weights) = cond (eqb operation 1) (named_by_replace gs (group_at gs (pred vertex))) []
named_by gs (Point weights) = named_by_point gs

-- whether they are all in range, P c es being component c of the one with counts es
unfoldable pub all_named : List (List (List ℕ)) → (ℕ → List (List ℕ) → ℤ) → Bool
all_named names P = all (λ es. all (λ c. in_range (P c es)) (upto 4)) names

-- ---- all tests of a call

-- those before its size: 8, 9, and then 'beyond 2 to the 48th in absolute value', of the frame numbers that the call is judged by
unfoldable pub before_size : List Group → Call → List ℤ → List Test
before_size gs call numbers = own_tests gs call ++ (all in_range numbers else 12 ∷ [])

-- and then 'size'
unfoldable pub call_tests : List Group → Call → List ℤ → (ℕ → List (List ℕ) → ℤ) → List Test
call_tests gs call numbers P = before_size gs call numbers ++ (all_named (named_by gs call) P else 10 ∷ [])
