-- What is guaranteed of the largest component that a net stores (docs/SPECIFICATION.md, 'Nets in memory'), for every handed net and not only for those that a record made.
-- Of the latter the equation of nets of demand 3 says it: the net over frames stores the largest component of its entries.
use Rattle.std.specs.Prelude.{ℕ, ◌≤◌, ◌≡◌, ℤ, pos, nat_abs, length}
use mathlib.Core.List.{List, [], ◌∷◌, Memᴰ}
use Rattle.integers.specs.Largest.{largest_of}
use Rattle.entries.specs.Entries.{number_count}
use Rattle.machine.specs.Steps.{Taken}
use Rattle.machine.specs.Nets.{Net, net_groups, step_of}
use Rattle.machine.specs.Lent.{net_at, call_number, call_places}
use Rattle.machine.specs.declared.Weights.{Weights}
use Rattle.machine.specs.declared.Call.TheVariants.{Move, Point}

-- a net stores the largest absolute component of its entries
abbrev pub StoresLargest : Net → Type 0
StoresLargest net = net.largest ≡ pos (largest_of net.entries)

-- 'the largest absolute component': no number is beyond it in absolute value, and one of them reaches it
pub record Maximum : Type 0 where
  pub above : (xs : List ℤ) (x : ℤ) → Memᴰ x xs → nat_abs x ≤ largest_of xs
  pub reached : (x : ℤ) (xs : List ℤ) → (y : ℤ) × Memᴰ y (x ∷ xs) × (nat_abs y ≡ largest_of (x ∷ xs))

-- what calls do to it on any net
pub record LargestKept : Type 0 where
  -- 'equal to that maximum after an accepted replace', whatever the handed net claims
  pub replaced : (net : Net) (vertex : ℕ) (weights : Weights) → (step_of net (Move 1 vertex weights)).answer ≡ Taken → StoresLargest (step_of net (Move 1 vertex weights)).left
  -- 'a flip hands on the number it was given', and so it is equal 'after a flip of a net where it was so'; the net has all its entries
  pub handed_on : (net : Net) (vertex : ℕ) (weights : Weights) → (step_of net (Move 2 vertex weights)).left.largest ≡ net.largest
  pub flipped : (net : Net) → length net.entries ≡ number_count (net_groups net) → StoresLargest net → (vertex : ℕ) (weights : Weights) → StoresLargest (step_of net (Move 2 vertex weights)).left
  -- a point leaves it with the rest of the net
  pub point : (net : Net) (weights : Weights) → (step_of net (Point weights)).left ≡ net

-- the same of the net in lent places, which has all its entries where a call is not refused
pub record LargestLent : Type 0 where
  pub replaced : (lent : List ℤ) (vertex : ℕ) (weights : Weights) → call_number (Move 1 vertex weights) lent [] ≡ 0 → StoresLargest (net_at (call_places (Move 1 vertex weights) lent []))
  pub flipped : (lent : List ℤ) (vertex : ℕ) (weights : Weights) → StoresLargest (net_at lent) → StoresLargest (net_at (call_places (Move 2 vertex weights) lent []))
