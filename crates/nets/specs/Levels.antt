-- What the private functions that go down the levels do to a list.
use Rattle.std.specs.Prelude.{ℕ, suc, ◌+◌, ◌*◌, ◌-◌, ◌≤◌, ◌≡◌, Bool, true, cond, List, ◌++◌, ℤ, pos, length, get_or, drop, take}
use Rattle.integers.specs.Sum.{upto}
use Rattle.integers.specs.Test.{all}
use Rattle.polar.specs.Order.{counts}
use Rattle.entries.specs.Entries.{fixed}
use Rattle.entries.specs.Rows.{entry_at, listed, size, replaced}
use Rattle.projection.specs.Projection.{in_range}
use Rattle.machine.specs.declared.Weights.{Weights}
use Rattle.nets.specs.Rows.{Sized, written, weight_sum, level}

-- a list with the row at place `from` of another list at place `to`
abbrev pub copied_row : ℕ → List ℤ → ℕ → List ℤ → ℕ → List ℤ
copied_row w out to xs from = written out (w * to) w (λ i. get_or xs (w * from + (i - w * to)) (pos 0))

-- the polar values that the numbers of a net fix, by number of the row, copies of q and counts
abbrev pub values_of : ℕ → ℕ → ℕ → List ℤ → List ℤ → ℕ → ℕ → List ℕ → ℤ
values_of w n m ws xs c h e = fixed (suc n) ws (entry_at w n m xs c) h e

-- whether the polar values with h copies of q are all in range, and whether all are
abbrev pub named_at : ℕ → ℕ → ℕ → List ℤ → List ℤ → ℕ → Bool
named_at w n m ws xs h = all (λ e. all (λ c. in_range (values_of w n m ws xs c h e)) (upto w)) (counts n (m - h))

unfoldable pub all_named_at : ℕ → ℕ → ℕ → List ℤ → List ℤ → Bool
all_named_at w n m ws xs = all (named_at w n m ws xs) (upto (suc m))

-- the numbers of a net with vertex v replaced
unfoldable pub replaced_list : ℕ → ℕ → ℕ → List ℤ → ℕ → List ℤ → List ℤ
replaced_list w n m ws v xs = listed w n m (λ c. replaced (suc n) ws v (entry_at w n m xs c)) ++ drop (size w n m) xs

-- what replacing vertex v of the net xs answers and leaves: whether all named polar values are in range, and the new net if they are
abbrev pub Replaces : ℕ → ℕ → ℕ → List ℤ → ℕ → List ℤ → Bool → List ℤ → Type 0
Replaces w n m ws v xs b ys = (b ≡ all_named_at w n m ws xs) × (ys ≡ cond b (replaced_list w n m ws v xs) xs)

-- what going down all levels asks for: numbers in range, and weights so small that each step fits 64 bits
pub record Descends (w n m : ℕ) (weights : Weights) (xs : List ℤ) : Type 0 where
  pub sized : Sized w n m
  pub long : size w n m ≤ length xs
  pub range : all in_range (take (size w n m) xs) ≡ true
  pub light : weight_sum weights ≤ 12288

-- what it gives: whether all named polar values are in range, and then the last level
pub record Descended (w n m : ℕ) (ws xs : List ℤ) (b : Bool) (ys : List ℤ) : Type 0 where
  pub named : b ≡ all_named_at w n m ws xs
  pub last : b ≡ true → ys ≡ level w n m ws m xs
  pub kept : length ys ≡ length xs

-- what replacing vertex v in place answers and leaves: whether all named polar values are in range, and the new net if they are
pub record ReplacedInPlace (w n m : ℕ) (ws : List ℤ) (v : ℕ) (xs : List ℤ) (b : Bool) (ys : List ℤ) : Type 0 where
  pub named : b ≡ all_named_at w n m ws xs
  pub last : b ≡ true → ys ≡ replaced_list w n m ws v xs
  pub kept : length ys ≡ length xs
