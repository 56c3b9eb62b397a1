-- What the private functions that flip a vertex do to a list.
use Rattle.std.specs.Prelude.{ℕ, zero, suc, ◌*◌, ◌-◌, ◌/◌, ◌<◌, ◌≤◌, List, [], ◌∷◌, ◌++◌, ℤ, pos, nat_abs, length, get_or, drop}
use Rattle.polar.specs.Order.{counts}
use Rattle.entries.specs.Entries.{signed}
use Rattle.entries.specs.Rows.{entry_at, listed, size, flipped}
use Rattle.nets.specs.Rows.{Sized, written}

-- the counts of the entry with i copies of the vertices after the first, k of them of the third
abbrev pub counts_at : ℕ → ℕ → ℕ → ℕ → List ℕ
counts_at zero m i k = []
counts_at (suc zero) m i k = (m - i) ∷ i ∷ []
counts_at (suc (suc n)) m i k = (m - i) ∷ (i - k) ∷ k ∷ []

-- a list with the row at place p signed by a count
abbrev pub signed_row : ℕ → List ℤ → ℕ → ℕ → List ℤ
signed_row w xs p count = written xs (w * p) w (λ i. signed count (get_or xs i (pos 0)))

-- the number at place i of a net's numbers, with vertex v flipped
abbrev pub signed_at : ℕ → ℕ → ℕ → ℕ → List ℤ → ℕ → ℤ
signed_at w n m v xs i = signed (get_or (get_or (counts n m) (i / w) []) v 0) (get_or xs i (pos 0))

-- the numbers of a net with vertex v flipped
unfoldable pub flipped_list : ℕ → ℕ → ℕ → ℕ → List ℤ → List ℤ
flipped_list w n m v xs = listed w n m (λ c. flipped v (entry_at w n m xs c)) ++ drop (size w n m) xs

-- the numbers of a list from place lo up to hi are in range
abbrev pub InRange : List ℤ → ℕ → ℕ → Type 0
InRange xs lo hi = (i : ℕ) → lo ≤ i → i < hi → nat_abs (get_or xs i (pos 0)) ≤ 281474976710656

-- what flipping vertex v in the rows of the net xs asks for
pub record Flips (w n m v : ℕ) (xs : List ℤ) : Type 0 where
  pub sized : Sized w n m
  pub vertex : v ≤ n
  pub long : size w n m ≤ length xs
  pub range : InRange xs 0 (size w n m)
