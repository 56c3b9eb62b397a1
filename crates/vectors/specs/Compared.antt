-- What the comparison of two texts answers.
use Rattle.std.specs.Prelude.{ℕ, ◌≤◌, ◌<◌, ◌≡◌, Bool, true, List, length, get_or}

-- r is the first place where a and b differ, or the end of the one that ends first: they agree
-- before r, and at r they do not, if both have a byte there
pub record FirstDifference (a b : List ℕ) (r : ℕ) : Type 0 where
  pub within_a : r ≤ length a
  pub within_b : r ≤ length b
  pub before : (k : ℕ) → k < r → get_or a k 0 ≡ get_or b k 0
  pub at : r < length a → r < length b → get_or a r 0 ≡ get_or b r 0 → ⊥

-- where the answer is true, every byte of s is 0
abbrev pub AllMarks : List ℕ → Bool → Type 0
AllMarks s r = r ≡ true → (k : ℕ) → k < length s → get_or s k 0 ≡ 0
