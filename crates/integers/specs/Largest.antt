-- The largest absolute value among numbers.
use Rattle.std.specs.Prelude.{ℕ, max, List, [], ◌∷◌, ℤ, nat_abs}

-- 0 where there are none
abbrev pub largest_of : List ℤ → ℕ
largest_of [] = 0
largest_of (x ∷ xs) = max (nat_abs x) (largest_of xs)
