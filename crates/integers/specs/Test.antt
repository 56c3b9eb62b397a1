-- Tests that compute: equality of integers, a limit of the absolute value, and a test of every member of a list.
use Rattle.std.specs.Prelude.{Bool, true, false, ◌&&◌, List, [], ◌∷◌, ℕ, eqb, leb, ℤ, pos, negsuc, nat_abs}

abbrev pub eq_z : ℤ → ℤ → Bool
eq_z (pos m) (pos n) = eqb m n
eq_z (pos m) (negsuc n) = false
eq_z (negsuc m) (pos n) = false
eq_z (negsuc m) (negsuc n) = eqb m n

-- at most the limit in absolute value
abbrev pub within : ℕ → ℤ → Bool
within limit v = leb (nat_abs v) limit

-- whether all members of a list pass a test
abbrev pub all : {A : Type 0} → (A → Bool) → List A → Bool
all test [] = true
all test (x ∷ xs) = test x && all test xs
