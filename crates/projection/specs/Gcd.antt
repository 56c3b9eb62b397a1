-- The greatest common divisor of whole numbers, defined by its own property: of the numbers that divide each of the given ones it is the largest.
-- A direction is reduced by it (docs/SPECIFICATION.md, 'Projection'). How the code finds it is not said here.
use Rattle.std.specs.Prelude.{ℕ, zero, suc, ◌%◌, min, Bool, true, ◌&&◌, cond, List, [], ◌∷◌, eqb}

-- d divides x: nothing is left over
abbrev pub divides : ℕ → ℕ → Bool
divides d x = eqb (x % d) 0

-- d is a common divisor: it divides each of the numbers
unfoldable pub is_common_divisor : ℕ → List ℕ → Bool
is_common_divisor d [] = true
is_common_divisor d (x ∷ xs) = divides d x && is_common_divisor d xs

-- the lesser of two numbers, where 0 stands for none
unfoldable pub lesser_nonzero : ℕ → ℕ → ℕ
lesser_nonzero zero b = b
lesser_nonzero (suc a) zero = suc a
lesser_nonzero (suc a) (suc b) = min (suc a) (suc b)

-- The least of the numbers that are not 0, and 0 where every number is 0. A common divisor divides that number, so none is larger.
unfoldable pub least_nonzero : List ℕ → ℕ
unfolding lesser_nonzero
least_nonzero [] = 0
least_nonzero (x ∷ xs) = lesser_nonzero x (least_nonzero xs)

-- the largest of n, n - 1, .., 1 that is a common divisor, tried downward; 0 where none is
unfoldable pub largest_from : ℕ → List ℕ → ℕ
unfolding is_common_divisor
largest_from zero xs = 0
largest_from (suc n) xs = let next = largest_from n xs in cond (is_common_divisor (suc n) xs) (suc n) next

-- the greatest common divisor. Of zeros alone every number is a common divisor and none is greatest: there it is 0.
unfoldable pub gcd : List ℕ → ℕ
unfolding least_nonzero largest_from
gcd xs = largest_from (least_nonzero xs) xs
