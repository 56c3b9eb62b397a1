-- Sums in ℤ: of a function over a list, and the list of the first numbers, over which most sums run.
use Rattle.std.specs.Prelude.{List, [], ◌∷◌, map, ℕ, zero, suc, ℤ, pos, ◌+ℤ◌}

-- f x₀ + f x₁ + .. + 0, over the list x₀, x₁, ..
abbrev pub sum : {A : Type 0} → (A → ℤ) → List A → ℤ
sum f [] = pos 0
sum f (x ∷ xs) = f x +ℤ sum f xs

-- the numbers 0, 1, .., n - 1
abbrev pub upto : ℕ → List ℕ
upto zero = []
upto (suc n) = 0 ∷ map suc (upto n)
