-- The orders in which monomials and the entries of a net are listed (docs/RECORDS.md, 'The bytes', field 3; docs/SPECIFICATION.md, 'Frames and first nets').
use Rattle.std.specs.Prelude.{ℕ, zero, suc, ◌+◌, ◌-◌, List, [], ◌∷◌, ◌++◌, map}
use Rattle.integers.specs.Sum.{upto}

-- the lists f x one after the other
abbrev pub joined : {A B : Type 0} → (A → List B) → List A → List B
joined f [] = []
joined f (x ∷ xs) = f x ++ joined f xs

-- the sum of a list of exponents
abbrev pub total : List ℕ → ℕ
total [] = 0
total (n ∷ e) = n + total e

-- the exponents of the monomials of degree m with n coordinates before Z: k rising, or h rising and then l rising
unfoldable pub monomials : ℕ → ℕ → List (List ℕ)
monomials zero m = [] ∷ []
monomials (suc n) m = joined (λ h. map (λ e. h ∷ e) (monomials n (m - h))) (upto (suc m))

-- how often each vertex is taken in the entries of a net of degree m over 1 + n vertices: the first vertex falling, then the second falling, and so on.
-- k is what the vertices after the first have together.
unfoldable pub counts : ℕ → ℕ → List (List ℕ)
counts zero m = (m ∷ []) ∷ []
counts (suc n) m = joined (λ k. map (λ e. (m - k) ∷ e) (counts n k)) (upto (suc m))
