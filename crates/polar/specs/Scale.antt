-- Multinomials and the scale (docs/SPECIFICATION.md, 'Polynomials and polar values': m!/(k!(m−k)!), m!/(h! l! (m−h−l)!) and L).
use Rattle.std.specs.Prelude.{ℕ, zero, suc, ◌*◌, ◌-◌, ◌/◌, ◌%◌, Bool, true, false, ◌&&◌, List, [], ◌∷◌, map, eqb}
use Rattle.polar.specs.Sigma.{Exponents}
use Rattle.polar.specs.Order.{total, monomials}
use Rattle.polar.specs.Groups.{Group, head, tail}

abbrev pub factorial : ℕ → ℕ
factorial zero = 1
factorial (suc n) = suc n * factorial n

-- the product of the factorials of a list
abbrev pub factorials : List ℕ → ℕ
factorials [] = 1
factorials (n ∷ e) = factorial n * factorials e

-- the binomial or trinomial of the exponents e at degree m
unfoldable pub multinomial : ℕ → List ℕ → ℕ
multinomial m e = factorial m / (factorials e * factorial (m - total e))

-- whether every number of a list divides k
abbrev pub all_divide : List ℕ → ℕ → Bool
all_divide [] k = true
all_divide (n ∷ ns) k = eqb (k % n) 0 && all_divide ns k

-- the first number from k on that passes a test, looked for in n steps
abbrev pub first : (ℕ → Bool) → ℕ → ℕ → ℕ
first test zero k = k
first test (suc n) k = elim (test k) [ true ↦ k | false ↦ first test n (suc k) ]

abbrev pub product : List ℕ → ℕ
product [] = 1
product (n ∷ ns) = n * product ns

-- the least common multiple: the first number from 1 on that every number of the list divides; their product is one
unfoldable pub least_common_multiple : List ℕ → ℕ
least_common_multiple ns = first (all_divide ns) (product ns) 1

-- the scale L of degree m with n coordinates before Z
unfoldable pub scale : ℕ → ℕ → ℕ
scale n m = least_common_multiple (map (multinomial m) (monomials n m))

-- over groups: the products
abbrev pub multinomial_over : List Group → List Exponents → ℕ
multinomial_over [] es = 1
multinomial_over (g ∷ gs) es = multinomial g.degree (head es) * multinomial_over gs (tail es)

abbrev pub scale_over : List Group → ℕ
scale_over [] = 1
scale_over (g ∷ gs) = scale g.dimension g.degree * scale_over gs
