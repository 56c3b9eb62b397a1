-- Polynomials, their values and their scaled polar values (docs/SPECIFICATION.md, 'Polynomials and polar values'), for all kinds: over a list of groups.
-- A polynomial is the list of its terms, the exponents of each group and the coefficient.
use Rattle.std.specs.Prelude.{ℕ, zero, suc, ◌-◌, ◌/◌, List, [], ◌∷◌, ℤ, pos, ◌*ℤ◌, get_or, drop}
use Rattle.integers.specs.Sum.{sum}
use Rattle.polar.specs.Sigma.{Point, Exponents, σ}
use Rattle.polar.specs.Order.{total}
use Rattle.polar.specs.Groups.{Group, head, tail}
use Rattle.polar.specs.Scale.{multinomial_over, scale_over}

pub record Term : Type 0 where
  pub exponents : List Exponents
  pub coefficient : ℤ

-- σ over groups, of a list of points for each: the product
abbrev pub σOver : List Group → List (List Point) → List Exponents → ℤ
σOver [] pss es = pos 1
σOver (g ∷ gs) pss es = σ (suc g.dimension) (head pss) (head es) *ℤ σOver gs (tail pss) (tail es)

-- the scaled polar value of a list of points for each group: the sum of a × (L ÷ its multinomial) × its σ
unfoldable pub polar_over : List Group → List Term → List (List Point) → ℤ
polar_over gs terms pss =
    sum (λ t. t.coefficient *ℤ pos (scale_over gs / multinomial_over gs t.exponents) *ℤ σOver gs pss t.exponents) terms

abbrev pub power : ℤ → ℕ → ℤ
power x zero = pos 1
power x (suc k) = x *ℤ power x k

-- the product of the coordinates of q from coordinate c on, each to its exponent
abbrev pub powers : Point → ℕ → Exponents → ℤ
powers q c [] = pos 1
powers q c (k ∷ e) = power (get_or q c (pos 0)) k *ℤ powers q (suc c) e

-- a monomial at a point for each group: in each the coordinates to their exponents, Z to what is left of the degree
abbrev pub powers_over : List Group → List Point → List Exponents → ℤ
powers_over [] qs es = pos 1
powers_over (g ∷ gs) qs es =
    powers (head qs) 0 (head es) *ℤ power (get_or (head qs) g.dimension (pos 0)) (g.degree - total (head es)) *ℤ powers_over gs (tail qs) (tail es)

-- F(q), of a point for each group
unfoldable pub value_over : List Group → List Term → List Point → ℤ
value_over gs terms qs = sum (λ t. t.coefficient *ℤ powers_over gs qs t.exponents) terms

-- the terms of column c of coefficients that stand in rows of w numbers, a row to a monomial
abbrev pub column_terms : ℕ → ℕ → List (List Exponents) → List ℤ → List Term
column_terms w c [] numbers = []
column_terms w c (e ∷ es) numbers = record { exponents = e; coefficient = get_or numbers c (pos 0) } ∷ column_terms w c es (drop w numbers)

-- the terms of component c: the coefficients of a record stand four to a monomial, x, y, z, w
abbrev pub terms : ℕ → List (List Exponents) → List ℤ → List Term
terms c es numbers = column_terms 4 c es numbers
