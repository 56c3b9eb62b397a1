-- Parameter points and the symmetric functions σ of a list of them (docs/SPECIFICATION.md, 'Polynomials and polar values').
-- A parameter point is the list of its coordinates, with Z last: T, Z for a curve and U, V, Z for a patch.
-- The exponents of a monomial are those of the coordinates before Z: k for a curve and h, l for a patch.
use Rattle.std.specs.Prelude.{ℕ, zero, suc, List, [], ◌∷◌, ℤ, pos, ◌*ℤ◌, get_or}
use Rattle.integers.specs.Sum.{sum, upto}

abbrev pub Point : Type 0
Point = List ℤ

abbrev pub Exponents : Type 0
Exponents = List ℕ

-- f at the exponents that are one lower in coordinate c. A negative index gives 0; a coordinate past the exponents is Z, which lowers none.
abbrev pub lowered : ℕ → (Exponents → ℤ) → Exponents → ℤ
lowered c f [] = f []
lowered zero f (zero ∷ e) = pos 0
lowered zero f (suc n ∷ e) = f (n ∷ e)
lowered (suc c) f (n ∷ e) = lowered c (λ rest. f (n ∷ rest)) e

-- 1 where every exponent is 0, and 0 elsewhere
abbrev pub unit : Exponents → ℤ
unit [] = pos 1
unit (zero ∷ e) = unit e
unit (suc n ∷ e) = pos 0

-- σ of a list of parameter points with d coordinates each: of the empty list 1 at exponents 0 and 0 elsewhere.
-- Adding a point adds up, over its coordinates, the coordinate times σ of the shorter list one lower in that coordinate.
unfoldable pub σ : ℕ → List Point → Exponents → ℤ
σ d [] e = unit e
σ d (p ∷ ps) e = sum (λ c. get_or p c (pos 0) *ℤ lowered c (σ d ps) e) (upto d)
