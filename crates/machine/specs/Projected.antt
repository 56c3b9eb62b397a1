-- The values of which one is projected at a common zero (docs/SPECIFICATION.md, 'Common zeros'): 'the numbers
-- projected are the polar value of m − d copies of q and d of r (of s if q's weight of s is 0)'. d is the
-- least number that does not give four zeros again. Both machines share these names; what the values are to a
-- curve's polynomials is stated in crates/zeros/specs/CommonZero.antt.
use Rattle.std.specs.Prelude.{ℕ, suc, ◌-◌, cond, List, [], ◌∷◌, map, eqb, ℤ}
use Rattle.integers.specs.Sum.{upto}
use Rattle.polar.specs.Groups.{Group}
use Rattle.projection.specs.Projection.{is_zero}

-- k copies of q and d of the other vertex, which q's weight s of the vertex s chooses: the counts of q, r and
-- s
abbrev pub other_counts : ℤ → ℕ → ℕ → List ℕ
other_counts s k d = cond (is_zero s) (k ∷ 0 ∷ d ∷ []) (k ∷ d ∷ 0 ∷ [])

-- m − d copies of q and d of the other vertex, d from 1 to m
abbrev pub line_named_at_zero : ℕ → ℤ → List (List (List ℕ))
line_named_at_zero m s = map (λ d. other_counts s (m - suc d) (suc d) ∷ []) (upto m)

-- 'For curves', which are one group of two vertices; 'patches too' read as before, so for them there are none
unfoldable pub named_at_zero : List Group → ℤ → List (List (List ℕ))
named_at_zero [] s = []
named_at_zero (g ∷ []) s = cond (eqb g.dimension 1) (line_named_at_zero g.degree s) []
named_at_zero (g ∷ h ∷ gs) s = []
