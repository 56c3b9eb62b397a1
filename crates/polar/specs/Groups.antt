-- Kinds as lists of groups of vertices (docs/SPECIFICATION.md, 'Polynomials and polar values'). A curve is one group of two vertices, a patch one of three, a rectangular patch
-- two of two. Each group has a degree, parameter points and monomials of its own; what has a member for each group is a list. Names in `Over` are over a list of groups.
use Rattle.std.specs.Prelude.{ℕ, List, [], ◌∷◌, map}
use Rattle.polar.specs.Sigma.{Exponents}
use Rattle.polar.specs.Order.{joined, monomials, counts}

-- a group's points are taken `degree` at a time; it has as many coordinates before Z as vertices after the first
pub record Group : Type 0 where
  pub dimension : ℕ
  pub degree : ℕ

-- Of a list with a member for each group, which is itself a list (counts, exponents, points, weights, a
-- frame): the first group's member, and the list of those of the groups after it. They are for lists of lists
-- only; where the list ends, both are empty.
abbrev pub head : {A : Type 0} → List (List A) → List A
head [] = []
head (x ∷ xs) = x

abbrev pub tail : {A : Type 0} → List (List A) → List (List A)
tail [] = []
tail (x ∷ xs) = xs

-- each of xs before each of yss, those of yss running faster
abbrev pub pairs : {A : Type 0} → List A → List (List A) → List (List A)
pairs xs yss = joined (λ x. map (λ ys. x ∷ ys) yss) xs

-- the monomials: one of each group, in all ways
unfoldable pub monomials_over : List Group → List (List Exponents)
monomials_over [] = [] ∷ []
monomials_over (g ∷ gs) = pairs (monomials g.dimension g.degree) (monomials_over gs)

-- how often each vertex of each group is taken in the entries of a net
unfoldable pub counts_over : List Group → List (List (List ℕ))
counts_over [] = [] ∷ []
counts_over (g ∷ gs) = pairs (counts g.dimension g.degree) (counts_over gs)
