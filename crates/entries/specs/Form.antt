-- A symmetric multilinear form on lists of parameter points: all that nets need of a polar value.
use Rattle.std.specs.Prelude.{ℕ, ◌≡◌, List, ◌∷◌, ◌++◌, map, ℤ, pos, neg_ℤ, ◌*ℤ◌, get_or}
use Rattle.integers.specs.Sum.{sum, upto}
use Rattle.polar.specs.Sigma.{Point}
use Rattle.entries.specs.Frame.{combination}

-- a point may be moved to the front, and in the first point the form is linear; d is the number of coordinates
pub record Form (d : ℕ) (G : List Point → ℤ) : Type 0 where
  pub front : (xs : List Point) (p : Point) (ys : List Point) → G (xs ++ (p ∷ ys)) ≡ G (p ∷ (xs ++ ys))
  pub linear : (ws : List ℤ) (fr : ℕ → Point) (ps : List Point) → G (combination d ws fr ∷ ps) ≡ sum (λ v. get_or ws v (pos 0) *ℤ G (fr v ∷ ps)) (upto d)
  pub negated : (p : Point) (ps : List Point) → G (map neg_ℤ p ∷ ps) ≡ neg_ℤ (G (p ∷ ps))
