-- The scale L of a kind with its degrees (docs/SPECIFICATION.md, 'Polynomials and polar values'), and the two rows of numbers that it is read off. What is said of the rows,
-- `ScalesReadOff`, one can check with a pencil: docs/RECORDS.md, 'The scale', has the rows and works one degree out.
use Rattle.std.specs.Prelude.{ℕ, zero, suc, ◌≤◌, ◌<◌, ◌≡◌, true, cond, List, [], ◌∷◌, map, length, get_or}
use Rattle.std.specs.Int.{◌∣◌}
use Rattle.polar.specs.Sigma.{Exponents}
use Rattle.polar.specs.Order.{total}
use Rattle.polar.specs.Groups.{Group}
use Rattle.polar.specs.Scale.{multinomial, product, scale_over}
use Rattle.kinds.specs.Kinds.{groups_of, known}

-- the product of the groups' least common multiples of multinomials; 0 for a kind or degrees that no net has
unfoldable pub scale_of : ℕ → ℕ → ℕ → ℕ
scale_of kind degree second = cond (known kind degree second) (scale_over (groups_of kind degree second)) 0

-- ---- the rows

-- the scales of a group, by its dimension: 'curves of degree 1 to 10 have ..', 'patches of degree 1 to 8 have ..'. Degree 1 comes first; another dimension has no row.
abbrev pub scale_row : ℕ → List ℕ
scale_row zero = []
scale_row (suc zero) = 1 ∷ 2 ∷ 3 ∷ 12 ∷ 10 ∷ 60 ∷ 105 ∷ 280 ∷ 252 ∷ 2520 ∷ []
scale_row (suc (suc zero)) = 1 ∷ 2 ∷ 6 ∷ 12 ∷ 60 ∷ 180 ∷ 420 ∷ 1680 ∷ []
scale_row (suc (suc (suc n))) = []

-- the number of a row at a degree; 0 where it has none
abbrev pub at_degree : List ℕ → ℕ → ℕ
at_degree row zero = 0
at_degree row (suc k) = get_or row k 0

-- the number of a group
abbrev pub row_number : Group → ℕ
row_number g = at_degree (scale_row g.dimension) g.degree

-- ---- what is shown of them

-- 'divided by every multinomial of its degree': by m!/(k! (m−k)!) for every k up to m where n is 1, by m!/(h! l! (m−h−l)!) for every h + l up to m where n is 2
abbrev pub DividedByEvery : ℕ → ℕ → ℕ → Type 0
DividedByEvery n m number = (e : Exponents) → length e ≡ n → total e ≤ m → multinomial m e ∣ number

-- .. 'and no smaller positive number is': the number is the least common multiple of the multinomials
pub record IsLeastCommonMultiple (n m number : ℕ) : Type 0 where
  pub positive : 0 < number
  pub divided : DividedByEvery n m number
  pub no-smaller : (k : ℕ) → 0 < k → k < number → DividedByEvery n m k → ⊥

pub record ScalesReadOff : Type 0 where
  -- each number of both rows, at its degree
  pub least : (n m : ℕ) → 1 ≤ m → m ≤ length (scale_row n) → IsLeastCommonMultiple n m (at_degree (scale_row n) m)
  -- the scale of a kind with its degrees is read off the rows: the product of its groups' numbers
  pub read : (kind p q : ℕ) → known kind p q ≡ true → scale_of kind p q ≡ product (map row_number (groups_of kind p q))
