-- What the private functions that make the net over the frame of the coordinates do. They see one group: rows of w numbers, 1 + n vertices, degree m.
use Rattle.std.specs.Prelude.{ℕ, zero, suc, ◌+◌, ◌*◌, ◌-◌, ◌/◌, ◌%◌, ◌<◌, ◌≤◌, ◌≡◌, List, [], ◌∷◌, ℤ, pos, nat_abs, ◌*ℤ◌, length, get_or}
use Rattle.polar.specs.Sigma.{Point}
use Rattle.polar.specs.Order.{total, counts, monomials}
use Rattle.polar.specs.Scale.{factorial, factorials, scale}
use Rattle.polar.specs.Groups.{monomials_over}
use Rattle.polar.specs.Polar.{polar_over, column_terms}
use Rattle.entries.specs.Frame.{entry_points, units}
use Rattle.entries.specs.Rows.{size, rank}
use Rattle.kinds.specs.Kinds.{group}
use Rattle.nets.specs.Rows.{Sized, written}

-- the exponents of a monomial: h of the first coordinate, l of the second where there is one
abbrev pub exponents_at : ℕ → ℕ → ℕ → List ℕ
exponents_at zero h l = []
exponents_at (suc zero) h l = h ∷ []
exponents_at (suc (suc n)) h l = h ∷ l ∷ []

-- h and l are the exponents of a monomial of degree m or less, m being at most 10
pub record Monomial (n m h l : ℕ) : Type 0 where
  pub low : 1 ≤ n
  pub high : n ≤ 2
  pub ten : m ≤ 10
  pub whole : h + l ≤ m
  pub second : l ≤ (n - 1) * m

-- what m! is divided by in the monomial's multinomial
abbrev pub denominator : ℕ → ℕ → ℕ → ℕ → ℕ
denominator n m h l = let e = exponents_at n h l in factorials e * factorial (m - total e)

-- the numbers handed on from entry to entry: the scale, and the factorial of the degree
pub record Scales (n m all whole : ℕ) : Type 0 where
  pub scale-is : all ≡ scale n m
  pub whole_is : whole ≡ factorial m

-- the polar value of a list of points of the polynomial of one group whose coefficients are column c of these numbers
abbrev pub row_polar : ℕ → ℕ → ℕ → List ℤ → ℕ → List Point → ℤ
row_polar w n m numbers c ps = let gs = group n m ∷ [] in polar_over gs (column_terms w c (monomials_over gs) numbers) (ps ∷ [])

-- the number at place i of the net over the frame of the coordinates
unfoldable pub coordinate_at : ℕ → ℕ → ℕ → List ℤ → ℕ → ℤ
coordinate_at w n m numbers i = row_polar w n m numbers (i % w) (entry_points (units n) (get_or (counts n m) (i / w) []))

-- no number before place hi is beyond B in absolute value
abbrev pub NoneBeyond : ℕ → ℕ → List ℤ → Type 0
NoneBeyond B hi numbers = (i : ℕ) → i < hi → nat_abs (get_or numbers i (pos 0)) ≤ B

-- what the making asks for: room, a scale of at most 2520, and coefficients that are there and so small that 2520 times one fits 64 bits
pub record Limited (w n m : ℕ) (numbers : List ℤ) : Type 0 where
  pub sized : Sized w n m
  pub low : 1 ≤ m
  pub high : m ≤ 10
  pub scaled : scale n m ≤ 2520
  pub long : w * length (monomials n m) ≤ length numbers
  pub each : NoneBeyond 281474976710656 (w * length (monomials n m)) numbers

-- what is made: every entry is its polar value, and where no coefficient is beyond B no entry is beyond the scale times B
pub record Coordinates (w n m : ℕ) (numbers xs : List ℤ) : Type 0 where
  pub entries : (c : ℕ) (e : List ℕ) → c < w → length e ≡ suc n → total e ≡ m → get_or xs (w * rank n e + c) (pos 0) ≡ row_polar w n m numbers c (entry_points (units n) e)
  pub small : (B : ℕ) → NoneBeyond B (w * length (monomials n m)) numbers → NoneBeyond (scale n m * B) (size w n m) xs

-- ---- one row

-- what putting a row of coefficients, times a factor, into another place asks for: both rows are there, and the products fit 64 bits
pub record ScalesRow (w to from : ℕ) (factor : ℤ) (out numbers : List ℤ) : Type 0 where
  pub room : w * to + w ≤ length out
  pub long : w * from + w ≤ length numbers
  pub few : nat_abs factor ≤ 2520
  pub each : NoneBeyond 281474976710656 (w * from + w) numbers

-- and what it leaves
abbrev pub scaled_row : ℕ → List ℤ → ℕ → List ℤ → ℕ → ℤ → List ℤ
scaled_row w out to numbers from factor = written out (w * to) w (λ i. get_or numbers (w * from + (i - w * to)) (pos 0) *ℤ factor)
