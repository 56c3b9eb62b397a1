-- What the private functions on rows of numbers do to a list. They see one group of a net: w numbers to a row, 1 + n vertices, degree m (entries/specs/Rows.antt).
use Rattle.std.specs.Prelude.{ℕ, zero, suc, ◌+◌, ◌*◌, ◌-◌, ◌^◌, ◌<◌, ◌≤◌, ◌≡◌, Bool, true, ◌&&◌, cond, List, ◌++◌, ltb, ℤ, pos, nat_abs, ◌+ℤ◌, ◌*ℤ◌, get_or, set, take, drop}
use Rattle.integers.specs.Test.{within, all}
use Rattle.polar.specs.Order.{counts}
use Rattle.entries.specs.Entries.{fixed}
use Rattle.entries.specs.Rows.{entry_at, listed, size, offset}
use Rattle.machine.specs.declared.Weights.{Weights}

-- a list with g i written at each place i of from, from + 1, .., from + k - 1
unfoldable pub written : List ℤ → ℕ → ℕ → (ℕ → ℤ) → List ℤ
written xs from zero g = xs
written xs from (suc k) g = set (written xs from k g) (from + k) (g (from + k))

-- in ys every number at or past place k is as it was in xs
abbrev pub KeptFrom : ℕ → List ℤ → List ℤ → Type 0
KeptFrom k xs ys = (i : ℕ) → k ≤ i → get_or ys i (pos 0) ≡ get_or xs i (pos 0)

-- ---- sizes

-- whether g i is within the limit at each place i of from, from + 1, .., from + k - 1
unfoldable pub ranged : ℕ → (ℕ → ℤ) → ℕ → ℕ → Bool
ranged limit g from zero = true
ranged limit g from (suc k) = ranged limit g from k && within limit (g (from + k))

-- what writing blends in place answers and leaves, g i being the blend at each place i of from, from + 1, .., from + k - 1: whether all are within the limit, and then they stand there
abbrev pub BlendsLeft : ℕ → (ℕ → ℤ) → ℕ → ℕ → List ℤ → Bool → List ℤ → Type 0
BlendsLeft limit g from k xs b ys = (b ≡ ranged limit g from k) × (b ≡ true → ys ≡ written xs from k g)

-- the numbers of a list from place lo up to hi are so small that a sum of them with weights of W in all fits 64 bits
pub record Bounded (xs : List ℤ) (lo hi W : ℕ) : Type 0 where
  pub bound : ℕ
  pub each : (i : ℕ) → lo ≤ i → i < hi → nat_abs (get_or xs i (pos 0)) ≤ bound
  pub fits : W * bound < 2 ^ 63

-- the absolute values of the weights of at most three vertices together
abbrev pub weight_sum : Weights → ℕ
weight_sum w = nat_abs w.r + nat_abs w.s + nat_abs w.t

-- a group of two or three vertices, whose rows have room in the places of a net
pub record Sized (w n m : ℕ) : Type 0 where
  pub some : 1 ≤ w
  pub low : 1 ≤ n
  pub high : n ≤ 2
  pub room : size w n m ≤ 180

-- so many numbers are those of whole entries, four to an entry
pub record Whole (count : ℕ) : Type 0 where
  pub entries : ℕ
  pub four : count ≡ 4 * entries

-- ---- places

-- the place of the entry with i copies of the vertices after the first, k of them of the third
abbrev pub place_at : ℕ → ℕ → ℕ → ℕ
place_at zero i k = 0
place_at (suc zero) i k = i
place_at (suc (suc n)) i k = offset (counts 1) i + k

-- the entry after it, the next one of its row or the first of the next row: its copies of the vertices after the first, and of the third
abbrev pub next_row : ℕ → ℕ → ℕ → ℕ
next_row n i k = cond (ltb k ((n - 1) * i)) i (i + 1)

abbrev pub next_third : ℕ → ℕ → ℕ → ℕ
next_third n i k = cond (ltb k ((n - 1) * i)) (k + 1) 0

-- ---- de Casteljau steps

-- the blend of the number at i with those d and e places further on
abbrev pub mixed : List ℤ → ℕ → ℕ → ℤ → ℤ → ℤ → ℕ → ℤ
mixed xs d e a b c i = a *ℤ get_or xs i (pos 0) +ℤ (b *ℤ get_or xs (i + d) (pos 0) +ℤ c *ℤ get_or xs (i + e) (pos 0))

-- the first i rows of a triangle blended with their next rows
unfoldable pub rows_blended : ℕ → List ℤ → Weights → ℕ → List ℤ
rows_blended w xs ws zero = xs
rows_blended w xs ws (suc i) =
    written (rows_blended w xs ws i) (w * offset (counts 1) i) (w * suc i)
    (mixed (rows_blended w xs ws i) (w * suc i) (w * suc i + w) ws.r ws.s ws.t)

-- one step on a net of degree 1 + m: the polar values with one copy of q, in front of what stood past them
unfoldable pub blended : ℕ → ℕ → ℕ → List ℤ → List ℤ → List ℤ
blended w n m ws xs = listed w n m (λ c. fixed (suc n) ws (entry_at w n (suc m) xs c) 1) ++ drop (size w n m) xs

-- What a step in place answers and leaves, zs being the numbers after it and the first k of them new: b is whether these are within the limit, and then ys is zs.
abbrev pub Leaves : ℕ → ℕ → List ℤ → Bool → List ℤ → Type 0
Leaves limit k zs b ys = (b ≡ all (within limit) (take k zs)) × (b ≡ true → ys ≡ zs)

-- h steps on a net of degree m
unfoldable pub level : ℕ → ℕ → ℕ → List ℤ → ℕ → List ℤ → List ℤ
level w n m ws zero xs = xs
level w n m ws (suc h) xs = blended w n (m - suc h) ws (level w n m ws h xs)
