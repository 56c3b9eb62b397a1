-- The places of a group's entries. What holds of a group of two vertices and of a group of three holds of every group that is sized; so the counts of an entry, its place
-- and the end of its row are worked out for each of the two.
use Prim.Native.Nat.{ℕ, zero, suc, ◌+◌, ◌*◌, ◌-◌, ◌/◌, ◌%◌, ◌≤◌, ◌<◌}
use native.Mathlib.Nat.{not-suc-le-zero, add-zero, mul-le-mul_left, mul-le-mul_right, mul-suc, mul_comm, one-mul}
use native.Mathlib.Numerals.{add-one}
use native.Mathlib.Omega.{arith}
use mathlib.Core.Path.{◌≡◌, refl, sym, ap, ◌∙◌, subst}
use mathlib.Core.List.{List, []}
use lib.Arith.{digits_div, digits_mod}
use lib.ListN.{length, get_or}
use Rattle.polar.specs.Order.{total, counts}
use Rattle.entries.specs.Rows.{size, rank, offset}
use Rattle.entries.proofs.Places.{length-counts, placed, place-rank, member-counts}
use Rattle.entries.proofs.Listed.{rank_below}
use Rattle.nets.specs.Rows.{Sized, place_at}
use Rattle.nets.specs.Flips.{counts_at}
use Rattle.entries.proofs.Lengths.{length-one, tri-suc}
use Rattle.nets.proofs.Ranks.{rank-curve, rank-patch, tri-most, size_mono, size-curve, size-patch}

-- ---- two vertices or three

pub by-dimension : (P : ℕ → Type 0) (n : ℕ) → 1 ≤ n → n ≤ 2 → P 1 → P 2 → P n
by-dimension P zero low high one two = absurd (not-suc-le-zero low)
by-dimension P (suc zero) low high one two = one
by-dimension P (suc (suc zero)) low high one two = two
by-dimension P (suc (suc (suc n))) low high one two = absurd (wrong high)
  where
    wrong : suc (suc (suc n)) ≤ 2 → ⊥
    wrong h = omega arith

-- ---- sizes

-- a row before the k-th ends where the k-th begins or before
pub row_inside : (w p k : ℕ) → p < k → w * p + w ≤ w * k
row_inside w p k h = let up = mul-le-mul_left w h in omega (arith, up, mul-suc w p)

pub smaller : {w n m k : ℕ} → Sized w n m → k ≤ m → Sized w n k
smaller {w} {n} {m} {k} s h =
    record { some = s.some; low = s.low; high = s.high; room = let less = size_mono w n k m h in omega (arith, less, s.room) }

-- there are more entries than the degree, and no more than numbers
pub degree-below : (w n m : ℕ) → Sized w n m → m < 180
degree-below w n m s =
    let many = mul-le-mul_right (length (counts n m)) s.some in
    omega (arith, entries, many, one-mul (length (counts n m)), s.room)
  where
    entries : m < length (counts n m)
    entries =
        by-dimension (λ i. m < length (counts i m)) n s.low s.high (omega (arith, length-one m)) (omega (arith, length-counts 1 m, tri-most (suc m)))

-- the third vertex has no more copies than the vertices after the first together
pub spread-most : (n i : ℕ) → 1 ≤ n → n ≤ 2 → (n - 1) * i ≤ i
spread-most n i low high = by-dimension (λ d. (d - 1) * i ≤ i) n low high (omega arith) (omega arith)

-- ---- two digits: a place of row p of rows of w numbers

place_is : (w p i : ℕ) → w * p ≤ i → i ≡ p * w + (i - w * p)
place_is w p i l = let turned = mul_comm w p in omega arith

pub row-digit : (w p i : ℕ) → w * p ≤ i → i < w * p + w → i / w ≡ p
row-digit w p i lo up = ap (λ j. j / w) (place_is w p i lo) ∙ digits_div p (omega arith)

pub own-digit : (w p i : ℕ) → w * p ≤ i → i < w * p + w → i % w ≡ i - w * p
own-digit w p i lo up = ap (λ j. j % w) (place_is w p i lo) ∙ digits_mod p (omega arith)

pub row_of : (w p c : ℕ) → c < w → (w * p + c) / w ≡ p
row_of w p c h = row-digit w p (w * p + c) (omega arith) (omega arith)

pub own_of : (w p c : ℕ) → c < w → (w * p + c) % w ≡ c
own_of w p c h = own-digit w p (w * p + c) (omega arith) (omega arith) ∙ omega arith

-- ---- the counts at a place

-- what the order has at an entry's own place
pub counts-at-rank : (n m : ℕ) (e : List ℕ) → length e ≡ suc n → total e ≡ m → get_or (counts n m) (rank n e) [] ≡ e
counts-at-rank n m e l t = ap (λ p. get_or (counts n m) p []) (sym (place-rank n m e l t)) ∙ (placed e (counts n m) (member-counts n m e l t)).1

-- the entry with i copies of the vertices after the first, k of them of the third
module _ (n m i k : ℕ) (low : 1 ≤ n) (high : n ≤ 2) (below : i ≤ m) (third : k ≤ (n - 1) * i) where
  counts-length : length (counts_at n m i k) ≡ suc n
  counts-length = by-dimension (λ d. length (counts_at d m i k) ≡ suc d) n low high refl refl

  counts-total-is : total (counts_at n m i k) ≡ m
  counts-total-is = by-dimension (λ d. k ≤ (d - 1) * i → total (counts_at d m i k) ≡ m) n low high (λ h. omega arith) (λ h. omega arith) third

  counts-rank : rank n (counts_at n m i k) ≡ place_at n i k
  counts-rank =
      by-dimension (λ d. k ≤ (d - 1) * i → rank d (counts_at d m i k) ≡ place_at d i k) n low high (λ h. rank-curve (m - i) i)
      (λ h. rank-patch (m - i) (i - k) k ∙ ap (λ y. offset (counts 1) y + k) (together h)) third
    where
      together : k ≤ (2 - 1) * i → i - k + k ≡ i
      together h = omega arith

  -- the counts that the order has at the place
  pub counts-at-place : get_or (counts n m) (place_at n i k) [] ≡ counts_at n m i k
  counts-at-place = ap (λ p. get_or (counts n m) p []) (sym counts-rank) ∙ counts-at-rank n m (counts_at n m i k) counts-length counts-total-is

  -- an entry's row lies among the numbers
  pub place_inside : (w : ℕ) → w * place_at n i k + w ≤ size w n m
  place_inside w = row_inside w (place_at n i k) (length (counts n m)) (subst (λ p. p < length (counts n m)) counts-rank (rank_below 1 n m (counts_at n m i k) counts-length counts-total-is))

-- ---- rows one after the other

pub place-step : (n i k : ℕ) → 1 ≤ n → n ≤ 2 → k ≤ (n - 1) * i → place_at n i k ≡ place_at n i 0 + k
place-step n i k low high = by-dimension (λ d. k ≤ (d - 1) * i → place_at d i k ≡ place_at d i 0 + k) n low high (λ h. omega arith) (λ h. omega arith)

-- the next row begins where the row ends
pub place-row : (n i : ℕ) → 1 ≤ n → n ≤ 2 → place_at n (i + 1) 0 ≡ place_at n i 0 + suc ((n - 1) * i)
place-row n i low high =
    by-dimension (λ d. place_at d (i + 1) 0 ≡ place_at d i 0 + suc ((d - 1) * i)) n low high (omega arith)
    (ap (λ y. offset (counts 1) y + 0) (add-one i) ∙ omega (arith, tri-suc i))

pub place-whole : (w n m : ℕ) → 1 ≤ n → n ≤ 2 → w * place_at n (m + 1) 0 ≡ size w n m
place-whole w n m low high =
    by-dimension (λ d. w * place_at d (m + 1) 0 ≡ size w d m) n low high (sym (size-curve w m)) (ap (λ y. w * y) (add-zero (offset (counts 1) (m + 1))) ∙ sym (size-patch w m))
