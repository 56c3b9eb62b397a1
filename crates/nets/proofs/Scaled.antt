-- The net over the frame of the coordinates: each entry is a coefficient times the scale divided by its multinomial.
use Prim.Native.Nat.{ℕ, zero, suc, ◌+◌, ◌*◌, ◌-◌, ◌/◌, ◌%◌, ◌≤◌, ◌<◌, zero-le, suc-le-suc}
use native.Mathlib.Nat.{add-zero, zero-add, mul-one, mul-zero, mul_comm, zero-mul, div-zero, not-suc-le-zero, le_of_suc-le-suc, suc-ne-zero, le_trans, le_of_eq, mul-le-mul_left, le-mul_of_pos_right, div-eq_of_lt, div-le_self, div-eq_of_eq-mul_right, mul-div-mul_right, div-lt_iff_lt-mul, mod-lt}
use native.Mathlib.Omega.{arith}
use native.Mathlib.Decide.{dec_le}
use mathlib.Core.Path.{◌≡◌, refl, sym, ap, ap₂, ◌∙◌, subst}
use mathlib.Core.List.{List, [], ◌∷◌}
use lib.Dec.{lit≤}
use lib.IntN.{ℤ, pos, nat_abs, ◌*ℤ◌}
use lib.ListN.{length, get_or, drop}
use lib.Seq.{get_or-drop}
use Rattle.integers.proofs.Signed.{abs-*-le}
use Rattle.polar.specs.Order.{total, counts, monomials}
use Rattle.polar.specs.Sigma.{Exponents}
use Rattle.polar.specs.Groups.{Group, pairs, monomials_over}
use Rattle.polar.specs.Polar.{polar_over, column_terms, terms}
use Rattle.polar.specs.Scale.{factorial, multinomial, scale}
use Rattle.polar.proofs.Diagonal.{multinomial-pos, multinomial-whole}
use Rattle.entries.specs.Frame.{entry_points, units}
use Rattle.entries.specs.Entries.{place_of}
use Rattle.entries.specs.Rows.{size, rank, offset}
use Rattle.entries.proofs.Places.{counts-at}
use Rattle.entries.proofs.Listed.{rank_below, digits-below, next-digit, first-digit}
use Rattle.entries.proofs.ListedOver.{length_pairs}
use Rattle.entries.proofs.Standard.{standard, place-below, place-two, offset_step}
use Rattle.kinds.specs.Kinds.{group}
use Rattle.nets.specs.Rows.{written, place_at}
use Rattle.nets.specs.Flips.{counts_at}
use Rattle.nets.specs.Coordinates.{exponents_at, row_polar, NoneBeyond, Limited, coordinate_at, Coordinates, Monomial, denominator, scaled_row}
use Rattle.nets.proofs.Lists.{written_at, written-cong}
use Rattle.nets.proofs.Places.{by-dimension, spread-most, row-digit, own-digit, row_of, own_of, counts-at-rank, counts-at-place}
use Rattle.nets.proofs.Factorials.{factorial-up}

-- ---- multinomials

-- a divisor whose quotient is not 0 is no more than the number
divisor-up : (x d : ℕ) → 0 < x / d → d ≤ x
divisor-up x d h = by (dec_le d x)
  where
    by : Dec (d ≤ x) → d ≤ x
    by (yes p) = p
    by (no p) = absurd (wrong h (div-eq_of_lt {n = x} {m = d} (omega arith)))
      where
        wrong : 0 < x / d → x / d ≡ 0 → ⊥
        wrong a b = omega arith

-- and not 0 itself
divisor-pos : (x d : ℕ) → 0 < x / d → 0 < d
divisor-pos x zero h = absurd (not-suc-le-zero (subst (λ k. 0 < k) (div-zero x) h))
divisor-pos x (suc d) h = suc-le-suc zero-le

-- nor is a factor of a product that is not
factor-pos : (x y : ℕ) → 0 < x * y → 0 < y
factor-pos x zero h = absurd (not-suc-le-zero (subst (λ k. 0 < k) (mul-zero x) h))
factor-pos x (suc y) h = suc-le-suc zero-le

module _ (n m h l : ℕ) (is : Monomial n m h l) where
  exponents-length : length (exponents_at n h l) ≡ n
  exponents-length = by-dimension (λ d. length (exponents_at d h l) ≡ d) n is.low is.high refl refl

  exponents-total : total (exponents_at n h l) ≤ m
  exponents-total = let within = is.whole in by-dimension (λ d. total (exponents_at d h l) ≤ m) n is.low is.high (omega arith) (omega arith)

  pub parts : factorial h * factorial l * factorial (m - h - l) ≡ denominator n m h l
  parts =
      by-dimension (λ d. l ≤ (d - 1) * m → factorial h * factorial l * factorial (m - h - l) ≡ denominator d m h l) n is.low is.high
      (λ a. let none : l ≡ 0 = omega arith in ap₂ (λ x y. factorial h * factorial x * factorial y) none (curve-left none))
      (λ a. ap₂ (λ x y. factorial h * x * factorial y) (sym (mul-one (factorial l))) patch-left)
      is.second
    where
      curve-left : l ≡ 0 → m - h - l ≡ m - (h + 0)
      curve-left none = omega arith

      patch-left : m - h - l ≡ m - (h + (l + 0))
      patch-left = omega arith

  quotient-pos : 0 < factorial m / denominator n m h l
  unfolding multinomial
  quotient-pos = multinomial-pos n m (exponents_at n h l) exponents-length exponents-total

  denominator-pos : 0 < denominator n m h l
  denominator-pos = divisor-pos (factorial m) (denominator n m h l) quotient-pos

  pub denominator-up : denominator n m h l ≤ 3628800
  denominator-up = let ten = is.ten in le_trans (divisor-up (factorial m) (denominator n m h l) quotient-pos) (factorial-up m (omega arith))

  pub pair-up : factorial h * factorial l ≤ 3628800
  pair-up =
      le_trans (le-mul_of_pos_right (factorial h * factorial l) (factor-pos (factorial h * factorial l) (factorial (m - h - l)) (subst (λ k. 0 < k) (sym parts) denominator-pos)))
      (le_trans (le_of_eq parts) denominator-up)

  -- the denominator times the multinomial is m!, so one division is as good as two
  pub one-division : (all : ℕ) → all * denominator n m h l / factorial m ≡ all / multinomial m (exponents_at n h l)
  one-division all =
      let k = multinomial m (exponents_at n h l) in
      ap (λ d. all * denominator n m h l / d) (sym (mul_comm k (denominator n m h l) ∙ multinomial-whole n m (exponents_at n h l) exponents-length exponents-total))
      ∙ mul-div-mul_right all k denominator-pos

  -- the place lies among the monomials
  pub exponents-place : place_of (exponents_at n h l) (monomials n m) < length (monomials n m)
  exponents-place = place-below n m (exponents_at n h l) exponents-length exponents-total

-- ---- the places of monomials

-- how many monomials in two coordinates of degree h + d stand before row h
rows-double : (m h d : ℕ) → m ≡ h + d → 2 * offset (λ j. monomials 1 (m - j)) h ≡ h * (h + 2 * d + 3)
rows-double m zero d e = sym (zero-mul (0 + 2 * d + 3))
rows-double m (suc h) d e =
    let rest : 2 * offset (λ j. monomials 1 (m - j)) h ≡ h * (h + 2 * suc d + 3) = rows-double m h (suc d) (omega arith) in
    let left : suc (m - h) ≡ suc (suc d) = omega arith in
    ap (λ x. 2 * x) (offset_step m h ∙ ap (λ x. offset (λ j. monomials 1 (m - j)) h + x) left) ∙ omega arith

pub patch-place : (m h l : ℕ) → h + l ≤ m → h * (h + 2 * (m - h) + 3) / 2 + l ≡ place_of (h ∷ l ∷ []) (monomials 2 m)
patch-place m h l b =
    ap (λ x. x + l) (div-eq_of_eq-mul_right (lit≤ tt) (sym (rows-double m h (m - h) (omega arith)))) ∙ sym (place-two m h l b)

-- ---- one entry

-- column c of rows of w numbers, four places to a number as a record has them
abbrev column_of : ℕ → ℕ → ℕ → List ℤ → List ℤ
column_of w c zero numbers = []
column_of w c (suc k) numbers = get_or numbers c (pos 0) ∷ pos 0 ∷ pos 0 ∷ pos 0 ∷ column_of w c k (drop w numbers)

column-terms : (w c : ℕ) (es : List (List Exponents)) (numbers : List ℤ) → column_terms w c es numbers ≡ terms 0 es (column_of w c (length es) numbers)
column-terms w c [] numbers = refl
column-terms w c (e ∷ es) numbers = ap (λ ts. record { exponents = e; coefficient = get_or numbers c (pos 0) } ∷ ts) (column-terms w c es (drop w numbers))

column-at : (w c k : ℕ) (numbers : List ℤ) (p : ℕ) → p < k → get_or (column_of w c k numbers) (4 * p + 0) (pos 0) ≡ get_or numbers (w * p + c) (pos 0)
column-at w c zero numbers p h = absurd (not-suc-le-zero h)
column-at w c (suc k) numbers zero h = ap (λ i. get_or numbers i (pos 0)) (sym (first-digit w c))
column-at w c (suc k) numbers (suc p) h =
    ap (λ i. get_or (column_of w c (suc k) numbers) i (pos 0)) four-more
    ∙ column-at w c k (drop w numbers) p (le_of_suc-le-suc h)
    ∙ get_or-drop w numbers (w * p + c) (pos 0)
    ∙ ap (λ i. get_or numbers i (pos 0)) (sym (next-digit w p c))
  where
    four-more : 4 * suc p + 0 ≡ suc (suc (suc (suc (4 * p + 0))))
    four-more = omega arith

-- over the frame of the coordinates the polar value of one group is the scaled coefficient
standard-one : (w n m c : ℕ) (numbers : List ℤ) (i : ℕ) (e : List ℕ) → length e ≡ n → i + total e ≡ m
    → row_polar w n m numbers c (entry_points (units n) (i ∷ e)) ≡ get_or numbers (w * place_of e (monomials n m) + c) (pos 0) *ℤ pos (scale n m / multinomial m e)
unfolding monomials_over
standard-one w n m c numbers i e l t =
    ap (λ ts. polar_over gs ts (entry_points (units n) (i ∷ e) ∷ [])) (column-terms w c (monomials_over gs) numbers)
    ∙ standard gs 0 (column_of w c (length (monomials_over gs)) numbers) ((i ∷ e) ∷ []) (ap suc l, t, tt)
    ∙ (λ j. get_or (column_of w c (length (monomials_over gs)) numbers) (4 * place_is j + 0) (pos 0) *ℤ pos (mul-one (scale n m) j / mul-one (multinomial m e) j))
    ∙ ap (λ a. a *ℤ pos (scale n m / multinomial m e)) (column-at w c (length (monomials_over gs)) numbers (place_of e (monomials n m)) below)
  where
    gs : List Group
    gs = group n m ∷ []

    place_is : place_of e (monomials n m) * 1 + 0 ≡ place_of e (monomials n m)
    place_is = add-zero (place_of e (monomials n m) * 1) ∙ mul-one (place_of e (monomials n m))

    below : place_of e (monomials n m) < length (pairs (monomials n m) ([] ∷ []))
    below = subst (λ k. place_of e (monomials n m) < k) (sym (length_pairs [] ([] ∷ []) (monomials n m) ∙ mul-one (length (monomials n m)))) (place-below n m e l (omega arith))

-- the entry with i copies of the vertices after the first, k of them of the third
scaled-entry : (w n m i k c : ℕ) (numbers : List ℤ) → 1 ≤ n → n ≤ 2 → i ≤ m → k ≤ (n - 1) * i
    → row_polar w n m numbers c (entry_points (units n) (counts_at n m i k))
    ≡ get_or numbers (w * place_of (exponents_at n (i - k) k) (monomials n m) + c) (pos 0) *ℤ pos (scale n m / multinomial m (exponents_at n (i - k) k))
scaled-entry w n m i k c numbers low high b =
    by-dimension
    (λ d. k ≤ (d - 1) * i → row_polar w d m numbers c (entry_points (units d) (counts_at d m i k))
    ≡ get_or numbers (w * place_of (exponents_at d (i - k) k) (monomials d m) + c) (pos 0) *ℤ pos (scale d m / multinomial m (exponents_at d (i - k) k)))
    n low high
    (λ h. standard-one w 1 m c numbers (m - i) (i ∷ []) refl (curve-sum h) ∙ ap (λ j. get_or numbers (w * place_of (j ∷ []) (monomials 1 m) + c) (pos 0) *ℤ pos (scale 1 m / multinomial m (j ∷ []))) (whole h))
    (λ h. standard-one w 2 m c numbers (m - i) ((i - k) ∷ k ∷ []) refl (patch-sum h))
  where
    curve-sum : k ≤ (1 - 1) * i → m - i + (i + 0) ≡ m
    curve-sum h = omega arith

    whole : k ≤ (1 - 1) * i → i ≡ i - k
    whole h = omega arith

    patch-sum : k ≤ (2 - 1) * i → m - i + (i - k + (k + 0)) ≡ m
    patch-sum h = omega arith

-- the four numbers that are put are those of the net
entry_at : (w n m i k : ℕ) (numbers : List ℤ) → 1 ≤ n → n ≤ 2 → i ≤ m → k ≤ (n - 1) * i → (j : ℕ) → w * place_at n i k ≤ j → j < w * place_at n i k + w
    → get_or numbers (w * place_of (exponents_at n (i - k) k) (monomials n m) + (j - w * place_at n i k)) (pos 0) *ℤ pos (scale n m / multinomial m (exponents_at n (i - k) k))
    ≡ coordinate_at w n m numbers j
unfolding coordinate_at
entry_at w n m i k numbers low high b third j lo up =
    sym
    (ap₂ (λ c e. row_polar w n m numbers c (entry_points (units n) e)) (own-digit w (place_at n i k) j lo up)
    (ap (λ p. get_or (counts n m) p []) (row-digit w (place_at n i k) j lo up) ∙ counts-at-place n m i k low high b third)
    ∙ scaled-entry w n m i k (j - w * place_at n i k) numbers low high b third)

-- what the counts of an entry tell of its exponents
pub exponents-within : (n m i k : ℕ) → 1 ≤ n → n ≤ 2 → m ≤ 10 → i ≤ m → k ≤ (n - 1) * i → (k ≤ i) × Monomial n m (i - k) k
exponents-within n m i k low high ten b third =
    let few : k ≤ i = le_trans third (spread-most n i low high) in
    (few, record { low = low; high = high; ten = ten; whole = omega arith; second = le_trans third (mul-le-mul_left (n - 1) b) })

pub entry-put : (w n m i k to from : ℕ) (times : ℤ) (out numbers ys : List ℤ) → 1 ≤ n → n ≤ 2 → i ≤ m → k ≤ (n - 1) * i
    → to ≡ place_at n i k → from ≡ place_of (exponents_at n (i - k) k) (monomials n m)
    → times ≡ pos (scale n m / multinomial m (exponents_at n (i - k) k))
    → ys ≡ scaled_row w out to numbers from times
    → ys ≡ written out (w * place_at n i k) w (coordinate_at w n m numbers)
entry-put w n m i k to from times out numbers ys low high b third to_is from_is times-is is =
    is ∙ (λ z. scaled_row w out (to_is z) numbers (from_is z) (times-is z))
    ∙ written-cong out (w * place_at n i k) w
    (λ j. get_or numbers (w * place_of (exponents_at n (i - k) k) (monomials n m) + (j - w * place_at n i k)) (pos 0) *ℤ pos (scale n m / multinomial m (exponents_at n (i - k) k)))
    (coordinate_at w n m numbers) (entry_at w n m i k numbers low high b third)

-- ---- all entries

module _ (w n m : ℕ) (numbers : List ℤ) (limited : Limited w n m numbers) where
  -- a polar value over the frame of the coordinates is small
  pub polar-small : (B : ℕ) → NoneBeyond B (w * length (monomials n m)) numbers → (c : ℕ) → c < w → (e : List ℕ) → length e ≡ suc n → total e ≡ m
      → nat_abs (row_polar w n m numbers c (entry_points (units n) e)) ≤ scale n m * B
  polar-small B each c h [] l t = absurd (suc-ne-zero _ (sym l))
  polar-small B each c h (i ∷ e) l t =
      let len : length e ≡ n = omega arith in
      let place = place-below n m e len (omega arith) in
      subst (λ v. nat_abs v ≤ scale n m * B) (sym (standard-one w n m c numbers i e len t))
      (subst (λ k. nat_abs (get_or numbers (w * place_of e (monomials n m) + c) (pos 0) *ℤ pos (scale n m / multinomial m e)) ≤ k) (mul_comm B (scale n m))
      (abs-*-le (get_or numbers (w * place_of e (monomials n m) + c) (pos 0)) (pos (scale n m / multinomial m e))
      (each (w * place_of e (monomials n m) + c) (digits-below w (place_of e (monomials n m)) c (length (monomials n m)) place h)) (div-le_self (scale n m) (multinomial m e))))

  pub coordinates-made : (xs ys : List ℤ) → size w n m ≤ length xs → ys ≡ written xs 0 (size w n m) (coordinate_at w n m numbers) → Coordinates w n m numbers ys
  unfolding coordinate_at
  coordinates-made xs ys room is = record { entries = entries-are; small = smalls }
    where
      at : (i : ℕ) → i < size w n m → get_or ys i (pos 0) ≡ coordinate_at w n m numbers i
      at i h =
          ap (λ l. get_or l i (pos 0)) is
          ∙ written_at xs 0 (size w n m) (coordinate_at w n m numbers) i zero-le (subst (λ k. i < k) (sym (zero-add (size w n m))) h) (subst (λ k. k ≤ length xs) (sym (zero-add (size w n m))) room)

      entries-are : (c : ℕ) (e : List ℕ) → c < w → length e ≡ suc n → total e ≡ m → get_or ys (w * rank n e + c) (pos 0) ≡ row_polar w n m numbers c (entry_points (units n) e)
      entries-are c e h l t =
          let r = rank_below w n m e l t in
          at (w * rank n e + c) (digits-below w (rank n e) c (length (counts n m)) r h)
          ∙ ap₂ (λ d p. row_polar w n m numbers d (entry_points (units n) (get_or (counts n m) p []))) (own_of w (rank n e) c h) (row_of w (rank n e) c h)
          ∙ ap (λ y. row_polar w n m numbers c (entry_points (units n) y)) (counts-at-rank n m e l t)

      smalls : (B : ℕ) → NoneBeyond B (w * length (monomials n m)) numbers → NoneBeyond (scale n m * B) (size w n m) ys
      smalls B each i h =
          let p-below : i / w < length (counts n m) = (div-lt_iff_lt-mul limited.sized.some).1 (subst (λ k. i < k) (mul_comm w (length (counts n m))) h) in
          let v = counts-at n m (i / w) p-below in
          subst (λ z. nat_abs z ≤ scale n m * B) (sym (at i h)) (polar-small B each (i % w) (mod-lt i limited.sized.some) (get_or (counts n m) (i / w) []) v.0 v.1)
