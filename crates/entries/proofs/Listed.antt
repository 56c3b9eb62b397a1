-- A net's numbers and its entries as a function of the counts are two views of one thing: reading the list at an entry's place gives the function's value,
-- and a list that has the function's values at all places is the list of the function. A number's place is two digits: w times the entry's place, and the number in its row.
use Prim.Native.Nat.{ℕ, zero, suc, ◌+◌, ◌*◌, ◌-◌, ◌/◌, ◌%◌, ◌≤◌, ◌<◌, suc-le-suc, zero-le}
use native.Mathlib.Nat.{le_of_suc-le-suc, not-suc-le-zero, mul-zero, mul-suc, zero-add, add_comm, add_assoc, mul-le-mul_left, mod-lt, div-add-mod, div-lt_iff_lt-mul, mul_comm}
use native.Mathlib.Omega.{arith}
use native.Mathlib.Decide.{dec_lt}
use mathlib.Core.Path.{◌≡◌, refl, sym, ap, ap₂, ◌∙◌, subst}
use mathlib.Core.List.{List, [], ◌∷◌, ◌++◌, map, map-map, Memᴰ}
use lib.IntN.{ℤ, pos}
use lib.ListN.{length, get_or, drop, length-append, length-drop, length-map, get_or-append}
use lib.Seq.{get_or-append-add, get_or-drop, ext_get_or}
use Rattle.integers.specs.Sum.{upto}
use Rattle.integers.proofs.Sums.{length-upto}
use Rattle.polar.specs.Order.{joined, total, counts}
use Rattle.polar.proofs.Sigma.{at-upto}
use Rattle.entries.specs.Entries.{place_of}
use Rattle.entries.specs.Rows.{entry_at, listed, size, rank}
use Rattle.entries.proofs.Places.{placed, place-rank, member-counts, counts-at, rank-at}

-- ---- two digits

pub digits-below : (w p c k : ℕ) → p < k → c < w → w * p + c < w * k
digits-below w p c k h l = let up = mul-le-mul_left w h in omega (arith, up, mul-suc w p)

pub next-digit : (w p c : ℕ) → w * suc p + c ≡ w + (w * p + c)
next-digit w p c = ap (λ x. x + c) (mul-suc w p ∙ add_comm (w * p) w) ∙ add_assoc w (w * p) c

pub first-digit : (w c : ℕ) → w * 0 + c ≡ c
first-digit w c = ap (λ x. x + c) (mul-zero w) ∙ zero-add c

-- ---- rows one after the other, of the members of any list

pub map-upto : {A : Type 0} (n : ℕ) (f g : ℕ → A) → ((i : ℕ) → i < n → f i ≡ g i) → map f (upto n) ≡ map g (upto n)
map-upto zero f g h = refl
map-upto (suc n) f g h =
    ap₂ (λ x l. x ∷ l) (h 0 (suc-le-suc zero-le))
    (map-map f suc (upto n) ∙ map-upto n (λ i. f (suc i)) (λ i. g (suc i)) (λ i k. h (suc i) (suc-le-suc k)) ∙ sym (map-map g suc (upto n)))

module _ {A : Type 0} (w : ℕ) (g : ℕ → A → ℤ) where
  -- the numbers of a member
  abbrev pub row : A → List ℤ
  row e = map (λ c. g c e) (upto w)

  length-row : (e : A) → length (row e) ≡ w
  length-row e = length-map (upto w) (λ c. g c e) ∙ length-upto w

  pub length-rows : (es : List A) → length (joined row es) ≡ w * length es
  length-rows [] = sym (mul-zero w)
  length-rows (e ∷ es) = length-append (row e) (joined row es) ∙ ap₂ ◌+◌ (length-row e) (length-rows es) ∙ add_comm w (w * length es) ∙ sym (mul-suc w (length es))

  pub rows_at : (a : A) (es : List A) (p c : ℕ) → p < length es → c < w → get_or (joined row es) (w * p + c) (pos 0) ≡ g c (get_or es p a)
  rows_at a [] p c h k = absurd (not-suc-le-zero h)
  rows_at a (e ∷ es) zero c h k =
      ap (λ i. get_or (row e ++ joined row es) i (pos 0)) (first-digit w c)
      ∙ get_or-append (row e) (joined row es) (pos 0) c (subst (λ i. c < i) (sym (length-row e)) k)
      ∙ at-upto w (λ i. g i e) c k
  rows_at a (e ∷ es) (suc p) c h k =
      ap (λ i. get_or (row e ++ joined row es) i (pos 0)) (next-digit w p c ∙ ap (λ i. i + (w * p + c)) (sym (length-row e)))
      ∙ get_or-append-add (row e) (joined row es) (w * p + c) (pos 0)
      ∙ rows_at a es p c (le_of_suc-le-suc h) k

-- functions that agree at the members
pub rows-cong : {A : Type 0} (w : ℕ) (f g : ℕ → A → ℤ) (es : List A) → ((c : ℕ) (e : A) → c < w → Memᴰ e es → f c e ≡ g c e) → joined (row w f) es ≡ joined (row w g) es
rows-cong w f g [] h = refl
rows-cong w f g (e ∷ es) h =
    ap₂ ◌++◌ (map-upto w (λ c. f c e) (λ c. g c e) (λ c k. h c e k (Memᴰ.head refl))) (rows-cong w f g es (λ c x k m. h c x k (Memᴰ.tail m)))

-- ---- the entries of one group

module _ (w n m : ℕ) where
  pub length-listed : (g : ℕ → List ℕ → ℤ) → length (listed w n m g) ≡ size w n m
  unfolding listed
  length-listed g = length-rows w g (counts n m)

  listed_at : (g : ℕ → List ℕ → ℤ) (p c : ℕ) → p < length (counts n m) → c < w → get_or (listed w n m g) (w * p + c) (pos 0) ≡ g c (get_or (counts n m) p [])
  unfolding listed
  listed_at g p c h k = rows_at w g [] (counts n m) p c h k

  -- an entry's numbers stand at its rank
  pub entry-rank : (xs : List ℤ) (c : ℕ) (e : List ℕ) → length e ≡ suc n → total e ≡ m → entry_at w n m xs c e ≡ get_or xs (w * rank n e + c) (pos 0)
  unfolding entry_at
  entry-rank xs c e l t = ap (λ p. get_or xs (w * p + c) (pos 0)) (place-rank n m e l t)

  pub rank_below : (e : List ℕ) → length e ≡ suc n → total e ≡ m → rank n e < length (counts n m)
  rank_below e l t = subst (λ p. p < length (counts n m)) (place-rank n m e l t) (placed e (counts n m) (member-counts n m e l t)).0

  -- reading a listed function at an entry gives its value there
  pub entry_listed : (g : ℕ → List ℕ → ℤ) (rest : List ℤ) (c : ℕ) (e : List ℕ) → c < w → length e ≡ suc n → total e ≡ m → entry_at w n m (listed w n m g ++ rest) c e ≡ g c e
  unfolding entry_at
  entry_listed g rest c e k l t =
      let r = placed e (counts n m) (member-counts n m e l t) in
      get_or-append (listed w n m g) rest (pos 0) (w * place_of e (counts n m) + c) (within (place_of e (counts n m)) r.0)
      ∙ listed_at g (place_of e (counts n m)) c r.0 k
      ∙ ap (g c) r.1
    where
      within : (p : ℕ) → p < length (counts n m) → w * p + c < length (listed w n m g)
      within p h = subst (λ s. w * p + c < s) (sym (length-listed g)) (digits-below w p c (length (counts n m)) h k)

  -- a list with the function's values at the entries' places, and x's numbers past them
  pub net-ext : 0 < w → (ys xs : List ℤ) (g : ℕ → List ℕ → ℤ) → length ys ≡ length xs → size w n m ≤ length xs
      → ((c : ℕ) (e : List ℕ) → c < w → length e ≡ suc n → total e ≡ m → get_or ys (w * rank n e + c) (pos 0) ≡ g c e)
      → ((i : ℕ) → size w n m ≤ i → get_or ys i (pos 0) ≡ get_or xs i (pos 0))
      → ys ≡ listed w n m g ++ drop (size w n m) xs
  net-ext some ys xs g l s inside outside =
      ext_get_or (pos 0) ys (listed w n m g ++ drop all xs) lengths (λ i h. by i (dec_lt i all))
    where
      all : ℕ
      all = size w n m

      lengths : length ys ≡ length (listed w n m g ++ drop all xs)
      lengths = l ∙ sum_is ∙ sym (length-append (listed w n m g) (drop all xs) ∙ ap₂ ◌+◌ (length-listed g) (length-drop all xs))
        where
          sum_is : length xs ≡ all + (length xs - all)
          sum_is = omega arith

      by : (i : ℕ) → Dec (i < all) → get_or ys i (pos 0) ≡ get_or (listed w n m g ++ drop all xs) i (pos 0)
      by i (yes h) =
          let p-below : i / w < length (counts n m) = (div-lt_iff_lt-mul some).1 (subst (λ k. i < k) (mul_comm w (length (counts n m))) h) in
          let c-below : i % w < w = mod-lt i some in
          let i-is : i ≡ w * (i / w) + i % w = sym (div-add-mod i w) in
          let v = counts-at n m (i / w) p-below in
          let e = get_or (counts n m) (i / w) [] in
          ap (λ j. get_or ys j (pos 0)) (i-is ∙ ap (λ j. w * j + i % w) (sym (rank-at n m (i / w) p-below)))
          ∙ inside (i % w) e c-below v.0 v.1
          ∙ sym (listed_at g (i / w) (i % w) p-below c-below)
          ∙ ap (λ j. get_or (listed w n m g) j (pos 0)) (sym i-is)
          ∙ sym (get_or-append (listed w n m g) (drop all xs) (pos 0) i (subst (λ k. i < k) (sym (length-listed g)) h))
      by i (no h) =
          let i-is : i ≡ all + (i - all) = omega arith in
          outside i (omega arith)
          ∙ ap (λ j. get_or xs j (pos 0)) i-is
          ∙ sym (get_or-drop all xs (i - all) (pos 0))
          ∙ sym (get_or-append-add (listed w n m g) (drop all xs) (i - all) (pos 0))
          ∙ ap (λ j. get_or (listed w n m g ++ drop all xs) j (pos 0)) (ap (λ k. k + (i - all)) (length-listed g) ∙ sym i-is)
