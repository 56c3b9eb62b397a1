-- Entries written one after the other: the writes of a row join, and so do the rows, whatever function of the place is written.
use Prim.Native.Nat.{ℕ, ◌+◌, ◌*◌, ◌-◌, ◌≤◌, ◌<◌}
use native.Mathlib.Nat.{zero-add, mul-add, mul-one, mul-zero, one-mul, mul-le-mul_right}
use native.Mathlib.Omega.{arith}
use mathlib.Core.Path.{◌≡◌, refl, sym, ap, ap₂, ◌∙◌, subst}
use mathlib.Core.Bool.{Bool, true, false, cond}
use mathlib.Core.List.{List}
use lib.Dec.{ltb}
use borrow.Author.Tests.{ltb-true, ltb-false}
use lib.IntN.{ℤ}
use lib.ListN.{length}
use Rattle.entries.specs.Rows.{size}
use Rattle.nets.specs.Rows.{Sized, place_at, next_row, next_third, written}
use Rattle.nets.proofs.Lists.{written-append}
use Rattle.nets.proofs.Places.{by-dimension, degree-below, place_inside, place-step, place-row, place-whole}

-- one entry more of a row
pub row_more : (w n i k : ℕ) (g : ℕ → ℤ) (out cur ys : List ℤ) → 1 ≤ n → n ≤ 2 → k ≤ (n - 1) * i
    → cur ≡ written out (w * place_at n i 0) (w * k) g → ys ≡ written cur (w * place_at n i k) w g → ys ≡ written out (w * place_at n i 0) (w * (k + 1)) g
row_more w n i k g out cur ys low high third inv is =
    is ∙ ap₂ (λ l p. written l p w g) inv (ap (λ p. w * p) (place-step n i k low high third) ∙ mul-add w (place_at n i 0) k)
    ∙ written-append out (w * place_at n i 0) (w * k) w g ∙ ap (λ c. written out (w * place_at n i 0) c g) (sym (mul-add w k 1 ∙ ap (λ y. w * k + y) (mul-one w)))

-- ---- a loop over all entries: the next is entry p, which has i copies of the vertices after the first, k of them of the third, and the entries before it are written

pub record Going (w n m : ℕ) (g : ℕ → ℤ) (out cur : List ℤ) (p i k : ℕ) : Type 0 where
  pub rows : i ≤ m + 1
  pub third : k ≤ (n - 1) * i
  pub ends : m < i → k ≡ 0
  pub place : p ≡ place_at n i k
  pub front : cur ≡ written out 0 (w * p) g
  pub kept : length cur ≡ length out

-- p is the place of the entry
pub at_place : {w n m : ℕ} {g : ℕ → ℤ} {out cur : List ℤ} {p i k : ℕ} → Going w n m g out cur p i k → Going w n m g out cur (place_at n i k) i k
at_place {w} {n} {m} {g} {out} {cur} {p} {i} {k} at = subst (λ q. Going w n m g out cur q i k) at.place at

-- it begins with the first
pub going-first : (w n m : ℕ) (g : ℕ → ℤ) (out : List ℤ) → 1 ≤ n → n ≤ 2 → Going w n m g out out 0 0 0
unfolding written
going-first w n m g out low high =
    record {
      rows = omega arith;
      third = omega arith;
      ends = λ x. refl;
      place = by-dimension (λ d. 0 ≡ place_at d 0 0) n low high refl refl;
      front = ap (λ k. written out 0 k g) (sym (mul-zero w));
      kept = refl;
    }

module _ {w n m : ℕ} {g : ℕ → ℤ} {out cur : List ℤ} {p i k : ℕ} (sized : Sized w n m) (at : Going w n m g out cur p i k) where
  -- the entry's numbers are there, and p is small
  pub going-inside : i ≤ m → w * p + w ≤ size w n m
  going-inside h = subst (λ q. w * q + w ≤ size w n m) (sym at.place) (place_inside n m i k sized.low sized.high h at.third w)

  -- what the next one is asked with
  pub going-asks : (1 ≤ n) × (n ≤ 2) × (i ≤ 180)
  going-asks = (sized.low, sized.high, omega (arith, at.rows, degree-below w n m sized))

  pub going-small : i ≤ m → p < 180
  going-small h =
      let room = going-inside h in
      let more = mul-le-mul_right p sized.some in
      omega (arith, room, more, one-mul p, sized.some, sized.room)

  one_more : w * (p + 1) ≡ w * p + w
  one_more = mul-add w p 1 ∙ ap (λ y. w * p + y) (mul-one w)

  -- fewer numbers are left after it
  pub going_less : i ≤ m → size w n m - w * (p + 1) < size w n m - w * p
  going_less h = let room = going-inside h in omega (arith, room, one_more, sized.some)

  module _ {ys : List ℤ} (h : i ≤ m) (is : ys ≡ written cur (w * p) w g) (long : length ys ≡ length cur) where
    front-more : ys ≡ written out 0 (w * (p + 1)) g
    front-more =
        is ∙ ap₂ (λ l q. written l q w g) at.front (sym (zero-add (w * p)))
        ∙ written-append out 0 (w * p) w g ∙ ap (λ c. written out 0 c g) (sym one_more)

    -- it is written, and the next one is of the same row
    going-same : k < (n - 1) * i → Going w n m g out ys (p + 1) i (k + 1)
    going-same more =
        record {
          rows = at.rows;
          third = omega arith;
          ends = λ past. absurd (omega arith);
          place = let here = place-step n i k sized.low sized.high at.third in let there = place-step n i (k + 1) sized.low sized.high (omega arith) in omega (arith, here, there, at.place);
          front = front-more;
          kept = long ∙ at.kept;
        }

    -- or the first of the next row
    going-row : (n - 1) * i ≤ k → Going w n m g out ys (p + 1) (i + 1) 0
    going-row over =
        record {
          rows = omega arith;
          third = omega arith;
          ends = λ past. refl;
          place = let here = place-step n i k sized.low sized.high at.third in let there = place-row n i sized.low sized.high in omega (arith, here, there, at.place, at.third, over);
          front = front-more;
          kept = long ∙ at.kept;
        }

    -- which of the two it is, r copies and t of them of the third, `next_row` and `next_third` say
    pub going_next : (r t : ℕ) → r ≡ next_row n i k → t ≡ next_third n i k → Going w n m g out ys (p + 1) r t
    going_next r t row third =
        subst (λ a. Going w n m g out ys (p + 1) a t) (sym row) (subst (λ b. Going w n m g out ys (p + 1) (next_row n i k) b) (sym third) (by (ltb k ((n - 1) * i)) refl))
      where
        by : (b : Bool) → ltb k ((n - 1) * i) ≡ b → Going w n m g out ys (p + 1) (cond b i (i + 1)) (cond b (k + 1) 0)
        by true e = going-same (ltb-true k ((n - 1) * i) e)
        by false e = going-row (ltb-false k ((n - 1) * i) e)

  -- after the last row all of them are written
  pub going_done : m < i → cur ≡ written out 0 (size w n m) g
  going_done past =
      let last : i ≡ m + 1 = omega (arith, at.rows, past) in
      let none = at.ends past in
      at.front ∙ ap (λ q. written out 0 (w * q) g) (at.place ∙ ap₂ (place_at n) last none) ∙ ap (λ c. written out 0 c g) (place-whole w n m sized.low sized.high)
