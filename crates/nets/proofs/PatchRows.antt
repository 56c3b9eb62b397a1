-- The rows of a triangle, blended one after the other: a row's blend reads that row and the next one, which no earlier row has written.
use Prim.Native.Nat.{ℕ, zero, suc, ◌+◌, ◌*◌, ◌-◌, ◌≤◌, ◌<◌}
use native.Mathlib.Nat.{le_refl, zero-add, mul-zero, not-suc-le-zero, mul-le-mul_left}
use native.Mathlib.Numerals.{add-one}
use native.Mathlib.Omega.{arith}
use native.Mathlib.Decide.{dec_lt}
use mathlib.Core.Path.{◌≡◌, refl, sym, ap, ap₂, ◌∙◌, subst}
use mathlib.Core.Bool.{Bool, true, false}
use mathlib.Core.List.{List}
use lib.IntN.{ℤ, pos, nat_abs, ◌+ℤ◌, ◌*ℤ◌}
use lib.ListN.{length, get_or, take}
use Rattle.integers.specs.Test.{within, all}
use Rattle.polar.specs.Order.{counts}
use Rattle.entries.specs.Rows.{size, offset}
use Rattle.machine.specs.declared.Weights.{Weights}
use Rattle.nets.specs.Rows.{written, mixed, ranged, Bounded, BlendsLeft, Leaves, weight_sum, rows_blended}
use Rattle.integers.proofs.Signed.{seen}
use Rattle.nets.proofs.Row.{Read, read-sum}
use Rattle.nets.proofs.Lists.{length-written, written-outside, written_at, ranged-cong, ranged-part, ranged-more, ranged-list}
use Rattle.entries.proofs.Lengths.{tri-suc}
use Rattle.nets.proofs.Ranks.{offset-mono, size-patch}

-- how many entries stand before row i
abbrev pub tri : ℕ → ℕ
tri i = offset (counts 1) i

module _ (w : ℕ) where
  -- where the next row begins
  pub row-end : (i : ℕ) → w * tri (suc i) ≡ w * tri i + w * suc i
  row-end i = let next = ap (λ k. w * k) (tri-suc i) in omega (arith, next)

  row-mono : (a b : ℕ) → a ≤ b → w * tri a ≤ w * tri b
  row-mono a b h = mul-le-mul_left w (offset-mono (counts 1) a b h)

  module _ (xs : List ℤ) (ws : Weights) where
    -- the blends of row i of a list
    abbrev pub row_of : List ℤ → ℕ → ℕ → ℤ
    row_of ys i = mixed ys (w * suc i) (w * suc i + w) ws.r ws.s ws.t

    pub length-rows : (i : ℕ) → length (rows_blended w xs ws i) ≡ length xs
    unfolding rows_blended
    length-rows zero = refl
    length-rows (suc i) = length-written (rows_blended w xs ws i) (w * tri i) (w * suc i) (row_of (rows_blended w xs ws i) i) ∙ length-rows i

    -- from row i on nothing is written
    pub rows-still : (i p : ℕ) → w * tri i ≤ p → get_or (rows_blended w xs ws i) p (pos 0) ≡ get_or xs p (pos 0)
    unfolding rows_blended
    rows-still zero p h = refl
    rows-still (suc i) p h =
        let next = row-end i in
        written-outside (rows_blended w xs ws i) (w * tri i) (w * suc i) (row_of (rows_blended w xs ws i) i) p (λ a b. omega (arith, next)) ∙ rows-still i p (omega (arith, next))

    -- row k after i rows are blended, k being below i
    pub rows_at : (i k p : ℕ) → k < i → w * tri i ≤ length xs → w * tri k ≤ p → p < w * tri (suc k) → get_or (rows_blended w xs ws i) p (pos 0) ≡ row_of xs k p
    unfolding rows_blended
    rows_at zero k p h l a b = absurd (not-suc-le-zero h)
    rows_at (suc i) k p h l a b = by (dec_lt k i) (λ u v. rows_at i k p u v a b)
      where
        next : w * tri (suc i) ≡ w * tri i + w * suc i
        next = row-end i

        by : Dec (k < i) → (k < i → w * tri i ≤ length xs → get_or (rows_blended w xs ws i) p (pos 0) ≡ row_of xs k p)
            → get_or (written (rows_blended w xs ws i) (w * tri i) (w * suc i) (row_of (rows_blended w xs ws i) i)) p (pos 0) ≡ row_of xs k p
        by (yes u) rest =
            let below = row-mono (suc k) i u in
            written-outside (rows_blended w xs ws i) (w * tri i) (w * suc i) (row_of (rows_blended w xs ws i) i) p (λ x y. omega (arith, below)) ∙ rest u (omega (arith, next))
        by (no u) rest =
            let same : k ≡ i = omega arith in
            let low : w * tri i ≤ p = subst (λ j. w * tri j ≤ p) same a in
            let high : p < w * tri (suc i) = subst (λ j. p < w * tri (suc j)) same b in
            written_at (rows_blended w xs ws i) (w * tri i) (w * suc i) (row_of (rows_blended w xs ws i) i) p low (omega (arith, next)) (subst (λ z. w * tri i + w * suc i ≤ z) (sym (length-rows i)) (omega (arith, next)))
            ∙ ap₂ (λ x y. ws.r *ℤ x +ℤ y) (rows-still i p low)
            (ap₂ (λ x y. ws.s *ℤ x +ℤ ws.t *ℤ y) (rows-still i (p + w * suc i) (omega arith)) (rows-still i (p + (w * suc i + w)) (omega arith)))
            ∙ ap (λ j. row_of xs j p) (sym same)

    -- a row that is blended stays as it is
    row-final : (i k p : ℕ) → k < i → w * tri i ≤ length xs → w * tri k ≤ p → p < w * tri (suc k) → row_of (rows_blended w xs ws k) k p ≡ get_or (rows_blended w xs ws i) p (pos 0)
    unfolding rows_blended
    row-final i k p h l a b =
        let next = row-end k in
        let up = row-mono (suc k) i h in
        sym (written_at (rows_blended w xs ws k) (w * tri k) (w * suc k) (row_of (rows_blended w xs ws k) k) p a (omega (arith, next)) (subst (λ z. w * tri k + w * suc k ≤ z) (sym (length-rows k)) (omega (arith, next, up))))
        ∙ rows_at (suc k) k p (le_refl (suc k)) (omega (arith, up)) a b
        ∙ sym (rows_at i k p h l a b)

  -- ---- one turn of the loop over the rows

  -- what stands before a row is among the numbers
  pub before-end : (i degree : ℕ) → i ≤ degree → w * tri i ≤ size w 2 degree
  before-end i degree h = let up = row-mono i (degree + 1) (omega arith) in omega (arith, size-patch w degree, up)

  -- a row and the next one are among the numbers
  pub turn-fits : (i degree : ℕ) → i < degree → w * tri i + w * (i + 1) + (w * (i + 1) + w) ≤ size w 2 degree
  turn-fits i degree h =
      let up = row-mono (suc (suc i)) (degree + 1) (omega arith) in
      omega (arith, size-patch w degree, row-end i, row-end (suc i), up)

-- before a turn: the first i rows are blended and within the limit, and row i begins at `from`
pub record RowsBlended (w : ℕ) (ws : Weights) (limit : ℕ) (xs ys : List ℤ) (from i : ℕ) : Type 0 where
  pub place : from ≡ w * tri i
  pub rows : ys ≡ rows_blended w xs ws i
  pub small : ranged limit (λ p. get_or ys p (pos 0)) 0 from ≡ true

pub rows_first : (w : ℕ) (ws : Weights) (limit : ℕ) (xs : List ℤ) → RowsBlended w ws limit xs xs 0 0
unfolding rows_blended ranged
rows_first w ws limit xs = record { place = sym (mul-zero w); rows = refl; small = refl }

-- the row and the next one are among the numbers
pub turn_room : {w : ℕ} {ws : Weights} {limit : ℕ} {xs ys : List ℤ} {from i degree : ℕ} → RowsBlended w ws limit xs ys from i → i < degree → from + w * (i + 1) + (w * (i + 1) + w) ≤ size w 2 degree
turn_room {w} {ws} {limit} {xs} {ys} {from} {i} {degree} at below = omega (arith, turn-fits w i degree below, at.place)

module _ {w : ℕ} {ws : Weights} {limit : ℕ} {xs ys : List ℤ} {from i : ℕ} (read : Read ws) (at : RowsBlended w ws limit xs ys from i) where
  -- the blends of the row, as the code writes their places
  abbrev turn_of : ℕ → ℤ
  turn_of = mixed ys (w * (i + 1)) (w * (i + 1) + w) (seen ws.r) (seen ws.s) (seen ws.t)

  turn_is : turn_of ≡ row_of w xs ws (rows_blended w xs ws i) i
  turn_is = λ j. mixed (at.rows j) (w * add-one i j) (w * add-one i j + w) (read.r j) (read.s j) (read.t j)

  module _ {degree : ℕ} (below : i < degree) where
    pub turn-bounded : Bounded xs 0 (size w 2 degree) (weight_sum ws) → Bounded ys from (from + w * (i + 1) + (w * (i + 1) + w)) (nat_abs (seen ws.r) + nat_abs (seen ws.s) + nat_abs (seen ws.t))
    turn-bounded b =
        subst (Bounded ys from (from + w * (i + 1) + (w * (i + 1) + w))) (sym (read-sum read))
        record {
          bound = b.bound;
          each = λ p lo up. subst (λ l. nat_abs (get_or l p (pos 0)) ≤ b.bound) (sym at.rows)
              (subst (λ v. nat_abs v ≤ b.bound) (sym (rows-still w xs ws i p (omega (arith, at.place)))) (b.each p (omega arith) (omega (arith, turn_room at below))));
          fits = b.fits;
        }

    module _ {b : Bool} {zs : List ℤ} (long : size w 2 degree ≤ length xs) (left : BlendsLeft limit turn_of from (w * (i + 1)) ys b zs) where
      room : from + w * (i + 1) ≤ length ys
      room = omega (arith, turn_room at below, ap length at.rows, length-rows w xs ws i)

      -- the row is blended
      pub turn_next : b ≡ true → RowsBlended w ws limit xs zs (from + w * (i + 1)) (i + 1)
      unfolding rows_blended
      turn_next ok =
          record {
            place = omega (arith, at.place, row-end w i, ap (λ k. w * tri k) (add-one i));
            rows = left.1 ok
                ∙ (λ j. written (at.rows j) (at.place j) (w * add-one i j) (turn_is j))
                ∙ ap (rows_blended w xs ws) (sym (add-one i));
            small = ranged-more limit ys zs from (w * (i + 1)) turn_of room (left.1 ok) at.small (sym left.0 ∙ ok);
          }

      -- a row beyond the limit is the level beyond the limit
      pub turn-fails : b ≡ false → all (within limit) (take (w * tri degree) (rows_blended w xs ws degree)) ≡ false
      turn-fails bad =
          let next = row-end w i in
          let up = row-mono w (suc i) degree below in
          let most = row-mono w degree (degree + 1) (omega arith) in
          let whole : w * tri degree ≡ w * tri i + w * suc i + (w * tri degree - w * tri (suc i)) = omega (arith, next, up) in
          sym (ranged-list limit (rows_blended w xs ws degree) (w * tri degree) (subst (λ k. w * tri degree ≤ k) (sym (length-rows w xs ws degree)) (omega (arith, most, size-patch w degree))))
          ∙ ap (ranged limit final 0) whole
          ∙ ranged-part limit final 0 (w * tri i) (w * suc i) (w * tri degree - w * tri (suc i))
          (ap (λ j. ranged limit final j (w * suc i)) (zero-add (w * tri i))
          ∙ sym (ranged-cong limit (row_of w xs ws (rows_blended w xs ws i) i) final (w * tri i) (w * suc i)
          (λ p lo hi. row-final w xs ws degree i p below (omega (arith, most, size-patch w degree)) lo (omega (arith, next))))
          ∙ (λ j. ranged limit (sym turn_is j) (sym at.place j) (w * sym (add-one i) j))
          ∙ sym left.0 ∙ bad)
        where
          final : ℕ → ℤ
          final p = get_or (rows_blended w xs ws degree) p (pos 0)

-- after the last turn
pub rows_last : {w : ℕ} {ws : Weights} {limit : ℕ} {xs ys : List ℤ} {from i : ℕ} → RowsBlended w ws limit xs ys from i → (degree : ℕ) → i ≡ degree → size w 2 degree ≤ length xs
    → Leaves limit (w * tri degree) (rows_blended w xs ws degree) true ys
rows_last {w} {ws} {limit} {xs} {ys} {from} {i} before degree whole long =
    (sym (ap₂ (λ l k. all (within limit) (take k l)) (sym at.rows) (sym at.place) ∙ sym (ranged-list limit ys from room) ∙ at.small), λ b. at.rows)
  where
    at : RowsBlended w ws limit xs ys from degree
    at = subst (RowsBlended w ws limit xs ys from) whole before

    room : from ≤ length ys
    room = omega (arith, at.place, ap length at.rows, length-rows w xs ws degree, before-end w degree degree (le_refl degree))
