-- One level of the second vertex of a line, on plain numbers. Row b has the entry with b copies of it. The rows past row h are blended, each with the row before, from the last number
-- down: what a blend reads is as it was. The rows up to row h have no more than h copies, and they stay.
use Prim.Native.Nat.{ℕ, suc, pred, ◌+◌, ◌*◌, ◌-◌, ◌/◌, ◌%◌, ◌≤◌, ◌<◌}
use native.Mathlib.Nat.{mul-suc, mul-le-mul_left, mod-lt, div-add-mod, lt_of_mul-lt-mul_left}
use native.Mathlib.Omega.{arith}
use native.Mathlib.Decide.{dec_lt}
use mathlib.Core.Path.{◌≡◌, refl, sym, ap, ap₂, ◌∙◌}
use mathlib.Core.Bool.{Bool, true, false, cond}
use mathlib.Core.List.{List, [], ◌∷◌}
use borrow.Author.Tests.{lt-ltb, le-ltb}
use lib.IntN.{ℤ, pos, ◌+ℤ◌, ◌*ℤ◌}
use lib.ListN.{length, get_or}
use Rattle.integers.specs.Test.{within}
use Rattle.integers.proofs.Ring.{ring, ring-rules}
use Rattle.entries.specs.Entries.{fixed}
use Rattle.entries.specs.Rows.{entry_at, size}
use Rattle.entries.proofs.Listed.{entry-rank, digits-below}
use Rattle.projection.specs.Projection.{limit, in_range}
use Rattle.nets.specs.Rows.{written, ranged}
use Rattle.nets.specs.Sides.{mixed_down, Stands, stepped_at, Beyond, Levelled}
use Rattle.nets.proofs.Lists.{written-outside, written_at, ranged-at, ranged-beyond}
use Rattle.nets.proofs.Ranks.{rank-curve, size-curve, by_two}

module _ (w m h : ℕ) (some : 1 ≤ w) (more : h < m) (r s t u : ℤ) (xs : List ℤ) (room : size w 1 m ≤ length xs) where
  abbrev ws : List ℤ
  ws = r ∷ s ∷ t ∷ u ∷ []

  -- what is written, and where
  abbrev blends : ℕ → ℤ
  blends = mixed_down xs w w s r (pos 0)

  abbrev from : ℕ
  from = w * (h + 1)

  abbrev count : ℕ
  count = w * (m + 1) - from

  abbrev stepped : ℕ → List ℕ → ℤ
  stepped = stepped_at w 1 m ws 1 h xs

  -- the writes end with the net
  ends : from + count ≡ size w 1 m
  ends = let up = mul-le-mul_left w more-than in omega (arith, up, size-curve w m)
    where
      more-than : h + 1 ≤ m + 1
      more-than = omega arith

  entry-spot : (ys : List ℤ) (c a b : ℕ) → a + b ≡ m → entry_at w 1 m ys c (a ∷ b ∷ []) ≡ get_or ys (w * b + c) (pos 0)
  entry-spot ys c a b whole = entry-rank w 1 m ys c (a ∷ b ∷ []) refl (omega arith) ∙ ap (λ p. get_or ys (w * p + c) (pos 0)) (rank-curve a b)

  -- ---- one entry

  -- a new number is a blend of two old ones, by their counts and by their places
  pair : (c a b x y : ℕ) → suc a + b ≡ m → x ≡ w * b + c → y ≡ w * suc b + c
      → fixed 2 ws (entry_at w 1 m xs c) 1 (a ∷ b ∷ []) ≡ r *ℤ get_or xs x (pos 0) +ℤ (s *ℤ get_or xs y (pos 0) +ℤ pos 0)
  unfolding fixed
  pair c a b x y whole px py =
      ap₂ (λ p q. r *ℤ p +ℤ (s *ℤ q +ℤ pos 0)) (entry-spot xs c (suc a) b whole ∙ ap (λ p. get_or xs p (pos 0)) (sym px))
      (entry-spot xs c a (suc b) (omega arith) ∙ ap (λ p. get_or xs p (pos 0)) (sym py))

  -- an entry with more than h copies is blended
  made : (c a b : ℕ) → a + b ≡ m → h < b → blends (w * b + c) ≡ stepped c (a ∷ b ∷ [])
  made c a b whole many =
      sym
      (ap (λ z. cond z (fixed 2 ws (entry_at w 1 m xs c) 1 (a ∷ pred b ∷ [])) (entry_at w 1 m xs c (a ∷ b ∷ []))) (lt-ltb h b many)
      ∙ pair c a (pred b) (w * b + c - w) (w * b + c) (omega arith) (omega (arith, before)) (omega (arith, before, mul-suc w (pred b)))
      ∙ ring (r ∷ s ∷ get_or xs (w * b + c - w) (pos 0) ∷ get_or xs (w * b + c) (pos 0) ∷ []) (search ring-rules depth 60) tt)
    where
      before : w * b ≡ w * pred b + w
      before = ap (λ k. w * k) back ∙ mul-suc w (pred b)
        where
          back : b ≡ suc (pred b)
          back = omega arith

  -- an entry with no more keeps its number
  still : (c a b : ℕ) → a + b ≡ m → b ≤ h → get_or xs (w * b + c) (pos 0) ≡ stepped c (a ∷ b ∷ [])
  still c a b whole few =
      sym
      (ap (λ z. cond z (fixed 2 ws (entry_at w 1 m xs c) 1 (a ∷ pred b ∷ [])) (entry_at w 1 m xs c (a ∷ b ∷ []))) (le-ltb h b few) ∙ entry-spot xs c a b whole)

  -- its numbers stand among the writes, or before them
  inside : (c b : ℕ) → c < w → b ≤ m → h < b → (from ≤ w * b + c) × (w * b + c < from + count)
  inside c b own most many = let up = mul-le-mul_left w many in let below = digits-below w b c (m + 1) (omega arith) own in (omega (arith, up, mul-suc w h), omega (arith, ends, size-curve w m, below))

  outside : (c b : ℕ) → c < w → b ≤ h → w * b + c < from
  outside c b own few = digits-below w b c (h + 1) (omega arith) own

  -- ---- the level

  module _ (ok : ranged limit blends from count ≡ true) (ys : List ℤ) (is : ys ≡ written xs from count blends) where
    each : (c a b : ℕ) → Stands w 1 m c (a ∷ b ∷ []) → entry_at w 1 m ys c (a ∷ b ∷ []) ≡ stepped c (a ∷ b ∷ [])
    each c a b st = entry-spot ys c a b whole ∙ ap (λ l. get_or l (w * b + c) (pos 0)) is ∙ by (dec_lt h b)
      where
        whole : a + b ≡ m
        whole = omega (arith, st.whole)

        by : Dec (h < b) → get_or (written xs from count blends) (w * b + c) (pos 0) ≡ stepped c (a ∷ b ∷ [])
        by (yes p) =
            let place = inside c b st.own (omega (arith, whole)) p in
            written_at xs from count blends (w * b + c) place.0 place.1 (omega (arith, ends, room)) ∙ made c a b whole p
        by (no p) =
            let place = outside c b st.own (omega arith) in
            written-outside xs from count blends (w * b + c) (λ lo hi. omega (arith, place)) ∙ still c a b whole (omega arith)

    small : (c a b : ℕ) → Stands w 1 m c (a ∷ b ∷ []) → h < b → in_range (stepped c (a ∷ b ∷ [])) ≡ true
    small c a b st many =
        let whole : a + b ≡ m = omega (arith, st.whole) in
        let place = inside c b st.own (omega (arith, whole)) many in
        ap in_range (sym (made c a b whole many)) ∙ ranged-at limit blends from (w * b + c) count ok place.0 place.1

  -- the entry that a number out of range is of
  beyond : ranged limit blends from count ≡ false → Beyond w 1 m ws 1 h xs
  beyond bad =
      let f = ranged-beyond limit blends from count bad in
      let p = f.0 in
      let b = p / w in
      let digits = div-add-mod p w in
      let own : p % w < w = mod-lt p some in
      let many : h < b = lt_of_mul-lt-mul_left w (omega (arith, f.1, digits, own)) in
      let most : b < m + 1 = lt_of_mul-lt-mul_left w (omega (arith, f.2, digits, ends, size-curve w m)) in
      let whole : m - b + b ≡ m = omega (arith, most) in
      record {
        number = p % w;
        entry = (m - b) ∷ b ∷ [];
        stands = record { own = own; long = refl; whole = omega (arith, whole) };
        more = many;
        out = ap in_range (sym (made (p % w) (m - b) b whole many)) ∙ ap (λ j. within limit (blends j)) digits ∙ f.3;
      }

  pub line-levelled : (b : Bool) (ys : List ℤ) → length ys ≡ length xs → b ≡ ranged limit blends from count → (b ≡ true → ys ≡ written xs from count blends) → Levelled w 1 m ws 1 h xs b ys
  line-levelled b ys kept tested left =
      record {
        kept = kept;
        past = λ ok i past. ap (λ l. get_or l i (pos 0)) (left ok) ∙ written-outside xs from count blends i (λ lo hi. omega (arith, ends));
        each = λ ok c e st. by_two (λ y. Stands w 1 m c y → entry_at w 1 m ys c y ≡ stepped c y) (λ i j. each (sym tested ∙ ok) ys (left ok) c i j) e st.long st;
        small = λ ok c e st. by_two (λ y. Stands w 1 m c y → h < get_or y 1 0 → in_range (stepped c y) ≡ true) (λ i j. small (sym tested ∙ ok) ys (left ok) c i j) e st.long st;
        large = λ bad. beyond (sym tested ∙ bad);
      }
