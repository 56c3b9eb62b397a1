-- One level of the second or the third vertex of a triangle, row by row from the last, on plain numbers. An entry's blend reads its own row and the row before, which are as they
-- were when its row's turn comes; in the rows up to row h no entry has more than h copies of the vertex, and they stay.
use Prim.Native.Nat.{ℕ, zero, suc, pred, ◌+◌, ◌*◌, ◌-◌, ◌/◌, ◌%◌, ◌≤◌, ◌<◌}
use native.Mathlib.Nat.{le_refl, mul-le-mul_left, mul-le-mul_right, mod-lt, div-add-mod}
use native.Mathlib.Omega.{arith}
use native.Mathlib.Decide.{dec_lt}
use mathlib.Core.Path.{◌≡◌, refl, sym, ap, ap₂, ◌∙◌, subst}
use mathlib.Core.Bool.{Bool, true, false, cond}
use mathlib.Core.List.{List, [], ◌∷◌}
use borrow.Author.Tests.{lt-ltb, le-ltb}
use lib.IntN.{ℤ, pos, nat_abs, ◌+ℤ◌, ◌*ℤ◌}
use lib.ListN.{length, get_or, set}
use Rattle.integers.specs.Test.{within}
use Rattle.integers.proofs.All.{clash}
use Rattle.integers.proofs.Ring.{ring, ring-rules}
use Rattle.polar.specs.Order.{counts}
use Rattle.entries.specs.Entries.{fixed}
use Rattle.entries.specs.Rows.{entry_at, size}
use Rattle.entries.proofs.Lengths.{tri-suc, tri-double}
use Rattle.entries.proofs.Listed.{entry-rank}
use Rattle.projection.specs.Projection.{limit, in_range}
use Rattle.nets.specs.Rows.{written, KeptFrom, ranged, BlendsLeft, Bounded}
use Rattle.nets.specs.Sides.{mixed_across, mixed_down, Stands, stepped_at, Beyond, Levelled}
use Rattle.nets.proofs.Lists.{length-written, written-outside, written_at, ranged-at, ranged-beyond}
use Rattle.nets.proofs.Ranks.{offset-mono, tri-most, rank-patch, size-patch, by_three}
use Rattle.nets.proofs.PatchRows.{tri, row-end}

-- ---- the places of a triangle

-- the rows stand one after the other, and those up to row i among the numbers
row-mono : (a b : ℕ) → a ≤ b → 4 * tri a ≤ 4 * tri b
row-mono a b h = mul-le-mul_left 4 (offset-mono (counts 1) a b h)

pub rows_inside : (m i : ℕ) → i ≤ m → 4 * tri (suc i) ≤ size 4 2 m
rows_inside m i h = let up = row-mono (suc i) (m + 1) (omega arith) in omega (arith, size-patch 4 m, up)

-- where row i begins, as the code works it out
pub row-start : (i : ℕ) → 2 * i * (i + 1) ≡ 4 * tri i
row-start i = let twice = tri-double i in omega arith

-- it ends in the places of a net
pub row_room : (m i : ℕ) → i ≤ m → size 4 2 m ≤ 180 → 2 * i * (i + 1) + 4 * (i + 1) ≤ 180
row_room m i h fits = omega (arith, rows_inside m i h, row-end 4 i, row-start i)

-- before it there are i entries or more
pub row-least : (i : ℕ) → 4 * i ≤ 2 * i * (i + 1)
row-least i = omega (arith, row-start i, tri-most i)

-- number c of the entry with k copies of the third vertex and b of the second
abbrev pub spot : ℕ → ℕ → ℕ → ℕ
spot b k c = 4 * (tri (b + k) + k) + c

-- the entries up to row i stand before the next row
spot-row : (i c b k : ℕ) → c < 4 → b + k ≤ i → spot b k c < 4 * tri (suc i)
spot-row i c b k own row = let up = row-mono (suc (b + k)) (suc i) (omega arith) in omega (arith, up, row-end 4 (b + k))

entry-spot : (m : ℕ) (xs : List ℤ) (c a b k : ℕ) → a + (b + k) ≡ m → entry_at 4 2 m xs c (a ∷ b ∷ k ∷ []) ≡ get_or xs (spot b k c) (pos 0)
entry-spot m xs c a b k t = entry-rank 4 2 m xs c (a ∷ b ∷ k ∷ []) refl (omega arith) ∙ ap (λ p. get_or xs (4 * p + c) (pos 0)) (rank-patch a b k)

-- ---- the rows past row i are done

pub record Done (m v h : ℕ) (ws xs cur : List ℤ) (i : ℕ) : Type 0 where
  pub low : h ≤ i
  pub high : i ≤ m
  pub long : length cur ≡ length xs
  pub still : (p : ℕ) → p < 4 * tri (suc i) → get_or cur p (pos 0) ≡ get_or xs p (pos 0)
  pub past : KeptFrom (size 4 2 m) xs cur
  pub made : (c a b k : ℕ) → c < 4 → a + (b + k) ≡ m → i < b + k → get_or cur (spot b k c) (pos 0) ≡ stepped_at 4 2 m ws v h xs c (a ∷ b ∷ k ∷ [])
  pub small : (c a b k : ℕ) → c < 4 → a + (b + k) ≡ m → i < b + k → h < get_or (a ∷ b ∷ k ∷ []) v 0 → in_range (stepped_at 4 2 m ws v h xs c (a ∷ b ∷ k ∷ [])) ≡ true

-- what is to be written in row i: the numbers of g, at the entries of the row that have more than h copies of the vertex; these stand together, from the entry with `first` copies of
-- the third vertex up to the one with `end`
pub record RowOf (m v h : ℕ) (ws xs : List ℤ) (i from count : ℕ) (g : ℕ → ℤ) : Type 0 where
  pub first : ℕ
  pub end : ℕ
  pub inside : end ≤ suc i
  pub starts : from ≡ 4 * (tri i + first)
  pub ends : from + count ≡ 4 * (tri i + end)
  pub those : (a b k : ℕ) → b + k ≡ i → h < get_or (a ∷ b ∷ k ∷ []) v 0 → (first ≤ k) × (k < end)
  pub only : (a b k : ℕ) → b + k ≡ i → first ≤ k → k < end → h < get_or (a ∷ b ∷ k ∷ []) v 0
  pub blend : (c a b k : ℕ) → c < 4 → a + (b + k) ≡ m → b + k ≡ i → h < get_or (a ∷ b ∷ k ∷ []) v 0 → g (spot b k c) ≡ stepped_at 4 2 m ws v h xs c (a ∷ b ∷ k ∷ [])

module _ (m v h : ℕ) (ws xs : List ℤ) where
  abbrev stepped : ℕ → List ℕ → ℤ
  stepped = stepped_at 4 2 m ws v h xs

  -- an entry with no more than h copies keeps its number
  stepped-still : (c a b k : ℕ) → a + (b + k) ≡ m → get_or (a ∷ b ∷ k ∷ []) v 0 ≤ h → stepped c (a ∷ b ∷ k ∷ []) ≡ get_or xs (spot b k c) (pos 0)
  stepped-still c a b k t few =
      ap (λ z. cond z (fixed 3 ws (entry_at 4 2 m xs c) 1 (set (a ∷ b ∷ k ∷ []) v (pred (get_or (a ∷ b ∷ k ∷ []) v 0)))) (entry_at 4 2 m xs c (a ∷ b ∷ k ∷ []))) (le-ltb h (get_or (a ∷ b ∷ k ∷ []) v 0) few)
      ∙ entry-spot m xs c a b k t

  pub done_first : h ≤ m → Done m v h ws xs xs m
  done_first below =
      record {
        low = below;
        high = le_refl m;
        long = refl;
        still = λ p q. refl;
        past = λ p q. refl;
        made = λ c a b k own t more. absurd (wrong a b k t more);
        small = λ c a b k own t more some. absurd (wrong a b k t more);
      }
    where
      wrong : (a b k : ℕ) → a + (b + k) ≡ m → m < b + k → ⊥
      wrong a b k t more = omega arith

  module _ (cur : List ℤ) (i : ℕ) (d : Done m v h ws xs cur i) where
    -- what the next row reads is as small as it was
    pub done-bounded : (lo hi W W' : ℕ) → hi ≤ 4 * tri (suc i) → W' ≤ W → Bounded xs 0 (size 4 2 m) W → Bounded cur lo hi W'
    done-bounded lo hi W W' up light b =
        record {
          bound = b.bound;
          each = λ p low below.
              let inside = rows_inside m i d.high in
              subst (λ z. nat_abs z ≤ b.bound) (sym (d.still p (omega arith))) (b.each p (omega arith) (omega arith));
          fits = let less = mul-le-mul_right b.bound light in omega (arith, less, b.fits);
        }

    module _ (more : h < i) (from count : ℕ) (g : ℕ → ℤ) (r : RowOf m v h ws xs i from count g) where
      next : 4 * tri (suc i) ≡ 4 * tri i + 4 * suc i
      next = row-end 4 i

      -- the writes of the row stand in the row
      row_low : 4 * tri i ≤ from
      row_low = omega (arith, r.starts)

      row-high : from + count ≤ 4 * tri (suc i)
      row-high = omega (arith, r.ends, r.inside, next)

      spot_in : (c b k : ℕ) → c < 4 → b + k ≡ i → r.first ≤ k → k < r.end → (from ≤ spot b k c) × (spot b k c < from + count)
      spot_in c b k own row lo hi =
          let here : spot b k c ≡ 4 * (tri i + k) + c = ap (λ j. 4 * (tri j + k) + c) row in
          (omega (arith, here, r.starts), omega (arith, here, r.ends))

      spot_out : (c b k : ℕ) → c < 4 → b + k ≡ i → (r.first ≤ k → k < r.end → ⊥) → from ≤ spot b k c → spot b k c < from + count → ⊥
      spot_out c b k own row out lo hi =
          let here : spot b k c ≡ 4 * (tri i + k) + c = ap (λ j. 4 * (tri j + k) + c) row in
          let left : r.first ≤ k = omega (arith, here, r.starts) in
          let right : k < r.end = omega (arith, here, r.ends) in
          out left right

      -- a number of a later row stands past the writes
      spot_past : (c b k : ℕ) → i < b + k → from + count ≤ spot b k c
      spot_past c b k past = let up = row-mono (suc i) (b + k) past in let top = row-high in omega arith

      module _ (room : size 4 2 m ≤ length xs) where
        pub done_next : (ys : List ℤ) → ys ≡ written cur from count g → ranged limit g from count ≡ true → Done m v h ws xs ys (i - 1)
        done_next ys is ok =
            record {
              low = omega arith;
              high = omega (arith, d.high);
              long = ap length is ∙ length-written cur from count g ∙ d.long;
              still = λ p below.
                  let here : p < 4 * tri i = subst (λ j. p < 4 * tri j) back below in
                  let low = row_low in
                  outside p (λ lo hi. omega arith) ∙ d.still p (let less = next in omega arith);
              past = λ p beyond. let inside = rows_inside m i d.high in let top = row-high in outside p (λ lo hi. omega arith) ∙ d.past p beyond;
              made = λ c a b k own t after. by c a b k own t (omega arith) (dec_lt i (b + k)) (dec_lt h (get_or (a ∷ b ∷ k ∷ []) v 0));
              small = λ c a b k own t after some. range c a b k own t (omega arith) some (dec_lt i (b + k));
            }
          where
            back : suc (i - 1) ≡ i
            back = omega arith

            outside : (p : ℕ) → (from ≤ p → p < from + count → ⊥) → get_or ys p (pos 0) ≡ get_or cur p (pos 0)
            outside p out = ap (λ l. get_or l p (pos 0)) is ∙ written-outside cur from count g p out

            enough : from + count ≤ length cur
            enough = let inside = rows_inside m i d.high in let top = row-high in omega (arith, room, d.long)

            by : (c a b k : ℕ) → c < 4 → a + (b + k) ≡ m → i ≤ b + k → Dec (i < b + k) → Dec (h < get_or (a ∷ b ∷ k ∷ []) v 0) → get_or ys (spot b k c) (pos 0) ≡ stepped c (a ∷ b ∷ k ∷ [])
            by c a b k own t after (yes p) q = let past = spot_past c b k p in outside (spot b k c) (λ lo hi. omega arith) ∙ d.made c a b k own t p
            by c a b k own t after (no p) (yes q) =
                let row : b + k ≡ i = omega arith in
                let these = r.those a b k row q in
                let place = spot_in c b k own row these.0 these.1 in
                ap (λ l. get_or l (spot b k c) (pos 0)) is
                ∙ written_at cur from count g (spot b k c) place.0 place.1 enough
                ∙ r.blend c a b k own t row q
            by c a b k own t after (no p) (no q) =
                let row : b + k ≡ i = omega arith in
                outside (spot b k c) (spot_out c b k own row (λ lo hi. q (r.only a b k row lo hi)))
                ∙ d.still (spot b k c) (spot-row i c b k own (omega arith))
                ∙ sym (stepped-still c a b k t (omega arith))

            range : (c a b k : ℕ) → c < 4 → a + (b + k) ≡ m → i ≤ b + k → h < get_or (a ∷ b ∷ k ∷ []) v 0 → Dec (i < b + k) → in_range (stepped c (a ∷ b ∷ k ∷ [])) ≡ true
            range c a b k own t after some (yes p) = d.small c a b k own t p some
            range c a b k own t after some (no p) =
                let row : b + k ≡ i = omega arith in
                let these = r.those a b k row some in
                let place = spot_in c b k own row these.0 these.1 in
                ap in_range (sym (r.blend c a b k own t row some)) ∙ ranged-at limit g from (spot b k c) count ok place.0 place.1

      -- the entry that a number of the row is of
      pub done-beyond : ranged limit g from count ≡ false → Beyond 4 2 m ws v h xs
      done-beyond bad =
          let f = ranged-beyond limit g from count bad in
          let p = f.0 in
          let digits = div-add-mod p 4 in
          let own : p % 4 < 4 = mod-lt p (omega arith) in
          let k = p / 4 - tri i in
          let lo : r.first ≤ k = omega (arith, digits, own, r.starts, f.1) in
          let low : tri i ≤ p / 4 = omega (arith, digits, own, r.starts, f.1) in
          let hi : k < r.end = omega (arith, digits, own, r.ends, f.2) in
          let row : i - k + k ≡ i = omega (arith, hi, r.inside) in
          let whole : m - i + (i - k + k) ≡ m = omega (arith, d.high, row) in
          let here : spot (i - k) k (p % 4) ≡ p = ap (λ j. 4 * (tri j + k) + p % 4) row ∙ omega (arith, digits, low) in
          let some = r.only (m - i) (i - k) k row lo hi in
          record {
            number = p % 4;
            entry = (m - i) ∷ (i - k) ∷ k ∷ [];
            stands = record { own = own; long = refl; whole = omega (arith, whole) };
            more = some;
            out = ap in_range (sym (r.blend (p % 4) (m - i) (i - k) k own whole row some)) ∙ ap (λ j. within limit (g j)) here ∙ f.3;
          }

    pub done-fails : (ys : List ℤ) → length ys ≡ length cur → Beyond 4 2 m ws v h xs → Levelled 4 2 m ws v h xs false ys
    done-fails ys kept beyond =
        record {
          kept = kept ∙ d.long;
          past = λ b. absurd (clash b refl);
          each = λ b. absurd (clash b refl);
          small = λ b. absurd (clash b refl);
          large = λ b. beyond;
        }

    -- the rows that are left have no entry with more than h copies
    pub done-last : i ≤ h → ((a b k : ℕ) → get_or (a ∷ b ∷ k ∷ []) v 0 ≤ b + k) → Levelled 4 2 m ws v h xs true cur
    done-last least side =
        record {
          kept = d.long;
          past = λ b. d.past;
          each = λ b c e st. by_three (λ y. Stands 4 2 m c y → entry_at 4 2 m cur c y ≡ stepped c y) (λ i j k. value c i j k) e st.long st;
          small = λ b c e st. by_three (λ y. Stands 4 2 m c y → h < get_or y v 0 → in_range (stepped c y) ≡ true) (λ i j k. range c i j k) e st.long st;
          large = λ b. absurd (clash refl b);
        }
      where
        value : (c a b k : ℕ) → Stands 4 2 m c (a ∷ b ∷ k ∷ []) → entry_at 4 2 m cur c (a ∷ b ∷ k ∷ []) ≡ stepped c (a ∷ b ∷ k ∷ [])
        value c a b k st = entry-spot m cur c a b k whole ∙ by (dec_lt i (b + k))
          where
            whole : a + (b + k) ≡ m
            whole = omega (arith, st.whole)

            by : Dec (i < b + k) → get_or cur (spot b k c) (pos 0) ≡ stepped c (a ∷ b ∷ k ∷ [])
            by (yes p) = d.made c a b k st.own whole p
            by (no p) =
                d.still (spot b k c) (spot-row i c b k st.own (omega arith)) ∙ sym (stepped-still c a b k whole (omega (arith, side a b k, p, least)))

        range : (c a b k : ℕ) → Stands 4 2 m c (a ∷ b ∷ k ∷ []) → h < get_or (a ∷ b ∷ k ∷ []) v 0 → in_range (stepped c (a ∷ b ∷ k ∷ [])) ≡ true
        range c a b k st some = d.small c a b k st.own (omega (arith, st.whole)) (omega (arith, side a b k, some, least)) some

-- ---- what is written in a row

module _ (m h i : ℕ) (more : h < i) (r s t u : ℤ) (xs cur : List ℤ) (still : (p : ℕ) → p < 4 * tri (suc i) → get_or cur p (pos 0) ≡ get_or xs p (pos 0)) where
  -- the row before has one entry less
  before : tri i ≡ tri (pred i) + i
  before = ap tri back ∙ tri-suc (pred i) ∙ ap (λ j. tri (pred i) + j) (sym back)
    where
      back : i ≡ suc (pred i)
      back = omega arith

  abbrev ws : List ℤ
  ws = r ∷ s ∷ t ∷ u ∷ []

  -- a new number is a blend of three old ones, by their counts and by their places
  three : (c a b k x y z : ℕ) → suc a + (b + k) ≡ m → x ≡ spot b k c → y ≡ spot (suc b) k c → z ≡ spot b (suc k) c → x < 4 * tri (suc i) → y < 4 * tri (suc i) → z < 4 * tri (suc i)
      → fixed 3 ws (entry_at 4 2 m xs c) 1 (a ∷ b ∷ k ∷ []) ≡ r *ℤ get_or cur x (pos 0) +ℤ (s *ℤ get_or cur y (pos 0) +ℤ (t *ℤ get_or cur z (pos 0) +ℤ pos 0))
  unfolding fixed
  three c a b k x y z whole px py pz bx by bz =
      ap₂ ◌+ℤ◌ (ap (λ o. r *ℤ o) (entry-spot m xs c (suc a) b k whole ∙ sym (still x bx ∙ ap (λ p. get_or xs p (pos 0)) px)))
      (ap₂ ◌+ℤ◌ (ap (λ o. s *ℤ o) (entry-spot m xs c a (suc b) k (omega arith) ∙ sym (still y by ∙ ap (λ p. get_or xs p (pos 0)) py)))
      (ap (λ o. t *ℤ o +ℤ pos 0) (entry-spot m xs c a b (suc k) (omega arith) ∙ sym (still z bz ∙ ap (λ p. get_or xs p (pos 0)) pz))))

  -- of the second vertex
  second-row : (from count : ℕ) → from ≡ 4 * tri i → count ≡ 4 * (i - h) → RowOf m 1 h ws xs i from count (mixed_across cur (4 * i) 4 s r t)
  second-row from count at many =
      record {
        first = 0;
        end = i - h;
        inside = omega arith;
        starts = omega arith;
        ends = omega arith;
        those = λ a b k row some. (omega arith, omega arith);
        only = λ a b k row lo hi. omega arith;
        blend = blend;
      }
    where
      blend : (c a b k : ℕ) → c < 4 → a + (b + k) ≡ m → b + k ≡ i → h < b → mixed_across cur (4 * i) 4 s r t (spot b k c) ≡ stepped_at 4 2 m ws 1 h xs c (a ∷ b ∷ k ∷ [])
      blend c a b k own whole row some =
          let one = before in
          let next = row-end 4 i in
          let here : spot b k c ≡ 4 * (tri i + k) + c = ap (λ j. 4 * (tri j + k) + c) row in
          let less : pred b + k ≡ pred i = omega arith in
          let same : suc (pred b) + k ≡ i = omega arith in
          let again : pred b + suc k ≡ i = omega arith in
          sym
          (ap (λ z. cond z (fixed 3 ws (entry_at 4 2 m xs c) 1 (a ∷ pred b ∷ k ∷ [])) (entry_at 4 2 m xs c (a ∷ b ∷ k ∷ []))) (lt-ltb h b some)
          ∙ three c a (pred b) k (spot b k c - 4 * i) (spot b k c) (spot b k c + 4) (omega arith)
          (omega (arith, here, one, ap tri less)) (omega (arith, here, ap tri same)) (omega (arith, here, ap tri again))
          (omega (arith, here, next)) (omega (arith, here, next)) (omega (arith, here, next))
          ∙ ring (r ∷ s ∷ t ∷ get_or cur (spot b k c - 4 * i) (pos 0) ∷ get_or cur (spot b k c) (pos 0) ∷ get_or cur (spot b k c + 4) (pos 0) ∷ []) (search ring-rules depth 60) tt)

  -- of the third
  third-row : (from count : ℕ) → from ≡ 4 * tri i + 4 * (h + 1) → count ≡ 4 * (i - h) → RowOf m 2 h ws xs i from count (mixed_down cur (4 * (i + 1)) 4 t r s)
  third-row from count at many =
      record {
        first = h + 1;
        end = i + 1;
        inside = omega arith;
        starts = omega arith;
        ends = omega arith;
        those = λ a b k row some. (omega arith, omega arith);
        only = λ a b k row lo hi. omega arith;
        blend = blend;
      }
    where
      blend : (c a b k : ℕ) → c < 4 → a + (b + k) ≡ m → b + k ≡ i → h < k → mixed_down cur (4 * (i + 1)) 4 t r s (spot b k c) ≡ stepped_at 4 2 m ws 2 h xs c (a ∷ b ∷ k ∷ [])
      blend c a b k own whole row some =
          let one = before in
          let next = row-end 4 i in
          let here : spot b k c ≡ 4 * (tri i + k) + c = ap (λ j. 4 * (tri j + k) + c) row in
          let less : b + pred k ≡ pred i = omega arith in
          let same : suc b + pred k ≡ i = omega arith in
          let again : b + suc (pred k) ≡ i = omega arith in
          sym
          (ap (λ z. cond z (fixed 3 ws (entry_at 4 2 m xs c) 1 (a ∷ b ∷ pred k ∷ [])) (entry_at 4 2 m xs c (a ∷ b ∷ k ∷ []))) (lt-ltb h k some)
          ∙ three c a b (pred k) (spot b k c - 4 * (i + 1)) (spot b k c - 4) (spot b k c) (omega arith)
          (omega (arith, here, one, ap tri less)) (omega (arith, here, ap tri same)) (omega (arith, here, ap tri again))
          (omega (arith, here, next)) (omega (arith, here, next)) (omega (arith, here, next))
          ∙ ring (r ∷ s ∷ t ∷ get_or cur (spot b k c - 4 * (i + 1)) (pos 0) ∷ get_or cur (spot b k c - 4) (pos 0) ∷ get_or cur (spot b k c) (pos 0) ∷ []) (search ring-rules depth 60) tt)

-- an entry has no more copies of the second vertex, or of the third, than of these two together
pub side-most : (v : ℕ) → 1 ≤ v → v ≤ 2 → (a b k : ℕ) → get_or (a ∷ b ∷ k ∷ []) v 0 ≤ b + k
side-most zero low high a b k = absurd (omega arith)
side-most (suc zero) low high a b k = omega arith
side-most (suc (suc zero)) low high a b k = omega arith
side-most (suc (suc (suc v))) low high a b k = absurd (omega arith)

-- ---- what a turn leaves

-- row i is done too, or a number of it is beyond the limit
abbrev pub Turned : ℕ → ℕ → ℕ → ℕ → List ℤ → List ℤ → Bool → List ℤ → Type 0
Turned m v h i ws xs b ys = (b ≡ true → Done m v h ws xs ys (i - 1)) × (b ≡ false → Beyond 4 2 m ws v h xs)

-- the weights r', s' and t' are those that are read from their bits
module _ (m v h i : ℕ) (r s t u r' s' t' : ℤ) (er : r' ≡ r) (es : s' ≡ s) (et : t' ≡ t) (xs cur : List ℤ) (enough : size 4 2 m ≤ length xs)
    (d : Done m v h (r ∷ s ∷ t ∷ u ∷ []) xs cur i) (more : h < i) (b : Bool) (ys : List ℤ) where
  turned : (from count : ℕ) (g : ℕ → ℤ) → RowOf m v h (r ∷ s ∷ t ∷ u ∷ []) xs i from count g → BlendsLeft limit g from count cur b ys
      → Turned m v h i (r ∷ s ∷ t ∷ u ∷ []) xs b ys
  turned from count g row left = (
    λ ok. done_next m v h (r ∷ s ∷ t ∷ u ∷ []) xs cur i d more from count g row enough ys (left.1 ok) (sym left.0 ∙ ok),
    λ bad. done-beyond m v h (r ∷ s ∷ t ∷ u ∷ []) xs cur i d more from count g row (sym left.0 ∙ bad),
  )

  pub second-turned : v ≡ 1 → BlendsLeft limit (mixed_across cur (4 * i) 4 s' r' t') (2 * i * (i + 1)) (4 * (i - h)) cur b ys
      → Turned m v h i (r ∷ s ∷ t ∷ u ∷ []) xs b ys
  second-turned is left =
      let from = 2 * i * (i + 1) in
      let count = 4 * (i - h) in
      turned from count (mixed_across cur (4 * i) 4 s' r' t')
      (subst (λ n. RowOf m n h (r ∷ s ∷ t ∷ u ∷ []) xs i from count (mixed_across cur (4 * i) 4 s' r' t')) (sym is)
      (subst (RowOf m 1 h (r ∷ s ∷ t ∷ u ∷ []) xs i from count) (λ k. mixed_across cur (4 * i) 4 (sym es k) (sym er k) (sym et k))
      (second-row m h i more r s t u xs cur d.still from count (row-start i) refl)))
      left

  pub third-turned : v ≡ 2 → BlendsLeft limit (mixed_down cur (4 * (i + 1)) 4 t' r' s') (2 * i * (i + 1) + 4 * (h + 1)) (4 * (i - h)) cur b ys
      → Turned m v h i (r ∷ s ∷ t ∷ u ∷ []) xs b ys
  third-turned is left =
      let from = 2 * i * (i + 1) + 4 * (h + 1) in
      let count = 4 * (i - h) in
      turned from count (mixed_down cur (4 * (i + 1)) 4 t' r' s')
      (subst (λ n. RowOf m n h (r ∷ s ∷ t ∷ u ∷ []) xs i from count (mixed_down cur (4 * (i + 1)) 4 t' r' s')) (sym is)
      (subst (RowOf m 2 h (r ∷ s ∷ t ∷ u ∷ []) xs i from count) (λ k. mixed_down cur (4 * (i + 1)) 4 (sym et k) (sym er k) (sym es k))
      (third-row m h i more r s t u xs cur d.still from count (ap (λ n. n + 4 * (h + 1)) (row-start i)) refl)))
      left
