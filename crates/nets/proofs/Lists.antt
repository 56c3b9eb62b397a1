-- Laws of lists that the loops need: what stands in a list after writes, how writes join, and whether what is written is within a limit.
use Prim.Native.Nat.{ℕ, zero, suc, ◌+◌, ◌-◌, ◌≤◌, ◌<◌, zero-le}
use native.Mathlib.Nat.{add-suc, add-zero, zero-add, add_assoc, le_refl, not-suc-le-zero, le_of_suc-le-suc}
use native.Mathlib.Numerals.{add-one}
use native.Mathlib.Omega.{arith}
use native.Mathlib.Decide.{dec_lt}
use mathlib.Core.Path.{◌≡◌, refl, sym, ap, ap₂, ◌∙◌, subst}
use mathlib.Core.Bool.{Bool, true, false, ◌&&◌}
use mathlib.Core.List.{List, [], ◌∷◌, ◌++◌}
use borrow.Author.Tests.{le-leb}
use lib.IntN.{ℤ, pos, nat_abs}
use lib.ListN.{length, get_or, set, take, drop, length-set, length-append, length-drop}
use lib.Seq.{take-suc, length-take-le, ext_get_or, get_or-take, get_or-drop, get_or-append-add, get_or-set_same, get_or-set_other}
use Rattle.integers.specs.Test.{within, all}
use Rattle.integers.proofs.All.{clash, all_append, and-true, and_one, and_none, and_assoc}
use Rattle.nets.specs.Rows.{written, KeptFrom, ranged}

-- ---- writes

pub length-written : (xs : List ℤ) (from k : ℕ) (g : ℕ → ℤ) → length (written xs from k g) ≡ length xs
unfolding written
length-written xs from zero g = refl
length-written xs from (suc k) g = length-set (written xs from k g) (from + k) (g (from + k)) ∙ length-written xs from k g

-- a place outside the writes keeps its number
pub written-outside : (xs : List ℤ) (from k : ℕ) (g : ℕ → ℤ) (i : ℕ) → ((from ≤ i) → (i < from + k) → ⊥) → get_or (written xs from k g) i (pos 0) ≡ get_or xs i (pos 0)
unfolding written
written-outside xs from zero g i h = refl
written-outside xs from (suc k) g i h =
    get_or-set_other (written xs from k g) (from + k) i (g (from + k)) (pos 0) (λ e. h (omega arith) (omega arith))
    ∙ written-outside xs from k g i (λ a b. h a (omega arith))

-- a place that is written has the number written
pub written_at : (xs : List ℤ) (from k : ℕ) (g : ℕ → ℤ) (i : ℕ) → from ≤ i → i < from + k → from + k ≤ length xs → get_or (written xs from k g) i (pos 0) ≡ g i
unfolding written
written_at xs from zero g i a b l = absurd (wrong a b)
  where
    wrong : from ≤ i → i < from + 0 → ⊥
    wrong p q = omega arith
written_at xs from (suc k) g i a b l = by (dec_lt i (from + k)) (λ c. written_at xs from k g i a c (omega arith))
  where
    last : (j : ℕ) → j ≡ from + k → get_or (set (written xs from k g) (from + k) (g (from + k))) j (pos 0) ≡ g j
    last j e =
        ap (λ p. get_or (set (written xs from k g) (from + k) (g (from + k))) p (pos 0)) e
        ∙ get_or-set_same (written xs from k g) (from + k) (g (from + k)) (pos 0) (rw length-written (omega arith))
        ∙ ap g (sym e)

    by : Dec (i < from + k) → (i < from + k → get_or (written xs from k g) i (pos 0) ≡ g i) → get_or (set (written xs from k g) (from + k) (g (from + k))) i (pos 0) ≡ g i
    by (yes p) rest = get_or-set_other (written xs from k g) (from + k) i (g (from + k)) (pos 0) (λ e. wrong p e) ∙ rest p
      where
        wrong : i < from + k → i ≡ from + k → ⊥
        wrong u v = omega arith
    by (no p) rest = last i (omega arith)

-- writes of the same numbers
pub written-cong : (xs : List ℤ) (from k : ℕ) (f g : ℕ → ℤ) → ((i : ℕ) → from ≤ i → i < from + k → f i ≡ g i) → written xs from k f ≡ written xs from k g
unfolding written
written-cong xs from zero f g h = refl
written-cong xs from (suc k) f g h =
    ap₂ (λ l v. set l (from + k) v) (written-cong xs from k f g (λ i a b. h i a (omega arith))) (h (from + k) (omega arith) (omega arith))

-- writes one after the other
pub written-append : (xs : List ℤ) (from a b : ℕ) (g : ℕ → ℤ) → written (written xs from a g) (from + a) b g ≡ written xs from (a + b) g
unfolding written
written-append xs from a zero g = ap (λ k. written xs from k g) (sym (add-zero a))
written-append xs from a (suc b) g =
    ap₂ (λ l i. set l i (g i)) (written-append xs from a b g) (add_assoc from a b) ∙ ap (λ k. written xs from k g) (sym (add-suc a b))

-- one write more
pub write-more : (xs cur : List ℤ) (from k : ℕ) (v : ℤ) (g : ℕ → ℤ) → cur ≡ written xs from k g → v ≡ g (from + k) → set cur (from + k) v ≡ written xs from (k + 1) g
unfolding written
write-more xs cur from k v g inv is = ap₂ (λ l y. set l (from + k) y) inv is ∙ ap (λ j. written xs from j g) (sym (add-one k))

-- the next write of a row, by its place
pub write-next : (xs cur : List ℤ) (from i : ℕ) (v : ℤ) (g : ℕ → ℤ) → from ≤ i → cur ≡ written xs from (i - from) g → v ≡ g i → set cur i v ≡ written xs from (i + 1 - from) g
write-next xs cur from i v g low inv is =
    ap (λ j. set cur j v) place_is ∙ write-more xs cur from (i - from) v g inv (is ∙ ap g place_is) ∙ ap (λ k. written xs from k g) (sym count-is)
  where
    place_is : i ≡ from + (i - from)
    place_is = omega arith

    count-is : i + 1 - from ≡ i - from + 1
    count-is = omega arith

-- at and past the next place nothing is written
pub write-still : (xs cur : List ℤ) (from i j : ℕ) (g : ℕ → ℤ) → from ≤ i → i ≤ j → cur ≡ written xs from (i - from) g → get_or cur j (pos 0) ≡ get_or xs j (pos 0)
write-still xs cur from i j g low past inv = ap (λ l. get_or l j (pos 0)) inv ∙ written-outside xs from (i - from) g j (λ a b. omega arith)

-- ---- limits

module _ (limit : ℕ) where
  pub ranged-cong : (f g : ℕ → ℤ) (from k : ℕ) → ((i : ℕ) → from ≤ i → i < from + k → f i ≡ g i) → ranged limit f from k ≡ ranged limit g from k
  unfolding ranged
  ranged-cong f g from zero h = refl
  ranged-cong f g from (suc k) h =
      ap₂ (λ a x. a && within limit x) (ranged-cong f g from k (λ i a b. h i a (omega arith))) (h (from + k) (omega arith) (omega arith))

  -- one number more
  pub ranged-next : (g : ℕ → ℤ) (from i : ℕ) → from ≤ i → ranged limit g from (i - from) ≡ true → within limit (g i) ≡ true → ranged limit g from (i + 1 - from) ≡ true
  unfolding ranged
  ranged-next g from i low inv next =
      ap (ranged limit g from) count-is ∙ and-true inv (ap (λ j. within limit (g j)) (sym place_is) ∙ next)
    where
      place_is : i ≡ from + (i - from)
      place_is = omega arith

      count-is : i + 1 - from ≡ suc (i - from)
      count-is = omega arith

  -- the numbers up to a place and those from there on
  ranged-append : (g : ℕ → ℤ) (from a b : ℕ) → ranged limit g from (a + b) ≡ (ranged limit g from a && ranged limit g (from + a) b)
  unfolding ranged
  ranged-append g from a zero = ap (ranged limit g from) (add-zero a) ∙ sym (and_one (ranged limit g from a))
  ranged-append g from a (suc b) =
      ap (ranged limit g from) (add-suc a b)
      ∙ ap₂ (λ x j. x && within limit (g j)) (ranged-append g from a b) (sym (add_assoc from a b))
      ∙ and_assoc (ranged limit g from a) (ranged limit g (from + a) b) (within limit (g (from + a + b)))

  -- a part beyond the limit is the whole beyond the limit
  pub ranged-part : (g : ℕ → ℤ) (from a b c : ℕ) → ranged limit g (from + a) b ≡ false → ranged limit g from (a + b + c) ≡ false
  ranged-part g from a b c part =
      ranged-append g from (a + b) c
      ∙ ap (λ x. x && ranged limit g (from + (a + b)) c) (ranged-append g from a b ∙ ap (λ x. ranged limit g from a && x) part ∙ and_none (ranged limit g from a))

  pub ranged-fails : (g : ℕ → ℤ) (from i k : ℕ) → from ≤ i → i < from + k → within limit (g i) ≡ false → ranged limit g from k ≡ false
  unfolding ranged
  ranged-fails g from i k low below beyond =
      ap (ranged limit g from) whole ∙ ranged-part g from (i - from) 1 (from + k - (i + 1)) (ap (λ j. within limit (g j)) place_is ∙ beyond)
    where
      whole : k ≡ i - from + 1 + (from + k - (i + 1))
      whole = omega arith

      place_is : from + (i - from) + 0 ≡ i
      place_is = omega arith

  -- a number of a part within the limit
  pub ranged-at : (g : ℕ → ℤ) (from i k : ℕ) → ranged limit g from k ≡ true → from ≤ i → i < from + k → within limit (g i) ≡ true
  ranged-at g from i k ok low below = by (within limit (g i)) refl
    where
      by : (t : Bool) → within limit (g i) ≡ t → t ≡ true
      by true e = refl
      by false e = absurd (clash ok (ranged-fails g from i k low below e))

  -- in a part beyond the limit there is a number beyond it
  pub ranged-beyond : (g : ℕ → ℤ) (from k : ℕ) → ranged limit g from k ≡ false → (i : ℕ) × (from ≤ i) × (i < from + k) × (within limit (g i) ≡ false)
  unfolding ranged
  ranged-beyond g from zero bad = absurd (clash refl bad)
  ranged-beyond g from (suc k) bad = by (ranged limit g from k) refl (λ e. ranged-beyond g from k e)
    where
      by : (t : Bool) → ranged limit g from k ≡ t
          → (ranged limit g from k ≡ false → (i : ℕ) × (from ≤ i) × (i < from + k) × (within limit (g i) ≡ false))
          → (i : ℕ) × (from ≤ i) × (i < from + suc k) × (within limit (g i) ≡ false)
      by true e rest = (from + k, omega arith, omega arith, ap (λ t. t && within limit (g (from + k))) (sym e) ∙ bad)
      by false e rest = let r = rest e in (r.0, r.1, omega (arith, r.2), r.3)

  -- the numbers that are written
  pub ranged-written : (xs ys : List ℤ) (from k : ℕ) (g : ℕ → ℤ) → from + k ≤ length xs → ys ≡ written xs from k g → ranged limit g from k ≡ ranged limit (λ i. get_or ys i (pos 0)) from k
  ranged-written xs ys from k g room is =
      ranged-cong g (λ i. get_or ys i (pos 0)) from k (λ i a b. sym (ap (λ l. get_or l i (pos 0)) is ∙ written_at xs from k g i a b room))

  -- one row more: what is written behind the numbers tested leaves them as they are
  pub ranged-more : (xs ys : List ℤ) (from k : ℕ) (g : ℕ → ℤ) → from + k ≤ length xs → ys ≡ written xs from k g
      → ranged limit (λ i. get_or xs i (pos 0)) 0 from ≡ true → ranged limit g from k ≡ true → ranged limit (λ i. get_or ys i (pos 0)) 0 (from + k) ≡ true
  ranged-more xs ys from k g room is inv new =
      ranged-append (λ i. get_or ys i (pos 0)) 0 from k
      ∙ and-true
      (sym (ranged-cong (λ i. get_or xs i (pos 0)) (λ i. get_or ys i (pos 0)) 0 from (λ i a b. sym (ap (λ l. get_or l i (pos 0)) is ∙ written-outside xs from k g i (λ u v. omega arith)))) ∙ inv)
      (ap (λ j. ranged limit (λ i. get_or ys i (pos 0)) j k) (zero-add from) ∙ sym (ranged-written xs ys from k g room is) ∙ new)

  -- the test of the first k numbers
  pub ranged-list : (xs : List ℤ) (k : ℕ) → k ≤ length xs → ranged limit (λ i. get_or xs i (pos 0)) 0 k ≡ all (within limit) (take k xs)
  unfolding ranged
  ranged-list xs zero h = refl
  ranged-list xs (suc k) h =
      ap₂ (λ a i. a && within limit (get_or xs i (pos 0))) (ranged-list xs k (omega arith)) (zero-add k)
      ∙ sym
      (ap (all (within limit)) (take-suc xs k (pos 0) h) ∙ all_append (within limit) (take k xs) (get_or xs k (pos 0) ∷ [])
      ∙ ap (λ b. all (within limit) (take k xs) && b) (and_one (within limit (get_or xs k (pos 0)))))

  -- numbers that are small one by one
  pub ranged-each : (xs : List ℤ) (k : ℕ) → k ≤ length xs → ((i : ℕ) → i < k → nat_abs (get_or xs i (pos 0)) ≤ limit) → all (within limit) (take k xs) ≡ true
  unfolding ranged
  ranged-each xs k room each = sym (ranged-list xs k room) ∙ go k (le_refl k)
    where
      go : (j : ℕ) → j ≤ k → ranged limit (λ i. get_or xs i (pos 0)) 0 j ≡ true
      go zero h = refl
      go (suc j) h = and-true (go j (omega arith)) (le-leb (nat_abs (get_or xs (0 + j) (pos 0))) limit (each (0 + j) (omega arith)))

-- ---- the front of a list

-- numbers copied to the front
pub copied-front : (xs ys : List ℤ) (k : ℕ) → k ≤ length xs → k ≤ length ys → take k (written xs 0 k (λ i. get_or ys i (pos 0))) ≡ take k ys
copied-front xs ys k h l =
    ext_get_or (pos 0) (take k copy) (take k ys) (lengths ∙ sym (length-take-le k ys l))
    (λ i b.
    let below : i < k = subst (λ j. i < j) lengths b in
    get_or-take k copy i (pos 0) below ∙ written_at xs 0 k (λ j. get_or ys j (pos 0)) i (omega arith) (omega arith) (omega arith) ∙ sym (get_or-take k ys i (pos 0) below))
  where
    copy : List ℤ
    copy = written xs 0 k (λ i. get_or ys i (pos 0))

    lengths : length (take k copy) ≡ k
    lengths = length-take-le k copy (subst (λ j. k ≤ j) (sym (length-written xs 0 k (λ i. get_or ys i (pos 0)))) h)

-- the first numbers of a list put back from a room where they were saved, nothing past them having changed
pub put_back : (count : ℕ) (xs ys room saved : List ℤ) → count ≤ length xs → count ≤ length room → saved ≡ written room 0 count (λ i. get_or xs i (pos 0)) → length ys ≡ length xs → KeptFrom count xs ys
    → written ys 0 count (λ i. get_or saved i (pos 0)) ≡ xs
put_back count xs ys room saved long space is same kept =
    ext_get_or (pos 0) (written ys 0 count (λ i. get_or saved i (pos 0))) xs (length-written ys 0 count (λ i. get_or saved i (pos 0)) ∙ same) (λ i h. by i (dec_lt i count))
  where
    by : (i : ℕ) → Dec (i < count) → get_or (written ys 0 count (λ j. get_or saved j (pos 0))) i (pos 0) ≡ get_or xs i (pos 0)
    by i (yes p) =
        written_at ys 0 count (λ j. get_or saved j (pos 0)) i zero-le (omega arith) (omega arith)
        ∙ ap (λ l. get_or l i (pos 0)) is
        ∙ written_at room 0 count (λ j. get_or xs j (pos 0)) i zero-le (omega arith) (omega arith)
    by i (no p) = written-outside ys 0 count (λ j. get_or saved j (pos 0)) i (λ u v. omega arith) ∙ kept i (omega arith)

-- a list whose first numbers are written anew
same-front : (es xs ys : List ℤ) (i : ℕ) → i < length es → get_or (es ++ xs) i (pos 0) ≡ get_or (es ++ ys) i (pos 0)
same-front [] xs ys i h = absurd (not-suc-le-zero h)
same-front (e ∷ es) xs ys zero h = refl
same-front (e ∷ es) xs ys (suc i) h = same-front es xs ys i (le_of_suc-le-suc h)

pub written-front : (xs es rest : List ℤ) (k : ℕ) → k ≡ length es → k ≤ length xs → written xs 0 k (λ i. get_or (es ++ rest) i (pos 0)) ≡ es ++ drop (length es) xs
written-front xs es rest k count room =
    ext_get_or (pos 0) (written xs 0 k g) (es ++ drop (length es) xs)
    (length-written xs 0 k g ∙ sym (length-append es (drop (length es) xs) ∙ ap (λ n. length es + n) (length-drop (length es) xs) ∙ omega arith))
    (λ i h. by i (dec_lt i k))
  where
    g : ℕ → ℤ
    g i = get_or (es ++ rest) i (pos 0)

    by : (i : ℕ) → Dec (i < k) → get_or (written xs 0 k g) i (pos 0) ≡ get_or (es ++ drop (length es) xs) i (pos 0)
    by i (yes p) = written_at xs 0 k g i zero-le (omega arith) (omega arith) ∙ same-front es rest (drop (length es) xs) i (omega arith)
    by i (no p) =
        written-outside xs 0 k g i (λ u v. omega arith)
        ∙ sym
        (ap (λ j. get_or (es ++ drop (length es) xs) j (pos 0)) past ∙ get_or-append-add es (drop (length es) xs) (i - length es) (pos 0) ∙ get_or-drop (length es) xs (i - length es) (pos 0)
        ∙ ap (λ j. get_or xs j (pos 0)) (sym past))
      where
        past : i ≡ length es + (i - length es)
        past = omega arith
