-- A net's numbers over groups: reading a listed function at an entry gives its value there, and the entries listed are the numbers again. The place of an entry in the order of all groups
-- goes row by row of the first group.
use Prim.Native.Nat.{ℕ, zero, suc, ◌+◌, ◌*◌, ◌-◌, ◌/◌, ◌%◌, ◌<◌}
use native.Mathlib.Nat.{le_of_suc-le-suc, not-suc-le-zero, add_comm, add_assoc, suc-mul, zero-mul, zero-add}
use native.Mathlib.Omega.{arith}
use native.Mathlib.Decide.{dec_lt}
use mathlib.Core.Path.{◌≡◌, refl, sym, ap, ap₂, ◌∙◌, subst}
use mathlib.Core.List.Memᴰ
use mathlib.Core.List.{List, [], ◌∷◌, ◌++◌, map, Memᴰ}
use mathlib.Core.Logic.{◌⊎◌, inl, inr}
use lib.Dec.{lit≤}
use lib.IntN.{ℤ, pos}
use lib.ListN.{length, get_or, length-append, length-map, get_or-append}
use lib.Seq.{get_or-append-add, ext_get_or}
use Rattle.integers.proofs.Sums.{get_d_map}
use Rattle.polar.specs.Order.{counts}
use Rattle.polar.specs.Groups.{Group, pairs, counts_over}
use Rattle.polar.proofs.Order.{counts-total}
use Rattle.polar.proofs.Value.{of-pairs}
use Rattle.entries.specs.Entries.{place_of, number_count, place_over, entry_over, listed_over}
use Rattle.entries.proofs.Listed.{length-rows, rows_at, rows-cong}
use Rattle.entries.proofs.Places.{placed, member-counts, place-rank, counts-at, rank-at}
use Rattle.entries.proofs.Groups.{Counted}

-- ---- pairs

-- past p rows and one more there are as many members as past one row and p more
next_row : (p k r : ℕ) → suc p * k + r ≡ k + (p * k + r)
next_row p k r = ap (λ x. x + r) (suc-mul p k ∙ add_comm (p * k) k) ∙ add_assoc k (p * k) r

module _ {A : Type 0} (a : A) (yss : List (List A)) where
  -- one row
  abbrev pub row : A → List (List A)
  row x = map (λ ys. x ∷ ys) yss

  length-row : (x : A) → length (row x) ≡ length yss
  length-row x = length-map yss (λ ys. x ∷ ys)

  pub length_pairs : (xs : List A) → length (pairs xs yss) ≡ length xs * length yss
  length_pairs [] = sym (zero-mul (length yss))
  length_pairs (x ∷ xs) = length-append (row x) (pairs xs yss) ∙ ap₂ ◌+◌ (length-row x) (length_pairs xs) ∙ add_comm (length yss) (length xs * length yss) ∙ sym (suc-mul (length xs) (length yss))

  -- p rows and r more
  pub pairs_below : (xs : List A) (p r : ℕ) → p < length xs → r < length yss → p * length yss + r < length (pairs xs yss)
  pairs_below [] p r h k = absurd (not-suc-le-zero h)
  pairs_below (x ∷ xs) zero r h k = subst (λ i. i + r < length (pairs (x ∷ xs) yss)) (sym (zero-mul (length yss))) (subst (λ i. 0 + r < i) (sym (length-append (row x) (pairs xs yss) ∙ ap (λ i. i + length (pairs xs yss)) (length-row x))) (omega arith))
  pairs_below (x ∷ xs) (suc p) r h k =
      let rest : p * length yss + r < length (pairs xs yss) = pairs_below xs p r (le_of_suc-le-suc h) k in
      subst (λ i. i < length (pairs (x ∷ xs) yss)) (sym (next_row p (length yss) r))
      (subst (λ i. length yss + (p * length yss + r) < i) (sym (length-append (row x) (pairs xs yss) ∙ ap (λ i. i + length (pairs xs yss)) (length-row x))) (omega arith))

  pub pairs-at : (xs : List A) (p r : ℕ) → p < length xs → r < length yss → get_or (pairs xs yss) (p * length yss + r) [] ≡ get_or xs p a ∷ get_or yss r []
  pairs-at [] p r h k = absurd (not-suc-le-zero h)
  pairs-at (x ∷ xs) zero r h k =
      ap (λ i. get_or (row x ++ pairs xs yss) i []) (ap (λ i. i + r) (zero-mul (length yss)) ∙ zero-add r)
      ∙ get_or-append (row x) (pairs xs yss) [] r (subst (λ i. r < i) (sym (length-row x)) k)
      ∙ get_d_map (λ ys. x ∷ ys) yss r [] [] k
  pairs-at (x ∷ xs) (suc p) r h k =
      ap (λ i. get_or (row x ++ pairs xs yss) i []) (next_row p (length yss) r ∙ ap (λ i. i + (p * length yss + r)) (sym (length-row x)))
      ∙ get_or-append-add (row x) (pairs xs yss) (p * length yss + r) []
      ∙ pairs-at xs p r (le_of_suc-le-suc h) k

  -- every place is r places past p rows
  in_row : (xs : List A) (i : ℕ) → i < length (pairs xs yss) → (p : ℕ) × (r : ℕ) × (p < length xs) × (r < length yss) × (i ≡ p * length yss + r)
  in_row [] i h = absurd (not-suc-le-zero h)
  in_row (x ∷ xs) i h = by (dec_lt i (length yss)) (in_row xs (i - length yss))
    where
      long : length (pairs (x ∷ xs) yss) ≡ length yss + length (pairs xs yss)
      long = length-append (row x) (pairs xs yss) ∙ ap (λ k. k + length (pairs xs yss)) (length-row x)

      by : Dec (i < length yss)
          → (i - length yss < length (pairs xs yss) → (p : ℕ) × (r : ℕ) × (p < length xs) × (r < length yss) × (i - length yss ≡ p * length yss + r))
          → (p : ℕ) × (r : ℕ) × (p < suc (length xs)) × (r < length yss) × (i ≡ p * length yss + r)
      by (yes l) rest = (0, i, omega arith, l, sym (ap (λ k. k + i) (zero-mul (length yss)) ∙ zero-add i))
      by (no l) rest =
          let e = long in
          let r = rest (omega arith) in
          let below = r.2 in
          let i-is : i ≡ length yss + (i - length yss) = omega arith in
          (suc r.0, r.1, omega arith, r.3, i-is ∙ ap (λ k. length yss + k) r.4 ∙ sym (next_row r.0 (length yss) r.1))

-- ---- places of entries

-- every entry has a place, and stands there
pub place-over : (gs : List Group) (es : List (List ℕ)) → Counted gs es → (place_over gs es < length (counts_over gs)) × (get_or (counts_over gs) (place_over gs es) [] ≡ es)
unfolding counts_over
place-over [] [] counted = (lit≤ tt, refl)
place-over [] (e ∷ es) counted = absurd counted
place-over (g ∷ gs) [] counted = absurd counted
place-over (g ∷ gs) (e ∷ es) counted =
    let first = placed e (counts g.dimension g.degree) (member-counts g.dimension g.degree e counted.0 counted.1) in
    let rest = place-over gs es counted.2 in (
      pairs_below [] (counts_over gs) (counts g.dimension g.degree) (place_of e (counts g.dimension g.degree)) (place_over gs es) first.0 rest.0,
      pairs-at [] (counts_over gs) (counts g.dimension g.degree) (place_of e (counts g.dimension g.degree)) (place_over gs es) first.0 rest.0
          ∙ ap₂ (λ x xs. x ∷ xs) first.1 rest.1,
    )

-- and at every place stands the entry that has it
place_at : (gs : List Group) (i : ℕ) → i < length (counts_over gs) → place_over gs (get_or (counts_over gs) i []) ≡ i
unfolding counts_over
place_at [] zero h = refl
place_at [] (suc i) h = absurd (not-suc-le-zero (le_of_suc-le-suc h))
place_at (g ∷ gs) i h =
    let first = counts g.dimension g.degree in
    let at = in_row [] (counts_over gs) first i h in
    let right = counts-at g.dimension g.degree at.0 at.2 in
    ap (place_over (g ∷ gs)) (ap (λ k. get_or (pairs first (counts_over gs)) k []) at.4 ∙ pairs-at [] (counts_over gs) first at.0 at.1 at.2 at.3)
    ∙ ap₂ (λ p r. p * length (counts_over gs) + r)
    (place-rank g.dimension g.degree (get_or first at.0 []) right.0 right.1 ∙ rank-at g.dimension g.degree at.0 at.2) (place_at gs at.1 at.3)
    ∙ sym at.4

-- the members of the order are entries' counts
pub counts-over : (gs : List Group) (es : List (List ℕ)) → Memᴰ es (counts_over gs) → Counted gs es
unfolding counts_over
counts-over [] es m = subst (Counted []) (sym (Memᴰ.eq_of_singleton m)) tt
counts-over (g ∷ gs) es m =
    let r = of-pairs (counts g.dimension g.degree) (counts_over gs) m in
    let t = counts-total g.dimension g.degree r.0 r.2 in
    subst (Counted (g ∷ gs)) r.4 (t.0, t.1, counts-over gs r.1 r.3)

-- one of xs before one of yss
pub in_pairs : {A : Type 0} (xs : List A) (yss : List (List A)) {x : A} {ys : List A} → Memᴰ x xs → Memᴰ ys yss → Memᴰ (x ∷ ys) (pairs xs yss)
in_pairs [] yss m k = absurd (Memᴰ.not-nil m)
in_pairs (z ∷ xs) yss {x} {ys} m k = by (λ r. in_pairs xs yss r k) (Memᴰ.cases_cons m)
  where
    by : (Memᴰ x xs → Memᴰ (x ∷ ys) (pairs xs yss)) → (x ≡ z) ⊎ Memᴰ x xs → Memᴰ (x ∷ ys) (pairs (z ∷ xs) yss)
    by rest (inl p) = Memᴰ.append_left (pairs xs yss) (subst (λ w. Memᴰ (x ∷ ys) (map (λ r. w ∷ r) yss)) p (Memᴰ.map (λ r. x ∷ r) k))
    by rest (inr r) = Memᴰ.append_right (map (λ r. z ∷ r) yss) (rest r)

-- every entry is a member of the order
pub member-over : (gs : List Group) (es : List (List ℕ)) → Counted gs es → Memᴰ es (counts_over gs)
unfolding counts_over
member-over [] [] counted = Memᴰ.head refl
member-over [] (e ∷ es) counted = absurd counted
member-over (g ∷ gs) [] counted = absurd counted
member-over (g ∷ gs) (e ∷ es) counted =
    in_pairs (counts g.dimension g.degree) (counts_over gs) (member-counts g.dimension g.degree e counted.0 counted.1) (member-over gs es counted.2)

-- ---- listed functions

module _ (gs : List Group) where
  pub length-listed-over : (f : ℕ → List (List ℕ) → ℤ) → length (listed_over gs f) ≡ number_count gs
  unfolding listed_over
  length-listed-over f = length-rows 4 f (counts_over gs)

  -- reading a listed function at an entry gives its value there
  pub entry-listed-over : (f : ℕ → List (List ℕ) → ℤ) (c : ℕ) (es : List (List ℕ)) → c < 4 → Counted gs es → entry_over gs (listed_over gs f) c es ≡ f c es
  unfolding entry_over listed_over
  entry-listed-over f c es k counted =
      let r = place-over gs es counted in
      rows_at 4 f [] (counts_over gs) (place_over gs es) c r.0 k ∙ ap (f c) r.1

  -- a net's numbers are its entries, listed
  pub listed-again : (numbers : List ℤ) → length numbers ≡ number_count gs → listed_over gs (entry_over gs numbers) ≡ numbers
  unfolding entry_over listed_over
  listed-again numbers l = ext_get_or (pos 0) (listed_over gs (entry_over gs numbers)) numbers (long ∙ sym l) (λ i h. at i (subst (λ k. i < k) long h))
    where
      long : length (listed_over gs (entry_over gs numbers)) ≡ number_count gs
      long = length-rows 4 (entry_over gs numbers) (counts_over gs)

      at : (i : ℕ) → i < number_count gs → get_or (listed_over gs (entry_over gs numbers)) i (pos 0) ≡ get_or numbers i (pos 0)
      at i h =
          let p-below : i / 4 < length (counts_over gs) = omega arith in
          let c-below : i % 4 < 4 = omega arith in
          let i-is : i ≡ 4 * (i / 4) + i % 4 = omega arith in
          ap (λ k. get_or (listed_over gs (entry_over gs numbers)) k (pos 0)) i-is
          ∙ rows_at 4 (entry_over gs numbers) [] (counts_over gs) (i / 4) (i % 4) p-below c-below
          ∙ ap (λ k. get_or numbers (4 * k + i % 4) (pos 0)) (place_at gs (i / 4) p-below)
          ∙ ap (λ k. get_or numbers k (pos 0)) (sym i-is)

  -- functions that agree on the entries are listed alike
  pub listed-over-cong : (f g : ℕ → List (List ℕ) → ℤ) → ((c : ℕ) (es : List (List ℕ)) → c < 4 → Counted gs es → f c es ≡ g c es) → listed_over gs f ≡ listed_over gs g
  unfolding listed_over
  listed-over-cong f g h = rows-cong 4 f g (counts_over gs) (λ c e k m. h c e k (counts-over gs e m))
