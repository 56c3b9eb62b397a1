-- The places of a net's entries: every list of counts with the right length and total has one place, `rank` works it out, and every place is reached.
-- The idea: the order goes by rows, one for each number that the vertices after the first have together; the rows differ in their first count.
use Prim.Native.Nat.{ℕ, zero, suc, ◌+◌, ◌-◌, ◌<◌, suc-le-suc, zero-le}
use native.Mathlib.Nat.{le_of_suc-le-suc, not-suc-le-zero, add_assoc, zero-add, add-zero}
use native.Mathlib.Omega.{arith}
use native.Mathlib.Decide.{dec_lt}
use mathlib.Core.Path.{◌≡◌, refl, sym, ap, ap₂, ◌∙◌, subst}
use mathlib.Core.Logic.{◌⊎◌, inl, inr}
use mathlib.Core.Bool.{Bool, true, false, cond}
use mathlib.Core.List.Memᴰ
use mathlib.Core.List.{List, [], ◌∷◌, ◌++◌, map, Memᴰ}
use lib.Dec.{eqb}
use borrow.Author.Tests.{eqb-true, eq-eqb, ne_eqb}
use lib.ListN.{length, get_or, length-append, length-map}
use lib.Seq.{get_or-append-add}
use Rattle.integers.proofs.All.{clash}
use Rattle.integers.specs.Sum.{upto}
use Rattle.integers.proofs.Sums.{get_d_map}
use Rattle.polar.specs.Order.{joined, total, counts}
use Rattle.polar.proofs.Order.{counts-total}
use Rattle.entries.specs.Entries.{same, place_of}
use Rattle.entries.specs.Rows.{offset, rank}

-- ---- the test of two lists

pub same_refl : (e : List ℕ) → same e e ≡ true
same_refl [] = refl
same_refl (n ∷ e) = ap (λ b. cond b (same e e) false) (eq-eqb n n refl) ∙ same_refl e

pub same-eq : (e x : List ℕ) → same e x ≡ true → e ≡ x
same-eq [] [] h = refl
same-eq [] (y ∷ x) h = absurd (clash h refl)
same-eq (n ∷ e) [] h = absurd (clash h refl)
same-eq (n ∷ e) (y ∷ x) h = by (eqb n y) refl (same-eq e x) h
  where
    by : (b : Bool) → eqb n y ≡ b → (same e x ≡ true → e ≡ x) → cond b (same e x) false ≡ true → n ∷ e ≡ y ∷ x
    by true p rest q = ap₂ ◌∷◌ (eqb-true n y p) (rest q)
    by false p rest q = absurd (clash q refl)

-- ---- the place in a list

-- what a place is, by the test at the first member
place-by : (P : ℕ → Type 0) (b : Bool) (k : ℕ) → (b ≡ true → P 0) → (b ≡ false → P k) → P (cond b 0 k)
place-by P true k f g = f refl
place-by P false k f g = g refl

pub placed : (e : List ℕ) (xs : List (List ℕ)) → Memᴰ e xs → (place_of e xs < length xs) × (get_or xs (place_of e xs) [] ≡ e)
placed e [] m = absurd (Memᴰ.not-nil m)
placed e (x ∷ xs) m =
    place-by (λ p. (p < suc (length xs)) × (get_or (x ∷ xs) p [] ≡ e)) (same e x) (suc (place_of e xs))
    (λ t. (suc-le-suc zero-le, sym (same-eq e x t)))
    (λ f. by f (placed e xs) (Memᴰ.cases_cons m))
  where
    by : same e x ≡ false → (Memᴰ e xs → (place_of e xs < length xs) × (get_or xs (place_of e xs) [] ≡ e)) → (e ≡ x) ⊎ Memᴰ e xs
        → (suc (place_of e xs) < suc (length xs)) × (get_or (x ∷ xs) (suc (place_of e xs)) [] ≡ e)
    by f rest (inl p) = absurd (clash (subst (λ y. same e y ≡ true) p (same_refl e)) f)
    by f rest (inr k) = (suc-le-suc (rest k).0, (rest k).1)

place-left : (e : List ℕ) (xs ys : List (List ℕ)) → Memᴰ e xs → place_of e (xs ++ ys) ≡ place_of e xs
place-left e [] ys m = absurd (Memᴰ.not-nil m)
place-left e (x ∷ xs) ys m =
    place-by (λ p. cond (same e x) 0 (suc (place_of e (xs ++ ys))) ≡ p) (same e x) (suc (place_of e xs))
    (λ t. ap (λ b. cond b 0 (suc (place_of e (xs ++ ys)))) t)
    (λ f. ap (λ b. cond b 0 (suc (place_of e (xs ++ ys)))) f ∙ by f (place-left e xs ys) (Memᴰ.cases_cons m))
  where
    by : same e x ≡ false → (Memᴰ e xs → place_of e (xs ++ ys) ≡ place_of e xs) → (e ≡ x) ⊎ Memᴰ e xs → suc (place_of e (xs ++ ys)) ≡ suc (place_of e xs)
    by f rest (inl p) = absurd (clash (subst (λ y. same e y ≡ true) p (same_refl e)) f)
    by f rest (inr k) = ap suc (rest k)

abbrev pub Absent : List ℕ → List (List ℕ) → Type 0
Absent e xs = (x : List ℕ) → Memᴰ x xs → same e x ≡ false

place-right : (e : List ℕ) (xs ys : List (List ℕ)) → Absent e xs → place_of e (xs ++ ys) ≡ length xs + place_of e ys
place-right e [] ys a = sym (zero-add (place_of e ys))
place-right e (x ∷ xs) ys a =
    ap (λ b. cond b 0 (suc (place_of e (xs ++ ys)))) (a x (Memᴰ.head refl))
    ∙ ap suc (place-right e xs ys (λ y m. a y (Memᴰ.tail m)))
    ∙ omega arith

-- a common first count makes no difference
pub place-under : (i : ℕ) (e : List ℕ) (xs : List (List ℕ)) → place_of (i ∷ e) (map (λ r. i ∷ r) xs) ≡ place_of e xs
place-under i e [] = refl
place-under i e (x ∷ xs) = ap₂ (λ b k. cond (cond b (same e x) false) 0 (suc k)) (eq-eqb i i refl) (place-under i e xs)

-- ---- rows one after the other

pub joined-map : {A B C : Type 0} (f : B → List C) (g : A → B) (xs : List A) → joined f (map g xs) ≡ joined (λ x. f (g x)) xs
joined-map f g [] = refl
joined-map f g (x ∷ xs) = ap (λ l. f (g x) ++ l) (joined-map f g xs)

pub offset-snoc : (f : ℕ → List (List ℕ)) (k : ℕ) → offset f (suc k) ≡ offset f k + length (f k)
offset-snoc f zero = omega arith
offset-snoc f (suc k) = ap (λ x. length (f 0) + x) (offset-snoc (λ j. f (suc j)) k) ∙ sym (add_assoc (length (f 0)) (offset (λ j. f (suc j)) k) (length (f (suc k))))

pub length-rows : (f : ℕ → List (List ℕ)) (n : ℕ) → length (joined f (upto n)) ≡ offset f n
length-rows f zero = refl
length-rows f (suc n) =
    length-append (f 0) (joined f (map suc (upto n)))
    ∙ ap (λ x. length (f 0) + x) (ap length (joined-map f suc (upto n)) ∙ length-rows (λ j. f (suc j)) n)

pub member-rows : (f : ℕ → List (List ℕ)) (n k : ℕ) (e : List ℕ) → k < n → Memᴰ e (f k) → Memᴰ e (joined f (upto n))
member-rows f zero k e h m = absurd (not-suc-le-zero h)
member-rows f (suc n) zero e h m = Memᴰ.append_left (joined f (map suc (upto n))) m
member-rows f (suc n) (suc k) e h m =
    Memᴰ.append_right (f 0) (subst (λ l. Memᴰ e l) (sym (joined-map f suc (upto n))) (member-rows (λ j. f (suc j)) n k e (le_of_suc-le-suc h) m))

pub place-rows : (f : ℕ → List (List ℕ)) (n k : ℕ) (e : List ℕ) → k < n → ((j : ℕ) → j < k → Absent e (f j)) → Memᴰ e (f k)
    → place_of e (joined f (upto n)) ≡ offset f k + place_of e (f k)
place-rows f zero k e h a m = absurd (not-suc-le-zero h)
place-rows f (suc n) zero e h a m = place-left e (f 0) (joined f (map suc (upto n))) m ∙ sym (zero-add (place_of e (f 0)))
place-rows f (suc n) (suc k) e h a m =
    place-right e (f 0) (joined f (map suc (upto n))) (a 0 (suc-le-suc zero-le))
    ∙ ap (λ x. length (f 0) + x) (ap (place_of e) (joined-map f suc (upto n)) ∙ place-rows (λ j. f (suc j)) n k e (le_of_suc-le-suc h) (λ j l. a (suc j) (suc-le-suc l)) m)
    ∙ sym (add_assoc (length (f 0)) (offset (λ j. f (suc j)) k) (place_of e (f (suc k))))

-- the row and the place in it of a place among the rows
pub record Found (f : ℕ → List (List ℕ)) (n p : ℕ) : Type 0 where
  pub row : ℕ
  pub at : ℕ
  pub row_below : row < n
  pub at-below : at < length (f row)
  pub is : p ≡ offset f row + at
  pub holds : get_or (joined f (upto n)) p [] ≡ get_or (f row) at []

get_d-left : (xs ys : List (List ℕ)) (i : ℕ) → i < length xs → get_or (xs ++ ys) i [] ≡ get_or xs i []
get_d-left [] ys i h = absurd (not-suc-le-zero h)
get_d-left (x ∷ xs) ys zero h = refl
get_d-left (x ∷ xs) ys (suc i) h = get_d-left xs ys i (le_of_suc-le-suc h)

find-row : (f : ℕ → List (List ℕ)) (n p : ℕ) → p < offset f n → Found f n p
find-row f zero p h = absurd (not-suc-le-zero h)
find-row f (suc n) p h = by (dec_lt p (length (f 0))) (find-row (λ j. f (suc j)) n (p - length (f 0)))
  where
    by : Dec (p < length (f 0)) → (p - length (f 0) < offset (λ j. f (suc j)) n → Found (λ j. f (suc j)) n (p - length (f 0))) → Found f (suc n) p
    by (yes l) rest =
        record { row = 0; at = p; row_below = suc-le-suc zero-le; at-below = l; is = omega arith; holds = get_d-left (f 0) (joined f (map suc (upto n))) p l }
    by (no l) rest =
        let r = rest (omega arith) in
        let same-p : p ≡ length (f 0) + (p - length (f 0)) = omega arith in
        record {
          row = suc r.row;
          at = r.at;
          row_below = suc-le-suc r.row_below;
          at-below = r.at-below;
          is = same-p ∙ ap (λ x. length (f 0) + x) r.is ∙ sym (add_assoc (length (f 0)) (offset (λ j. f (suc j)) r.row) r.at);
          holds =
              ap (λ i. get_or (f 0 ++ joined f (map suc (upto n))) i []) same-p
              ∙ get_or-append-add (f 0) (joined f (map suc (upto n))) (p - length (f 0)) []
              ∙ ap (λ l. get_or l (p - length (f 0)) []) (joined-map f suc (upto n))
              ∙ r.holds;
        }

-- ---- the order of entries

-- row k of the entries of degree m over 2 + n vertices
abbrev pub row_of : ℕ → ℕ → ℕ → List (List ℕ)
row_of n m k = map (λ r. (m - k) ∷ r) (counts n k)

pub offset-cong : (f g : ℕ → List (List ℕ)) (k : ℕ) → ((j : ℕ) → length (f j) ≡ length (g j)) → offset f k ≡ offset g k
offset-cong f g zero h = refl
offset-cong f g (suc k) h = ap₂ ◌+◌ (h 0) (offset-cong (λ j. f (suc j)) (λ j. g (suc j)) k (λ j. h (suc j)))

offset-row : (n m k : ℕ) → offset (row_of n m) k ≡ offset (counts n) k
offset-row n m k = offset-cong (row_of n m) (counts n) k (λ j. length-map (counts n j) (λ r. (m - j) ∷ r))

-- how many entries there are
pub length-counts : (n m : ℕ) → length (counts (suc n) m) ≡ offset (counts n) (suc m)
unfolding counts
length-counts n m = length-rows (row_of n m) (suc m) ∙ offset-row n m (suc m)

one-count : (e : List ℕ) (m : ℕ) → length e ≡ 1 → total e ≡ m → e ≡ m ∷ []
one-count [] m l t = absurd (wrong l)
  where
    wrong : ◌≡◌ {A = ℕ} 0 1 → ⊥
    wrong w = omega arith
one-count (i ∷ []) m l t = ap (λ k. k ∷ []) (sym (add-zero i) ∙ t)
one-count (i ∷ j ∷ e) m l t = absurd (wrong l)
  where
    wrong : suc (suc (length e)) ≡ 1 → ⊥
    wrong w = omega arith

-- every list of counts with the right length and total is among them
pub member-counts : (n m : ℕ) (e : List ℕ) → length e ≡ suc n → total e ≡ m → Memᴰ e (counts n m)
unfolding counts
member-counts zero m e l t = Memᴰ.head (one-count e m l t)
member-counts (suc n) m [] l t = absurd (wrong l)
  where
    wrong : 0 ≡ suc (suc n) → ⊥
    wrong w = omega arith
member-counts (suc n) m (i ∷ e) l t =
    member-rows (row_of n m) (suc m) (total e) (i ∷ e) (omega arith)
    (subst (λ k. Memᴰ (i ∷ e) (map (λ r. k ∷ r) (counts n (total e)))) i-is
    (Memᴰ.map (λ r. i ∷ r) (member-counts n (total e) e (omega arith) refl)))
  where
    i-is : i ≡ m - total e
    i-is = omega arith

absent-row : (n m i j : ℕ) (e : List ℕ) → (i ≡ m - j → ⊥) → Absent (i ∷ e) (row_of n m j)
absent-row n m i j e h x q =
    let r = Memᴰ.of_map (λ y. (m - j) ∷ y) (counts n j) q in
    subst (λ y. same (i ∷ e) y ≡ false) r.2 (ap (λ b. cond b (same e r.0) false) (ne_eqb i (m - j) h))

-- `rank` is the place
pub place-rank : (n m : ℕ) (e : List ℕ) → length e ≡ suc n → total e ≡ m → place_of e (counts n m) ≡ rank n e
unfolding counts
place-rank zero m e l t =
    ap (λ b. cond b 0 1) (subst (λ x. same e x ≡ true) (one-count e m l t) (same_refl e))
place-rank (suc n) m [] l t = absurd (wrong l)
  where
    wrong : 0 ≡ suc (suc n) → ⊥
    wrong w = omega arith
place-rank (suc n) m (i ∷ e) l t =
    place-rows (row_of n m) (suc m) (total e) (i ∷ e) (omega arith) (λ j h. absent-row n m i j e (differ j h)) in_row
    ∙ ap₂ ◌+◌ (offset-row n m (total e))
    (ap (λ k. place_of (i ∷ e) (map (λ r. k ∷ r) (counts n (total e)))) (sym i-is) ∙ place-under i e (counts n (total e)) ∙ place-rank n (total e) e (omega arith) refl)
  where
    i-is : i ≡ m - total e
    i-is = omega arith

    differ : (j : ℕ) → j < total e → i ≡ m - j → ⊥
    differ j h p = omega arith

    in_row : Memᴰ (i ∷ e) (row_of n m (total e))
    in_row = subst (λ k. Memᴰ (i ∷ e) (map (λ r. k ∷ r) (counts n (total e)))) i-is (Memᴰ.map (λ r. i ∷ r) (member-counts n (total e) e (omega arith) refl))

get_d-member : (xs : List (List ℕ)) (p : ℕ) → p < length xs → Memᴰ (get_or xs p []) xs
get_d-member [] p h = absurd (not-suc-le-zero h)
get_d-member (x ∷ xs) zero h = Memᴰ.head refl
get_d-member (x ∷ xs) (suc p) h = Memᴰ.tail (get_d-member xs p (le_of_suc-le-suc h))

-- the counts at a place have the right length and total
pub counts-at : (n m p : ℕ) → p < length (counts n m) → (length (get_or (counts n m) p []) ≡ suc n) × (total (get_or (counts n m) p []) ≡ m)
counts-at n m p h = counts-total n m (get_or (counts n m) p []) (get_d-member (counts n m) p h)

-- every place is the rank of the counts there
pub rank-at : (n m p : ℕ) → p < length (counts n m) → rank n (get_or (counts n m) p []) ≡ p
unfolding counts
rank-at zero m zero h = refl
rank-at zero m (suc p) h = absurd (wrong h)
  where
    wrong : suc p < 1 → ⊥
    wrong w = omega arith
rank-at (suc n) m p h =
    let r = find-row (row_of n m) (suc m) p (subst (λ k. p < k) (length-rows (row_of n m) (suc m)) h) in
    let below : r.at < length (counts n r.row) = subst (λ k. r.at < k) (length-map (counts n r.row) (λ y. (m - r.row) ∷ y)) r.at-below in
    ap (rank (suc n)) (r.holds ∙ get_d_map (λ y. (m - r.row) ∷ y) (counts n r.row) r.at [] [] below)
    ∙ ap₂ ◌+◌ (ap (offset (counts n)) (counts-at n r.row r.at below).1) (rank-at n r.row r.at below)
    ∙ sym (r.is ∙ ap (λ k. k + r.at) (offset-row n m r.row))
