-- The frame of the coordinates: the polar values that it takes are the scaled coefficients themselves.
-- The idea: a coordinate's point in front of a list lowers σ in that one coordinate, so σ of coordinate points is 1 at their own exponents and 0 elsewhere,
-- and of the sum over the monomials, which are all different, one term is left.
use Prim.Native.Nat.{ℕ, zero, suc, ◌+◌, ◌*◌, ◌-◌, ◌/◌, ◌≤◌, ◌<◌, suc-le-suc, zero-le}
use native.Mathlib.Nat.{le_of_suc-le-suc, not-suc-le-zero, add-zero, zero-add, add-suc, suc-add, suc-mul, zero-mul, le_refl}
use native.Mathlib.Omega.{arith}
use mathlib.Core.Path.{◌≡◌, refl, sym, ap, ap₂, ◌∙◌, subst, fun_ext}
use mathlib.Core.Bool.{Bool, true, false, cond}
use mathlib.Core.Logic.{◌⊎◌, inl, inr}
use mathlib.Core.List.Memᴰ
use mathlib.Core.List.{List, [], ◌∷◌, ◌++◌, map, Memᴰ}
use lib.IntN.{ℤ, pos, ◌+ℤ◌, ◌*ℤ◌, +ℤ_assoc, +ℤ_idl, +ℤ_idr, *ℤ-zero, zero-*ℤ}
use lib.Dec.{eqb, eqb-zero-suc, eqb-suc-zero, eqb-suc-suc}
use lib.ListN.{length, get_or, drop, replicate, length-map}
use lib.Seq.{get_or-drop, drop-drop}
use borrow.Author.Tests.{eq-eqb, ne_eqb}
use Rattle.integers.proofs.All.{clash}
use Rattle.integers.specs.Sum.{sum, upto}
use Rattle.integers.proofs.Sums.{sum-cong, sum-upto-cong, sum-upto-suc, sum-zero}
use Rattle.integers.proofs.Laws.{one-*ℤ, *ℤ-assoc}
use Rattle.integers.proofs.Ring.{ring, ring-rules}
use Rattle.polar.specs.Sigma.{Point, Exponents, lowered, unit, σ}
use Rattle.polar.specs.Order.{joined, total, monomials}
use Rattle.polar.specs.Groups.{Group, head, tail, pairs, monomials_over}
use Rattle.polar.specs.Scale.{multinomial_over, scale_over}
use Rattle.polar.specs.Polar.{σOver, polar_over, terms}
use Rattle.polar.proofs.Order.{of-joined, monomials-total}
use Rattle.polar.proofs.Sigma.{lowered-zero, at-upto}
use Rattle.polar.proofs.Diagonal.{lowered-past}
use Rattle.polar.proofs.Value.{of-pairs}
use Rattle.entries.specs.Frame.{entry_points, combination, unit_point, units}
use Rattle.entries.specs.Entries.{same, place_of}
use Rattle.entries.specs.Rows.{offset}
use Rattle.entries.proofs.Places.{same_refl, same-eq, placed, Absent, place-rows, place-under, joined-map, offset-snoc, offset-cong, length-rows, member-rows}
use Rattle.entries.proofs.Groups.{Counted}

-- ---- the coordinates' points

-- 1 at c and 0 elsewhere
abbrev pub one_at : ℕ → ℕ → ℤ
one_at c i = cond (eqb i c) (pos 1) (pos 0)

-- a sum against `one_at c` picks what stands at c
pub pick : (d c : ℕ) (g : ℕ → ℤ) → c < d → sum (λ i. one_at c i *ℤ g i) (upto d) ≡ g c
pick zero c g h = absurd (not-suc-le-zero h)
pick (suc d) zero g h =
    sum-upto-suc (λ i. one_at 0 i *ℤ g i) d
    ∙ ap₂ ◌+ℤ◌ (one-*ℤ (g 0))
    (sum-cong (λ i. ap (λ b. cond b (pos 1) (pos 0) *ℤ g (suc i)) (eqb-suc-zero i) ∙ zero-*ℤ (g (suc i))) (upto d) ∙ sum-zero (upto d))
    ∙ +ℤ_idr (g 0)
pick (suc d) (suc c) g h =
    sum-upto-suc (λ i. one_at (suc c) i *ℤ g i) d
    ∙ ap₂ ◌+ℤ◌ (ap (λ b. cond b (pos 1) (pos 0) *ℤ g 0) (eqb-zero-suc c) ∙ zero-*ℤ (g 0))
    (sum-cong (λ i. ap (λ b. cond b (pos 1) (pos 0) *ℤ g (suc i)) (eqb-suc-suc i c)) (upto d) ∙ pick d c (λ i. g (suc i)) (le_of_suc-le-suc h))
    ∙ +ℤ_idl (g (suc c))

-- the test of two numbers does not mind their order
eqb-sym : (a b : ℕ) → eqb a b ≡ eqb b a
eqb-sym zero zero = refl
eqb-sym zero (suc b) = eqb-zero-suc b ∙ sym (eqb-suc-zero b)
eqb-sym (suc a) zero = eqb-suc-zero a ∙ sym (eqb-zero-suc a)
eqb-sym (suc a) (suc b) = eqb-suc-suc a b ∙ eqb-sym a b ∙ sym (eqb-suc-suc b a)

-- the two frames that are needed, for lists written out
pub units-curve : (z t w : ℤ) → combination 2 (z ∷ t ∷ w ∷ []) (units 1) ≡ t ∷ z ∷ []
units-curve z t w = ap₂ (λ a b. a ∷ b ∷ []) (ring (z ∷ t ∷ []) (search ring-rules depth 60) tt) (ring (z ∷ t ∷ []) (search ring-rules depth 60) tt)

pub units-patch : (z u v : ℤ) → combination 3 (z ∷ u ∷ v ∷ []) (units 2) ≡ u ∷ v ∷ z ∷ []
units-patch z u v =
    ap₂ ◌∷◌ (ring (z ∷ u ∷ v ∷ []) (search ring-rules depth 60) tt)
    (ap₂ (λ a b. a ∷ b ∷ []) (ring (z ∷ u ∷ v ∷ []) (search ring-rules depth 60) tt) (ring (z ∷ u ∷ v ∷ []) (search ring-rules depth 60) tt))

-- ---- σ of coordinate points

-- 1 at the exponents e and 0 elsewhere
abbrev pub only : List ℕ → List ℕ → ℤ
only e x = cond (same e x) (pos 1) (pos 0)

-- a coordinate's point in front lowers that coordinate
σ-unit : (n c : ℕ) (ps : List Point) (x : Exponents) → c < suc n → σ (suc n) (unit_point (suc n) c ∷ ps) x ≡ lowered c (σ (suc n) ps) x
unfolding σ
σ-unit n c ps x h =
    sum-upto-cong (suc n) (λ i l. ap (λ z. z *ℤ lowered i (σ (suc n) ps) x) (at-upto (suc n) (one_at c) i l))
    ∙ pick (suc n) c (λ i. lowered i (σ (suc n) ps) x) h

-- lowering reads a function only at lists of the same length
lowered-cong : (c : ℕ) (f g : Exponents → ℤ) (x : Exponents) → ((r : Exponents) → length r ≡ length x → f r ≡ g r) → lowered c f x ≡ lowered c g x
lowered-cong c f g [] h = h [] refl
lowered-cong zero f g (zero ∷ x) h = refl
lowered-cong zero f g (suc a ∷ x) h = h (a ∷ x) refl
lowered-cong (suc c) f g (a ∷ x) h = lowered-cong c (λ r. f (a ∷ r)) (λ r. g (a ∷ r)) x (λ r l. h (a ∷ r) (ap suc l))

-- with no point σ is 1 at exponents 0
unit-only : (x : Exponents) → unit x ≡ only (replicate (length x) 0) x
unit-only [] = refl
unit-only (zero ∷ x) = unit-only x
unit-only (suc a ∷ x) = ap (λ b. cond (cond b (same (replicate (length x) 0) x) false) (pos 1) (pos 0)) (sym (eqb-zero-suc a))

-- lowering coordinate v raises exponent v of the place of the 1
lowered-only : (v k : ℕ) (e x : List ℕ) → v < length x → lowered v (only (replicate v 0 ++ (k ∷ e))) x ≡ only (replicate v 0 ++ (suc k ∷ e)) x
lowered-only v k e [] h = absurd (not-suc-le-zero h)
lowered-only zero k e (zero ∷ x) h = ap (λ b. cond (cond b (same e x) false) (pos 1) (pos 0)) (sym (eqb-suc-zero k))
lowered-only zero k e (suc a ∷ x) h = ap (λ b. cond (cond b (same e x) false) (pos 1) (pos 0)) (sym (eqb-suc-suc k a))
lowered-only (suc v) k e (zero ∷ x) h = lowered-only v k e x (le_of_suc-le-suc h)
lowered-only (suc v) k e (suc a ∷ x) h =
    ap (λ f. lowered v f x) (fun_ext (λ r. ap (λ b. cond (cond b (same (replicate v 0 ++ (k ∷ e)) r) false) (pos 1) (pos 0)) (eqb-zero-suc a)))
    ∙ lowered-zero v x
    ∙ ap (λ b. cond (cond b (same (replicate v 0 ++ (suc k ∷ e)) x) false) (pos 1) (pos 0)) (sym (eqb-zero-suc a))

-- k copies of coordinate v's point
σ-copies : (n v k : ℕ) (e : List ℕ) (ps : List Point) → v < n
    → ((x : List ℕ) → length x ≡ n → σ (suc n) ps x ≡ only (replicate v 0 ++ (0 ∷ e)) x)
    → (x : List ℕ) → length x ≡ n → σ (suc n) (replicate k (unit_point (suc n) v) ++ ps) x ≡ only (replicate v 0 ++ (k ∷ e)) x
σ-copies n v zero e ps h agrees x l = agrees x l
σ-copies n v (suc k) e ps h agrees x l =
    σ-unit n v (replicate k (unit_point (suc n) v) ++ ps) x (omega arith)
    ∙ lowered-cong v (σ (suc n) (replicate k (unit_point (suc n) v) ++ ps)) (only (replicate v 0 ++ (k ∷ e))) x (λ r q. σ-copies n v k e ps h agrees r (q ∙ l))
    ∙ lowered-only v k e x (subst (λ j. v < j) (sym l) h)

-- copies of Z's point change nothing
σ-copies-Z : (n k : ℕ) (ps : List Point) (x : List ℕ) → length x ≡ n → σ (suc n) (replicate k (unit_point (suc n) n) ++ ps) x ≡ σ (suc n) ps x
σ-copies-Z n zero ps x l = refl
σ-copies-Z n (suc k) ps x l =
    σ-unit n n (replicate k (unit_point (suc n) n) ++ ps) x (le_refl (suc n))
    ∙ ap (λ j. lowered j (σ (suc n) (replicate k (unit_point (suc n) n) ++ ps)) x) (sym l)
    ∙ lowered-past (σ (suc n) (replicate k (unit_point (suc n) n) ++ ps)) x
    ∙ σ-copies-Z n k ps x l

-- one zero more, before or after the others
zeros-shift : (v : ℕ) (e : List ℕ) → replicate v 0 ++ (0 ∷ e) ≡ 0 ∷ (replicate v 0 ++ e)
zeros-shift zero e = refl
zeros-shift (suc v) e = ap (λ l. 0 ∷ l) (zeros-shift v e)

-- nothing put behind a list
append-nil : (e : List ℕ) → e ++ [] ≡ e
append-nil [] = refl
append-nil (a ∷ e) = ap (λ l. a ∷ l) (append-nil e)

-- a frame that holds the points of the coordinates from v on
σ-from : (n v : ℕ) (fr : ℕ → Point) → ((w : ℕ) → fr w ≡ unit_point (suc n) (v + w)) → (e : List ℕ) → v + length e ≡ n
    → (x : List ℕ) → length x ≡ n → σ (suc n) (entry_points fr e) x ≡ only (replicate v 0 ++ e) x
unfolding σ
σ-from n v fr is [] h x l =
    unit-only x ∙ ap (λ k. only (replicate k 0) x) (l ∙ sym h ∙ add-zero v) ∙ ap (λ y. only y x) (sym (append-nil (replicate v 0)))
σ-from n v fr is (k ∷ e) h x l =
    ap (λ p. σ (suc n) (replicate k p ++ entry_points (λ w. fr (suc w)) e) x) (is 0 ∙ ap (unit_point (suc n)) (add-zero v))
    ∙ σ-copies n v k e (entry_points (λ w. fr (suc w)) e) (omega arith)
    (λ y q. σ-from n (suc v) (λ w. fr (suc w)) (λ w. is (suc w) ∙ ap (unit_point (suc n)) (add-suc v w ∙ sym (suc-add v w))) e (omega arith) y q
    ∙ ap (λ z. only z y) (sym (zeros-shift v e)))
    x l

-- σ of coordinate points is 1 at their own exponents and 0 elsewhere
pub σ-units : (n i : ℕ) (e x : List ℕ) → length e ≡ n → length x ≡ n → σ (suc n) (entry_points (units n) (i ∷ e)) x ≡ cond (same e x) (pos 1) (pos 0)
σ-units n i e x h l =
    σ-copies-Z n i (entry_points (λ v. units n (suc v)) e) x l
    ∙ σ-from n 0 (λ v. units n (suc v)) (λ w. ap (unit_point (suc n)) (sym (zero-add w))) e (zero-add (length e) ∙ h) x l

-- ---- the monomials are all different

-- no list occurs twice
abbrev pub Distinct : List (List ℕ) → Type 0
Distinct [] = Unit {0}
Distinct (x ∷ xs) = Absent x xs × Distinct xs

-- two lists that share nothing, one after the other
distinct_append : (xs ys : List (List ℕ)) → Distinct xs → Distinct ys → ((x : List ℕ) → Memᴰ x xs → Absent x ys) → Distinct (xs ++ ys)
distinct_append [] ys dx dy apart = dy
distinct_append (x ∷ xs) ys dx dy apart =
    (λ y q. by y (Memᴰ.append_cases xs q), distinct_append xs ys dx.1 dy (λ z q. apart z (Memᴰ.tail q)))
  where
    by : (y : List ℕ) → Memᴰ y xs ⊎ Memᴰ y ys → same x y ≡ false
    by y (inl q) = dx.0 y q
    by y (inr q) = apart x (Memᴰ.head refl) y q

-- a common head keeps what is absent absent
absent-under : (i : ℕ) (e : List ℕ) (xs : List (List ℕ)) → Absent e xs → Absent (i ∷ e) (map (λ r. i ∷ r) xs)
absent-under i e xs a y q =
    let r = Memᴰ.of_map (λ z. i ∷ z) xs q in
    subst (λ z. same (i ∷ e) z ≡ false) r.2 (ap (λ b. cond b (same e r.0) false) (eq-eqb i i refl) ∙ a r.0 r.1)

-- lists with another head
absent-head : (i j : ℕ) (e : List ℕ) (xs : List (List ℕ)) → (i ≡ j → ⊥) → Absent (i ∷ e) (map (λ r. j ∷ r) xs)
absent-head i j e xs differ y q =
    let r = Memᴰ.of_map (λ z. j ∷ z) xs q in
    subst (λ z. same (i ∷ e) z ≡ false) r.2 (ap (λ b. cond b (same e r.0) false) (ne_eqb i j differ))

-- a common head keeps them different
distinct-under : (i : ℕ) (xs : List (List ℕ)) → Distinct xs → Distinct (map (λ r. i ∷ r) xs)
distinct-under i [] d = tt
distinct-under i (x ∷ xs) d = (absent-under i x xs d.0, distinct-under i xs d.1)

-- rows one after the other, no two of which share a list
distinct-rows : (f : ℕ → List (List ℕ)) (n : ℕ) → ((j : ℕ) → Distinct (f j)) → ((j k : ℕ) → j < k → (x : List ℕ) → Memᴰ x (f j) → Absent x (f k))
    → Distinct (joined f (upto n))
distinct-rows f zero d apart = tt
distinct-rows f (suc n) d apart =
    distinct_append (f 0) (joined f (map suc (upto n))) (d 0)
    (subst Distinct (sym (joined-map f suc (upto n))) (distinct-rows (λ j. f (suc j)) n (λ j. d (suc j)) (λ j k h. apart (suc j) (suc k) (suc-le-suc h))))
    (λ x q y s.
    let r = of-joined (λ j. f (suc j)) (upto n) (subst (λ l. Memᴰ y l) (joined-map f suc (upto n)) s) in
    apart 0 (suc r.0) (suc-le-suc zero-le) x q y r.2)

-- the monomials of degree m whose first exponent is h
abbrev row : ℕ → ℕ → ℕ → List (List ℕ)
row n m h = map (λ e. h ∷ e) (monomials n (m - h))

-- two rows differ in their first exponent, and in a row the other exponents differ
pub monomials-distinct : (n m : ℕ) → Distinct (monomials n m)
unfolding monomials
monomials-distinct zero m = (λ x q. absurd (Memᴰ.not-nil q), tt)
monomials-distinct (suc n) m =
    distinct-rows (row n m) (suc m) (λ j. distinct-under j (monomials n (m - j)) (monomials-distinct n (m - j)))
    (λ j k h x q.
    let r = Memᴰ.of_map (λ z. j ∷ z) (monomials n (m - j)) q in
    subst (λ z. Absent z (row n m k)) r.2 (absent-head j k r.0 (monomials n (m - k)) (λ e. omega arith)))

-- every list of n exponents with a total of at most m is among them
pub member-monomials : (n m : ℕ) (e : List ℕ) → length e ≡ n → total e ≤ m → Memᴰ e (monomials n m)
unfolding monomials
member-monomials zero m [] l t = Memᴰ.head refl
member-monomials zero m (a ∷ e) l t = absurd (wrong l)
  where
    wrong : suc (length e) ≡ 0 → ⊥
    wrong w = omega arith
member-monomials (suc n) m [] l t = absurd (wrong l)
  where
    wrong : 0 ≡ suc n → ⊥
    wrong w = omega arith
member-monomials (suc n) m (h ∷ e) l t =
    member-rows (row n m) (suc m) h (h ∷ e) (omega arith) (Memᴰ.map (λ r. h ∷ r) (member-monomials n (m - h) e (omega arith) (omega arith)))

-- ---- one term is left

-- what the terms of component c give, each its coefficient times K of its exponents
abbrev summed : ℕ → (List Exponents → ℤ) → List (List Exponents) → List ℤ → ℤ
summed c K es numbers = sum (λ t. t.coefficient *ℤ K t.exponents) (terms c es numbers)

summed-append : (c : ℕ) (K : List Exponents → ℤ) (ds bs : List (List Exponents)) (numbers : List ℤ)
    → summed c K (ds ++ bs) numbers ≡ summed c K ds numbers +ℤ summed c K bs (drop (4 * length ds) numbers)
summed-append c K [] bs numbers = sym (+ℤ_idl (summed c K bs numbers))
summed-append c K (e ∷ ds) bs numbers =
    ap (λ s. get_or numbers c (pos 0) *ℤ K e +ℤ s)
    (summed-append c K ds bs (drop 4 numbers)
    ∙ ap (λ l. summed c K ds (drop 4 numbers) +ℤ summed c K bs l) (drop-drop (4 * length ds) 4 numbers ∙ ap (λ i. drop i numbers) next))
    ∙ sym (+ℤ_assoc (get_or numbers c (pos 0) *ℤ K e) (summed c K ds (drop 4 numbers)) (summed c K bs (drop (4 * suc (length ds)) numbers)))
  where
    next : 4 + 4 * length ds ≡ 4 * suc (length ds)
    next = omega arith

summed-row : (c : ℕ) (K : List Exponents → ℤ) (x : Exponents) (yss : List (List Exponents)) (numbers : List ℤ)
    → summed c K (map (λ ys. x ∷ ys) yss) numbers ≡ summed c (λ ys. K (x ∷ ys)) yss numbers
summed-row c K x [] numbers = refl
summed-row c K x (ys ∷ yss) numbers = ap (λ s. get_or numbers c (pos 0) *ℤ K (x ∷ ys) +ℤ s) (summed-row c K x yss (drop 4 numbers))

summed-zero : (c : ℕ) (K : List Exponents → ℤ) (es : List (List Exponents)) (numbers : List ℤ) → ((e : List Exponents) → K e ≡ pos 0) → summed c K es numbers ≡ pos 0
summed-zero c K [] numbers h = refl
summed-zero c K (e ∷ es) numbers h = ap₂ ◌+ℤ◌ (ap (λ z. get_or numbers c (pos 0) *ℤ z) (h e) ∙ *ℤ-zero (get_or numbers c (pos 0))) (summed-zero c K es (drop 4 numbers) h)

summed-members : (c : ℕ) (K L : List Exponents → ℤ) (es : List (List Exponents)) (numbers : List ℤ) → ((e : List Exponents) → Memᴰ e es → K e ≡ L e) → summed c K es numbers ≡ summed c L es numbers
summed-members c K L [] numbers h = refl
summed-members c K L (e ∷ es) numbers h =
    ap₂ (λ k s. get_or numbers c (pos 0) *ℤ k +ℤ s) (h e (Memᴰ.head refl)) (summed-members c K L es (drop 4 numbers) (λ x m. h x (Memᴰ.tail m)))

-- of the rows of pairs, the row of e is left where K is 0 in the others
module _ (c : ℕ) (K : List Exponents → ℤ) (e : Exponents) (yss : List (List Exponents)) (others : (x : Exponents) → same e x ≡ false → (ys : List Exponents) → K (x ∷ ys) ≡ pos 0) where
  abbrev rows : List Exponents → List ℤ → ℤ
  rows xs numbers = summed c K (pairs xs yss) numbers

  next-rows : (x : Exponents) (xs : List Exponents) (numbers : List ℤ) → rows (x ∷ xs) numbers ≡ summed c (λ ys. K (x ∷ ys)) yss numbers +ℤ rows xs (drop (4 * length yss) numbers)
  next-rows x xs numbers =
      summed-append c K (map (λ ys. x ∷ ys) yss) (pairs xs yss) numbers
      ∙ ap₂ (λ s k. s +ℤ rows xs (drop (4 * k) numbers)) (summed-row c K x yss numbers) (length-map yss (λ ys. x ∷ ys))

  none_left : (xs : List Exponents) (numbers : List ℤ) → Absent e xs → rows xs numbers ≡ pos 0
  none_left [] numbers a = refl
  none_left (x ∷ xs) numbers a =
      next-rows x xs numbers
      ∙ ap₂ ◌+ℤ◌ (summed-zero c (λ ys. K (x ∷ ys)) yss numbers (others x (a x (Memᴰ.head refl)))) (none_left xs (drop (4 * length yss) numbers) (λ y q. a y (Memᴰ.tail q)))

  one_left : (xs : List Exponents) (numbers : List ℤ) → Distinct xs → Memᴰ e xs → rows xs numbers ≡ summed c (λ ys. K (e ∷ ys)) yss (drop (4 * (place_of e xs * length yss)) numbers)
  one_left [] numbers d m = absurd (Memᴰ.not-nil m)
  one_left (x ∷ xs) numbers d m = next-rows x xs numbers ∙ by (same e x) refl (one_left xs (drop (4 * length yss) numbers) d.1)
    where
      later : (e ≡ x) ⊎ Memᴰ e xs → same e x ≡ false → Memᴰ e xs
      later (inl p) q = absurd (clash (subst (λ y. same e y ≡ true) p (same_refl e)) q)
      later (inr k) q = k

      next_place : (p k : ℕ) → 4 * k + 4 * (p * k) ≡ 4 * (suc p * k)
      next_place p k = ap (λ z. 4 * k + 4 * z) refl ∙ add-to (p * k) k ∙ ap (λ z. 4 * z) (sym (suc-mul p k))
        where
          add-to : (x y : ℕ) → 4 * y + 4 * x ≡ 4 * (x + y)
          add-to x y = omega arith

      by : (b : Bool) → same e x ≡ b → (Memᴰ e xs → rows xs (drop (4 * length yss) numbers) ≡ summed c (λ ys. K (e ∷ ys)) yss (drop (4 * (place_of e xs * length yss)) (drop (4 * length yss) numbers)))
          → summed c (λ ys. K (x ∷ ys)) yss numbers +ℤ rows xs (drop (4 * length yss) numbers)
          ≡ summed c (λ ys. K (e ∷ ys)) yss (drop (4 * (cond b 0 (suc (place_of e xs)) * length yss)) numbers)
      by true q rest-is =
          let e-is = same-eq e x q in
          ap (λ s. summed c (λ ys. K (x ∷ ys)) yss numbers +ℤ s) (none_left xs (drop (4 * length yss) numbers) (subst (λ y. Absent y xs) (sym e-is) d.0))
          ∙ +ℤ_idr (summed c (λ ys. K (x ∷ ys)) yss numbers)
          ∙ ap₂ (λ y i. summed c (λ ys. K (y ∷ ys)) yss (drop (4 * i) numbers)) (sym e-is) (sym (zero-mul (length yss)))
      by false q rest-is =
          ap₂ ◌+ℤ◌ (summed-zero c (λ ys. K (x ∷ ys)) yss numbers (others x q)) (rest-is (later (Memᴰ.cases_cons m) q))
          ∙ +ℤ_idl (summed c (λ ys. K (e ∷ ys)) yss (drop (4 * (place_of e xs * length yss)) (drop (4 * length yss) numbers)))
          ∙ ap (summed c (λ ys. K (e ∷ ys)) yss) (drop-drop (4 * (place_of e xs * length yss)) (4 * length yss) numbers ∙ ap (λ i. drop i numbers) (next_place (place_of e xs) (length yss)))

-- the points of an entry over the frames of the coordinates, Z first in each
abbrev pub units_taken : List Group → List (List ℕ) → List (List Point)
units_taken [] es = []
units_taken (g ∷ gs) es = entry_points (units g.dimension) (head es) ∷ units_taken gs (tail es)

-- the exponents of an entry: Z has none
abbrev pub exponents_of : List (List ℕ) → List Exponents
exponents_of es = map (λ e. drop 1 e) es

-- the place of a monomial
abbrev pub monomial_place : List Group → List Exponents → ℕ
monomial_place [] es = 0
monomial_place (g ∷ gs) es = place_of (head es) (monomials g.dimension g.degree) * length (monomials_over gs) + monomial_place gs (tail es)

-- the first group's σ is 1 at e and 0 elsewhere; W is what else multiplies a coefficient
module _ (g : Group) (gs : List Group) (W : List Exponents → ℤ) (i : ℕ) (e : List ℕ) (es : List (List ℕ)) where
  abbrev with-only : List Exponents → ℤ
  with-only x = W x *ℤ (only e (head x) *ℤ σOver gs (units_taken gs es) (tail x))

  is-only : length e ≡ g.dimension → (x : List Exponents) → Memᴰ x (pairs (monomials g.dimension g.degree) (monomials_over gs))
      → W x *ℤ σOver (g ∷ gs) (units_taken (g ∷ gs) ((i ∷ e) ∷ es)) x ≡ with-only x
  is-only l x m =
      let r = of-pairs (monomials g.dimension g.degree) (monomials_over gs) m in
      ap (λ s. W x *ℤ (s *ℤ σOver gs (units_taken gs es) (tail x)))
      (subst (λ y. σ (suc g.dimension) (entry_points (units g.dimension) (i ∷ e)) (head y) ≡ only e (head y)) r.4
      (σ-units g.dimension i e r.0 l (monomials-total g.dimension g.degree r.0 r.2).0))

  others : (x : Exponents) → same e x ≡ false → (ys : List Exponents) → with-only (x ∷ ys) ≡ pos 0
  others x q ys =
      ap (λ b. W (x ∷ ys) *ℤ (cond b (pos 1) (pos 0) *ℤ σOver gs (units_taken gs es) ys)) q
      ∙ ring (W (x ∷ ys) ∷ σOver gs (units_taken gs es) ys ∷ []) (search ring-rules depth 60) tt

  at-e : (ys : List Exponents) → with-only (e ∷ ys) ≡ W (e ∷ ys) *ℤ σOver gs (units_taken gs es) ys
  at-e ys =
      ap (λ b. W (e ∷ ys) *ℤ (cond b (pos 1) (pos 0) *ℤ σOver gs (units_taken gs es) ys)) (same_refl e)
      ∙ ring (W (e ∷ ys) ∷ σOver gs (units_taken gs es) ys ∷ []) (search ring-rules depth 60) tt

left_over : (gs : List Group) (c : ℕ) (W : List Exponents → ℤ) (numbers : List ℤ) (es : List (List ℕ)) → Counted gs es
    → summed c (λ x. W x *ℤ σOver gs (units_taken gs es) x) (monomials_over gs) numbers ≡ get_or numbers (4 * monomial_place gs (exponents_of es) + c) (pos 0) *ℤ W (exponents_of es)
unfolding monomials_over
left_over [] c W numbers [] counted = ring (get_or numbers c (pos 0) ∷ W [] ∷ []) (search ring-rules depth 60) tt ∙ ap (λ i. get_or numbers i (pos 0) *ℤ W []) (sym first-place)
  where
    first-place : 4 * 0 + c ≡ c
    first-place = omega arith
left_over [] c W numbers (e ∷ es) counted = absurd counted
left_over (g ∷ gs) c W numbers [] counted = absurd counted
left_over (g ∷ gs) c W numbers ([] ∷ es) counted = absurd (wrong counted.0)
  where
    wrong : 0 ≡ suc g.dimension → ⊥
    wrong w = omega arith
left_over (g ∷ gs) c W numbers ((i ∷ e) ∷ es) counted =
    let start = 4 * (place_of e (monomials g.dimension g.degree) * length (monomials_over gs)) in
    summed-members c (λ x. W x *ℤ σOver (g ∷ gs) (units_taken (g ∷ gs) ((i ∷ e) ∷ es)) x) (with-only g gs W i e es) (pairs (monomials g.dimension g.degree) (monomials_over gs)) numbers (is-only g gs W i e es own-length)
    ∙ one_left c (with-only g gs W i e es) e (monomials_over gs) (others g gs W i e es) (monomials g.dimension g.degree) numbers (monomials-distinct g.dimension g.degree)
    (member-monomials g.dimension g.degree e own-length own-total)
    ∙ summed-members c (λ ys. with-only g gs W i e es (e ∷ ys)) (λ ys. W (e ∷ ys) *ℤ σOver gs (units_taken gs es) ys) (monomials_over gs) (drop start numbers) (λ ys m. at-e g gs W i e es ys)
    ∙ left_over gs c (λ ys. W (e ∷ ys)) (drop start numbers) es counted.2
    ∙ ap (λ z. z *ℤ W (e ∷ exponents_of es))
    (get_or-drop start numbers (4 * monomial_place gs (exponents_of es) + c) (pos 0)
    ∙ ap (λ j. get_or numbers j (pos 0)) (join-place (place_of e (monomials g.dimension g.degree) * length (monomials_over gs)) (monomial_place gs (exponents_of es))))
  where
    own-length : length e ≡ g.dimension
    own-length = let l = counted.0 in omega arith

    own-total : total e ≤ g.degree
    own-total = let t = counted.1 in omega arith

    join-place : (x y : ℕ) → 4 * x + (4 * y + c) ≡ 4 * (x + y) + c
    join-place x y = omega arith

-- over the frames of the coordinates the scaled polar value is the scaled coefficient
pub standard : (gs : List Group) (c : ℕ) (numbers : List ℤ) (es : List (List ℕ)) → Counted gs es
    → polar_over gs (terms c (monomials_over gs) numbers) (units_taken gs es)
    ≡ get_or numbers (4 * monomial_place gs (exponents_of es) + c) (pos 0) *ℤ pos (scale_over gs / multinomial_over gs (exponents_of es))
unfolding polar_over
standard gs c numbers es counted =
    sum-cong (λ t. *ℤ-assoc t.coefficient (pos (scale_over gs / multinomial_over gs t.exponents)) (σOver gs (units_taken gs es) t.exponents)) (terms c (monomials_over gs) numbers)
    ∙ left_over gs c (λ x. pos (scale_over gs / multinomial_over gs x)) numbers es counted

-- ---- the places of the monomials

-- every member's place is below the length
pub place-below : (n m : ℕ) (e : List ℕ) → length e ≡ n → total e ≤ m → place_of e (monomials n m) < length (monomials n m)
place-below n m e l t = (placed e (monomials n m) (member-monomials n m e l t)).0

-- the rows' first exponents do not change their lengths
offset-rows : (n m h : ℕ) → offset (row n m) h ≡ offset (λ j. monomials n (m - j)) h
offset-rows n m h = offset-cong (row n m) (λ j. monomials n (m - j)) h (λ j. length-map (monomials n (m - j)) (λ e. j ∷ e))

-- a monomial's place: the rows before, and the place of the other exponents in its row
pub place-monomials : (n m h : ℕ) (e : List ℕ) → length e ≡ n → h + total e ≤ m
    → place_of (h ∷ e) (monomials (suc n) m) ≡ offset (λ j. monomials n (m - j)) h + place_of e (monomials n (m - h))
unfolding monomials
place-monomials n m h e l t =
    place-rows (row n m) (suc m) h (h ∷ e) (omega arith) (λ j b. absent-head h j e (monomials n (m - j)) (λ p. omega arith))
    (Memᴰ.map (λ r. h ∷ r) (member-monomials n (m - h) e l (omega arith)))
    ∙ ap₂ ◌+◌ (offset-rows n m h) (place-under h e (monomials n (m - h)))

-- how many monomials there are
pub length-monomials : (n m : ℕ) → length (monomials (suc n) m) ≡ offset (λ j. monomials n (m - j)) (suc m)
unfolding monomials
length-monomials n m = length-rows (row n m) (suc m) ∙ offset-rows n m (suc m)

-- rows of one list each
offset-ones : (g : ℕ → ℕ) (k : ℕ) → offset (λ j. monomials 0 (g j)) k ≡ k
unfolding monomials
offset-ones g zero = refl
offset-ones g (suc k) = ap (λ x. 1 + x) (offset-ones (λ j. g (suc j)) k) ∙ omega arith

-- curves: the exponent is the place
pub place-one : (m k : ℕ) → k ≤ m → place_of (k ∷ []) (monomials 1 m) ≡ k
unfolding monomials
place-one m k h = place-monomials 0 m k [] refl (omega arith) ∙ ap (λ x. x + 0) (offset-ones (λ j. m - j) k) ∙ add-zero k

pub length-one : (m : ℕ) → length (monomials 1 m) ≡ suc m
length-one m = length-monomials 0 m ∙ offset-ones (λ j. m - j) (suc m)

-- patches: the rows before, and l
pub place-two : (m h l : ℕ) → h + l ≤ m → place_of (h ∷ l ∷ []) (monomials 2 m) ≡ offset (λ j. monomials 1 (m - j)) h + l
place-two m h l t = place-monomials 1 m h (l ∷ []) refl (omega arith) ∙ ap (λ x. offset (λ j. monomials 1 (m - j)) h + x) (place-one (m - h) l (omega arith))

-- row h has 1 + m − h monomials
pub offset_step : (m h : ℕ) → offset (λ j. monomials 1 (m - j)) (suc h) ≡ offset (λ j. monomials 1 (m - j)) h + suc (m - h)
offset_step m h = offset-snoc (λ j. monomials 1 (m - j)) h ∙ ap (λ x. offset (λ j. monomials 1 (m - j)) h + x) (length-one (m - h))

pub length_two : (m : ℕ) → length (monomials 2 m) ≡ offset (λ j. monomials 1 (m - j)) (suc m)
length_two m = length-monomials 1 m
