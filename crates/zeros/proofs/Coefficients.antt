-- Polynomials in T and Z by their coefficients: sums of them and products with linear forms are such
-- polynomials, and one that is 0 everywhere has no coefficient but 0.
use Prim.Native.Nat.{ℕ, zero, suc, ◌+◌, ◌-◌, ◌*◌, ◌<◌, ◌≤◌}
use native.Mathlib.Nat as NatL
use native.Mathlib.Omega.{arith}
use native.Mathlib.Decide.{dec_le}
use mathlib.Core.Path.{◌≡◌, refl, sym, ap, ap₂, ◌∙◌, subst}
use mathlib.Core.List.{List, [], ◌∷◌, ◌++◌, map, map-map, zip_with}
use lib.IntN.{ℤ, pos, neg_ℤ, ◌+ℤ◌, ◌*ℤ◌, *ℤ-zero}
use lib.ListN.{length, get_or, drop, length-drop}
use lib.Seq.{get_or-drop}
use Rattle.integers.specs.Sum.{upto}
use Rattle.integers.proofs.Laws.{one-*ℤ}
use Rattle.integers.proofs.Ring.{ring, ring-rules, cancelled}
use Rattle.polar.specs.Order.{joined, monomials}
use Rattle.polar.specs.Groups.{monomials_over}
use Rattle.polar.specs.Polar.{power, value_over, terms}
use Rattle.entries.specs.Entries.{fixed}
use Rattle.zeros.proofs.LeftOver.{left_over, too_many, all-divide}
use Rattle.machine.specs.Comparison.{groups}
use Rattle.zeros.specs.CommonZero.{curve, value_at}

-- a₀ Z^n + a₁ T Z^(n-1) + .. of a₀, .., aₙ
abbrev pub at_tz : List ℤ → ℤ → ℤ → ℤ
at_tz [] t z = pos 0
at_tz (a ∷ cs) t z = a *ℤ power z (length cs) +ℤ t *ℤ at_tz cs t z

-- φ is the value of n + 1 coefficients
pub record Poly (n : ℕ) (φ : ℤ → ℤ → ℤ) : Type 0 where
  pub coefficients : List ℤ
  pub long : length coefficients ≡ suc n
  pub value : (t z : ℤ) → at_tz coefficients t z ≡ φ t z

pub other-degree : {n m : ℕ} {φ : ℤ → ℤ → ℤ} → n ≡ m → Poly n φ → Poly m φ
other-degree {φ = φ} e p = subst (λ k. Poly k φ) e p

pub other-value : {n : ℕ} {φ ψ : ℤ → ℤ → ℤ} → ((t z : ℤ) → φ t z ≡ ψ t z) → Poly n φ → Poly n ψ
other-value e p = record { coefficients = p.coefficients; long = p.long; value = λ t z. p.value t z ∙ e t z }

pub constant : (k : ℤ) → Poly 0 (λ t z. k)
constant k = record { coefficients = k ∷ []; long = refl; value = λ t z. ring (k ∷ t ∷ []) (search ring-rules depth 60) tt }

-- ---- sums and products

abbrev times : ℤ → List ℤ → List ℤ
times k cs = map (λ a. k *ℤ a) cs

length-times : (k : ℤ) (cs : List ℤ) → length (times k cs) ≡ length cs
length-times k [] = refl
length-times k (a ∷ cs) = ap suc (length-times k cs)

times-value : (k : ℤ) (cs : List ℤ) (t z : ℤ) → at_tz (times k cs) t z ≡ k *ℤ at_tz cs t z
times-value k [] t z = sym (*ℤ-zero k)
times-value k (a ∷ cs) t z =
    ap₂ (λ n x. k *ℤ a *ℤ power z n +ℤ t *ℤ x) (length-times k cs) (times-value k cs t z)
    ∙ ring (k ∷ a ∷ power z (length cs) ∷ t ∷ at_tz cs t z ∷ []) (search ring-rules depth 60) tt

abbrev plus : List ℤ → List ℤ → List ℤ
plus cs bs = zip_with ◌+ℤ◌ cs bs

length-plus : (cs bs : List ℤ) → length cs ≡ length bs → length (plus cs bs) ≡ length cs
unfolding zip_with
length-plus [] [] e = refl
length-plus [] (b ∷ bs) e = refl
length-plus (a ∷ cs) [] e = absurd (NatL.suc-ne-zero _ e)
length-plus (a ∷ cs) (b ∷ bs) e = ap suc (length-plus cs bs (NatL.suc_inj e))

plus-value : (cs bs : List ℤ) → length cs ≡ length bs → (t z : ℤ) → at_tz (plus cs bs) t z ≡ at_tz cs t z +ℤ at_tz bs t z
unfolding zip_with
plus-value [] [] e t z = refl
plus-value [] (b ∷ bs) e t z = absurd (NatL.suc-ne-zero _ (sym e))
plus-value (a ∷ cs) [] e t z = absurd (NatL.suc-ne-zero _ e)
plus-value (a ∷ cs) (b ∷ bs) e t z =
    let same = NatL.suc_inj e in
    ap₂ (λ n x. (a +ℤ b) *ℤ power z n +ℤ t *ℤ x) (length-plus cs bs same) (plus-value cs bs same t z)
    ∙ ring (a ∷ b ∷ power z (length cs) ∷ t ∷ at_tz cs t z ∷ at_tz bs t z ∷ []) (search ring-rules depth 60) tt
    ∙ ap (λ n. a *ℤ power z (length cs) +ℤ t *ℤ at_tz cs t z +ℤ (b *ℤ power z n +ℤ t *ℤ at_tz bs t z)) same

-- times Z
length_last : (cs : List ℤ) → length (cs ++ (pos 0 ∷ [])) ≡ suc (length cs)
length_last [] = refl
length_last (a ∷ cs) = ap suc (length_last cs)

last-value : (cs : List ℤ) (t z : ℤ) → at_tz (cs ++ (pos 0 ∷ [])) t z ≡ z *ℤ at_tz cs t z
last-value [] t z = ring (t ∷ z ∷ []) (search ring-rules depth 60) tt
last-value (a ∷ cs) t z =
    ap₂ (λ n x. a *ℤ power z n +ℤ t *ℤ x) (length_last cs) (last-value cs t z)
    ∙ ring (a ∷ z ∷ power z (length cs) ∷ t ∷ at_tz cs t z ∷ []) (search ring-rules depth 60) tt

pub poly-sum : {n : ℕ} {φ ψ : ℤ → ℤ → ℤ} → Poly n φ → Poly n ψ → Poly n (λ t z. φ t z +ℤ ψ t z)
poly-sum p q =
    let same = p.long ∙ sym q.long in
    record {
      coefficients = plus p.coefficients q.coefficients;
      long = length-plus p.coefficients q.coefficients same ∙ p.long;
      value = λ t z. plus-value p.coefficients q.coefficients same t z ∙ ap₂ ◌+ℤ◌ (p.value t z) (q.value t z);
    }

-- times aT + bZ
pub poly-linear : (a b : ℤ) {n : ℕ} {φ : ℤ → ℤ → ℤ} → Poly n φ → Poly (suc n) (λ t z. (a *ℤ t +ℤ b *ℤ z) *ℤ φ t z)
poly-linear a b {n} {φ} p =
    record {
      coefficients = plus first second;
      long = length-plus first second same ∙ first-long;
      value = λ t z.
          plus-value first second same t z
          ∙ ap₂ ◌+ℤ◌ (times-value a (pos 0 ∷ cs) t z) (times-value b (cs ++ (pos 0 ∷ [])) t z ∙ ap (λ x. b *ℤ x) (last-value cs t z))
          ∙ ring (a ∷ b ∷ t ∷ z ∷ power z (length cs) ∷ at_tz cs t z ∷ []) (search ring-rules depth 60) tt
          ∙ ap (λ x. (a *ℤ t +ℤ b *ℤ z) *ℤ x) (p.value t z);
    }
  where
    cs : List ℤ
    cs = p.coefficients

    first : List ℤ
    first = times a (pos 0 ∷ cs)

    second : List ℤ
    second = times b (cs ++ (pos 0 ∷ []))

    first-long : length first ≡ suc (suc n)
    first-long = length-times a (pos 0 ∷ cs) ∙ ap suc p.long

    same : length first ≡ length second
    same = first-long ∙ sym (length-times b (cs ++ (pos 0 ∷ [])) ∙ length_last cs ∙ ap suc p.long)

-- ---- what is left over, at linear forms l and u

module _ (la lb ua ub : ℤ) (f : List ℕ → ℤ) where
  abbrev l : ℤ → ℤ → ℤ
  l t z = la *ℤ t +ℤ lb *ℤ z

  abbrev u : ℤ → ℤ → ℤ
  u t z = ua *ℤ t +ℤ ub *ℤ z

  fixed-poly : (h a b : ℕ) → Poly h (λ t z. fixed 2 (l t z ∷ u t z ∷ []) f h (a ∷ b ∷ []))
  unfolding fixed
  fixed-poly zero a b = constant (f (a ∷ b ∷ []))
  fixed-poly (suc h) a b =
      other-value (λ t z. ap (λ x. l t z *ℤ fixed 2 (l t z ∷ u t z ∷ []) f h (suc a ∷ b ∷ []) +ℤ x) (sym (lib.IntN.+ℤ_idr (u t z *ℤ fixed 2 (l t z ∷ u t z ∷ []) f h (a ∷ suc b ∷ [])))))
      (poly-sum (poly-linear la lb (fixed-poly h (suc a) b)) (poly-linear ua ub (fixed-poly h a (suc b))))

  pub left-poly : (k h a b : ℕ) → Poly (h - k) (λ t z. left_over (l t z) (u t z) f k h a b)
  left-poly zero h a b = other-degree (sym (NatL.sub-zero h)) (fixed-poly h a b)
  left-poly (suc k) zero a b = other-degree (sym (NatL.zero-sub (suc k))) (constant (pos 0))
  left-poly (suc k) (suc h) a b = by (dec_le (suc k) h) (left-poly (suc k) h (suc a) b) (left-poly k h a (suc b))
    where
      by : Dec (suc k ≤ h) → Poly (h - suc k) (λ t z. left_over (l t z) (u t z) f (suc k) h (suc a) b) → Poly (h - k) (λ t z. left_over (l t z) (u t z) f k h a (suc b))
          → Poly (suc h - suc k) (λ t z. l t z *ℤ left_over (l t z) (u t z) f (suc k) h (suc a) b +ℤ left_over (l t z) (u t z) f k h a (suc b))
      by (yes p) first second =
          let up : suc (h - suc k) ≡ suc h - suc k = omega arith in
          let down : h - k ≡ suc h - suc k = omega arith in
          poly-sum (other-degree up (poly-linear la lb first)) (other-degree down second)
      by (no p) first second =
          let down : h - k ≡ suc h - suc k = omega arith in
          other-value
          (λ t z.
          ring (l t z ∷ left_over (l t z) (u t z) f k h a (suc b) ∷ []) (search ring-rules depth 60) tt
          ∙ ap (λ x. l t z *ℤ x +ℤ left_over (l t z) (u t z) f k h a (suc b)) (sym (too_many (l t z) (u t z) f (suc k) h (suc a) b (omega arith))))
          (other-degree down second)

-- ---- the columns of a curve's coefficients

abbrev pub column : ℕ → ℕ → List ℤ → List ℤ
column c zero numbers = []
column c (suc j) numbers = get_or numbers c (pos 0) ∷ column c j (drop 4 numbers)

pub length-column : (c j : ℕ) (numbers : List ℤ) → length (column c j numbers) ≡ j
length-column c zero numbers = refl
length-column c (suc j) numbers = ap suc (length-column c j (drop 4 numbers))

pub column-at : (c j : ℕ) (numbers : List ℤ) (k : ℕ) → k < j → get_or (column c j numbers) k (pos 0) ≡ get_or numbers (4 * k + c) (pos 0)
column-at c zero numbers k h = absurd (NatL.not-suc-le-zero h)
column-at c (suc j) numbers zero h = ap (λ i. get_or numbers i (pos 0)) (omega arith)
column-at c (suc j) numbers (suc k) h =
    let further : 4 + (4 * k + c) ≡ 4 * suc k + c = omega arith in
    column-at c j (drop 4 numbers) k (NatL.le_of_suc-le-suc h) ∙ get_or-drop 4 numbers (4 * k + c) (pos 0) ∙ ap (λ i. get_or numbers i (pos 0)) further

-- s, s + 1, .., j numbers
abbrev run : ℕ → ℕ → List ℕ
run s zero = []
run s (suc j) = s ∷ run (suc s) j

run-suc : (s j : ℕ) → map suc (run s j) ≡ run (suc s) j
run-suc s zero = refl
run-suc s (suc j) = ap (λ l. suc s ∷ l) (run-suc (suc s) j)

upto-run : (n : ℕ) → upto n ≡ run 0 n
upto-run zero = refl
upto-run (suc n) = ap (λ l. 0 ∷ map suc l) (upto-run n) ∙ ap (λ l. 0 ∷ l) (run-suc 0 n)

singles : {A B : Type 0} (f : A → B) (xs : List A) → joined (λ x. f x ∷ []) xs ≡ map f xs
singles f [] = refl
singles f (x ∷ xs) = ap (λ l. f x ∷ l) (singles f xs)

line-monomials : (n : ℕ) → monomials_over (groups (curve n [])) ≡ map (λ h. (h ∷ []) ∷ []) (run 0 (suc n))
unfolding monomials_over monomials
line-monomials n =
    singles (λ e. e ∷ []) (joined (λ h. (h ∷ []) ∷ []) (upto (suc n)))
    ∙ ap (map (λ e. e ∷ [])) (singles (λ h. h ∷ []) (upto (suc n)))
    ∙ map-map (λ e. e ∷ []) (λ h. h ∷ []) (upto (suc n))
    ∙ ap (map (λ h. (h ∷ []) ∷ [])) (upto-run (suc n))

run_value : (n c : ℕ) (t z : ℤ) (s j : ℕ) (numbers : List ℤ) → s + j ≡ suc n
    → value_over (groups (curve n [])) (terms c (map (λ h. (h ∷ []) ∷ []) (run s j)) numbers) ((t ∷ z ∷ []) ∷ []) ≡ power t s *ℤ at_tz (column c j numbers) t z
unfolding value_over
run_value n c t z s zero numbers e = sym (*ℤ-zero (power t s))
run_value n c t z s (suc j) numbers e =
    let left : n - (s + 0) ≡ length (column c j (drop 4 numbers)) = omega (arith, length-column c j (drop 4 numbers)) in
    ap₂ (λ i x. get_or numbers c (pos 0) *ℤ (power t s *ℤ pos 1 *ℤ power z i *ℤ pos 1) +ℤ x) left (run_value n c t z (suc s) j (drop 4 numbers) (omega arith))
    ∙ ring (get_or numbers c (pos 0) ∷ power t s ∷ power z (length (column c j (drop 4 numbers))) ∷ t ∷ at_tz (column c j (drop 4 numbers)) t z ∷ []) (search ring-rules depth 60 fits 9000) tt

-- a curve's value by its column
pub value-column : (n c : ℕ) (f : List ℤ) (t z : ℤ) → value_at (curve n f) c (t ∷ z ∷ []) ≡ at_tz (column c (suc n) f) t z
value-column n c f t z =
    ap (λ es. value_over (groups (curve n [])) (terms c es f) ((t ∷ z ∷ []) ∷ [])) (line-monomials n)
    ∙ run_value n c t z 0 (suc n) f (NatL.zero-add (suc n))
    ∙ one-*ℤ (at_tz (column c (suc n) f) t z)

-- ---- coefficients in rows of four, from four columns

abbrev pub rows_from : (ℕ → List ℤ) → ℕ → List ℤ
rows_from cs zero = []
rows_from cs (suc j) = get_or (cs 0) 0 (pos 0) ∷ get_or (cs 1) 0 (pos 0) ∷ get_or (cs 2) 0 (pos 0) ∷ get_or (cs 3) 0 (pos 0) ∷ rows_from (λ c. drop 1 (cs c)) j

first-of-four : (p : ℕ → ℤ) (rest : List ℤ) (c : ℕ) → c < 4 → get_or (p 0 ∷ p 1 ∷ p 2 ∷ p 3 ∷ rest) c (pos 0) ≡ p c
first-of-four p rest zero h = refl
first-of-four p rest (suc zero) h = refl
first-of-four p rest (suc (suc zero)) h = refl
first-of-four p rest (suc (suc (suc zero))) h = refl
first-of-four p rest (suc (suc (suc (suc c)))) h = absurd (omega arith)

head-rest : (xs : List ℤ) (j : ℕ) → length xs ≡ suc j → get_or xs 0 (pos 0) ∷ drop 1 xs ≡ xs
head-rest [] j e = absurd (NatL.suc-ne-zero j (sym e))
head-rest (x ∷ xs) j e = refl

none-long : (xs : List ℤ) → length xs ≡ 0 → [] ≡ xs
none-long [] e = refl
none-long (x ∷ xs) e = absurd (NatL.suc-ne-zero _ e)

pub column-back : (cs : ℕ → List ℤ) (j c : ℕ) → c < 4 → length (cs c) ≡ j → column c j (rows_from cs j) ≡ cs c
column-back cs zero c h e = none-long (cs c) e
column-back cs (suc j) c h e =
    ap₂ ◌∷◌ (first-of-four (λ i. get_or (cs i) 0 (pos 0)) (rows_from (λ i. drop 1 (cs i)) j) c h)
    (column-back (λ i. drop 1 (cs i)) j c h (length-drop 1 (cs c) ∙ ap (λ k. k - 1) e ∙ NatL.suc-sub-suc j 0 ∙ NatL.sub-zero j))
    ∙ head-rest (cs c) j e

-- ---- a polynomial that is 0 everywhere

pub all-zero : (cs : List ℤ) → ((t z : ℤ) → (t ≡ pos 0 → ⊥) → at_tz cs t z ≡ pos 0) → (k : ℕ) → get_or cs k (pos 0) ≡ pos 0
all-zero [] h k = refl
all-zero (a ∷ cs) h k = by k (all-zero cs)
  where
    power-one : (n : ℕ) → power (pos 1) n ≡ pos 1
    power-one zero = refl
    power-one (suc n) = ap (λ x. pos 1 *ℤ x) (power-one n)

    first : a ≡ pos 0
    first =
        all-divide a
        (λ t p. (
          neg_ℤ (at_tz cs t (pos 1)),
          ring (a ∷ t ∷ at_tz cs t (pos 1) ∷ []) (search ring-rules depth 60) tt
              ∙ ap (λ x. a *ℤ x +ℤ t *ℤ at_tz cs t (pos 1) +ℤ t *ℤ neg_ℤ (at_tz cs t (pos 1))) (sym (power-one (length cs)))
              ∙ ap (λ x. x +ℤ t *ℤ neg_ℤ (at_tz cs t (pos 1))) (h t (pos 1) p)
              ∙ lib.IntN.+ℤ_idl (t *ℤ neg_ℤ (at_tz cs t (pos 1))),
        ))

    rest : (t z : ℤ) → (t ≡ pos 0 → ⊥) → at_tz cs t z ≡ pos 0
    rest t z p =
        cancelled t (at_tz cs t z) (pos 0) p
        (ring (t ∷ power z (length cs) ∷ at_tz cs t z ∷ []) (search ring-rules depth 60) tt
        ∙ ap (λ x. x *ℤ power z (length cs) +ℤ t *ℤ at_tz cs t z) (sym first)
        ∙ h t z p
        ∙ sym (*ℤ-zero t))

    by : (k : ℕ) → (((t z : ℤ) → (t ≡ pos 0 → ⊥) → at_tz cs t z ≡ pos 0) → (j : ℕ) → get_or cs j (pos 0) ≡ pos 0) → get_or (a ∷ cs) k (pos 0) ≡ pos 0
    by zero later = first
    by (suc k) later = later rest k

-- and back
pub zeros-value : (cs : List ℤ) (t z : ℤ) → ((k : ℕ) → k < length cs → get_or cs k (pos 0) ≡ pos 0) → at_tz cs t z ≡ pos 0
zeros-value [] t z h = refl
zeros-value (a ∷ cs) t z h =
    ap₂ (λ x y. x *ℤ power z (length cs) +ℤ t *ℤ y) (h 0 (NatL.zero-lt-suc (length cs))) (zeros-value cs t z (λ k p. h (suc k) (omega arith)))
    ∙ ring (power z (length cs) ∷ t ∷ []) (search ring-rules depth 60) tt
