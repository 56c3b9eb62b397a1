-- m copies of one point: σ is the multinomial times the monomial's value at the point.
-- The idea: multiplied by the factorials of the exponents, σ of m copies is m! times the monomial; each coordinate adds its exponent times that.
-- At the point with all coordinates 1 this says that the factorials divide m!, so the multinomial is an exact quotient.
use Prim.Native.Nat.{ℕ, zero, suc, ◌+◌, ◌*◌, ◌-◌, ◌<◌, ◌≤◌, zero-le, suc-le-suc}
use native.Mathlib.Nat.{le_of_suc-le-suc, not-suc-le-zero, mul-pos, mul-zero, div-eq_of_eq-mul_right, mul_comm, add-suc, suc-add, zero-add, add-zero}
use native.Mathlib.Omega.{arith}
use mathlib.Core.Path.{◌≡◌, refl, sym, ap, ap₂, ◌∙◌}
use mathlib.Core.List.{List, [], ◌∷◌}
use lib.IntN.{ℤ, pos, nat_abs, ◌+ℤ◌, ◌*ℤ◌, *ℤ-zero}
use lib.Dec.{lit≤}
use lib.ListN.{get_or, length, replicate, get_or-replicate}
use Rattle.integers.specs.Sum.{sum, upto}
use Rattle.integers.proofs.Sums.{sum-cong, sum-upto-cong, sum-map, sum-*l, sum-*r, sum-zero, sum-upto-snoc}
use Rattle.integers.proofs.Laws.{*ℤ-distl, *ℤ-distr, nat_abs-*}
use Rattle.integers.proofs.Ring.{ring, ring-rules, ring-from, cancel}
use Rattle.polar.specs.Sigma.{Point, Exponents, lowered, unit, σ}
use Rattle.polar.specs.Order.{total}
use Rattle.polar.specs.Scale.{factorial, factorials, multinomial}
use Rattle.polar.specs.Polar.{power, powers}

-- ---- exponents that together exceed the number of points

-- f is 0 where a and the exponents exceed k
lowered-high : (c : ℕ) (f : Exponents → ℤ) (a k : ℕ) (e : Exponents) → ((r : Exponents) → k < a + total r → f r ≡ pos 0) → suc k < a + total e → lowered c f e ≡ pos 0
lowered-high c f a k [] high h = high [] (omega arith)
lowered-high zero f a k (zero ∷ e) high h = refl
lowered-high zero f a k (suc n ∷ e) high h = high (n ∷ e) (omega arith)
lowered-high (suc c) f a k (n ∷ e) high h = lowered-high c (λ r. f (n ∷ r)) (a + n) k e (λ r l. high (n ∷ r) (omega arith)) (omega arith)

unit-high : (e : Exponents) → 0 < total e → unit e ≡ pos 0
unit-high [] h = absurd (not-suc-le-zero h)
unit-high (zero ∷ e) h = unit-high e (omega arith)
unit-high (suc n ∷ e) h = refl

σ-high : (d : ℕ) (ps : List Point) (e : Exponents) → length ps < total e → σ d ps e ≡ pos 0
unfolding σ
σ-high d [] e h = unit-high e h
σ-high d (p ∷ ps) e h =
    sum-cong (λ c. ap (λ z. get_or p c (pos 0) *ℤ z) (lowered-high c (σ d ps) 0 (length ps) e (λ r l. σ-high d ps r (omega arith)) (omega arith)) ∙ *ℤ-zero (get_or p c (pos 0))) (upto d)
    ∙ sum-zero (upto d)

-- ---- one coordinate

-- The exponents e stand from coordinate k on; A, B and M are what stands before them and besides.
-- If f is right at the exponents one lower, coordinate c adds its exponent times the monomial.
one_lower : (q : Point) (k : ℕ) (A B M : ℤ) (f : Exponents → ℤ) (c : ℕ) (e : Exponents) → c < length e
    → ((r : Exponents) → length r ≡ length e → suc (total r) ≡ total e → A *ℤ pos (factorials r) *ℤ f r ≡ M *ℤ (B *ℤ powers q k r))
    → get_or q (k + c) (pos 0) *ℤ (A *ℤ pos (factorials e) *ℤ lowered c f e) ≡ pos (get_or e c 0) *ℤ (M *ℤ (B *ℤ powers q k e))
one_lower q k A B M f c [] h right = absurd (not-suc-le-zero h)
one_lower q k A B M f zero (zero ∷ e) h right =
    ring (get_or q (k + 0) (pos 0) ∷ A ∷ B ∷ M ∷ pos (factorials e) ∷ powers q (suc k) e ∷ []) (search ring-rules depth 60) tt
one_lower q k A B M f zero (suc n ∷ e) h right =
    ap (λ i. get_or q i (pos 0) *ℤ (A *ℤ pos (suc n * factorial n * factorials e) *ℤ f (n ∷ e))) (add-zero k)
    ∙ ring-from (get_or q k (pos 0) *ℤ pos (suc n)) (right (n ∷ e) refl (sym (suc-add n (total e))))
    (ring (get_or q k (pos 0) ∷ A ∷ B ∷ M ∷ pos n ∷ pos (factorial n) ∷ pos (factorials e) ∷ f (n ∷ e) ∷ power (get_or q k (pos 0)) n ∷ powers q (suc k) e ∷ [])
    (search ring-rules depth 60 fits 9000) tt)
one_lower q k A B M f (suc c) (n ∷ e) h right =
    ap (λ i. get_or q i (pos 0) *ℤ (A *ℤ pos (factorial n * factorials e) *ℤ lowered c (λ r. f (n ∷ r)) e)) (add-suc k c ∙ sym (suc-add k c))
    ∙ ring (get_or q (suc k + c) (pos 0) ∷ A ∷ pos (factorial n) ∷ pos (factorials e) ∷ lowered c (λ r. f (n ∷ r)) e ∷ []) (search ring-rules depth 60 fits 9000) tt
    ∙ one_lower q (suc k) (A *ℤ pos (factorial n)) (B *ℤ power (get_or q k (pos 0)) n) M (λ r. f (n ∷ r)) c e (le_of_suc-le-suc h)
    (λ r l t.
    ring (A ∷ pos (factorial n) ∷ pos (factorials r) ∷ f (n ∷ r) ∷ []) (search ring-rules depth 60 fits 9000) tt
    ∙ right (n ∷ r) (ap suc l) (omega arith)
    ∙ ring (M ∷ B ∷ power (get_or q k (pos 0)) n ∷ powers q (suc k) r ∷ []) (search ring-rules depth 60 fits 9000) tt)
    ∙ ring (pos (get_or e c 0) ∷ M ∷ B ∷ power (get_or q k (pos 0)) n ∷ powers q (suc k) e ∷ []) (search ring-rules depth 60 fits 9000) tt

-- ---- all coordinates

exponents-sum : (e : Exponents) → sum (λ c. pos (get_or e c 0)) (upto (length e)) ≡ pos (total e)
exponents-sum [] = refl
exponents-sum (n ∷ e) = ap (λ z. pos n +ℤ z) (sum-map (λ c. pos (get_or (n ∷ e) c 0)) suc (upto (length e)) ∙ exponents-sum e)

-- Z, the coordinate past the exponents, lowers none
pub lowered-past : (f : Exponents → ℤ) (e : Exponents) → lowered (length e) f e ≡ f e
lowered-past f [] = refl
lowered-past f (n ∷ e) = lowered-past (λ r. f (n ∷ r)) e

zeros : (q : Point) (k : ℕ) (e : Exponents) → total e ≡ 0 → (factorials e ≡ 1) × (unit e ≡ pos 1) × (powers q k e ≡ pos 1)
zeros q k [] t = (refl, refl, refl)
zeros q k (zero ∷ e) t =
    let r = zeros q (suc k) e (sym (zero-add (total e)) ∙ t) in
    (ap (λ x. 1 * x) r.0, r.1, ap (λ x. pos 1 *ℤ x) r.2)
zeros q k (suc n ∷ e) t = absurd (not-zero t)
  where
    not-zero : suc n + total e ≡ 0 → ⊥
    not-zero h = omega arith

length-replicate : (m : ℕ) (q : Point) → length (replicate m q) ≡ m
length-replicate zero q = refl
length-replicate (suc m) q = ap suc (length-replicate m q)

module _ (q : Point) (n : ℕ) where
  -- the last coordinate
  abbrev Z : ℤ
  Z = get_or q n (pos 0)

  -- what the coordinate Z adds: its exponent times the monomial
  past : (m z : ℕ) (e : Exponents) (F P s : ℤ) → z + total e ≡ suc m
      → ((y : ℕ) → y + total e ≡ m → pos (factorial y) *ℤ F *ℤ s ≡ pos (factorial m) *ℤ power Z y *ℤ P)
      → (m < total e → s ≡ pos 0)
      → pos (factorial z) *ℤ F *ℤ (Z *ℤ s) ≡ pos z *ℤ (pos (factorial m) *ℤ power Z z *ℤ P)
  past m zero e F P s t right high =
      ap (λ x. pos 1 *ℤ F *ℤ (Z *ℤ x)) (high (omega arith)) ∙ ring (F ∷ Z ∷ pos (factorial m) ∷ P ∷ []) (search ring-rules depth 60 fits 9000) tt
  past m (suc z) e F P s t right high =
      ring-from (Z *ℤ pos (suc z)) (right z (omega arith))
      (ring (Z ∷ pos z ∷ pos (factorial z) ∷ F ∷ s ∷ pos (factorial m) ∷ power Z z ∷ P ∷ []) (search ring-rules depth 60 fits 9000) tt)

  -- the factorials of the exponents times σ of m copies of q is m! times the monomial at q
  pub factorials-times-σ : (m z : ℕ) (e : Exponents) → length e ≡ n → z + total e ≡ m
      → pos (factorial z) *ℤ pos (factorials e) *ℤ σ (suc n) (replicate m q) e ≡ pos (factorial m) *ℤ power Z z *ℤ (pos 1 *ℤ powers q 0 e)
  unfolding σ
  factorials-times-σ zero z e l t =
      let r = zeros q 0 e (omega arith) in
      ap (λ k. pos (factorial k) *ℤ pos (factorials e) *ℤ unit e) z-is
      ∙ ap (λ k. pos 1 *ℤ pos k *ℤ unit e) r.0
      ∙ ap (λ x. pos 1 *ℤ pos 1 *ℤ x) r.1
      ∙ sym (ap (λ k. pos 1 *ℤ power Z k *ℤ (pos 1 *ℤ powers q 0 e)) z-is ∙ ap (λ x. pos 1 *ℤ pos 1 *ℤ (pos 1 *ℤ x)) r.2)
    where
      z-is : z ≡ 0
      z-is = omega arith
  factorials-times-σ (suc m) z e l t =
      ap (λ x. AF *ℤ x) (sum-upto-snoc term n)
      ∙ *ℤ-distl AF (sum term (upto n)) (term n)
      ∙ ap₂ ◌+ℤ◌ (sym (sum-*l AF term (upto n)) ∙ sum-upto-cong n (before (λ r k u. factorials-times-σ m z r k u)) ∙ sum-*r X (λ c. pos (get_or e c 0)) (upto n) ∙ ap (λ x. x *ℤ X) (ap (λ k. sum (λ c. pos (get_or e c 0)) (upto k)) (sym l) ∙ exponents-sum e))
      (ap (λ x. AF *ℤ (Z *ℤ x)) (ap (λ k. lowered k s e) (sym l) ∙ lowered-past s e)
      ∙ past m z e (pos (factorials e)) (pos 1 *ℤ powers q 0 e) (s e) t (λ y u. factorials-times-σ m y e l u) (λ h. σ-high (suc n) (replicate m q) e (rw length-replicate h)))
      ∙ sym (*ℤ-distr (pos (total e)) (pos z) X)
      ∙ ap (λ k. pos k *ℤ X) sum_is
      ∙ ring (pos m ∷ pos (factorial m) ∷ power Z z ∷ powers q 0 e ∷ []) (search ring-rules depth 60 fits 9000) tt
    where
      s : Exponents → ℤ
      s = σ (suc n) (replicate m q)

      term : ℕ → ℤ
      term c = get_or q c (pos 0) *ℤ lowered c s e

      AF : ℤ
      AF = pos (factorial z) *ℤ pos (factorials e)

      X : ℤ
      X = pos (factorial m) *ℤ power Z z *ℤ (pos 1 *ℤ powers q 0 e)

      sum_is : total e + z ≡ suc m
      sum_is = omega arith

      before : ((r : Exponents) → length r ≡ n → z + total r ≡ m → pos (factorial z) *ℤ pos (factorials r) *ℤ s r ≡ pos (factorial m) *ℤ power Z z *ℤ (pos 1 *ℤ powers q 0 r))
          → (c : ℕ) → c < n → AF *ℤ term c ≡ pos (get_or e c 0) *ℤ X
      before right c h =
          ring (pos (factorial z) ∷ pos (factorials e) ∷ get_or q c (pos 0) ∷ lowered c s e ∷ []) (search ring-rules depth 60 fits 9000) tt
          ∙ ap (λ i. get_or q i (pos 0) *ℤ (AF *ℤ lowered c s e)) (sym (zero-add c))
          ∙ one_lower q 0 (pos (factorial z)) (pos 1) (pos (factorial m) *ℤ power Z z) s c e (rw l h) (λ r k u. right r (k ∙ l) (omega arith))

-- ---- the multinomial is an exact quotient

ones : ℕ → Point
ones d = replicate d (pos 1)

power-one : (k : ℕ) → power (pos 1) k ≡ pos 1
power-one zero = refl
power-one (suc k) = ap (λ x. pos 1 *ℤ x) (power-one k)

at_ones : (d c : ℕ) → c < d → get_or (ones d) c (pos 0) ≡ pos 1
unfolding ones
at_ones d c h = get_or-replicate d c (pos 1) (pos 0) h

powers-ones : (d k : ℕ) (e : Exponents) → k + length e ≤ d → powers (ones d) k e ≡ pos 1
powers-ones d k [] h = refl
powers-ones d k (n ∷ e) h =
    ap₂ ◌*ℤ◌ (ap (λ x. power x n) (at_ones d k (omega arith)) ∙ power-one n) (powers-ones d (suc k) e (omega arith))

pub factorial-pos : (n : ℕ) → 0 < factorial n
factorial-pos zero = lit≤ tt
factorial-pos (suc n) = mul-pos (suc-le-suc zero-le) (factorial-pos n)

factorials-pos : (e : List ℕ) → 0 < factorials e
factorials-pos [] = lit≤ tt
factorials-pos (n ∷ e) = mul-pos (factorial-pos n) (factorials-pos e)

-- how many ways there are: σ of m copies of the point with all coordinates 1
ways : ℕ → ℕ → Exponents → ℕ
ways n m e = nat_abs (σ (suc n) (replicate m (ones (suc n))) e)

ways-exact : (n m z : ℕ) (e : Exponents) → length e ≡ n → z + total e ≡ m → factorials e * factorial z * ways n m e ≡ factorial m
unfolding ways ones
ways-exact n m z e l t =
    ap (λ k. k * nat_abs s) (mul_comm (factorials e) (factorial z))
    ∙ sym (nat_abs-* (pos (factorial z) *ℤ pos (factorials e)) s)
    ∙ ap nat_abs
    (factorials-times-σ (ones (suc n)) n m z e l t
    ∙ ap₂ (λ x y. pos (factorial m) *ℤ x *ℤ (pos 1 *ℤ y)) (ap (λ x. power x z) (at_ones (suc n) n (omega arith)) ∙ power-one z) (powers-ones (suc n) 0 e (omega arith)))
    ∙ omega arith
  where
    s : ℤ
    s = σ (suc n) (replicate m (ones (suc n))) e

module _ (n m : ℕ) (e : Exponents) (l : length e ≡ n) (t : total e ≤ m) where
  left : ℕ
  left = m - total e

  left_is : left + total e ≡ m
  unfolding left
  left_is = omega arith

  multinomial-ways : multinomial m e ≡ ways n m e
  unfolding multinomial left
  multinomial-ways =
      div-eq_of_eq-mul_right (mul-pos (factorials-pos e) (factorial-pos left)) (sym (ways-exact n m left e l left_is))

  multinomial-exact : factorials e * factorial left * multinomial m e ≡ factorial m
  multinomial-exact = ap (λ k. factorials e * factorial left * k) multinomial-ways ∙ ways-exact n m left e l left_is

  pub multinomial-whole : factorials e * factorial (m - total e) * multinomial m e ≡ factorial m
  unfolding left
  multinomial-whole = multinomial-exact

  pub multinomial-pos : 0 < multinomial m e
  multinomial-pos = from (multinomial m e) multinomial-exact
    where
      from : (k : ℕ) → factorials e * factorial left * k ≡ factorial m → 0 < k
      from zero p = absurd (nothing (factorial-pos m) (sym (mul-zero (factorials e * factorial left)) ∙ p))
        where
          nothing : {x : ℕ} → 0 < x → 0 ≡ x → ⊥
          nothing h r = omega arith
      from (suc k) p = suc-le-suc zero-le

  -- σ of m copies of q is the multinomial times the monomial at q
  pub diagonal : (q : Point) → σ (suc n) (replicate m q) e ≡ pos (multinomial m e) *ℤ (powers q 0 e *ℤ power (get_or q n (pos 0)) (m - total e))
  unfolding left
  diagonal q =
      cancel (factorial left * factorials e) (σ (suc n) (replicate m q) e) (pos (multinomial m e) *ℤ W) (mul-pos (factorial-pos left) (factorials-pos e))
      (factorials-times-σ q n m left e l left_is
      ∙ ap (λ k. pos k *ℤ power (get_or q n (pos 0)) left *ℤ (pos 1 *ℤ powers q 0 e)) (sym multinomial-exact)
      ∙ ring (pos (factorials e) ∷ pos (factorial left) ∷ pos (multinomial m e) ∷ power (get_or q n (pos 0)) left ∷ powers q 0 e ∷ []) (search ring-rules depth 60 fits 9000) tt)
    where
      W : ℤ
      W = powers q 0 e *ℤ power (get_or q n (pos 0)) left
