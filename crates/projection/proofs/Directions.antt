-- A direction with its length is the old components reduced (`Reduced`), and nothing else is. The divisor divides each component, so the products are the old ones, a component of
-- the direction is 0 exactly where the old one is, and the sign is the same for all.
use mathlib.Core.Path.{◌≡◌, refl, sym, ap, subst, ◌∙◌}
use mathlib.Core.Bool.{Bool, true, false, not, ◌&&◌, cond}
use mathlib.Core.List.{[], ◌∷◌, map}
use Prim.Native.Nat.{ℕ, zero, suc, ◌*◌, ◌/◌, ◌≤◌, ◌<◌, ◌∣◌}
use native.Mathlib.Nat as NatL
use native.Mathlib.Omega.{arith}
use borrow.Author.Tests.{eq-eqb, ne_eqb}
use lib.Dec.{eqb}
use lib.IntN.{ℤ, pos, negsuc, neg_ℤ, nat_abs, ◌*ℤ◌, neg_ℤ-neg_ℤ}
use lib.ListN.{get_or}
use lib.Signed.{quot_z}
use Rattle.projection.specs.Gcd.{gcd}
use Rattle.projection.specs.declared.ReducedVector.{ReducedVector}
use Rattle.projection.specs.Projection.{limit, is_zero, all_zero, is_negative, is_positive, first_nonzero, negated_if, gcd_of, direction_of, Reduced, OneReduction}
use Rattle.projection.proofs.Gcd.{gcd-divides, gcd-positive, gcd-reduced, gcd-times, gcd-up-to}
use Rattle.integers.proofs.All.{clash}
use Rattle.integers.proofs.Laws.{*ℤ-negr, nat_abs-*}
use Rattle.integers.proofs.Ring.{cancel}
use Rattle.projection.proofs.Signed.{nat_abs-negated}

-- ---- the divisor

zeros : (x y z : ℤ) → nat_abs x ≡ 0 → nat_abs y ≡ 0 → nat_abs z ≡ 0 → all_zero x y z ≡ true
zeros x y z p q r =
    ap (λ (b : Bool). b && is_zero y && is_zero z) (eq-eqb (nat_abs x) 0 p)
    ∙ ap (λ (b : Bool). b && is_zero z) (eq-eqb (nat_abs y) 0 q)
    ∙ eq-eqb (nat_abs z) 0 r

-- it is not 0 where one of the three is not
pub divisor-positive : (x y z : ℤ) → all_zero x y z ≡ false → 0 < gcd_of x y z
divisor-positive x y z h =
    gcd-positive (nat_abs x ∷ nat_abs y ∷ nat_abs z ∷ [])
    (λ e. clash (zeros x y z (NatL.eq-zero_of_zero-dvd e.0) (NatL.eq-zero_of_zero-dvd e.1.0) (NatL.eq-zero_of_zero-dvd e.1.1.0)) h)

-- it is no larger than the numbers
pub divisor-small : (x y z : ℤ) → nat_abs x ≤ limit → nat_abs y ≤ limit → nat_abs z ≤ limit → gcd_of x y z ≤ limit
divisor-small x y z p q r = gcd-up-to limit (nat_abs x ∷ nat_abs y ∷ nat_abs z ∷ []) (p, (q, (r, tt)))

-- ---- products

-- a component of the direction
abbrev part : ℕ → Bool → ℤ → ℤ
part g b v = negated_if b (quot_z v (pos g))

-- the division is exact
exact : (g : ℕ) (v : ℤ) → g ∣ nat_abs v → pos g *ℤ quot_z v (pos g) ≡ v
exact g (pos n) h = ap pos (NatL.mul-div_cancel' g h)
exact g (negsuc n) h = *ℤ-negr (pos g) (pos (suc n / g)) ∙ ap (λ (k : ℕ). neg_ℤ (pos k)) (NatL.mul-div_cancel' g h)

exact-negated : (g : ℕ) (b : Bool) (v : ℤ) → g ∣ nat_abs v → pos g *ℤ part g b v ≡ negated_if b v
exact-negated g true v h = *ℤ-negr (pos g) (quot_z v (pos g)) ∙ ap neg_ℤ (exact g v h)
exact-negated g false v h = exact g v h

-- ---- greatest common divisor 1

nat_abs-quot : (g : ℕ) (b : Bool) (v : ℤ) → nat_abs (part g b v) ≡ nat_abs v / g
nat_abs-quot g b (pos n) = nat_abs-negated b (pos (n / g))
nat_abs-quot g b (negsuc n) = nat_abs-negated b (neg_ℤ (pos (suc n / g))) ∙ nat_abs-negated true (pos (suc n / g))

coprime : (x y z : ℤ) (b : Bool) → all_zero x y z ≡ false → let g = gcd_of x y z in gcd_of (part g b x) (part g b y) (part g b z) ≡ 1
coprime x y z b h =
    let g = gcd_of x y z in
    (λ i. gcd (nat_abs-quot g b x i ∷ nat_abs-quot g b y i ∷ nat_abs-quot g b z i ∷ []))
    ∙ gcd-reduced (nat_abs x ∷ nat_abs y ∷ nat_abs z ∷ []) (divisor-positive x y z h)

-- ---- sign

-- a component is 0 exactly where the old one is
quotient-zero : (g n : ℕ) → g ∣ n → eqb (n / g) 0 ≡ eqb n 0
quotient-zero g n h = go (n / g) refl
  where
    back : n ≡ n / g * g
    back = sym (NatL.div-mul_cancel g h)

    go : (q : ℕ) → n / g ≡ q → eqb (n / g) 0 ≡ eqb n 0
    go zero e = eq-eqb (n / g) 0 e ∙ sym (eq-eqb n 0 (back ∙ ap (λ (k : ℕ). k * g) e ∙ NatL.zero-mul g))
    go (suc q) e =
        ne_eqb (n / g) 0 (λ p. NatL.suc-ne-zero q (sym e ∙ p))
        ∙ sym (ne_eqb n 0 (λ p. NatL.suc-ne-zero q (sym e ∙ ap (λ (k : ℕ). k / g) p ∙ NatL.zero-div g)))

component-zero : (g : ℕ) (b : Bool) (v : ℤ) → g ∣ nat_abs v → is_zero (part g b v) ≡ is_zero v
component-zero g b v h = ap (λ (n : ℕ). eqb n 0) (nat_abs-quot g b v) ∙ quotient-zero g (nat_abs v) h

first_of : (f : ℤ → ℤ) (x y z : ℤ) → is_zero (f x) ≡ is_zero x → is_zero (f y) ≡ is_zero y → first_nonzero (f x) (f y) (f z) ≡ f (first_nonzero x y z)
first_of f x y z p q =
    ap (λ (b : Bool). cond b (cond (is_zero (f y)) (f z) (f y)) (f x)) p
    ∙ ap (λ (b : Bool). cond (is_zero x) (cond b (f z) (f y)) (f x)) q
    ∙ by (is_zero x) (is_zero y)
  where
    by : (a b : Bool) → cond a (cond b (f z) (f y)) (f x) ≡ f (cond a (cond b z y) x)
    by true true = refl
    by true false = refl
    by false b = refl

not_negative : (g : ℕ) (v : ℤ) → is_negative (part g (is_negative v) v) ≡ false
not_negative g (pos n) = refl
not_negative g (negsuc n) = ap is_negative (neg_ℤ-neg_ℤ (pos (suc n / g)))

first-zero : (x y z : ℤ) → is_zero (first_nonzero x y z) ≡ all_zero x y z
first-zero x y z = by (is_zero x) (is_zero y) refl refl
  where
    by : (a b : Bool) → is_zero x ≡ a → is_zero y ≡ b → is_zero (cond a (cond b z y) x) ≡ a && b && is_zero z
    by true true p q = refl
    by true false p q = q
    by false b p q = p

positive : (v : ℤ) → is_negative v ≡ false → is_zero v ≡ false → is_positive v ≡ true
positive v p q = λ i. not (p i) && not (q i)

-- ---- all of it

pub reduced : (x y z : ℤ) → all_zero x y z ≡ false → Reduced x y z (direction_of x y z)
unfolding direction_of
reduced x y z h =
    let g = gcd_of x y z in
    let first = first_nonzero x y z in
    let b = is_negative first in
    let each = gcd-divides (nat_abs x ∷ nat_abs y ∷ nat_abs z ∷ []) in
    let above = divisor-positive x y z h in
    let x-zero = component-zero g b x each.0 in
    let y-zero = component-zero g b y each.1.0 in
    let z-zero = component-zero g b z each.1.1.0 in
    record {
      length-positive = positive (pos g) refl (ne_eqb g 0 (λ e. omega arith));
      products = λ i. exact-negated g b x each.0 i ∷ exact-negated g b y each.1.0 i ∷ exact-negated g b z each.1.1.0 i ∷ [];
      first-positive =
          positive (first_nonzero (part g b x) (part g b y) (part g b z))
          (ap is_negative (first_of (part g b) x y z x-zero y-zero) ∙ not_negative g first)
          (first-zero (part g b x) (part g b y) (part g b z) ∙ (λ i. x-zero i && y-zero i && z-zero i) ∙ h);
      nothing_left = coprime x y z b h;
    }

-- ---- nothing else is a reduction: the length is the divisor of the products, and a product has one other factor

positive-is : (v : ℤ) → is_positive v ≡ true → (v ≡ pos (nat_abs v)) × (0 < nat_abs v)
positive-is (pos zero) h = absurd (clash h refl)
positive-is (pos (suc n)) h = (refl, NatL.zero-lt-suc n)
positive-is (negsuc n) h = absurd (clash h refl)

module _ (x y z : ℤ) (d : ReducedVector) (is : Reduced x y z d) where
  abbrev n : ℕ
  n = nat_abs d.length

  abbrev b : Bool
  b = is_negative (first_nonzero x y z)

  above : 0 < n
  above = (positive-is d.length is.length-positive).1

  product : (k : ℕ) → get_or (map (λ (e : ℤ). d.length *ℤ e) (d.x ∷ d.y ∷ d.z ∷ [])) k (pos 0) ≡ get_or (map (negated_if b) (x ∷ y ∷ z ∷ [])) k (pos 0)
  product k = ap (λ l. get_or l k (pos 0)) is.products

  module _ (v e : ℤ) (h : d.length *ℤ e ≡ negated_if b v) where
    size : nat_abs v ≡ n * nat_abs e
    size = sym (nat_abs-negated b v) ∙ ap nat_abs (sym h) ∙ nat_abs-* d.length e

    component : e ≡ part n b v
    component =
        cancel n e (part n b v) above
        (ap (λ (l : ℤ). l *ℤ e) (sym (positive-is d.length is.length-positive).0) ∙ h
        ∙ sym (exact-negated n b v (subst (λ (k : ℕ). n ∣ k) (sym size) (NatL.dvd-mul_right n (nat_abs e)))))

  divisor-is : n ≡ gcd_of x y z
  divisor-is =
      sym (gcd-times n (nat_abs d.x ∷ nat_abs d.y ∷ nat_abs d.z ∷ []) above is.nothing_left)
      ∙ sym (λ i. gcd (size x d.x (product 0) i ∷ size y d.y (product 1) i ∷ size z d.z (product 2) i ∷ []))

  only-this : d ≡ direction_of x y z
  unfolding direction_of
  only-this =
      (λ i.
      record {
        x = component x d.x (product 0) i;
        y = component y d.y (product 1) i;
        z = component z d.z (product 2) i;
        length = (positive-is d.length is.length-positive).0 i;
      })
      ∙ (λ i. record { x = part (divisor-is i) b x; y = part (divisor-is i) b y; z = part (divisor-is i) b z; length = pos (divisor-is i) })

pub one-reduction : OneReduction
one-reduction x y z d is = only-this x y z d is
