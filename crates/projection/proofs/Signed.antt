-- Signed numbers as the code holds them. A signed local is its bits, and what the machine reads back from them, `seen v`, is v, since v fits (integers/proofs/Signed.antt):
-- so each law follows from one on v, by cases on its sign.
use mathlib.Core.Path.{◌≡◌, refl, sym, ◌∙◌, subst}
use mathlib.Core.Bool.{Bool, true, false, ◌&&◌}
use Prim.Native.Nat.{ℕ, zero, suc, ◌-◌, ◌/◌, ◌^◌, ◌≤◌, ◌<◌}
use native.Mathlib.Nat.{div-le_self, le_trans}
use native.Mathlib.Omega.{arith}
use borrow.Author.Tests.{leb-true, eq-eqb, ne_eqb}
use lib.Dec.{eqb}
use lib.IntN.{ℤ, pos, negsuc, nat_abs, neg_ℤ-neg_ℤ}
use lib.Signed.{quot_z}
use mir.Syntax.{w64}
use mir.Val.{SFits, of_z}
use Rattle.integers.proofs.All.{and_parts}
use Rattle.integers.proofs.Laws.{nat_abs-neg}
use Rattle.integers.proofs.Signed.{seen, back_fits, fits-abs}
use Rattle.projection.specs.Projection.{limit, in_range, all_in_range, is_zero, negated_if}

-- a component in range fits
pub in-range-fits : (v : ℤ) → nat_abs v ≤ limit → SFits w64 v
in-range-fits v h = fits-abs v (omega arith)

-- ---- zero and sign

pub zero_bits : (v : ℤ) → SFits w64 v → eqb (of_z w64 v) 0 ≡ is_zero v
zero_bits (pos n) f = refl
zero_bits (negsuc n) f =
    let below = f.sfits in
    ne_eqb (2 ^ 64 - suc n) 0 (λ e. omega arith) ∙ sym (ne_eqb (suc n) 0 (λ e. omega arith))

pub is-zero : (v : ℤ) → SFits w64 v → of_z w64 v ≡ 0 → is_zero v ≡ true
is-zero v f e = sym (zero_bits v f) ∙ eq-eqb (of_z w64 v) 0 e

pub not-zero : (v : ℤ) → SFits w64 v → (of_z w64 v ≡ 0 → ⊥) → is_zero v ≡ false
not-zero v f e = sym (zero_bits v f) ∙ ne_eqb (of_z w64 v) 0 e

-- ---- range

-- all four are in range
pub within : (x y z w : ℤ) → all_in_range x y z w ≡ true → (nat_abs x ≤ limit) × (nat_abs y ≤ limit) × (nat_abs z ≤ limit) × (nat_abs w ≤ limit)
within x y z w e =
    let last = and_parts (in_range x && in_range y && in_range z) (in_range w) e in
    let third = and_parts (in_range x && in_range y) (in_range z) last.0 in
    let first = and_parts (in_range x) (in_range y) third.0 in
    (leb-true (nat_abs x) limit first.0, leb-true (nat_abs y) limit first.1, leb-true (nat_abs z) limit third.1, leb-true (nat_abs w) limit last.1)

-- ---- negation

pub nat_abs-negated : (b : Bool) (v : ℤ) → nat_abs (negated_if b v) ≡ nat_abs v
nat_abs-negated true v = nat_abs-neg v
nat_abs-negated false v = refl

-- ---- division

pub quot-small : (v d : ℤ) → nat_abs (quot_z v d) ≤ nat_abs v
quot-small (pos a) (pos b) = div-le_self a b
quot-small (pos a) (negsuc b) = subst (λ (n : ℕ). n ≤ a) (sym (nat_abs-neg (pos (a / suc b)))) (div-le_self a (suc b))
quot-small (negsuc a) (pos b) = subst (λ (n : ℕ). n ≤ suc a) (sym (nat_abs-neg (pos (suc a / b)))) (div-le_self (suc a) b)
quot-small (negsuc a) (negsuc b) = div-le_self (suc a) (suc b)

-- a divisor's sign is the quotient's
quot-negated : (b : Bool) (v : ℤ) (g : ℕ) → 0 < g → quot_z v (negated_if b (pos g)) ≡ negated_if b (quot_z v (pos g))
quot-negated false v g above = refl
quot-negated true v zero above = absurd (omega arith)
quot-negated true (pos a) (suc g) above = refl
quot-negated true (negsuc a) (suc g) above = sym (neg_ℤ-neg_ℤ (pos (suc a / suc g)))

-- a divisor that is not 0 has bits that are not 0
divisor-bits : (d : ℤ) → SFits w64 d → 0 < nat_abs d → 0 < of_z w64 d
divisor-bits (pos n) f h = h
divisor-bits (negsuc n) f h = let below = f.sfits in omega arith

-- The division of v by d, where d is g with a sign: it is allowed, and its result is the quotient by g with
-- that sign.
pub record Divided (v d : ℤ) (b : Bool) (g : ℕ) : Type 0 where
  pub allowed : (0 < of_z w64 d) × SFits w64 (quot_z (seen v) (seen d))
  pub is : seen (quot_z (seen v) (seen d)) ≡ negated_if b (quot_z v (pos g))

pub divided : (v : ℤ) (b : Bool) (g : ℕ) {d : ℤ} → d ≡ negated_if b (pos g) → 0 < g → g ≤ limit → nat_abs v ≤ limit → Divided v d b g
divided v b g {d} e above small h = subst (λ u. Divided v u b g) (sym e) of_signed
  where
    u : ℤ
    u = negated_if b (pos g)

    size : nat_abs u ≡ g
    size = nat_abs-negated b (pos g)

    fits : SFits w64 u
    fits = in-range-fits u (omega (arith, size))

    back : quot_z (seen v) (seen u) ≡ quot_z v u
    back = λ i. quot_z (back_fits (in-range-fits v h) i) (back_fits fits i)

    result-fits : SFits w64 (quot_z (seen v) (seen u))
    result-fits = subst (SFits w64) (sym back) (in-range-fits (quot_z v u) (le_trans (quot-small v u) h))

    of_signed : Divided v u b g
    of_signed = record {
      allowed = (divisor-bits u fits (omega (arith, size)), result-fits);
      is = back_fits result-fits ∙ back ∙ quot-negated b v g above;
    }
