-- A multiple of a number, by a factor that is not 0: its sign, its quotient by a multiple of the divisor, and
-- whether it is 0. The factor's sign settles each.
use Prim.Native.Nat.{ℕ, zero, suc, ◌*◌, ◌/◌, ◌<◌}
use native.Mathlib.Nat as NatL
use mathlib.Core.Path.{◌≡◌, refl, sym, ap, ap₂, ◌∙◌}
use mathlib.Core.Logic.{◌⊎◌, inl, inr}
use mathlib.Core.Bool.{Bool, true, false, not}
use borrow.Author.Tests.{ne_eqb}
use lib.IntN.{ℤ, pos, negsuc, neg_ℤ, nat_abs, neg_ℤ-neg_ℤ, ◌*ℤ◌, *ℤ-zero}
use lib.Signed.{quot_z}
use Rattle.integers.proofs.Laws.{*ℤ-negl, nat_abs-zero, *ℤ-zero-split}
use Rattle.integers.proofs.All.{clash}
use Rattle.projection.specs.Projection.{is_zero, is_negative, negated_if}
use Rattle.projection.proofs.Zeros.{zero_is}

pub nonzero-size : (k : ℤ) → (k ≡ pos 0 → ⊥) → 0 < nat_abs k
nonzero-size (pos zero) h = absurd (h refl)
nonzero-size (pos (suc n)) h = NatL.zero-lt-suc n
nonzero-size (negsuc n) h = NatL.zero-lt-suc n

-- the quotient of a negated number
quot-negated : (x : ℤ) (d : ℕ) → quot_z (neg_ℤ x) (pos d) ≡ neg_ℤ (quot_z x (pos d))
quot-negated (pos zero) d = ap pos (NatL.zero-div d) ∙ sym (ap (λ n. neg_ℤ (pos n)) (NatL.zero-div d))
quot-negated (pos (suc n)) d = refl
quot-negated (negsuc n) d = sym (neg_ℤ-neg_ℤ (pos (suc n / d)))

quot-times : (n : ℕ) (x : ℤ) (d : ℕ) → quot_z (pos (suc n) *ℤ x) (pos (suc n * d)) ≡ quot_z x (pos d)
quot-times n (pos a) d = ap pos (NatL.mul-div-mul_left a d (NatL.zero-lt-suc n))
quot-times n (negsuc a) d = quot-negated (pos (suc n * suc a)) (suc n * d) ∙ ap (λ k. neg_ℤ (pos k)) (NatL.mul-div-mul_left (suc a) d (NatL.zero-lt-suc n))

negated-not : (b : Bool) (x : ℤ) → negated_if (not b) (neg_ℤ x) ≡ negated_if b x
negated-not true x = refl
negated-not false x = neg_ℤ-neg_ℤ x

sign_below : (n : ℕ) → 0 < n → is_negative (neg_ℤ (pos n)) ≡ true
sign_below zero h = absurd (NatL.lt_irrefl 0 h)
sign_below (suc n) h = refl

product-below : (n a : ℕ) → is_negative (neg_ℤ (pos (suc n * suc a))) ≡ true
product-below n a = sign_below (suc n * suc a) (NatL.mul-pos (NatL.zero-lt-suc n) (NatL.zero-lt-suc a))

pub sign_pos : (n : ℕ) (l : ℤ) → is_negative (pos (suc n) *ℤ l) ≡ is_negative l
sign_pos n (pos a) = refl
sign_pos n (negsuc a) = product-below n a

pub sign-neg : (n : ℕ) (l : ℤ) → (l ≡ pos 0 → ⊥) → is_negative (negsuc n *ℤ l) ≡ not (is_negative l)
sign-neg n (pos zero) h = absurd (h refl)
sign-neg n (pos (suc a)) h = product-below n a
sign-neg n (negsuc a) h = refl

-- one number of a multiple, l being the number that gives the sign
pub one : (k l x : ℤ) (d : ℕ) → (k ≡ pos 0 → ⊥) → (l ≡ pos 0 → ⊥)
    → negated_if (is_negative (k *ℤ l)) (quot_z (k *ℤ x) (pos (nat_abs k * d))) ≡ negated_if (is_negative l) (quot_z x (pos d))
one (pos zero) l x d h p = absurd (h refl)
one (pos (suc n)) l x d h p = ap₂ negated_if (sign_pos n l) (quot-times n x d)
one (negsuc n) l x d h p =
    ap₂ negated_if (sign-neg n l p) (ap (λ z. quot_z z (pos (suc n * d))) (*ℤ-negl (pos (suc n)) x) ∙ quot-negated (pos (suc n) *ℤ x) (suc n * d) ∙ ap neg_ℤ (quot-times n x d))
    ∙ negated-not (is_negative l) (quot_z x (pos d))

pub zero-kept : (k x : ℤ) → (k ≡ pos 0 → ⊥) → is_zero (k *ℤ x) ≡ is_zero x
zero-kept k x h = by (is_zero x) refl
  where
    by : (b : Bool) → is_zero x ≡ b → is_zero (k *ℤ x) ≡ is_zero x
    by true e = ap (λ z. is_zero (k *ℤ z)) (zero_is x e) ∙ ap is_zero (*ℤ-zero k) ∙ sym e
    by false e = ne_eqb (nat_abs (k *ℤ x)) 0 (λ z. absurd (split (*ℤ-zero-split k x (nat_abs-zero (k *ℤ x) z)))) ∙ sym e
      where
        split : k ≡ pos 0 ⊎ x ≡ pos 0 → ⊥
        split (inl p) = h p
        split (inr q) = clash (ap is_zero q) e
