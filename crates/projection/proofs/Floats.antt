-- Which number a float is: what lib.Ieee says of its sign and size is a way to write it (`written`), and its
-- bit pattern shows another (`shows`), since a pattern that is read back gives the float.
use Prim.Native.Nat.{ℕ, zero, suc, ◌+◌, ◌-◌, ◌*◌, ◌^◌, ◌<◌}
use native.Mathlib.Nat as NatL
use native.Mathlib.Omega.{arith}
use mathlib.Core.Path.{◌≡◌, refl, sym, ap, ◌∙◌, subst}
use mathlib.Core.Bool.{Bool, true, false, cond}
use borrow.Author.Tests.{eqb-false}
use lib.Dec.{T, eqb, leb}
use lib.IntN.{ℤ, pos, negsuc, nat_abs, ◌*ℤ◌}
use lib.Pow.{pow_pos}
use lib.Ieee.{Float, nan, inf, fin, binary64, up, down, minus, odd, fits, of_fields, of_bits, to_bits}
use lib.Ieee.Bits.{of_bits-to_bits}
use lib.Ieee.Digits.{minus_val}
use lib.Ieee.Exact.{HasValue, odd_sign}
use lib.Ieee.Scale.{finite}
use Rattle.integers.proofs.Laws.{*ℤ-negl}
use Rattle.projection.specs.Floats.{Writes, exponent_field, digits, significand, Shows}
use Rattle.projection.specs.Projection.{is_negative, negated_if}

-- ---- a number by its sign and size

pub signed : (v : ℤ) → negated_if (is_negative v) (pos (nat_abs v)) ≡ v
signed (pos n) = refl
signed (negsuc n) = refl

-- a sign comes out of a product
signed_product : (s : Bool) (a b c : ℕ) → negated_if s (pos a) *ℤ pos b *ℤ pos c ≡ negated_if s (pos (a * b * c))
signed_product false a b c = refl
signed_product true a b c = ap (λ z. z *ℤ pos c) (*ℤ-negl (pos a) (pos b)) ∙ *ℤ-negl (pos (a * b)) (pos c)

-- a float of sign s and of size q 2^k ÷ 2^l is ±q × 2^(k - l)
pub written : (x : Float) (s : Bool) (q k l : ℕ) → HasValue x s (q * 2 ^ k) (2 ^ l)
    → Writes x (negated_if s (pos q)) (minus k l)
written nan s q k l h = h
written (inf t) s q k l h = h
written (fin t m e) s q k l h =
    signed_product s q U (down e)
    ∙ ap (λ n. negated_if s (pos n)) (NatL.eq_of_mul-eq-mul_right (2 ^ l) (pow_pos l) (q * U * down e) (m * up e * D) sizes)
    ∙ sym (ap (λ b. negated_if b (pos m) *ℤ pos (up e) *ℤ pos D) h.0 ∙ signed_product s m (up e) D)
  where
    U : ℕ
    U = up (minus k l)

    D : ℕ
    D = down (minus k l)

    sizes : q * U * down e * 2 ^ l ≡ m * up e * D * 2 ^ l
    sizes =
        NatL.mul_right_comm (q * U) (down e) (2 ^ l)
        ∙ ap (λ n. n * down e) (minus_val q k l)
        ∙ NatL.mul_right_comm (q * 2 ^ k) D (down e)
        ∙ ap (λ n. n * D) (sym h.1)
        ∙ NatL.mul_right_comm (m * up e) (2 ^ l) D

-- ---- bit patterns

-- what the fields show, by the sign, the exponent's field x and the digits t
abbrev fields_whole : Bool → ℕ → ℕ → ℤ
fields_whole s x t = negated_if s (pos (significand x t))

-- a number that is read from fields is what they show, and the highest field has none
fields-written : (s : Bool) (x t : ℕ) → T (finite (of_fields binary64 s x t))
    → Writes (of_fields binary64 s x t) (fields_whole s x t) (minus (x - 1) 1074)
unfolding of_fields
fields-written s zero t h = written (odd 53 s t 0 1074) s t 0 1074 (odd_sign 53 s t 0 1074)
fields-written s (suc x) t h =
    subst (λ k. Writes (of_fields binary64 s (suc x) t) (fields_whole s (suc x) t) (minus k 1074)) less
    (by (eqb (suc x) 2047) (eqb t 0) h)
  where
    less : x ≡ suc x - 1
    less = omega arith

    by : (a b : Bool) → T (finite (cond a (cond b (inf s) nan) (odd 53 s (2 ^ 52 + t) x 1074)))
        → Writes (cond a (cond b (inf s) nan) (odd 53 s (2 ^ 52 + t) x 1074)) (fields_whole s (suc x) t) (minus x 1074)
    by true true k = absurd k
    by true false k = absurd k
    by false b k = written (odd 53 s (2 ^ 52 + t) x 1074) s (2 ^ 52 + t) x 1074 (odd_sign 53 s (2 ^ 52 + t) x 1074)

fields-below : (s : Bool) (x t : ℕ) → x < 2048 → T (finite (of_fields binary64 s x t)) → x < 2047
unfolding of_fields
fields-below s zero t l h = omega arith
fields-below s (suc x) t l h = by (eqb (suc x) 2047) (eqb t 0) refl h
  where
    by : (a b : Bool) → eqb (suc x) 2047 ≡ a → T (finite (cond a (cond b (inf s) nan) (odd 53 s (2 ^ 52 + t) x 1074)))
        → suc x < 2047
    by true true e k = absurd k
    by true false e k = absurd k
    by false b e k = let apart = eqb-false (suc x) 2047 e in omega arith

-- there are 2048 fields
field_below : (b : ℕ) → exponent_field b < 2048
field_below b = (NatL.div-lt_iff_lt-mul (pow_pos 52)).1 (NatL.mod-lt b (pow_pos 63))

-- the pattern of a number that binary64 holds shows it
pub shows : (x : Float) → T (fits binary64 x) → T (finite x) → Shows (to_bits binary64 x) x
unfolding of_bits
shows x fit f =
    let b = to_bits binary64 x in
    let back : of_fields binary64 (leb (2 ^ 63) b) (exponent_field b) (digits b) ≡ x = of_bits-to_bits binary64 x fit in
    let read = subst (λ v. T (finite v)) (sym back) f in
    record {
      number = fields-below (leb (2 ^ 63) b) (exponent_field b) (digits b) (field_below b) read;
      written = subst (λ v. Writes v (fields_whole (leb (2 ^ 63) b) (exponent_field b) (digits b)) (minus (exponent_field b - 1) 1074)) back
          (fields-written (leb (2 ^ 63) b) (exponent_field b) (digits b) read);
    }
