-- Base ten and base sixteen. A number below ten is its digit, and another is its tenth's digits and its last one (`decimal-small`, `decimal-large`), and
-- the tenth of a number below a power of ten is below the power before. A pattern of 64 bits takes 16 digits in base sixteen, so `io` spells those of the definition.
use Prim.Native.Nat.{ℕ, zero, suc, ◌-◌, ◌*◌, ◌/◌, ◌%◌, ◌^◌, ◌≤◌, ◌<◌}
use native.Mathlib.Nat.{pow-suc, pow-le-pow_right}
use native.Mathlib.Omega.{arith}
use borrow.Author.Tests.{lt-ltb, le-ltb, ltb-true, ltb-false}
use mathlib.Core.Path.{◌≡◌, refl, sym, ap, ◌∙◌, subst}
use mathlib.Core.Bool.{Bool, true, false, true≢false, cond}
use mathlib.Core.List.{List, [], ◌∷◌, ◌++◌}
use lib.Dec.{ltb}
use lib.IntN.{ℤ, pos, negsuc, nat_abs}
use lib.ListN.{length, take, length-append}
use lib.Signed.{lt_z}
use Rattle.io.specs.Digits.{last_digits, IsDigitCount}
use Rattle.projection.specs.Projection.{limit}
use Rattle.text.specs.Words.{digit, decimal_by, decimal, signed_decimal, hex_bits}

-- ---- the step of the definition, at any bound on the digits

small : (most n : ℕ) → n < 10 → decimal_by (suc most) n ≡ digit n ∷ []
unfolding decimal_by
small most n h = ap (λ (b : Bool). cond b (digit n ∷ []) (decimal_by most (n / 10) ++ (digit (n % 10) ∷ []))) (lt-ltb n 10 h)

large : (most n : ℕ) → 10 ≤ n → decimal_by (suc most) n ≡ decimal_by most (n / 10) ++ (digit (n % 10) ∷ [])
unfolding decimal_by
large most n h = ap (λ (b : Bool). cond b (digit n ∷ []) (decimal_by most (n / 10) ++ (digit (n % 10) ∷ []))) (le-ltb n 10 h)

-- any two bounds above the number give the same digits: neither cuts one off
step : (most more n : ℕ) → (10 ≤ n → decimal_by most (n / 10) ≡ decimal_by more (n / 10)) → decimal_by (suc most) n ≡ decimal_by (suc more) n
step most more n tens = by (ltb n 10) refl
  where
    by : (b : Bool) → ltb n 10 ≡ b → decimal_by (suc most) n ≡ decimal_by (suc more) n
    by true h = small most n (ltb-true n 10 h) ∙ sym (small more n (ltb-true n 10 h))
    by false h =
        let ten : 10 ≤ n = ltb-false n 10 h in
        large most n ten ∙ ap (λ (ds : List ℕ). ds ++ (digit (n % 10) ∷ [])) (tens ten) ∙ sym (large more n ten)

enough : (most more n : ℕ) → n < most → n < more → decimal_by most n ≡ decimal_by more n
enough zero more n h l = absurd (omega arith)
enough (suc most) zero n h l = absurd (omega arith)
enough (suc most) (suc more) n h l = step most more n (λ ten. enough most more (n / 10) (omega arith) (omega arith))

pub decimal-small : (n : ℕ) → n < 10 → decimal n ≡ digit n ∷ []
unfolding decimal
decimal-small n h = small n n h

pub decimal-large : (n : ℕ) → 10 ≤ n → decimal n ≡ decimal (n / 10) ++ (digit (n % 10) ∷ [])
unfolding decimal
decimal-large n h = large n n h ∙ ap (λ (ds : List ℕ). ds ++ (digit (n % 10) ∷ [])) (enough n (suc (n / 10)) (n / 10) (omega arith) (omega arith))

-- ---- how long a number is

-- as long as its tenth and one digit more, where there is a tenth
pub length-large : (n : ℕ) → 10 ≤ n → length (decimal n) ≡ suc (length (decimal (n / 10)))
length-large n h = let e = ap length (decimal-large n h) ∙ length-append (decimal (n / 10)) (digit (n % 10) ∷ []) in omega (arith, e)

-- every number has a digit
pub length_some : (n : ℕ) → 0 < length (decimal n)
length_some n = by (ltb n 10) refl
  where
    by : (b : Bool) → ltb n 10 ≡ b → 0 < length (decimal n)
    by true h = omega (arith, ap length (decimal-small n (ltb-true n 10 h)))
    by false h = omega (arith, length-large n (ltb-false n 10 h))

tenth-below : (n k : ℕ) → n < 10 ^ suc k → n / 10 < 10 ^ k
tenth-below n k below = let h : n < 10 ^ k * 10 = subst (λ (p : ℕ). n < p) (pow-suc 10 k) below in omega arith

-- a digit more than a tenth of at most k digits, where there is a tenth
longer : (k n : ℕ) → length (decimal (n / 10)) ≤ k → length (decimal n) ≤ suc k
longer k n tens = by (ltb n 10) refl
  where
    by : (b : Bool) → ltb n 10 ≡ b → length (decimal n) ≤ suc k
    by true h = omega (arith, ap length (decimal-small n (ltb-true n 10 h)))
    by false h = omega (arith, length-large n (ltb-false n 10 h))

pub length-decimal : (n k : ℕ) → n < 10 ^ k → 0 < k → length (decimal n) ≤ k
length-decimal n zero below some = absurd (omega arith)
length-decimal n (suc zero) below some = omega (arith, ap length (decimal-small n below))
length-decimal n (suc (suc k)) below some = longer (suc k) n (length-decimal (n / 10) (suc k) (tenth-below n (suc k) below) (omega arith))

-- twenty digits hold every number of 64 bits
pub length-u64 : (n : ℕ) → n < 2 ^ 64 → length (decimal n) ≤ 20
length-u64 n h = length-decimal n 20 (omega arith) (omega arith)

-- a component in range takes at most 16 bytes: fifteen digits and a sign
pub length-component : (v : ℤ) → nat_abs v ≤ limit → length (signed_decimal v) ≤ 16
unfolding signed_decimal
length-component (pos n) h = omega (arith, length-decimal n 15 (omega arith) (omega arith))
length-component (negsuc n) h = omega (arith, length-decimal (suc n) 15 (omega arith) (omega arith))

-- ---- the sign

pub with-sign : (v : ℤ) → lt_z v (pos 0) ≡ true → signed_decimal v ≡ 45 ∷ decimal (nat_abs v)
unfolding signed_decimal
with-sign (pos n) h = let l = ltb-true n 0 h in absurd (omega arith)
with-sign (negsuc n) h = refl

pub without_sign : (v : ℤ) → lt_z v (pos 0) ≡ false → signed_decimal v ≡ decimal (nat_abs v)
unfolding signed_decimal
without_sign (pos n) h = refl
without_sign (negsuc n) h = absurd (true≢false h)

-- ---- sixteen digits

pub length-hex_bits : (n : ℕ) → length (hex_bits n) ≡ 16
unfolding hex_bits
length-hex_bits n = refl

-- sixteen places hold every number of 64 bits, so `io` takes no more
sixteen : (n k : ℕ) → n < 2 ^ 64 → IsDigitCount 16 16 n k → k ≡ 16
sixteen n k fits (places, below, least) = by (ltb 16 k) refl
  where
    by : (b : Bool) → ltb 16 k ≡ b → k ≡ 16
    by true h =
        let more : 16 < k = ltb-true 16 k h in
        let above : 16 ≤ k - 1 = omega arith in
        let power : 16 ^ 16 ≤ 16 ^ (k - 1) = pow-le-pow_right {n = 16} (omega arith) above in
        absurd (omega (arith, least more))
    by false h = omega (arith, ltb-false 16 k h)

-- and the sixteen that it spells are the pattern's text
pub hex-digits : (n k : ℕ) (spelled : List ℕ) → n < 2 ^ 64 → IsDigitCount 16 16 n k → take k spelled ≡ last_digits 16 k n → take 16 spelled ≡ hex_bits n
unfolding hex_bits
hex-digits n k spelled fits f e = let all = sixteen n k fits f in ap (λ j. take j spelled) (sym all) ∙ e ∙ ap (λ j. last_digits 16 j n) all
