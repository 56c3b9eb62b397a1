-- How far a rounded quotient is off. The nearest whole number of units is at most half a unit away (`half`),
-- and where the quotient has as many digits as the format keeps, a unit is small beside it (`unit-small`): so
-- the distance is at most the quotient's 2^prec-th part (`grid-near`), in units of the format's smallest
-- value.
use Prim.Native.Nat.{ℕ, zero, suc, ◌+◌, ◌-◌, ◌*◌, ◌/◌, ◌%◌, ◌^◌, ◌≤◌, ◌<◌, compare, Ordering}
use native.Mathlib.Nat as NatL
use native.Mathlib.Omega.{arith}
use mathlib.Core.Path.{◌≡◌, sym, ap, ◌∙◌, subst}
use mathlib.Core.Bool.{not}
use lib.Dec.{T, is_le, compare_is_eq, leb→le, nleb→lt, eqb→eq}
use lib.Pow.{pow-add, pow_pos}
use lib.Ieee.{Format, prec, low, size, nearest}
use lib.Ieee.Digits.{size_reaches}
use lib.Ieee.Nearest.{closest}
use lib.Ieee.Scale.{grid}

-- x and y differ by at most d
abbrev pub Apart : ℕ → ℕ → ℕ → Type 0
Apart x y d = (x ≤ y + d) × (y ≤ x + d)

-- ---- half a unit

-- q whole units u and a rest r, by how twice the rest compares with the unit
half-by : (o : Ordering) (q r u : ℕ) → r < u → (T (is_le o) → r * 2 ≤ u) → (T (not (is_le o)) → u < r * 2)
    → (T (compare_is_eq o) → r * 2 ≡ u) → Apart (2 * (nearest q o * u)) (2 * (q * u + r)) u
half-by Ordering.lt q r u l le gt eq = let h : r * 2 ≤ u = le tt in let z : ℕ = q * u in (omega arith, omega arith)
half-by Ordering.gt q r u l le gt eq = let h : u < r * 2 = gt tt in let more : suc q * u ≡ q * u + u = NatL.suc-mul q u in (omega arith, omega arith)
half-by Ordering.eq q r u l le gt eq =
    subst (λ z. Apart (2 * z) (2 * (q * u + r)) u) (sym (NatL.add-mul q (q % 2) u))
    (by (q % 2) (NatL.mod-lt q (NatL.zero-lt-suc 1)) (eq tt))
  where
    by : (b : ℕ) → b < 2 → r * 2 ≡ u → Apart (2 * (q * u + b * u)) (2 * (q * u + r)) u
    by zero k h = rw NatL.zero-mul (omega arith, omega arith)
    by (suc zero) k h = rw NatL.one-mul (omega arith, omega arith)
    by (suc (suc b)) k h = absurd (omega arith)

half : (n u : ℕ) → 0 < u → Apart (2 * (closest n u * u)) (2 * n) u
half n u h =
    let r = n % u in
    subst (λ z. Apart (2 * (closest n u * u)) (2 * z) u) (NatL.div-add-mod' n u)
    (half-by (compare (r * 2) u) (n / u) r u (NatL.mod-lt n h) (leb→le (r * 2) u) (nleb→lt (r * 2) u) (eqb→eq (r * 2) u))

-- ---- a unit beside the quotient

module _ (n c p : ℕ) (C : 0 < c) (P : 0 < p) (long : p ≤ size (n / c)) where
  -- n ÷ c with p digits is a number of these
  abbrev unit : ℕ
  unit = c * 2 ^ (size (n / c) - p)

  unit-small : unit * 2 ^ (p - 1) ≤ n
  unit-small =
      let top = size (n / c) - 1 in
      let shift : size (n / c) - p + (p - 1) ≡ top = omega arith in
      NatL.le_trans
      (NatL.le_of_eq
      (NatL.mul_assoc c (2 ^ (size (n / c) - p)) (2 ^ (p - 1))
      ∙ ap (λ z. c * z) (sym (pow-add 2 (size (n / c) - p) (p - 1)) ∙ ap (λ k. 2 ^ k) shift)
      ∙ NatL.mul_comm c (2 ^ top)))
      ((NatL.le-div_iff_mul-le C).0 (size_reaches (n / c) top (omega arith)))

  -- half a unit is at most the 2^p-th part of n
  spread : (x y : ℕ) → 2 * x ≤ 2 * y + unit → x * 2 ^ p ≤ y * 2 ^ p + n
  spread x y h =
      let H = 2 ^ (p - 1) in
      let whole : 2 ^ p ≡ 2 * H = ap (λ k. 2 ^ k) (omega arith) ∙ pow-add 2 1 (p - 1) in
      let twice : (z : ℕ) → z * 2 ^ p ≡ 2 * z * H =
      λ z. ap (λ k. z * k) whole ∙ sym (NatL.mul_assoc z 2 H) ∙ ap (λ k. k * H) (NatL.mul_comm z 2) in
      let all : 2 * x * H ≤ (2 * y + unit) * H = NatL.mul-le-mul_right H h in
      let apart : (2 * y + unit) * H ≡ 2 * y * H + unit * H = NatL.add-mul (2 * y) unit H in
      let small : unit * H ≤ n = unit-small in
      let tx : x * 2 ^ p ≡ 2 * x * H = twice x in
      let ty : y * 2 ^ p ≡ 2 * y * H = twice y in
      omega arith

  kept_near : Apart (closest n unit * unit * 2 ^ p) (n * 2 ^ p) n
  kept_near =
      let h = half n unit (NatL.mul-pos C (pow_pos (size (n / c) - p))) in
      (spread (closest n unit * unit) n h.0, spread n (closest n unit * unit) h.1)

-- a ÷ c rounded, in units of the format's smallest value: off by at most a part in 2^prec
pub grid-near : (f : Format) (a c : ℕ) → 0 < c → 0 < prec f → prec f ≤ size (a * 2 ^ low f / c)
    → Apart (grid f a c * c * 2 ^ prec f) (a * 2 ^ low f * 2 ^ prec f) (a * 2 ^ low f)
grid-near f a c C P long =
    let n = a * 2 ^ low f in
    let k = size (n / c) - prec f in
    subst (λ z. Apart (z * 2 ^ prec f) (n * 2 ^ prec f) n)
    (sym (NatL.mul_assoc (closest n (c * 2 ^ k)) c (2 ^ k)) ∙ NatL.mul_right_comm (closest n (c * 2 ^ k)) c (2 ^ k))
    (kept_near n c (prec f) C P long)
