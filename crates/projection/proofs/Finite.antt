-- A finite point's coordinates. Every whole number up to 2 to the 53rd is an f64, so within the range both conversions are exact; the one division is then
-- the exact quotient v / w, rounded once.
use mathlib.Core.Path.{◌≡◌, sym, ap, ap₂, ◌∙◌, subst}
use mathlib.Core.Bool.{Bool, true, false, cond}
use Prim.Native.Nat.{ℕ, suc, ◌*◌, ◌≤◌, ◌<◌}
use native.Mathlib.Nat as NatL
use native.Mathlib.Omega.{arith}
use borrow.Author.Tests.{ne_eqb, eqb-false}
use lib.Dec.{eqb}
use lib.IntN.{ℤ, pos, negsuc, nat_abs}
use lib.Ieee.{Float, nan, inf, fin, binary64, unlike, up, down, round, div, of_int}
use lib.Ieee.Exact.{HasValue}
use lib.Ieee.Back.{round_whole}
use lib.Ieee.Fits.{down_pos}
use lib.Ieee.Scale.{round_same}
use Rattle.projection.specs.Projection.{limit, is_zero, is_negative, positive_zero, quotient_of}

-- ---- the conversion is exact: sign and size are the number's

pub converted : (v : ℤ) → nat_abs v ≤ limit → HasValue (of_int binary64 v) (is_negative v) (nat_abs v) 1
unfolding of_int
converted (pos n) h = round_whole binary64 false n (omega arith)
converted (negsuc n) h = round_whole binary64 true (suc n) (omega arith)

-- ---- the division is the exact quotient, rounded once

-- x is a and y is b in size
divided : (x y : Float) (s t : Bool) (a b : ℕ) → 0 < b → HasValue x s a 1 → HasValue y t b 1 → div binary64 x y ≡ round binary64 (unlike s t) a b
unfolding div
divided nan y s t a b p h k = absurd h
divided (inf s') y s t a b p h k = absurd h
divided (fin s' m e) nan s t a b p h k = absurd k
divided (fin s' m e) (inf t') s t a b p h k = absurd k
divided (fin s' m e) (fin t' n d) s t a b p h k =
    let x-size : m * up e ≡ a * down e = sym (NatL.mul-one (m * up e)) ∙ h.1 in
    let y-size : n * up d ≡ b * down d = sym (NatL.mul-one (n * up d)) ∙ k.1 in
    let y-above : 0 < n * up d = subst (λ (u : ℕ). 0 < u) (sym y-size) (NatL.mul-pos p (down_pos d)) in
    let not-zero = ne_eqb n 0 (λ z. NatL.lt_irrefl 0 (subst (λ (u : ℕ). 0 < u) (ap (λ (u : ℕ). u * up d) z ∙ NatL.zero-mul (up d)) y-above)) in
    ap (λ (c : Bool). cond c (cond (eqb m 0) nan (inf (unlike s' t'))) (round binary64 (unlike s' t') (m * up e * down d) (n * up d * down e))) not-zero
    ∙ ap₂ (λ (s t : Bool). round binary64 (unlike s t) (m * up e * down d) (n * up d * down e)) h.0 k.0
    ∙ round_same binary64 (unlike s t) (m * up e * down d) (n * up d * down e) a b (NatL.mul-pos y-above (down_pos e)) p
    (ap (λ (u : ℕ). u * down d * b) x-size
    ∙ rearrange a b (down e) (down d)
    ∙ sym (ap (λ (u : ℕ). a * (u * down e)) y-size))
  where
    rearrange : (a b u w : ℕ) → a * u * w * b ≡ a * (b * w * u)
    rearrange a b u w =
        NatL.mul_right_comm (a * u) w b
        ∙ ap (λ (n : ℕ). n * w) (NatL.mul_right_comm a u b)
        ∙ NatL.mul_right_comm (a * b) u w
        ∙ ap (λ (n : ℕ). n * u) (NatL.mul_assoc a b w)
        ∙ NatL.mul_assoc a (b * w) u

above : (w : ℤ) → is_zero w ≡ false → 0 < nat_abs w
above w h = let apart = eqb-false (nat_abs w) 0 h in omega arith

pub rounded-quotient : (v w : ℤ) → nat_abs v ≤ limit → nat_abs w ≤ limit → is_zero v ≡ false → is_zero w ≡ false
    → quotient_of v w ≡ round binary64 (unlike (is_negative v) (is_negative w)) (nat_abs v) (nat_abs w)
unfolding quotient_of
rounded-quotient v w h k p q =
    ap (λ (c : Bool). cond c positive_zero (div binary64 (of_int binary64 v) (of_int binary64 w))) p
    ∙ divided (of_int binary64 v) (of_int binary64 w) (is_negative v) (is_negative w) (nat_abs v) (nat_abs w) (above w q) (converted v h) (converted w k)

-- a zero numerator gives positive zero, whatever the weight's sign
pub zero-quotient : (v w : ℤ) → is_zero v ≡ true → quotient_of v w ≡ positive_zero
unfolding quotient_of
zero-quotient v w p = ap (λ (c : Bool). cond c positive_zero (div binary64 (of_int binary64 v) (of_int binary64 w))) p
