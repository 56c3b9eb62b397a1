-- Exact conversions: sign and size of the float, of which lib.Ieee speaks, are the number's (`converted`). A
-- finite answer has four numbers in range and a weight that is not 0, so its coordinates are the rounded
-- quotients.
use Prim.Native.Nat.{ℕ, ◌*◌, ◌≤◌}
use native.Mathlib.Nat.{mul-one}
use native.Mathlib.Omega.{arith}
use mathlib.Core.Path.{◌≡◌, refl, sym, ap, ◌∙◌, subst}
use mathlib.Core.Bool.{Bool, true, false, cond}
use lib.IntN.{ℤ, pos, negsuc, neg_ℤ, nat_abs, ◌*ℤ◌}
use lib.Ieee.{Float, nan, inf, fin, binary64, up, down, unlike, round, of_int, div}
use lib.Ieee.Exact.{HasValue}
use Rattle.integers.proofs.Laws.{*ℤ-negl}
use Rattle.projection.specs.Conversion.{Exactly, DividedOnce, ExactlyConverted}
use Rattle.projection.specs.Projection.{limit, all_in_range, is_zero, all_zero, is_negative, negated_if}
use Rattle.projection.specs.Projection.{positive_zero, quotient_of, coords_of, projection_by, projection_of}
use Rattle.projection.specs.declared.Coords.{Coords}
use Rattle.projection.specs.declared.Projection.TheVariants.{Finite}
use Rattle.projection.proofs.Finite.{converted, rounded-quotient, zero-quotient}
use Rattle.projection.proofs.Signed.{within}

-- a float of v's sign and size is v
exactly : (v : ℤ) (x : Float) → HasValue x (is_negative v) (nat_abs v) 1 → Exactly v x
exactly v nan h = h
exactly v (inf s) h = h
exactly (pos a) (fin s m e) h =
    subst (λ t. negated_if t (pos m) *ℤ pos (up e) ≡ pos a *ℤ pos (down e)) (sym h.0)
    (ap pos (sym (mul-one (m * up e)) ∙ h.1))
exactly (negsuc a) (fin s m e) h =
    subst (λ t. negated_if t (pos m) *ℤ pos (up e) ≡ negsuc a *ℤ pos (down e)) (sym h.0)
    (*ℤ-negl (pos m) (pos (up e)) ∙ ap (λ n. neg_ℤ (pos n)) (sym (mul-one (m * up e)) ∙ h.1))

whole : (v : ℤ) → nat_abs v ≤ limit → Exactly v (of_int binary64 v)
whole v h = exactly v (of_int binary64 v) (converted v h)

module _ (v w : ℤ) (h : nat_abs v ≤ limit) (k : nat_abs w ≤ limit) (q : is_zero w ≡ false) where
  divided : quotient_of v w ≡ cond (is_zero v) positive_zero (div binary64 (of_int binary64 v) (of_int binary64 w))
  unfolding quotient_of
  divided = refl

  rounded : (b : Bool) → is_zero v ≡ b
      → quotient_of v w
      ≡ cond b positive_zero (round binary64 (unlike (is_negative v) (is_negative w)) (nat_abs v) (nat_abs w))
  rounded true e = zero-quotient v w e
  rounded false e = rounded-quotient v w h k e q

  once : DividedOnce v w (quotient_of v w)
  once =
      record {
        numerator = whole v h;
        divisor = whole w k;
        divided = divided;
        rounded = rounded (is_zero v) refl;
      }

-- the three of a finite point
abbrev Coordinates : ℤ → ℤ → ℤ → ℤ → Coords → Type 0
Coordinates x y z w p = DividedOnce x w p.x × DividedOnce y w p.y × DividedOnce z w p.z

coordinates : (x y z w : ℤ) (p : Coords) → projection_of x y z w ≡ Finite p → Coordinates x y z w p
unfolding projection_of projection_by coords_of
coordinates x y z w p = by (all_in_range x y z w) (is_zero w) (all_zero x y z) refl refl
  where
    never : {A : Type 0} → ◌≡◌ {A = ℕ} 0 1 → A
    never e = absurd (omega arith)

    by : (a b c : Bool) → all_in_range x y z w ≡ a → is_zero w ≡ b → projection_by a b c x y z w ≡ Finite p
        → Coordinates x y z w p
    by false b c e f is = never (cc)
    by true true true e f is = never (cc)
    by true true false e f is = never (cc)
    by true false c e f is =
        let r = within x y z w e in
        let same : coords_of x y z w ≡ p = cc in
        subst (Coordinates x y z w) same
        (once x w r.0 r.3 f, once y w r.1 r.3 f, once z w r.2 r.3 f)

pub exactly-converted : ExactlyConverted
exactly-converted = record { converted = whole; coordinates = coordinates }
