-- Number and values of each answer: by the definition's three tests there are four cases, and in each they
-- are what the tests say. How near a finite one is, is shown in Bound.antt.
use mathlib.Core.Path.{◌≡◌, refl, sym, ap, subst}
use mathlib.Core.Bool.{Bool, true, false, not, ◌&&◌, cond}
use mathlib.Core.List.{[], ◌∷◌, map}
use lib.IntN.{ℤ}
use lib.Ieee.{binary64, to_bits}
use Rattle.projection.specs.declared.Projection.{Projection}
use Rattle.projection.specs.Projection.{all_in_range, is_zero, all_zero, quotient_of, coords_of, direction_of, projection_by, projection_of, refusal, coordinates, coordinate_bits, direction_numbers, DirectionReduced, Projected, Four, projection_of_four}
use Rattle.projection.specs.Accuracy.{AccuratePoint}
use Rattle.projection.proofs.Bound.{accurate-projections}
use Rattle.projection.proofs.Directions.{reduced}

module _ (x y z w : ℤ) where
  number : (a b c : Bool) → refusal (projection_by a b c x y z w) ≡ cond a 0 10
  unfolding projection_by
  number false b c = refl
  number true false c = refl
  number true true false = refl
  number true true true = refl

  finite : (a b c : Bool) → coordinates (projection_by a b c x y z w) ≡ cond (a && not b) (quotient_of x w ∷ quotient_of y w ∷ quotient_of z w ∷ []) []
  unfolding projection_by coords_of
  finite false b c = refl
  finite true false c = refl
  finite true true false = refl
  finite true true true = refl

  reduced-numbers : (a b c : Bool) → let d = direction_of x y z in direction_numbers (projection_by a b c x y z w) ≡ cond (a && b && not c) (d.x ∷ d.y ∷ d.z ∷ d.length ∷ []) []
  unfolding projection_by
  reduced-numbers false b c = refl
  reduced-numbers true false c = refl
  reduced-numbers true true false = refl
  reduced-numbers true true true = refl

  direction-reduced : (a b c : Bool) → all_zero x y z ≡ c → DirectionReduced x y z (projection_by a b c x y z w)
  unfolding projection_by
  direction-reduced false b c h = tt
  direction-reduced true false c h = tt
  direction-reduced true true false h = reduced x y z h
  direction-reduced true true true h = tt

  told : Projected x y z w (projection_of x y z w)
  unfolding projection_of coordinate_bits
  told =
      let a = all_in_range x y z w in
      let b = is_zero w in
      let c = all_zero x y z in
      (number a b c, finite a b c, ap (map (to_bits binary64)) (finite a b c), reduced-numbers a b c, direction-reduced a b c refl)

-- what equals the definition's answer tells the same
pub projected : (p : Four) (r : Projection) → r ≡ projection_of_four p
    → (r ≡ projection_of_four p) × Projected p.x p.y p.z p.w r × AccuratePoint p r
projected p r is = (
  is,
  subst (Projected p.x p.y p.z p.w) (sym is) (told p.x p.y p.z p.w),
  subst (AccuratePoint p) (sym is) (accurate-projections p),
)
