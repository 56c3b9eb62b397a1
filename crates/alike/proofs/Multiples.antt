-- Four numbers in range that one nonzero fraction takes to four others in range are projected alike (request
-- E7): the quotients are the same fraction, rounded once, and the same direction is left.
use Prim.Native.Nat.{ℕ, zero, suc, ◌*◌, ◌≤◌, ◌<◌}
use native.Mathlib.Omega.{arith}
use mathlib.Core.Path.{◌≡◌, refl, sym, ap, ap₂, ◌∙◌}
use mathlib.Core.Bool.{Bool, true, false, not, ◌&&◌, cond}
use mathlib.Core.List.{[], ◌∷◌, map}
use borrow.Author.Tests.{eqb-false}
use lib.IntN.{ℤ, pos, negsuc, nat_abs, ◌*ℤ◌}
use lib.Ieee.{binary64, unlike, round}
use lib.Ieee.Scale.{round_same}
use lib.ListN.{get_or}
use lib.Signed.{quot_z}
use Rattle.integers.proofs.Laws.{nat_abs-*}
use Rattle.integers.proofs.All.{clash}
use Rattle.integers.proofs.Ring.{ring, ring-rules, cancelled, product-nonzero}
use Rattle.projection.specs.Gcd.{gcd}
use Rattle.projection.specs.Projection.{limit, is_zero, all_zero, is_negative, first_nonzero, gcd_of, negated_if, quotient_of, coords_of, direction_of, projection_by, projection_of, four_numbers, without_length}
use Rattle.projection.specs.declared.Projection.TheVariants.{Finite, Direction}
use Rattle.projection.proofs.Finite.{rounded-quotient, zero-quotient}
use Rattle.projection.proofs.Signed.{within}
use Rattle.alike.specs.Alike.{ReadsAlike}
use Rattle.alike.proofs.Scaled.{gcd-times}
use Rattle.alike.proofs.Numbers.{nonzero-size, sign_pos, sign-neg, one, zero-kept}

above : (w : ℤ) → is_zero w ≡ false → 0 < nat_abs w
above w h = let apart = eqb-false (nat_abs w) 0 h in omega arith

nonzero : (w : ℤ) → is_zero w ≡ false → w ≡ pos 0 → ⊥
nonzero w h e = clash (ap is_zero e) h

unlike-nots : (a b : Bool) → unlike (not a) (not b) ≡ unlike a b
unlike-nots true true = refl
unlike-nots true false = refl
unlike-nots false true = refl
unlike-nots false false = refl

unlike-times : (k v w : ℤ) → (k ≡ pos 0 → ⊥) → is_zero v ≡ false → is_zero w ≡ false → unlike (is_negative (k *ℤ v)) (is_negative (k *ℤ w)) ≡ unlike (is_negative v) (is_negative w)
unlike-times (pos zero) v w h p q = absurd (h refl)
unlike-times (pos (suc n)) v w h p q = ap₂ unlike (sign_pos n v) (sign_pos n w)
unlike-times (negsuc n) v w h p q = ap₂ unlike (sign-neg n v (nonzero v p)) (sign-neg n w (nonzero w q)) ∙ unlike-nots (is_negative v) (is_negative w)

module _ (k : ℤ) (h : k ≡ pos 0 → ⊥) where
  first-times : (x y z : ℤ) → first_nonzero (k *ℤ x) (k *ℤ y) (k *ℤ z) ≡ k *ℤ first_nonzero x y z
  first-times x y z =
      ap₂ (λ a b. cond a (cond b (k *ℤ z) (k *ℤ y)) (k *ℤ x)) (zero-kept k x h) (zero-kept k y h) ∙ by (is_zero x) (is_zero y)
    where
      by : (a b : Bool) → cond a (cond b (k *ℤ z) (k *ℤ y)) (k *ℤ x) ≡ k *ℤ cond a (cond b z y) x
      by true true = refl
      by true false = refl
      by false b = refl

  divisor-three : (x y z : ℤ) → gcd_of (k *ℤ x) (k *ℤ y) (k *ℤ z) ≡ nat_abs k * gcd_of x y z
  divisor-three x y z =
      (λ i. gcd (nat_abs-* k x i ∷ nat_abs-* k y i ∷ nat_abs-* k z i ∷ [])) ∙ gcd-times (nat_abs k) (nonzero-size k h) (nat_abs x ∷ nat_abs y ∷ nat_abs z ∷ [])

  first-not-zero : (x y z : ℤ) → all_zero x y z ≡ false → is_zero (first_nonzero x y z) ≡ false
  first-not-zero x y z e = by (is_zero x) (is_zero y) refl refl e
    where
      by : (a b : Bool) → is_zero x ≡ a → is_zero y ≡ b → a && b && is_zero z ≡ false → is_zero (cond a (cond b z y) x) ≡ false
      by true true p q r = r
      by true false p q r = q
      by false b p q r = p

  direction-times : (x y z : ℤ) → all_zero x y z ≡ false → without_length (Direction (direction_of (k *ℤ x) (k *ℤ y) (k *ℤ z))) ≡ without_length (Direction (direction_of x y z))
  unfolding direction_of
  direction-times x y z e = λ i. Direction (record { x = part x i; y = part y i; z = part z i; length = pos 1 })
    where
      part : (v : ℤ) → negated_if (is_negative (first_nonzero (k *ℤ x) (k *ℤ y) (k *ℤ z))) (quot_z (k *ℤ v) (pos (gcd_of (k *ℤ x) (k *ℤ y) (k *ℤ z))))
          ≡ negated_if (is_negative (first_nonzero x y z)) (quot_z v (pos (gcd_of x y z)))
      part v =
          ap₂ (λ l g. negated_if (is_negative l) (quot_z (k *ℤ v) (pos g))) (first-times x y z) (divisor-three x y z)
          ∙ one k (first_nonzero x y z) v (gcd_of x y z) h (nonzero (first_nonzero x y z) (first-not-zero x y z e))

-- ---- a fraction

module _ (k j : ℤ) (h : k ≡ pos 0 → ⊥) (g : j ≡ pos 0 → ⊥) where
  -- 0 stays 0
  zero-alike : (v v' : ℤ) → k *ℤ v ≡ j *ℤ v' → is_zero v ≡ is_zero v'
  zero-alike v v' e = sym (zero-kept k v h) ∙ ap is_zero e ∙ zero-kept j v' g

  -- cross-multiplied
  crossed : (v w v' w' : ℤ) → k *ℤ v ≡ j *ℤ v' → k *ℤ w ≡ j *ℤ w' → nat_abs v * nat_abs w' ≡ nat_abs v' * nat_abs w
  crossed v w v' w' e f =
      let r = j *ℤ k in
      sym (nat_abs-* v w') ∙ ap nat_abs (cancelled r (v *ℤ w') (v' *ℤ w) (product-nonzero j k g h) all) ∙ nat_abs-* v' w
    where
      all : j *ℤ k *ℤ (v *ℤ w') ≡ j *ℤ k *ℤ (v' *ℤ w)
      all =
          ring (j ∷ k ∷ v ∷ w' ∷ []) (search ring-rules depth 60) tt
          ∙ ap₂ (λ a b. a *ℤ b) e (sym f)
          ∙ ring (j ∷ k ∷ v' ∷ w ∷ []) (search ring-rules depth 60) tt

  quotient-alike : (v w v' w' : ℤ) → nat_abs v ≤ limit → nat_abs w ≤ limit → nat_abs v' ≤ limit → nat_abs w' ≤ limit → is_zero w ≡ false → k *ℤ v ≡ j *ℤ v' → k *ℤ w ≡ j *ℤ w'
      → quotient_of v w ≡ quotient_of v' w'
  quotient-alike v w v' w' a b c d q e f = by (is_zero v) refl
    where
      q' : is_zero w' ≡ false
      q' = sym (zero-alike w w' f) ∙ q

      by : (t : Bool) → is_zero v ≡ t → quotient_of v w ≡ quotient_of v' w'
      by true z = zero-quotient v w z ∙ sym (zero-quotient v' w' (sym (zero-alike v v' e) ∙ z))
      by false z =
          let z' = sym (zero-alike v v' e) ∙ z in
          rounded-quotient v w a b z q
          ∙ ap (λ s. round binary64 s (nat_abs v) (nat_abs w))
          (sym (unlike-times k v w h z q) ∙ ap₂ (λ x y. unlike (is_negative x) (is_negative y)) e f ∙ unlike-times j v' w' g z' q')
          ∙ round_same binary64 (unlike (is_negative v') (is_negative w')) (nat_abs v) (nat_abs w) (nat_abs v') (nat_abs w') (above w q) (above w' q') (crossed v w v' w' e f)
          ∙ sym (rounded-quotient v' w' c d z' q')

  direction-alike : (x y z x' y' z' : ℤ) → all_zero x y z ≡ false → all_zero x' y' z' ≡ false → k *ℤ x ≡ j *ℤ x' → k *ℤ y ≡ j *ℤ y' → k *ℤ z ≡ j *ℤ z'
      → without_length (Direction (direction_of x y z)) ≡ without_length (Direction (direction_of x' y' z'))
  direction-alike x y z x' y' z' n n' a b c =
      sym (direction-times k h x y z n)
      ∙ (λ i. without_length (Direction (direction_of (a i) (b i) (c i))))
      ∙ direction-times j g x' y' z' n'

pub reads-alike : ReadsAlike
unfolding projection_of projection_by coords_of
reads-alike p q in_p in-q alike =
    ap (λ b. without_length (projection_by b (is_zero p.w) (all_zero p.x p.y p.z) p.x p.y p.z p.w)) in_p
    ∙ by (is_zero p.w) (all_zero p.x p.y p.z) refl refl
    ∙ sym
    (ap (λ b. without_length (projection_by b (is_zero q.w) (all_zero q.x q.y q.z) q.x q.y q.z q.w)) in-q
    ∙ ap₂ (λ b c. without_length (projection_by true b c q.x q.y q.z q.w)) (sym same_w) (sym same-zero))
  where
    k : ℤ
    k = alike.over

    j : ℤ
    j = alike.under

    part : (i : ℕ) → get_or (map (λ x. k *ℤ x) (four_numbers p)) i (pos 0) ≡ get_or (map (λ y. j *ℤ y) (four_numbers q)) i (pos 0)
    part i = ap (λ l. get_or l i (pos 0)) alike.takes

    zeros : (v v' : ℤ) → k *ℤ v ≡ j *ℤ v' → is_zero v ≡ is_zero v'
    zeros = zero-alike k j alike.over_nonzero alike.under_nonzero

    same_w : is_zero p.w ≡ is_zero q.w
    same_w = zeros p.w q.w (part 3)

    same-zero : all_zero p.x p.y p.z ≡ all_zero q.x q.y q.z
    same-zero = λ i. zeros p.x q.x (part 0) i && zeros p.y q.y (part 1) i && zeros p.z q.z (part 2) i

    by : (b c : Bool) → is_zero p.w ≡ b → all_zero p.x p.y p.z ≡ c
        → without_length (projection_by true b c p.x p.y p.z p.w) ≡ without_length (projection_by true b c q.x q.y q.z q.w)
    by true true e f = refl
    by true false e f = direction-alike k j alike.over_nonzero alike.under_nonzero p.x p.y p.z q.x q.y q.z f (sym same-zero ∙ f) (part 0) (part 1) (part 2)
    by false c e f =
        let r = within p.x p.y p.z p.w in_p in
        let t = within q.x q.y q.z q.w in-q in
        let each = quotient-alike k j alike.over_nonzero alike.under_nonzero in
        λ i.
        Finite
        (record {
          x = each p.x p.w q.x q.w r.0 r.3 t.0 t.3 e (part 0) (part 3) i;
          y = each p.y p.w q.y q.w r.1 r.3 t.1 t.3 e (part 1) (part 3) i;
          z = each p.z p.w q.z q.w r.2 r.3 t.2 t.3 e (part 2) (part 3) i;
        })
