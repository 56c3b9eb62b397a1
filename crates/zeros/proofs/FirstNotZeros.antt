-- The first of several fours that is not four zeros: it is the one at the least place where something is not
-- 0, or all are four zeros. By the fours before it.
use Prim.Native.Nat.{ℕ, zero, suc, ◌<◌}
use native.Mathlib.Nat as NatL
use native.Mathlib.Omega.{arith}
use mathlib.Core.Path.{◌≡◌, refl, sym, ap, ◌∙◌, subst}
use mathlib.Core.Logic.{◌↔◌}
use mathlib.Core.Bool.{Bool, true, false, ◌&&◌, cond}
use mathlib.Core.List.{map, map-map}
use lib.Dec.{lit≤}
use lib.IntN.{ℤ, pos}
use Rattle.integers.specs.Sum.{upto}
use Rattle.integers.proofs.All.{clash}
use Rattle.projection.proofs.Zeros.{zeros-are}
use Rattle.projection.specs.Projection.{is_zero, all_zero, all_in_range, Four, four_zeros, is_four_zeros, first_not_zeros, without_length, projection_by, projection_of, projection_of_four, found_projection}
use Rattle.projection.specs.declared.Projection.{Projection}
use Rattle.projection.specs.declared.Projection.TheVariants.{Finite, Direction, Nowhere, OutOfRange}
use Rattle.machine.specs.Steps.{Answer, Taken, Found, Refused, refusal_number, four_of, found_of, projected_of}

-- of v 0, .., v (n - 1)
pub data Least (v : ℕ → Four) (n : ℕ) (first : Four) : Type 0 where
  at : (d : ℕ) → d < n → ((j : ℕ) → j < d → is_four_zeros (v j) ≡ true) → is_four_zeros (v d) ≡ false → first ≡ v d → Least v n first
  none : ((j : ℕ) → j < n → is_four_zeros (v j) ≡ true) → first ≡ four_zeros → Least v n first

pub least : (v : ℕ → Four) (n : ℕ) → Least v n (first_not_zeros (map v (upto n)))
unfolding first_not_zeros
least v zero = none (λ j h. absurd (NatL.not-suc-le-zero h)) refl
least v (suc n) =
    by (is_four_zeros (v 0)) refl (subst (λ l. Least (λ d. v (suc d)) n (first_not_zeros l)) (sym (map-map v suc (upto n))) (least (λ d. v (suc d)) n))
  where
    later : is_four_zeros (v 0) ≡ true → {k : ℕ} → ((j : ℕ) → j < k → is_four_zeros (v (suc j)) ≡ true) → (j : ℕ) → j < suc k → is_four_zeros (v j) ≡ true
    later e h zero p = e
    later e h (suc j) p = h j (NatL.le_of_suc-le-suc p)

    by : (b : Bool) → is_four_zeros (v 0) ≡ b → Least (λ d. v (suc d)) n (first_not_zeros (map v (map suc (upto n))))
        → Least v (suc n) (cond b (first_not_zeros (map v (map suc (upto n)))) (v 0))
    by false e rest = at 0 (NatL.zero-lt-suc n) (λ j h. absurd (NatL.not-suc-le-zero h)) e refl
    by true e (at d h before here is) = at (suc d) (omega arith) (later e before) here is
    by true e (none all is) = none (later e all) is

-- it is four zeros exactly where all are
pub all-zeros : (v : ℕ → Four) (n : ℕ) → (first_not_zeros (map v (upto n)) ≡ four_zeros) ↔ ((j : ℕ) → j < n → is_four_zeros (v j) ≡ true)
all-zeros v n = by (least v n)
  where
    by : Least v n (first_not_zeros (map v (upto n))) → (first_not_zeros (map v (upto n)) ≡ four_zeros) ↔ ((j : ℕ) → j < n → is_four_zeros (v j) ≡ true)
    by (at d h before here is) = (λ e. absurd (clash (ap is_four_zeros (sym is ∙ e)) here), λ all. absurd (clash (all d h) here))
    by (none all is) = (λ e. all, λ zero. is)

-- ---- four zeros, by components

pub zeros-each : (p : ℕ → ℤ) → is_four_zeros (four_of p) ≡ true → (c : ℕ) → c < 4 → p c ≡ pos 0
zeros-each p h zero k = ap (λ q. q.x) (zeros-are (four_of p) h)
zeros-each p h (suc zero) k = ap (λ q. q.y) (zeros-are (four_of p) h)
zeros-each p h (suc (suc zero)) k = ap (λ q. q.z) (zeros-are (four_of p) h)
zeros-each p h (suc (suc (suc zero))) k = ap (λ q. q.w) (zeros-are (four_of p) h)
zeros-each p h (suc (suc (suc (suc c)))) k = absurd (omega arith)

pub each-zeros : (p : ℕ → ℤ) → ((c : ℕ) → c < 4 → p c ≡ pos 0) → is_four_zeros (four_of p) ≡ true
each-zeros p h = λ i. is_zero (h 0 (lit≤ tt) i) && is_zero (h 1 (lit≤ tt) i) && is_zero (h 2 (lit≤ tt) i) && is_zero (h 3 (lit≤ tt) i)

-- ---- nowhere

without-nowhere : (at : Projection) → without_length at ≡ Nowhere → at ≡ Nowhere
without-nowhere (Finite p) h = absurd (let z : ◌≡◌ {A = ℕ} 0 1 = cc in omega arith)
without-nowhere (Direction d) h = absurd (let z : ◌≡◌ {A = ℕ} 0 1 = cc in omega arith)
without-nowhere Nowhere h = refl
without-nowhere OutOfRange h = h

nowhere-by : (inside weightless empty : Bool) (x y z w : ℤ) → projection_by inside weightless empty x y z w ≡ Nowhere → (empty && weightless) ≡ true
unfolding projection_by
nowhere-by true true true x y z w h = refl
nowhere-by true true false x y z w h = absurd (let z : ◌≡◌ {A = ℕ} 0 1 = cc in omega arith)
nowhere-by true false empty x y z w h = absurd (let z : ◌≡◌ {A = ℕ} 0 1 = cc in omega arith)
nowhere-by false weightless empty x y z w h = absurd (let z : ◌≡◌ {A = ℕ} 0 1 = cc in omega arith)

-- whatever the point is, exactly four zeros are projected nowhere
pub nowhere-zeros : (point projected : Four) → (found_projection point projected ≡ Nowhere) ↔ (projected ≡ four_zeros)
unfolding found_projection projection_of
nowhere-zeros point projected = (λ h. zeros-are projected (only (is_four_zeros point) h), λ e. ap (found_projection point) e ∙ zeros (is_four_zeros point))
  where
    only : (b : Bool) → cond b (without_length (projection_of_four projected)) (projection_of_four projected) ≡ Nowhere → is_four_zeros projected ≡ true
    only true h =
        nowhere-by (all_in_range projected.x projected.y projected.z projected.w) (is_zero projected.w) (all_zero projected.x projected.y projected.z)
        projected.x projected.y projected.z projected.w (without-nowhere (projection_of_four projected) h)
    only false h =
        nowhere-by (all_in_range projected.x projected.y projected.z projected.w) (is_zero projected.w) (all_zero projected.x projected.y projected.z)
        projected.x projected.y projected.z projected.w h

    zeros : (b : Bool) → cond b (without_length (projection_of_four four_zeros)) (projection_of_four four_zeros) ≡ Nowhere
    zeros true = refl
    zeros false = refl

-- ---- the parts of a found point

abbrev projection_in : Answer → Projection
projection_in Taken = Nowhere
projection_in (Found point projected reads) = reads
projection_in (Refused k) = Nowhere

pub found-parts : {p v point projected : Four} {r reads : Projection} → Found p v r ≡ Found point projected reads → (p ≡ point) × (v ≡ projected) × (r ≡ reads)
found-parts e = (ap found_of e, ap projected_of e, ap projection_in e)

-- what is refused is not found
pub not_found : {k : ℕ} {point projected : Four} {reads : Projection} → Refused (suc k) ≡ Found point projected reads → ⊥
not_found e = NatL.suc-ne-zero _ (ap refusal_number e)
