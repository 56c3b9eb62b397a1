-- What is left from the d-th value of a line on, which stand in a room. All values before it are four zeros.
use Prim.Native.Nat.{ℕ, suc, ◌+◌, ◌*◌, ◌-◌, ◌≤◌, ◌<◌}
use native.Mathlib.Nat as NatL
use native.Mathlib.Omega.{arith}
use mathlib.Core.Path.{◌≡◌, refl, sym, ap, ap₂, ◌∙◌, subst}
use mathlib.Core.Bool.{Bool, true, false, cond}
use mathlib.Core.List.{List, map, map-map}
use lib.Dec.{eqb}
use lib.IntN.{ℤ}
use Rattle.integers.specs.Sum.{upto}
use Rattle.projection.specs.Projection.{Four, four_zeros, is_four_zeros, first_not_zeros}
use Rattle.projection.proofs.Zeros.{zeros-are}
use Rattle.machine.specs.Carried.{four_at}
use Rattle.machine.proofs.Over.{map-among}
use Rattle.nets.specs.Zeros.{value_place, places_projected}

-- four zeros are no other point
pub zeros-or : (p : Four) (b : Bool) → is_four_zeros p ≡ b → cond b four_zeros p ≡ p
zeros-or p false h = refl
zeros-or p true h = sym (zeros-are p h)

-- of the values v d, v (d + 1), .., n of them
abbrev left_from : (ℕ → Four) → ℕ → ℕ → Four
left_from v d n = first_not_zeros (map (λ i. v (d + i)) (upto n))

left_step : (v : ℕ → Four) (d n : ℕ) → left_from v d (suc n) ≡ cond (is_four_zeros (v d)) (left_from v (d + 1) n) (v d)
unfolding first_not_zeros
left_step v d n =
    ap₂ (λ k rest. cond (is_four_zeros (v k)) (first_not_zeros rest) (v k)) (NatL.add-zero d)
    (map-map (λ i. v (d + i)) suc (upto n) ∙ map-among (λ i. v (d + suc i)) (λ i. v (d + 1 + i)) (upto n) (λ i m. let same : d + suc i ≡ d + 1 + i = omega arith in ap v same))

-- ---- in the places

abbrev value : ℕ → ℕ → List ℤ → ℕ → Four
value vertex m xs d = four_at (value_place vertex m d) xs

pub record Left (vertex m : ℕ) (xs : List ℤ) (d : ℕ) : Type 0 where
  pub up : d ≤ m
  pub left : left_from (value vertex m xs) d (suc (m - d)) ≡ places_projected vertex m xs

pub left-first : {vertex m : ℕ} {xs : List ℤ} → 1 ≤ m → Left vertex m xs 1
unfolding places_projected
left-first {vertex} {m} {xs} some = record {
  up = some;
  left =
      let whole : suc (m - 1) ≡ m = omega arith in
      ap (left_from (value vertex m xs) 1) whole
      ∙ ap first_not_zeros (map-among (λ i. value vertex m xs (1 + i)) (λ d. value vertex m xs (suc d)) (upto m) (λ i k. let same : 1 + i ≡ suc i = omega arith in ap (value vertex m xs) same));
}

-- at the place of the d-th value
module _ {vertex m : ℕ} {xs : List ℤ} {d p : ℕ} (from : Left vertex m xs d) (place : p ≡ value_place vertex m d) where
  abbrev v : ℕ → Four
  v = value vertex m xs

  -- it is an entry of the line
  pub place-fits : p + 4 ≤ 4 * (m + 1)
  place-fits = subst (λ q. q + 4 ≤ 4 * (m + 1)) (sym place) (by (eqb vertex 0))
    where
      by : (b : Bool) → cond b (4 * d) (4 * (m - d)) + 4 ≤ 4 * (m + 1)
      by true = let up = from.up in omega arith
      by false = omega arith

  here : {b : Bool} → b ≡ is_four_zeros (four_at p xs) → cond b (left_from v (d + 1) (m - d)) (v d) ≡ places_projected vertex m xs
  here is = ap (λ b. cond b (left_from v (d + 1) (m - d)) (v d)) (is ∙ ap (λ q. is_four_zeros (four_at q xs)) place) ∙ sym (left_step v d (m - d)) ∙ from.left

  pub left-found : false ≡ is_four_zeros (four_at p xs) → (p + 4 ≤ 4 * (m + 1)) × (four_at p xs ≡ places_projected vertex m xs)
  left-found some = (place-fits, ap (λ q. four_at q xs) place ∙ here some)

  pub left-next : d < m → true ≡ is_four_zeros (four_at p xs) → Left vertex m xs (d + 1)
  left-next more zeros = let rest : suc (m - (d + 1)) ≡ m - d = omega arith in record { up = omega arith; left = ap (left_from v (d + 1)) rest ∙ here zeros }

  pub left-last : m ≤ d → (p + 4 ≤ 4 * (m + 1)) × (four_at p xs ≡ places_projected vertex m xs)
  unfolding first_not_zeros
  left-last end =
      let one : 1 ≡ suc (m - d) = omega arith in
      (place-fits, ap (λ q. four_at q xs) place ∙ sym (left_step v d 0 ∙ zeros-or (v d) (is_four_zeros (v d)) refl) ∙ ap (left_from v d) one ∙ from.left)

-- the steps of a search for it
pub ruleset left_steps = (left-first, left-found, left-next, left-last)
