-- Laws of the largest absolute value: it is above every number and one of them reaches it, it is within a limit exactly when all numbers are, and it sees no signs.
-- By induction on the list, the larger of two numbers by `omega`.
use Prim.Native.Nat.{ℕ, ◌≤◌, max}
use native.Mathlib.Decide.{dec_le}
use native.Mathlib.Omega.{arith}
use mathlib.Core.Path.{◌≡◌, refl, sym, ap, ap₂, ◌∙◌}
use mathlib.Core.Logic.{◌⊎◌, inl, inr}
use mathlib.Core.Bool.{◌&&◌}
use mathlib.Core.List.Memᴰ
use mathlib.Core.List.{List, [], ◌∷◌, ◌++◌, map, Memᴰ}
use lib.Dec.{leb}
use lib.IntN.{ℤ, nat_abs}
use borrow.Author.Tests.{leb-true, le-leb}
use Rattle.integers.specs.Test.{within, all}
use Rattle.integers.specs.Largest.{largest_of}
use Rattle.integers.proofs.All.{and-true, and_parts, both_ways}

-- ---- it is the maximum

-- no number is beyond it
pub largest-above : (xs : List ℤ) (x : ℤ) → Memᴰ x xs → nat_abs x ≤ largest_of xs
largest-above [] x m = absurd (Memᴰ.not-nil m)
largest-above (y ∷ xs) x m = by (largest-above xs x) (Memᴰ.cases_cons m)
  where
    by : (Memᴰ x xs → nat_abs x ≤ largest_of xs) → (x ≡ y) ⊎ Memᴰ x xs → nat_abs x ≤ largest_of (y ∷ xs)
    by rest (inl e) = let p = ap nat_abs e in omega arith
    by rest (inr k) = let below = rest k in omega arith

-- one of the numbers reaches it
pub largest-reached : (x : ℤ) (xs : List ℤ) → (y : ℤ) × Memᴰ y (x ∷ xs) × (nat_abs y ≡ largest_of (x ∷ xs))
largest-reached x [] = (x, Memᴰ.head refl, omega arith)
largest-reached x (z ∷ xs) = by (largest-reached z xs) (dec_le (nat_abs x) (largest_of (z ∷ xs)))
  where
    by : ((y : ℤ) × Memᴰ y (z ∷ xs) × (nat_abs y ≡ largest_of (z ∷ xs))) → Dec (nat_abs x ≤ largest_of (z ∷ xs))
        → (y : ℤ) × Memᴰ y (x ∷ z ∷ xs) × (nat_abs y ≡ largest_of (x ∷ z ∷ xs))
    by (y, m, e) (yes h) = (y, Memᴰ.tail m, omega arith)
    by rest (no h) = (x, Memᴰ.head refl, omega arith)

-- ---- of lists made of others

-- of two lists, one after the other
pub largest-append : (xs ys : List ℤ) → largest_of (xs ++ ys) ≡ max (largest_of xs) (largest_of ys)
largest-append [] ys = omega arith
largest-append (x ∷ xs) ys = let rest = largest-append xs ys in omega arith

-- it sees no signs: functions whose values differ by sign alone have the same one
pub largest-same : {A : Type 0} (f g : A → ℤ) (xs : List A) → ((x : A) → nat_abs (f x) ≡ nat_abs (g x)) → largest_of (map f xs) ≡ largest_of (map g xs)
largest-same f g [] h = refl
largest-same f g (x ∷ xs) h = ap₂ max (h x) (largest-same f g xs h)

-- ---- a limit

-- the larger of two is at most a limit exactly when both are
max-within : (a b limit : ℕ) → (leb a limit && leb b limit) ≡ leb (max a b) limit
max-within a b limit =
    both_ways (leb a limit && leb b limit) (leb (max a b) limit)
    (λ h.
    let both = and_parts (leb a limit) (leb b limit) h in
    let first = leb-true a limit both.0 in
    let second = leb-true b limit both.1 in
    le-leb (max a b) limit (omega arith))
    (λ h. let under = leb-true (max a b) limit h in and-true (le-leb a limit (omega arith)) (le-leb b limit (omega arith)))

-- all numbers are within a limit exactly when the largest is
pub largest-within : (limit : ℕ) (xs : List ℤ) → all (within limit) xs ≡ leb (largest_of xs) limit
largest-within limit [] = sym (le-leb 0 limit (omega arith))
largest-within limit (x ∷ xs) = ap (λ b. within limit x && b) (largest-within limit xs) ∙ max-within (nat_abs x) (largest_of xs) limit
