-- The members of the two orders: what a member's length and total are; and a test of lists one after the other.
use Prim.Native.Nat.{ℕ, zero, suc, ◌-◌, ◌≤◌, ◌<◌}
use native.Mathlib.Omega.{arith}
use mathlib.Core.Path.{◌≡◌, refl, sym, ap, ◌∙◌, subst}
use mathlib.Core.Bool.{Bool, ◌&&◌}
use mathlib.Core.Logic.{◌⊎◌, inl, inr}
use mathlib.Core.List.Memᴰ
use mathlib.Core.List.{List, [], ◌∷◌, ◌++◌, map, append_assoc, Memᴰ}
use lib.ListN.{length}
use Rattle.integers.specs.Sum.{upto}
use Rattle.integers.specs.Test.{all}
use Rattle.integers.proofs.All.{all_append}
use Rattle.integers.proofs.Sums.{upto-below}
use Rattle.polar.specs.Order.{joined, total, monomials, counts}

-- a member of lists one after the other is a member of one of them
pub of-joined : {A B : Type 0} (f : A → List B) (xs : List A) {b : B} → Memᴰ b (joined f xs) → (x : A) × Memᴰ x xs × Memᴰ b (f x)
of-joined f [] m = absurd (Memᴰ.not-nil m)
of-joined {A} f (x ∷ xs) {b} m = by-case (of-joined f xs) (Memᴰ.append_cases (f x) m)
  where
    by-case : (Memᴰ b (joined f xs) → (y : A) × Memᴰ y xs × Memᴰ b (f y)) → Memᴰ b (f x) ⊎ Memᴰ b (joined f xs) → (y : A) × Memᴰ y (x ∷ xs) × Memᴰ b (f y)
    by-case rest (inl k) = (x, Memᴰ.head refl, k)
    by-case rest (inr k) = let r = rest k in (r.0, Memᴰ.tail r.1, r.2)

-- a member of rows with a head put in front of each of their lists
pub of-rows : (g : ℕ → ℕ) (row : ℕ → List (List ℕ)) (n : ℕ) {e : List ℕ} → Memᴰ e (joined (λ k. map (λ r. g k ∷ r) (row k)) (upto n))
    → (k : ℕ) × (k < n) × ((r : List ℕ) × Memᴰ r (row k) × (g k ∷ r ≡ e))
of-rows g row n m =
    let j = of-joined (λ k. map (λ r. g k ∷ r) (row k)) (upto n) m in
    (j.0, upto-below n j.0 j.1, Memᴰ.of_map (λ r. g j.0 ∷ r) (row j.0) j.2)

pub monomials-total : (n m : ℕ) (e : List ℕ) → Memᴰ e (monomials n m) → (length e ≡ n) × (total e ≤ m)
unfolding monomials
monomials-total zero m e h = subst (λ x. (length x ≡ 0) × (total x ≤ m)) (sym (Memᴰ.eq_of_singleton h)) (refl, omega arith)
monomials-total (suc n) m e h =
    let k = of-rows (λ i. i) (λ i. monomials n (m - i)) (suc m) h in
    let r = monomials-total n (m - k.0) k.2.0 k.2.1 in
    let b : k.0 < suc m = k.1 in
    let t : total k.2.0 ≤ m - k.0 = r.1 in
    subst (λ x. (length x ≡ suc n) × (total x ≤ m)) k.2.2 (ap suc r.0, omega arith)

pub counts-total : (n m : ℕ) (e : List ℕ) → Memᴰ e (counts n m) → (length e ≡ suc n) × (total e ≡ m)
unfolding counts
counts-total zero m e h = subst (λ x. (length x ≡ 1) × (total x ≡ m)) (sym (Memᴰ.eq_of_singleton h)) (refl, omega arith)
counts-total (suc n) m e h =
    let k = of-rows (λ i. m - i) (counts n) (suc m) h in
    let r = counts-total n k.0 k.2.0 k.2.1 in
    let b : k.0 < suc m = k.1 in
    let t : total k.2.0 ≡ k.0 = r.1 in
    subst (λ x. (length x ≡ suc (suc n)) × (total x ≡ m)) k.2.2 (ap suc r.0, omega arith)

-- a test of lists one after the other
pub all-joined : {A B : Type 0} (test : B → Bool) (f : A → List B) (xs : List A) → all test (joined f xs) ≡ all (λ x. all test (f x)) xs
all-joined test f [] = refl
all-joined test f (x ∷ xs) = all_append test (f x) (joined f xs) ∙ ap (λ b. all test (f x) && b) (all-joined test f xs)

-- the lists of two lists one after the other
pub joined-append : {A B : Type 0} (f : A → List B) (xs ys : List A) → joined f (xs ++ ys) ≡ joined f xs ++ joined f ys
joined-append f [] ys = refl
joined-append f (x ∷ xs) ys = ap (λ l. f x ++ l) (joined-append f xs ys) ∙ sym (append_assoc (f x) (joined f xs) (joined f ys))
