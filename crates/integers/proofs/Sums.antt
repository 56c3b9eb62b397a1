-- The laws of sums: each is an induction on the list, with the ring's laws at each step.
use mathlib.Core.Path.{◌≡◌, refl, sym, ◌∙◌, ap, ap₂, subst}
use mathlib.Core.List.Memᴰ
use mathlib.Core.List.{List, [], ◌∷◌, ◌++◌, map, Memᴰ}
use mathlib.Core.Logic.{◌⊎◌, inl, inr}
use Prim.Native.Nat.{ℕ, zero, suc, ◌+◌, ◌*◌, ◌≤◌, ◌<◌, zero-le}
use native.Mathlib.Nat.{suc-mul, le_of_suc-le-suc, not-suc-le-zero}
use native.Mathlib.Omega.{arith}
use lib.ListN.{length, get_or, length-map}
use lib.IntN.{ℤ, pos, neg_ℤ, nat_abs, ◌+ℤ◌, ◌*ℤ◌, +ℤ_assoc, +ℤ_idl, +ℤ_idr, *ℤ-zero, zero-*ℤ, neg_ℤ-+ℤ}
use Rattle.integers.specs.Sum.{sum, upto}
use Rattle.integers.proofs.Laws.{*ℤ-distl, *ℤ-distr, +ℤ-swap, nat_abs-+}

-- ---- the function under the sum

module _ {A : Type 0} where
  pub sum-cong : {f g : A → ℤ} → ((x : A) → f x ≡ g x) → (xs : List A) → sum f xs ≡ sum g xs
  sum-cong h [] = refl
  sum-cong h (x ∷ xs) = ap₂ ◌+ℤ◌ (h x) (sum-cong h xs)

  -- equal at the members of the list
  pub sum-cong-in : {f g : A → ℤ} (xs : List A) → ((x : A) → Memᴰ x xs → f x ≡ g x) → sum f xs ≡ sum g xs
  sum-cong-in [] h = refl
  sum-cong-in (x ∷ xs) h = ap₂ ◌+ℤ◌ (h x (Memᴰ.head refl)) (sum-cong-in xs (λ y m. h y (Memᴰ.tail m)))

  pub sum-+ : (f g : A → ℤ) (xs : List A) → sum (λ x. f x +ℤ g x) xs ≡ sum f xs +ℤ sum g xs
  sum-+ f g [] = refl
  sum-+ f g (x ∷ xs) = ap (λ s. f x +ℤ g x +ℤ s) (sum-+ f g xs) ∙ +ℤ-swap (f x) (g x) (sum f xs) (sum g xs)

  pub sum-*l : (k : ℤ) (f : A → ℤ) (xs : List A) → sum (λ x. k *ℤ f x) xs ≡ k *ℤ sum f xs
  sum-*l k f [] = sym (*ℤ-zero k)
  sum-*l k f (x ∷ xs) = ap (λ s. k *ℤ f x +ℤ s) (sum-*l k f xs) ∙ sym (*ℤ-distl k (f x) (sum f xs))

  pub sum-*r : (k : ℤ) (f : A → ℤ) (xs : List A) → sum (λ x. f x *ℤ k) xs ≡ sum f xs *ℤ k
  sum-*r k f [] = sym (zero-*ℤ k)
  sum-*r k f (x ∷ xs) = ap (λ s. f x *ℤ k +ℤ s) (sum-*r k f xs) ∙ sym (*ℤ-distr (f x) (sum f xs) k)

  pub sum-neg : (f : A → ℤ) (xs : List A) → sum (λ x. neg_ℤ (f x)) xs ≡ neg_ℤ (sum f xs)
  sum-neg f [] = refl
  sum-neg f (x ∷ xs) = ap (λ s. neg_ℤ (f x) +ℤ s) (sum-neg f xs) ∙ sym (neg_ℤ-+ℤ (f x) (sum f xs))

  pub sum-zero : (xs : List A) → sum (λ x. pos 0) xs ≡ pos 0
  sum-zero [] = refl
  sum-zero (x ∷ xs) = ap (λ s. pos 0 +ℤ s) (sum-zero xs)

  pub sum-append : (f : A → ℤ) (xs ys : List A) → sum f (xs ++ ys) ≡ sum f xs +ℤ sum f ys
  sum-append f [] ys = sym (+ℤ_idl (sum f ys))
  sum-append f (x ∷ xs) ys = ap (λ s. f x +ℤ s) (sum-append f xs ys) ∙ sym (+ℤ_assoc (f x) (sum f xs) (sum f ys))

  -- the bounds of the terms bound the sum
  pub nat_abs-sum : (f : A → ℤ) (B : ℕ) → ((x : A) → nat_abs (f x) ≤ B) → (xs : List A) → nat_abs (sum f xs) ≤ length xs * B
  nat_abs-sum f B h [] = zero-le
  nat_abs-sum f B h (x ∷ xs) = rw suc-mul
      (let first : nat_abs (f x) ≤ B = h x in
      let rest : nat_abs (sum f xs) ≤ length xs * B = nat_abs-sum f B h xs in
      let both : nat_abs (f x +ℤ sum f xs) ≤ nat_abs (f x) + nat_abs (sum f xs) = nat_abs-+ (f x) (sum f xs) in
      omega arith)

-- ---- the list under the sum

module _ {A B : Type 0} where
  pub sum-map : (f : B → ℤ) (g : A → B) (xs : List A) → sum f (map g xs) ≡ sum (λ x. f (g x)) xs
  sum-map f g [] = refl
  sum-map f g (x ∷ xs) = ap (λ s. f (g x) +ℤ s) (sum-map f g xs)

  pub sum-swap : (f : A → B → ℤ) (xs : List A) (ys : List B) → sum (λ x. sum (λ y. f x y) ys) xs ≡ sum (λ y. sum (λ x. f x y) xs) ys
  sum-swap f [] ys = sym (sum-zero ys)
  sum-swap f (x ∷ xs) ys =
      ap (λ s. sum (λ y. f x y) ys +ℤ s) (sum-swap f xs ys)
      ∙ sym (sum-+ (λ y. f x y) (λ y. sum (λ x'. f x' y) xs) ys)

-- ---- the first numbers

map-append-one : {A B : Type 0} (g : A → B) (xs : List A) (y : A) → map g (xs ++ (y ∷ [])) ≡ map g xs ++ (g y ∷ [])
map-append-one g [] y = refl
map-append-one g (x ∷ xs) y = ap (λ l. g x ∷ l) (map-append-one g xs y)

pub upto_snoc : (n : ℕ) → upto (suc n) ≡ upto n ++ (n ∷ [])
upto_snoc zero = refl
upto_snoc (suc n) = ap (λ l. 0 ∷ map suc l) (upto_snoc n) ∙ ap (λ l. 0 ∷ l) (map-append-one suc (upto n) n)

pub length-upto : (n : ℕ) → length (upto n) ≡ n
length-upto zero = refl
length-upto (suc n) = ap suc (length-map (upto n) suc ∙ length-upto n)

-- a member of a list that a function made
pub get_d_map : {A B : Type 0} (f : A → B) (xs : List A) (p : ℕ) (a : A) (b : B) → p < length xs → get_or (map f xs) p b ≡ f (get_or xs p a)
get_d_map f [] p a b h = absurd (not-suc-le-zero h)
get_d_map f (x ∷ xs) zero a b h = refl
get_d_map f (x ∷ xs) (suc p) a b h = get_d_map f xs p a b (le_of_suc-le-suc h)

pub upto-at : (n p : ℕ) → p < n → get_or (upto n) p 0 ≡ p
upto-at zero p h = absurd (not-suc-le-zero h)
upto-at (suc n) zero h = refl
upto-at (suc n) (suc p) h = get_d_map suc (upto n) p 0 0 (subst (λ k. p < k) (sym (length-upto n)) (le_of_suc-le-suc h)) ∙ ap suc (upto-at n p (le_of_suc-le-suc h))

below-map : (n : ℕ) (xs : List ℕ) → ((i : ℕ) → Memᴰ i xs → i < n) → (j : ℕ) → Memᴰ j (map suc xs) → j < suc n
below-map n [] h j m = absurd (Memᴰ.not-nil m)
below-map n (x ∷ xs) h j m = by-case (below-map n xs (λ i k. h i (Memᴰ.tail k))) (Memᴰ.cases_cons m)
  where
    by-case : ((j : ℕ) → Memᴰ j (map suc xs) → j < suc n) → (j ≡ suc x) ⊎ Memᴰ j (map suc xs) → j < suc n
    by-case rest (inl e) = let l : x < n = h x (Memᴰ.head refl) in omega arith
    by-case rest (inr k) = rest j k

-- the numbers below n are the members of `upto n`
pub below-upto : (n i : ℕ) → i < n → Memᴰ i (upto n)
below-upto zero i h = absurd (not-suc-le-zero h)
below-upto (suc n) zero h = Memᴰ.head refl
below-upto (suc n) (suc i) h = Memᴰ.tail (Memᴰ.map suc (below-upto n i (le_of_suc-le-suc h)))

pub upto-below : (n i : ℕ) → Memᴰ i (upto n) → i < n
upto-below zero i m = absurd (Memᴰ.not-nil m)
upto-below (suc n) i m = by-case (upto-below n) (Memᴰ.cases_cons m)
  where
    by-case : ((j : ℕ) → Memᴰ j (upto n) → j < n) → (i ≡ 0) ⊎ Memᴰ i (map suc (upto n)) → i < suc n
    by-case rest (inl e) = omega arith
    by-case rest (inr k) = below-map n (upto n) rest i k

pub sum-upto-suc : (f : ℕ → ℤ) (n : ℕ) → sum f (upto (suc n)) ≡ f 0 +ℤ sum (λ i. f (suc i)) (upto n)
sum-upto-suc f n = ap (λ s. f 0 +ℤ s) (sum-map f suc (upto n))

pub sum-upto-snoc : (f : ℕ → ℤ) (n : ℕ) → sum f (upto (suc n)) ≡ sum f (upto n) +ℤ f n
sum-upto-snoc f n = ap (sum f) (upto_snoc n) ∙ sum-append f (upto n) (n ∷ []) ∙ ap (λ s. sum f (upto n) +ℤ s) (+ℤ_idr (f n))

-- equal at each number below n
pub sum-upto-cong : {f g : ℕ → ℤ} (n : ℕ) → ((i : ℕ) → i < n → f i ≡ g i) → sum f (upto n) ≡ sum g (upto n)
sum-upto-cong n h = sum-cong-in (upto n) (λ i m. h i (upto-below n i m))
