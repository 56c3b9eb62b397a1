-- Laws of tests: two answers that cannot both be, the parts of a conjunction, and `all`, which passes exactly when the test passes at each member.
use Prim.Native.Nat.{ℕ, zero, suc, ◌<◌}
use native.Mathlib.Nat.{le_of_suc-le-suc, not-suc-le-zero}
use native.Mathlib.Omega.{arith}
use mathlib.Core.Path.{◌≡◌, refl, sym, ap, ap₂, ◌∙◌}
use mathlib.Core.Logic.{◌⊎◌, inl, inr}
use mathlib.Core.Bool.{Bool, true, false, ◌&&◌}
use mathlib.Core.List.Memᴰ
use mathlib.Core.List.{List, [], ◌∷◌, ◌++◌, map, Memᴰ}
use lib.IntN.{ℤ, pos}
use lib.ListN.{length, get_or, set, take}
use Rattle.std.specs.List.{list_all}
use Rattle.integers.specs.Test.{all}

pub clash : {b : Bool} → b ≡ true → b ≡ false → ⊥
clash p q = let z : ◌≡◌ {A = ℕ} 0 1 = cc in omega arith

pub and-true : {a b : Bool} → a ≡ true → b ≡ true → (a && b) ≡ true
and-true p q = ap₂ ◌&&◌ p q

pub and_parts : (a b : Bool) → (a && b) ≡ true → (a ≡ true) × (b ≡ true)
and_parts true b h = (refl, h)
and_parts false b h = absurd (clash h refl)

pub and_assoc : (a b c : Bool) → ((a && b) && c) ≡ (a && (b && c))
and_assoc true b c = refl
and_assoc false b c = refl

pub and_one : (b : Bool) → (b && true) ≡ b
and_one true = refl
and_one false = refl

pub and_none : (b : Bool) → (b && false) ≡ false
and_none true = refl
and_none false = refl

-- two answers that hold together are one
pub both_ways : (a b : Bool) → (a ≡ true → b ≡ true) → (b ≡ true → a ≡ true) → a ≡ b
both_ways true b h k = sym (h refl)
both_ways false true h k = k refl
both_ways false false h k = refl

module _ {A : Type 0} (test : A → Bool) where
  pub all-passes : (xs : List A) → ((x : A) → Memᴰ x xs → test x ≡ true) → all test xs ≡ true
  all-passes [] h = refl
  all-passes (x ∷ xs) h = and-true (h x (Memᴰ.head refl)) (all-passes xs (λ y m. h y (Memᴰ.tail m)))

  pub all-at : (xs : List A) → all test xs ≡ true → (x : A) → Memᴰ x xs → test x ≡ true
  all-at [] h x m = absurd (Memᴰ.not-nil m)
  all-at (y ∷ xs) h x m =
      let both = and_parts (test y) (all test xs) h in
      by both.0 (all-at xs both.1 x) (Memᴰ.cases_cons m)
    where
      by : test y ≡ true → (Memᴰ x xs → test x ≡ true) → (x ≡ y) ⊎ Memᴰ x xs → test x ≡ true
      by p rest (inl e) = ap test e ∙ p
      by p rest (inr k) = rest k

  -- where not all pass, there is one that fails
  pub all-fails : (xs : List A) → all test xs ≡ false → (x : A) × Memᴰ x xs × (test x ≡ false)
  all-fails [] h = absurd (clash refl h)
  all-fails (x ∷ xs) h = by (test x) refl (all-fails xs)
    where
      by : (b : Bool) → test x ≡ b → (all test xs ≡ false → (y : A) × Memᴰ y xs × (test y ≡ false)) → (y : A) × Memᴰ y (x ∷ xs) × (test y ≡ false)
      by true p rest = let r = rest (sym (ap (λ b. b && all test xs) p) ∙ h) in (r.0, Memᴰ.tail r.1, r.2)
      by false p rest = (x, Memᴰ.head refl, p)

  pub all_append : (xs ys : List A) → all test (xs ++ ys) ≡ (all test xs && all test ys)
  all_append [] ys = refl
  all_append (x ∷ xs) ys = ap (λ b. test x && b) (all_append xs ys) ∙ sym (and_assoc (test x) (all test xs) (all test ys))

  -- a member, or what stands for it where there is none
  pub all_get_d : (xs : List A) (i : ℕ) (d : A) → all test xs ≡ true → test d ≡ true → test (get_or xs i d) ≡ true
  all_get_d [] i d h k = k
  all_get_d (x ∷ xs) zero d h k = (and_parts (test x) (all test xs) h).0
  all_get_d (x ∷ xs) (suc i) d h k = all_get_d xs i d (and_parts (test x) (all test xs) h).1 k

  -- with another member
  pub all_set : (xs : List A) (i : ℕ) (y : A) → all test xs ≡ true → test y ≡ true → all test (set xs i y) ≡ true
  all_set [] i y h k = refl
  all_set (x ∷ xs) zero y h k = and-true k (and_parts (test x) (all test xs) h).1
  all_set (x ∷ xs) (suc i) y h k = let both = and_parts (test x) (all test xs) h in and-true both.0 (all_set xs i y both.1 k)

pub all-cong : {A : Type 0} (f g : A → Bool) (xs : List A) → ((x : A) → Memᴰ x xs → f x ≡ g x) → all f xs ≡ all g xs
all-cong f g [] h = refl
all-cong f g (x ∷ xs) h = ap₂ ◌&&◌ (h x (Memᴰ.head refl)) (all-cong f g xs (λ y m. h y (Memᴰ.tail m)))

pub all_map : {A B : Type 0} (test : B → Bool) (f : A → B) (xs : List A) → all test (map f xs) ≡ all (λ x. test (f x)) xs
all_map test f [] = refl
all_map test f (x ∷ xs) = ap (λ b. test (f x) && b) (all_map test f xs)

-- std's word for `all`
pub list_all-is : {A : Type 0} (test : A → Bool) (xs : List A) → list_all test xs ≡ all test xs
list_all-is test [] = refl
list_all-is test (x ∷ xs) = ap (λ b. test x && b) (list_all-is test xs)

-- each of the first n passes where all do
pub all_first : (test : ℤ → Bool) (n : ℕ) (xs : List ℤ) → all test (take n xs) ≡ true → (i : ℕ) → i < n → i < length xs → test (get_or xs i (pos 0)) ≡ true
all_first test zero xs h i b l = absurd (not-suc-le-zero b)
all_first test (suc n) [] h i b l = absurd (not-suc-le-zero l)
all_first test (suc n) (x ∷ xs) h zero b l = (and_parts (test x) (all test (take n xs)) h).0
all_first test (suc n) (x ∷ xs) h (suc i) b l = all_first test n xs (and_parts (test x) (all test (take n xs)) h).1 i (le_of_suc-le-suc b) (le_of_suc-le-suc l)

-- where a member fails, not all pass
pub one-fails : {A : Type 0} (test : A → Bool) (xs : List A) (x : A) → Memᴰ x xs → test x ≡ false → all test xs ≡ false
one-fails test xs x m e = by (all test xs) refl
  where
    by : (b : Bool) → all test xs ≡ b → all test xs ≡ false
    by true p = absurd (clash (all-at test xs p x m) e)
    by false p = p
