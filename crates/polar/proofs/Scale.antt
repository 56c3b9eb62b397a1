-- The scale: every multinomial divides it, it is positive, and no smaller positive number has them all as divisors.
-- The search meets the product of the numbers at the latest, so it ends at a common multiple, and it passes over none.
use Prim.Native.Nat.{ℕ, zero, suc, ◌+◌, ◌*◌, ◌%◌, ◌∣◌, ◌≤◌, ◌<◌}
use native.Mathlib.Nat.{mul-pos, le_refl, le_trans, le-suc, dvd_of_mod-eq-zero, mod-eq-zero_of_dvd, dvd-mul_right, dvd-mul_left_of_dvd}
use native.Mathlib.Decide.{dec_le}
use native.Mathlib.Omega.{arith}
use mathlib.Core.Path.{◌≡◌, refl, sym, ap, ◌∙◌, subst}
use mathlib.Core.Logic.{◌⊎◌, inl, inr}
use mathlib.Core.Bool.{Bool, true, false}
use mathlib.Core.List.Memᴰ
use mathlib.Core.List.{List, [], ◌∷◌, map, Memᴰ}
use lib.Dec.{eqb, lit≤}
use borrow.Author.Tests.{eqb-true, eq-eqb}
use Rattle.integers.proofs.All.{clash, and-true, and_parts}
use Rattle.polar.specs.Order.{monomials}
use Rattle.polar.specs.Scale.{multinomial, all_divide, first, product, least_common_multiple, scale}
use Rattle.polar.proofs.Order.{monomials-total}
use Rattle.polar.proofs.Diagonal.{multinomial-pos}

-- ---- the search

-- what is found, by what the test says at the first place
step : (P : ℕ → Type 0) (b : Bool) (k r : ℕ) → (b ≡ true → P k) → (b ≡ false → P r) → P (elim b [ true ↦ k | false ↦ r ])
step P true k r yes-case no-case = yes-case refl
step P false k r yes-case no-case = no-case refl

at-or-past : {k j : ℕ} → k ≤ j → (k ≡ j) ⊎ (suc k ≤ j)
at-or-past {k} {j} h = by (dec_le (suc k) j)
  where
    by : Dec (suc k ≤ j) → (k ≡ j) ⊎ (suc k ≤ j)
    by (yes p) = inr p
    by (no p) = inl (omega arith)

-- if the test passes at one of the places looked at, it passes at the place found
first_passes : (test : ℕ → Bool) (n k j : ℕ) → k ≤ j → j ≤ k + n → test j ≡ true → test (first test n k) ≡ true
first_passes test zero k j a b h = ap test same ∙ h
  where
    same : k ≡ j
    same = omega arith
first_passes test (suc n) k j a b h =
    step (λ f. test f ≡ true) (test k) k (first test n (suc k)) (λ e. e)
    (λ e. by e (λ p. first_passes test n (suc k) j p (omega arith) h) (at-or-past a))
  where
    by : test k ≡ false → (suc k ≤ j → test (first test n (suc k)) ≡ true) → (k ≡ j) ⊎ (suc k ≤ j) → test (first test n (suc k)) ≡ true
    by e rest (inl p) = absurd (clash (ap test p ∙ h) e)
    by e rest (inr p) = rest p

-- every place passed over fails the test
first-skips : (test : ℕ → Bool) (n k j : ℕ) → k ≤ j → j < first test n k → test j ≡ false
first-skips test zero k j a b = absurd (between a b)
  where
    between : k ≤ j → j < k → ⊥
    between x y = omega arith
first-skips test (suc n) k j a b =
    step (λ f. j < f → test j ≡ false) (test k) k (first test n (suc k)) (λ e l. absurd (between l))
    (λ e l. by e (λ p. first-skips test n (suc k) j p l) (at-or-past a)) b
  where
    between : j < k → ⊥
    between y = omega arith

    by : test k ≡ false → (suc k ≤ j → test j ≡ false) → (k ≡ j) ⊎ (suc k ≤ j) → test j ≡ false
    by e rest (inl p) = ap test (sym p) ∙ e
    by e rest (inr p) = rest p

-- nothing below the start is found
first-from : (test : ℕ → Bool) (n k : ℕ) → k ≤ first test n k
first-from test zero k = le_refl k
first-from test (suc n) k =
    step (λ j. k ≤ j) (test k) k (first test n (suc k)) (λ e. le_refl k) (λ e. le_trans (le-suc k) (first-from test n (suc k)))

-- ---- common multiples

all-divide : (ns : List ℕ) (k : ℕ) → ((n : ℕ) → Memᴰ n ns → n ∣ k) → all_divide ns k ≡ true
all-divide [] k h = refl
all-divide (n ∷ ns) k h =
    and-true (eq-eqb (k % n) 0 (mod-eq-zero_of_dvd n (h n (Memᴰ.head refl))))
    (all-divide ns k (λ i m. h i (Memᴰ.tail m)))

divide-each : (ns : List ℕ) (k : ℕ) → all_divide ns k ≡ true → (n : ℕ) → Memᴰ n ns → n ∣ k
divide-each [] k e n m = absurd (Memᴰ.not-nil m)
divide-each (x ∷ ns) k e n m =
    let both = and_parts (eqb (k % x) 0) (all_divide ns k) e in
    by-case both.0 (divide-each ns k both.1 n) (Memᴰ.cases_cons m)
  where
    by-case : eqb (k % x) 0 ≡ true → (Memᴰ n ns → n ∣ k) → (n ≡ x) ⊎ Memᴰ n ns → n ∣ k
    by-case p rest (inl r) = subst (λ i. i ∣ k) (sym r) (dvd_of_mod-eq-zero x (eqb-true (k % x) 0 p))
    by-case p rest (inr r) = rest r

divides-product : (ns : List ℕ) (n : ℕ) → Memᴰ n ns → n ∣ product ns
divides-product [] n m = absurd (Memᴰ.not-nil m)
divides-product (x ∷ ns) n m = by-case (divides-product ns n) (Memᴰ.cases_cons m)
  where
    by-case : (Memᴰ n ns → n ∣ product ns) → (n ≡ x) ⊎ Memᴰ n ns → n ∣ x * product ns
    by-case rest (inl r) = subst (λ i. i ∣ x * product ns) (sym r) (dvd-mul_right x (product ns))
    by-case rest (inr r) = dvd-mul_left_of_dvd n (rest r) x

product-pos : (ns : List ℕ) → ((n : ℕ) → Memᴰ n ns → 0 < n) → 0 < product ns
product-pos [] h = lit≤ tt
product-pos (n ∷ ns) h = mul-pos (h n (Memᴰ.head refl)) (product-pos ns (λ i m. h i (Memᴰ.tail m)))

-- ---- the least common multiple of positive numbers

module _ (ns : List ℕ) (positive : (n : ℕ) → Memᴰ n ns → 0 < n) where
  pub lcm-pos : 0 < least_common_multiple ns
  unfolding least_common_multiple
  lcm-pos = first-from (all_divide ns) (product ns) 1

  -- each of the numbers divides it
  pub lcm-divided : (n : ℕ) → Memᴰ n ns → n ∣ least_common_multiple ns
  unfolding least_common_multiple
  lcm-divided =
      divide-each ns (least_common_multiple ns)
      (first_passes (all_divide ns) (product ns) 1 (product ns) (product-pos ns positive) (omega arith) (all-divide ns (product ns) (divides-product ns)))

  -- and no smaller positive number is a multiple of them all
  pub lcm-least : (k : ℕ) → 0 < k → ((n : ℕ) → Memᴰ n ns → n ∣ k) → least_common_multiple ns ≤ k
  unfolding least_common_multiple
  lcm-least k h all = by (dec_le (least_common_multiple ns) k)
    where
      by : Dec (least_common_multiple ns ≤ k) → least_common_multiple ns ≤ k
      by (yes p) = p
      by (no p) = absurd (clash (all-divide ns k all) (first-skips (all_divide ns) (product ns) 1 k h (omega arith)))

-- ---- the scale

module _ (n m : ℕ) where
  multinomials-pos : (k : ℕ) → Memᴰ k (map (multinomial m) (monomials n m)) → 0 < k
  multinomials-pos k h =
      let r = Memᴰ.of_map (multinomial m) (monomials n m) h in
      let t = monomials-total n m r.0 r.1 in
      subst (λ i. 0 < i) r.2 (multinomial-pos n m r.0 t.0 t.1)

  pub scale-pos : 0 < scale n m
  unfolding scale
  scale-pos = lcm-pos (map (multinomial m) (monomials n m)) multinomials-pos

  -- every multinomial divides the scale
  pub multinomial-divides : (e : List ℕ) → Memᴰ e (monomials n m) → multinomial m e ∣ scale n m
  unfolding scale
  multinomial-divides e h = lcm-divided (map (multinomial m) (monomials n m)) multinomials-pos (multinomial m e) (Memᴰ.map (multinomial m) h)

  -- and no smaller positive number is a multiple of them all
  pub scale-least : (k : ℕ) → 0 < k → ((e : List ℕ) → Memᴰ e (monomials n m) → multinomial m e ∣ k) → scale n m ≤ k
  unfolding scale
  scale-least k h all =
      lcm-least (map (multinomial m) (monomials n m)) multinomials-pos k h
      (λ i p. let r = Memᴰ.of_map (multinomial m) (monomials n m) p in subst (λ j. j ∣ k) r.2 (all r.0 r.1))
