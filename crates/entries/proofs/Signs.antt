-- Numbers with their sign changed k times. Each law goes by whether k is odd.
use Prim.Native.Nat.{ℕ, suc}
use mathlib.Core.Path.{◌≡◌, refl, sym}
use mathlib.Core.Bool.{Bool, true, false, not, cond}
use mathlib.Core.List.{List}
use lib.IntN.{ℤ, neg_ℤ, neg_ℤ-neg_ℤ}
use Rattle.integers.specs.Sum.{sum}
use Rattle.integers.proofs.Sums.{sum-neg}
use Rattle.entries.specs.Entries.{odd, signed}

pub signed-suc : (k : ℕ) (x : ℤ) → neg_ℤ (signed k x) ≡ signed (suc k) x
signed-suc k x = by (odd k)
  where
    by : (b : Bool) → neg_ℤ (cond b (neg_ℤ x) x) ≡ cond (not b) (neg_ℤ x) x
    by true = neg_ℤ-neg_ℤ x
    by false = refl

pub signed-twice : (k : ℕ) (x : ℤ) → signed k (signed k x) ≡ x
signed-twice k x = by (odd k)
  where
    by : (b : Bool) → cond b (neg_ℤ (cond b (neg_ℤ x) x)) (cond b (neg_ℤ x) x) ≡ x
    by true = neg_ℤ-neg_ℤ x
    by false = refl

-- what keeps a negation keeps the sign, and what does not see a negation does not see it
pub signed-kept : (g : ℤ → ℤ) → ((x : ℤ) → g (neg_ℤ x) ≡ neg_ℤ (g x)) → (k : ℕ) (x : ℤ) → g (signed k x) ≡ signed k (g x)
signed-kept g kept k x = by (odd k)
  where
    by : (b : Bool) → g (cond b (neg_ℤ x) x) ≡ cond b (neg_ℤ (g x)) (g x)
    by true = kept x
    by false = refl

pub signed-unseen : {A : Type 0} (g : ℤ → A) → ((x : ℤ) → g (neg_ℤ x) ≡ g x) → (k : ℕ) (x : ℤ) → g (signed k x) ≡ g x
signed-unseen g unseen k x = by (odd k)
  where
    by : (b : Bool) → g (cond b (neg_ℤ x) x) ≡ g x
    by true = unseen x
    by false = refl

pub signed-neg : (k : ℕ) (x : ℤ) → signed k (neg_ℤ x) ≡ neg_ℤ (signed k x)
signed-neg k x = sym (signed-kept neg_ℤ (λ y. refl) k x)

pub signed-swap : (j k : ℕ) (x : ℤ) → signed j (signed k x) ≡ signed k (signed j x)
signed-swap j k x = signed-kept (signed j) (signed-neg j) k x

pub signed-sum : (k : ℕ) (g : ℕ → ℤ) (xs : List ℕ) → sum (λ x. signed k (g x)) xs ≡ signed k (sum g xs)
signed-sum k g xs = by (odd k)
  where
    by : (b : Bool) → sum (λ x. cond b (neg_ℤ (g x)) (g x)) xs ≡ cond b (neg_ℤ (sum g xs)) (sum g xs)
    by true = sum-neg g xs
    by false = refl
