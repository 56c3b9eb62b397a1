-- The laws of ℤ that `lib.IntN` lacks: the product is associative and distributive, negation passes through it, and the size `nat_abs` of sums and products.
-- Each law is proved at `pos n` by induction on n, and carried to the negative numbers by `*ℤ-negl`, since `negsuc n` is `neg_ℤ (pos (suc n))`.
use mathlib.Core.Path.{◌≡◌, refl, sym, ◌∙◌, ap, ap₂}
use mathlib.Core.Logic.{◌⊎◌, inl, inr}
use mathlib.Core.Bool.{Bool, true, false, not, cond}
use Prim.Native.Nat.{ℕ, zero, suc, ◌+◌, ◌*◌, ◌-◌, ◌≤◌, ◌<◌}
use native.Mathlib.Nat.{le_refl}
use native.Mathlib.Omega.{arith}
use lib.Dec.{T, ltb, ltb→lt, nltb→le}
use lib.IntN.{ℤ, pos, negsuc, neg_ℤ, nat_abs, sub_ℕ, ◌+ℤ◌, ◌-ℤ◌, ◌*ℤ◌, neg_ℤ-neg_ℤ, neg_ℤ-+ℤ, +ℤ_assoc, +ℤ_comm, +ℤ_idl, zero-*ℤ, suc_ℤ-*ℤ, *ℤ_comm}

-- ---- negation and the product

pub *ℤ-negl : (a b : ℤ) → neg_ℤ a *ℤ b ≡ neg_ℤ (a *ℤ b)
*ℤ-negl (pos zero) b = rw zero-*ℤ
*ℤ-negl (pos (suc m)) (pos n) = refl
*ℤ-negl (pos (suc m)) (negsuc n) = sym (neg_ℤ-neg_ℤ (pos (suc m * suc n)))
*ℤ-negl (negsuc m) (pos n) = sym (neg_ℤ-neg_ℤ (pos (suc m * n)))
*ℤ-negl (negsuc m) (negsuc n) = refl

pub *ℤ-negr : (a b : ℤ) → a *ℤ neg_ℤ b ≡ neg_ℤ (a *ℤ b)
*ℤ-negr a b = *ℤ_comm a (neg_ℤ b) ∙ *ℤ-negl b a ∙ ap neg_ℤ (*ℤ_comm b a)

pub one-*ℤ : (a : ℤ) → pos 1 *ℤ a ≡ a
one-*ℤ a = suc_ℤ-*ℤ (pos 0) a ∙ ap (λ x. x +ℤ a) (zero-*ℤ a) ∙ +ℤ_idl a

pub neg-is-times : (a : ℤ) → neg_ℤ a ≡ negsuc 0 *ℤ a
neg-is-times a = sym (*ℤ-negl (pos 1) a ∙ ap neg_ℤ (one-*ℤ a))

-- ---- the product is distributive and associative

-- the inner two of four summands change places
pub +ℤ-swap : (a b c d : ℤ) → (a +ℤ b) +ℤ (c +ℤ d) ≡ (a +ℤ c) +ℤ (b +ℤ d)
+ℤ-swap a b c d =
    +ℤ_assoc a b (c +ℤ d)
    ∙ ap (λ x. a +ℤ x) (sym (+ℤ_assoc b c d) ∙ ap (λ x. x +ℤ d) (+ℤ_comm b c) ∙ +ℤ_assoc c b d)
    ∙ sym (+ℤ_assoc a c (b +ℤ d))

distl-pos : (n : ℕ) (b c : ℤ) → pos n *ℤ (b +ℤ c) ≡ pos n *ℤ b +ℤ pos n *ℤ c
distl-pos zero b c = zero-*ℤ (b +ℤ c) ∙ sym (ap₂ ◌+ℤ◌ (zero-*ℤ b) (zero-*ℤ c))
distl-pos (suc n) b c =
    suc_ℤ-*ℤ (pos n) (b +ℤ c)
    ∙ ap (λ x. x +ℤ (b +ℤ c)) (distl-pos n b c)
    ∙ +ℤ-swap (pos n *ℤ b) (pos n *ℤ c) b c
    ∙ sym (ap₂ ◌+ℤ◌ (suc_ℤ-*ℤ (pos n) b) (suc_ℤ-*ℤ (pos n) c))

-- a law of the products by a, at `neg_ℤ a`
distl-neg : (a b c : ℤ) → a *ℤ (b +ℤ c) ≡ a *ℤ b +ℤ a *ℤ c → neg_ℤ a *ℤ (b +ℤ c) ≡ neg_ℤ a *ℤ b +ℤ neg_ℤ a *ℤ c
distl-neg a b c h =
    *ℤ-negl a (b +ℤ c) ∙ ap neg_ℤ h ∙ neg_ℤ-+ℤ (a *ℤ b) (a *ℤ c) ∙ sym (ap₂ ◌+ℤ◌ (*ℤ-negl a b) (*ℤ-negl a c))

pub *ℤ-distl : (a b c : ℤ) → a *ℤ (b +ℤ c) ≡ a *ℤ b +ℤ a *ℤ c
*ℤ-distl (pos n) b c = distl-pos n b c
*ℤ-distl (negsuc n) b c = distl-neg (pos (suc n)) b c (distl-pos (suc n) b c)

pub *ℤ-distr : (a b c : ℤ) → (a +ℤ b) *ℤ c ≡ a *ℤ c +ℤ b *ℤ c
*ℤ-distr a b c = *ℤ_comm (a +ℤ b) c ∙ *ℤ-distl c a b ∙ ap₂ ◌+ℤ◌ (*ℤ_comm c a) (*ℤ_comm c b)

assoc-pos : (n : ℕ) (b c : ℤ) → (pos n *ℤ b) *ℤ c ≡ pos n *ℤ (b *ℤ c)
assoc-pos zero b c = ap (λ x. x *ℤ c) (zero-*ℤ b) ∙ zero-*ℤ c ∙ sym (zero-*ℤ (b *ℤ c))
assoc-pos (suc n) b c =
    ap (λ x. x *ℤ c) (suc_ℤ-*ℤ (pos n) b)
    ∙ *ℤ-distr (pos n *ℤ b) b c
    ∙ ap (λ x. x +ℤ b *ℤ c) (assoc-pos n b c)
    ∙ sym (suc_ℤ-*ℤ (pos n) (b *ℤ c))

assoc-neg : (a b c : ℤ) → (a *ℤ b) *ℤ c ≡ a *ℤ (b *ℤ c) → (neg_ℤ a *ℤ b) *ℤ c ≡ neg_ℤ a *ℤ (b *ℤ c)
assoc-neg a b c h =
    ap (λ x. x *ℤ c) (*ℤ-negl a b) ∙ *ℤ-negl (a *ℤ b) c ∙ ap neg_ℤ h ∙ sym (*ℤ-negl a (b *ℤ c))

pub *ℤ-assoc : (a b c : ℤ) → (a *ℤ b) *ℤ c ≡ a *ℤ (b *ℤ c)
*ℤ-assoc (pos n) b c = assoc-pos n b c
*ℤ-assoc (negsuc n) b c = assoc-neg (pos (suc n)) b c (assoc-pos (suc n) b c)

-- ---- the size of negations, products and sums

pub nat_abs-neg : (a : ℤ) → nat_abs (neg_ℤ a) ≡ nat_abs a
nat_abs-neg (pos zero) = refl
nat_abs-neg (pos (suc n)) = refl
nat_abs-neg (negsuc n) = refl

pub nat_abs-* : (a b : ℤ) → nat_abs (a *ℤ b) ≡ nat_abs a * nat_abs b
nat_abs-* (pos m) (pos n) = refl
nat_abs-* (pos m) (negsuc n) = nat_abs-neg (pos (m * suc n))
nat_abs-* (negsuc m) (pos n) = nat_abs-neg (pos (suc m * n))
nat_abs-* (negsuc m) (negsuc n) = refl

-- by the test that `sub_ℕ` makes
nat_abs-cond : (c : Bool) (a b : ℕ) → (T c → a < b) → nat_abs (cond c (negsuc (b - suc a)) (pos (a - b))) ≤ a + b
nat_abs-cond true a b h = let k : a < b = h tt in omega arith
nat_abs-cond false a b h = omega arith

nat_abs-sub : (a b : ℕ) → nat_abs (sub_ℕ a b) ≤ a + b
nat_abs-sub a b = nat_abs-cond (ltb a b) a b (ltb→lt a b)

pub nat_abs-+ : (a b : ℤ) → nat_abs (a +ℤ b) ≤ nat_abs a + nat_abs b
nat_abs-+ (pos m) (pos n) = le_refl (m + n)
nat_abs-+ (pos m) (negsuc n) = nat_abs-sub m (suc n)
nat_abs-+ (negsuc m) (pos n) = let h : nat_abs (sub_ℕ n (suc m)) ≤ n + suc m = nat_abs-sub n (suc m) in omega arith
nat_abs-+ (negsuc m) (negsuc n) = omega arith

-- two natural numbers that differ by at most d
pub nat_abs-difference : (a b d : ℕ) → a ≤ b + d → b ≤ a + d → nat_abs (pos a -ℤ pos b) ≤ d
nat_abs-difference a zero d h k = let n : nat_abs (pos a -ℤ pos 0) ≤ a + 0 = nat_abs-+ (pos a) (pos 0) in omega arith
nat_abs-difference a (suc b) d h k = by (ltb a (suc b)) (ltb→lt a (suc b)) (nltb→le a (suc b))
  where
    by : (c : Bool) → (T c → a < suc b) → (T (not c) → suc b ≤ a) → nat_abs (cond c (negsuc (suc b - suc a)) (pos (a - suc b))) ≤ d
    by true less more = let l : a < suc b = less tt in omega arith
    by false less more = let m : suc b ≤ a = more tt in omega arith

pub nat_abs-zero : (a : ℤ) → nat_abs a ≡ 0 → a ≡ pos 0
nat_abs-zero (pos n) h = ap pos h
nat_abs-zero (negsuc n) h = absurd (omega arith)

-- ---- no zero divisors

zero-factor : (m n : ℕ) → m * n ≡ 0 → (m ≡ 0) ⊎ (n ≡ 0)
zero-factor zero n h = inl refl
zero-factor (suc m) zero h = inr refl
zero-factor (suc m) (suc n) h = absurd (omega arith)

pub *ℤ-zero-split : (a b : ℤ) → a *ℤ b ≡ pos 0 → (a ≡ pos 0) ⊎ (b ≡ pos 0)
*ℤ-zero-split a b h = carry (zero-factor (nat_abs a) (nat_abs b) (sym (nat_abs-* a b) ∙ ap nat_abs h))
  where
    carry : (nat_abs a ≡ 0) ⊎ (nat_abs b ≡ 0) → (a ≡ pos 0) ⊎ (b ≡ pos 0)
    carry (inl p) = inl (nat_abs-zero a p)
    carry (inr q) = inr (nat_abs-zero b q)
