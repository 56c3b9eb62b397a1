-- Places in numbers: with two vertices the entry with j copies of the second stands at j, and with three the entry with i copies of the second and third together,
-- k of the third, at i(i+1)/2 + k.
use Prim.Native.Nat.{ℕ, zero, suc, ◌+◌, ◌*◌, ◌≤◌, suc-le-suc}
use native.Mathlib.Nat.{le_refl, add-zero, mul-le-mul_left}
use native.Mathlib.Numerals.{add-one}
use native.Mathlib.Omega.{arith}
use native.Mathlib.Decide.{dec_le}
use mathlib.Core.Path.{◌≡◌, sym, ap, ap₂, ◌∙◌, subst}
use mathlib.Core.List.{List, [], ◌∷◌}
use lib.ListN.{length}
use Rattle.polar.specs.Order.{counts}
use Rattle.entries.specs.Rows.{size, offset, rank}
use Rattle.entries.proofs.Places.{offset-snoc, length-counts}
use Rattle.entries.proofs.Lengths.{offset-zero, length-one, tri-suc}

-- ---- fewer entries at a lower degree

pub offset-mono : (f : ℕ → List (List ℕ)) (a b : ℕ) → a ≤ b → offset f a ≤ offset f b
offset-mono f a zero h = subst (λ x. offset f x ≤ 0) (sym (zero-only h)) (le_refl 0)
  where
    zero-only : a ≤ 0 → a ≡ 0
    zero-only k = omega arith
offset-mono f a (suc b) h = by (dec_le a b) (offset-mono f a b)
  where
    by : Dec (a ≤ b) → (a ≤ b → offset f a ≤ offset f b) → offset f a ≤ offset f (suc b)
    by (yes p) rest = let r = rest p in omega (arith, offset-snoc f b)
    by (no p) rest = let e : a ≡ suc b = omega arith in subst (λ x. offset f x ≤ offset f (suc b)) (sym e) (le_refl (offset f (suc b)))

pub size_mono : (w n a b : ℕ) → a ≤ b → size w n a ≤ size w n b
unfolding counts
size_mono w zero a b h = le_refl (w * 1)
size_mono w (suc n) a b h =
    let m = offset-mono (counts n) (suc a) (suc b) (suc-le-suc h) in
    mul-le-mul_left w (omega (arith, m, length-counts n a, length-counts n b))

-- ---- rows of a patch

pub tri-most : (n : ℕ) → n ≤ offset (counts 1) n
tri-most zero = le_refl 0
tri-most (suc n) = let rest = tri-most n in omega (arith, rest, tri-suc n)

-- ---- ranks

pub rank-curve : (i j : ℕ) → rank 1 (i ∷ j ∷ []) ≡ j
rank-curve i j = add-zero (offset (counts 0) (j + 0)) ∙ offset-zero (j + 0) ∙ add-zero j

pub rank-patch : (i j k : ℕ) → rank 2 (i ∷ j ∷ k ∷ []) ≡ offset (counts 1) (j + k) + k
rank-patch i j k = ap₂ ◌+◌ (ap (offset (counts 1)) (ap (λ x. j + x) (add-zero k))) (rank-curve j k)

-- ---- how many numbers a group has

pub size-curve : (w m : ℕ) → size w 1 m ≡ w * (m + 1)
size-curve w m = ap (λ x. w * x) (length-one m ∙ sym (add-one m))

pub size-patch : (w m : ℕ) → size w 2 m ≡ w * offset (counts 1) (m + 1)
size-patch w m = ap (λ x. w * x) (length-counts 1 m ∙ ap (offset (counts 1)) (sym (add-one m)))

-- ---- counts of two and of three vertices

-- what holds of two counts holds of every list of length 2
pub by_two : (P : List ℕ → Type 0) → ((i j : ℕ) → P (i ∷ j ∷ [])) → (e : List ℕ) → length e ≡ 2 → P e
by_two P p [] l = absurd (native.Mathlib.Nat.suc-ne-zero _ (sym l))
by_two P p (i ∷ []) l = absurd (wrong l)
  where
    wrong : ◌≡◌ {A = ℕ} 1 2 → ⊥
    wrong w = omega arith
by_two P p (i ∷ j ∷ []) l = p i j
by_two P p (i ∷ j ∷ k ∷ e) l = absurd (wrong l)
  where
    wrong : suc (suc (suc (length e))) ≡ 2 → ⊥
    wrong w = omega arith

pub by_three : (P : List ℕ → Type 0) → ((i j k : ℕ) → P (i ∷ j ∷ k ∷ [])) → (e : List ℕ) → length e ≡ 3 → P e
by_three P p [] l = absurd (native.Mathlib.Nat.suc-ne-zero _ (sym l))
by_three P p (i ∷ e) l = by_two (λ r. P (i ∷ r)) (p i) e (pred-is l)
  where
    pred-is : suc (length e) ≡ 3 → length e ≡ 2
    pred-is h = omega arith
