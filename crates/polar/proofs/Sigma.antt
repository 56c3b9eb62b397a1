-- σ is symmetric and linear in each point: lowering in two coordinates commutes, and lowering goes under a sum.
use Prim.Native.Nat.{ℕ, zero, suc, ◌<◌}
use native.Mathlib.Nat.{le_of_suc-le-suc, not-suc-le-zero}
use mathlib.Core.Path.{◌≡◌, refl, sym, ap, ◌∙◌, fun_ext}
use mathlib.Core.List.{List, [], ◌∷◌, ◌++◌, map, map-map}
use lib.IntN.{ℤ, pos, neg_ℤ, ◌+ℤ◌, ◌*ℤ◌, *ℤ-zero}
use lib.ListN.{get_or}
use Rattle.integers.specs.Sum.{sum, upto}
use Rattle.integers.proofs.Sums.{sum-cong, sum-upto-cong, sum-swap, sum-*l, sum-*r, sum-neg, sum-zero}
use Rattle.integers.proofs.Ring.{ring, ring-rules}
use Rattle.polar.specs.Sigma.{Point, Exponents, lowered, σ}

pub lowered-zero : (c : ℕ) (e : Exponents) → lowered c (λ x. pos 0) e ≡ pos 0
lowered-zero c [] = refl
lowered-zero zero (zero ∷ e) = refl
lowered-zero zero (suc n ∷ e) = refl
lowered-zero (suc c) (n ∷ e) = lowered-zero c e

lowered-comm : (c d : ℕ) (f : Exponents → ℤ) (e : Exponents) → lowered c (lowered d f) e ≡ lowered d (lowered c f) e
lowered-comm c d f [] = refl
lowered-comm zero zero f (n ∷ e) = refl
lowered-comm zero (suc d) f (zero ∷ e) = sym (lowered-zero d e)
lowered-comm zero (suc d) f (suc n ∷ e) = refl
lowered-comm (suc c) zero f (zero ∷ e) = lowered-zero c e
lowered-comm (suc c) zero f (suc n ∷ e) = refl
lowered-comm (suc c) (suc d) f (n ∷ e) = lowered-comm c d (λ r. f (n ∷ r)) e

lowered-sum : {A : Type 0} (c : ℕ) (k : A → ℤ) (g : A → Exponents → ℤ) (xs : List A) (e : Exponents)
    → lowered c (λ r. sum (λ x. k x *ℤ g x r) xs) e ≡ sum (λ x. k x *ℤ lowered c (g x) e) xs
lowered-sum c k g xs [] = refl
lowered-sum zero k g xs (zero ∷ e) = sym (sum-cong (λ x. *ℤ-zero (k x)) xs ∙ sum-zero xs)
lowered-sum zero k g xs (suc n ∷ e) = refl
lowered-sum (suc c) k g xs (n ∷ e) = lowered-sum c k (λ x r. g x (n ∷ r)) xs e

-- the coordinates of a point
abbrev at : Point → ℕ → ℤ
at p c = get_or p c (pos 0)

σ-swap : (d : ℕ) (p q : Point) (ps : List Point) (e : Exponents) → σ d (p ∷ (q ∷ ps)) e ≡ σ d (q ∷ (p ∷ ps)) e
unfolding σ
σ-swap d p q ps e =
    sum-cong (λ c. apart p q c) (upto d)
    ∙ sum-swap (λ c b. at p c *ℤ (at q b *ℤ lowered c (lowered b (σ d ps)) e)) (upto d) (upto d)
    ∙ sum-cong (λ b. sum-cong (λ c. turn b c) (upto d) ∙ sym (apart q p b)) (upto d)
  where
    apart : (p q : Point) (c : ℕ) → at p c *ℤ lowered c (λ r. sum (λ b. at q b *ℤ lowered b (σ d ps) r) (upto d)) e ≡ sum (λ b. at p c *ℤ (at q b *ℤ lowered c (lowered b (σ d ps)) e)) (upto d)
    apart p q c =
        ap (λ z. at p c *ℤ z) (lowered-sum c (at q) (λ b. lowered b (σ d ps)) (upto d) e)
        ∙ sym (sum-*l (at p c) (λ b. at q b *ℤ lowered c (lowered b (σ d ps)) e) (upto d))

    turn : (b c : ℕ) → at p c *ℤ (at q b *ℤ lowered c (lowered b (σ d ps)) e) ≡ at q b *ℤ (at p c *ℤ lowered b (lowered c (σ d ps)) e)
    turn b c =
        ap (λ z. at p c *ℤ (at q b *ℤ z)) (lowered-comm c b (σ d ps) e)
        ∙ ring (at p c ∷ at q b ∷ lowered b (lowered c (σ d ps)) e ∷ []) (search ring-rules depth 60) tt

-- a point may be moved to the front
pub σ-front : (d : ℕ) (xs : List Point) (p : Point) (ys : List Point) (e : Exponents) → σ d (xs ++ (p ∷ ys)) e ≡ σ d (p ∷ (xs ++ ys)) e
unfolding σ
σ-front d [] p ys e = refl
σ-front d (x ∷ xs) p ys e =
    ap (λ f. sum (λ c. at x c *ℤ lowered c f e) (upto d)) (fun_ext (σ-front d xs p ys))
    ∙ σ-swap d x p (xs ++ ys) e

-- a list made by a function, read at a number below its length
pub at-upto : (d : ℕ) (g : ℕ → ℤ) (c : ℕ) → c < d → get_or (map g (upto d)) c (pos 0) ≡ g c
at-upto zero g c h = absurd (not-suc-le-zero h)
at-upto (suc d) g zero h = refl
at-upto (suc d) g (suc c) h = ap (λ l. get_or l c (pos 0)) (map-map g suc (upto d)) ∙ at-upto d (λ i. g (suc i)) c (le_of_suc-le-suc h)

-- σ is linear in the first point: the combination of points gives the combination of the values
pub σ-linear : (d : ℕ) (k : ℕ → ℤ) (fr : ℕ → Point) (ps : List Point) (e : Exponents)
    → σ d (map (λ c. sum (λ v. k v *ℤ at (fr v) c) (upto d)) (upto d) ∷ ps) e ≡ sum (λ v. k v *ℤ σ d (fr v ∷ ps) e) (upto d)
unfolding σ
σ-linear d k fr ps e =
    sum-upto-cong d
    (λ c h.
    ap (λ z. z *ℤ lowered c (σ d ps) e) (at-upto d (λ b. sum (λ v. k v *ℤ at (fr v) b) (upto d)) c h)
    ∙ sym (sum-*r (lowered c (σ d ps) e) (λ v. k v *ℤ at (fr v) c) (upto d)))
    ∙ sum-swap (λ c v. k v *ℤ at (fr v) c *ℤ lowered c (σ d ps) e) (upto d) (upto d)
    ∙ sum-cong
    (λ v.
    sum-cong (λ c. ring (k v ∷ at (fr v) c ∷ lowered c (σ d ps) e ∷ []) (search ring-rules depth 60) tt) (upto d)
    ∙ sum-*l (k v) (λ c. at (fr v) c *ℤ lowered c (σ d ps) e) (upto d))
    (upto d)

pub at-neg : (p : Point) (c : ℕ) → at (map neg_ℤ p) c ≡ neg_ℤ (at p c)
at-neg [] c = refl
at-neg (x ∷ p) zero = refl
at-neg (x ∷ p) (suc c) = at-neg p c

-- the negated point gives the negated value
pub σ-negated : (d : ℕ) (p : Point) (ps : List Point) (e : Exponents) → σ d (map neg_ℤ p ∷ ps) e ≡ neg_ℤ (σ d (p ∷ ps) e)
unfolding σ
σ-negated d p ps e =
    sum-cong
    (λ c. ap (λ z. z *ℤ lowered c (σ d ps) e) (at-neg p c) ∙ ring (at p c ∷ lowered c (σ d ps) e ∷ []) (search ring-rules depth 60) tt)
    (upto d)
    ∙ sum-neg (λ c. at p c *ℤ lowered c (σ d ps) e) (upto d)

-- the two rules as they are printed
curve-rule : (t z : ℤ) (ps : List Point) (k : ℕ) → σ 2 ((t ∷ z ∷ []) ∷ ps) (suc k ∷ []) ≡ z *ℤ σ 2 ps (suc k ∷ []) +ℤ t *ℤ σ 2 ps (k ∷ [])
unfolding σ
curve-rule t z ps k = ring (t ∷ z ∷ σ 2 ps (suc k ∷ []) ∷ σ 2 ps (k ∷ []) ∷ []) (search ring-rules depth 60) tt

patch-rule : (u v z : ℤ) (ps : List Point) (h l : ℕ)
    → σ 3 ((u ∷ v ∷ z ∷ []) ∷ ps) (suc h ∷ suc l ∷ [])
    ≡ z *ℤ σ 3 ps (suc h ∷ suc l ∷ []) +ℤ u *ℤ σ 3 ps (h ∷ suc l ∷ []) +ℤ v *ℤ σ 3 ps (suc h ∷ l ∷ [])
unfolding σ
patch-rule u v z ps h l =
    ring (u ∷ v ∷ z ∷ σ 3 ps (suc h ∷ suc l ∷ []) ∷ σ 3 ps (h ∷ suc l ∷ []) ∷ σ 3 ps (suc h ∷ l ∷ []) ∷ []) (search ring-rules depth 60) tt
