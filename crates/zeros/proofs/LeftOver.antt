-- Near a point q where a form's first values are 0: the values at q + uo are u^d times what is left over, and
-- what is left over at q itself is a positive multiple of the value of m - d points q and d points o. A power
-- of u is taken out in one way only.
use Prim.Native.Nat.{ℕ, zero, suc, ◌+◌, ◌-◌, ◌*◌, ◌<◌, ◌≤◌}
use native.Mathlib.Nat as NatL
use native.Mathlib.Omega.{arith}
use mathlib.Core.Path.{◌≡◌, refl, sym, ap, ap₂, ◌∙◌}
use mathlib.Core.List.{List, [], ◌∷◌, ◌++◌}
use lib.IntN.{ℤ, pos, nat_abs, ◌+ℤ◌, ◌-ℤ◌, ◌*ℤ◌, zero-*ℤ, *ℤ-zero}
use lib.ListN.{replicate}
use Rattle.integers.proofs.Laws.{one-*ℤ, nat_abs-*, nat_abs-zero}
use Rattle.integers.proofs.Ring.{ring, ring-rules, difference-zero, cancelled, product-nonzero}
use Rattle.polar.specs.Sigma.{Point}
use Rattle.polar.specs.Polar.{power}
use Rattle.entries.specs.Entries.{fixed}
use Rattle.entries.specs.Frame.{entry_points, combination}
use Rattle.entries.specs.Form.{Form}
use Rattle.entries.proofs.Form.{fixes}

-- ---- what is left over

-- The polynomial in l and u that is left of the values at lq + uo when u^k is taken out, where the values
-- with fewer than k more copies of o are 0. f are the values over q and o; h points are still to be taken, a
-- copies of q and b of o are.
abbrev pub left_over : ℤ → ℤ → (List ℕ → ℤ) → ℕ → ℕ → ℕ → ℕ → ℤ
left_over l u f zero h a b = fixed 2 (l ∷ u ∷ []) f h (a ∷ b ∷ [])
left_over l u f (suc k) zero a b = pos 0
left_over l u f (suc k) (suc h) a b = l *ℤ left_over l u f (suc k) h (suc a) b +ℤ left_over l u f k h a (suc b)

-- h over k
abbrev pub choose : ℕ → ℕ → ℕ
choose h zero = 1
choose zero (suc k) = 0
choose (suc h) (suc k) = choose h (suc k) + choose h k

module _ (l u : ℤ) (f : List ℕ → ℤ) (m d : ℕ) (none : (a b : ℕ) → b < d → a + b ≡ m → f (a ∷ b ∷ []) ≡ pos 0) where
  -- u^k comes out
  pub taken_out : (k h a b : ℕ) → b + k ≡ d → a + b + h ≡ m → fixed 2 (l ∷ u ∷ []) f h (a ∷ b ∷ []) ≡ power u k *ℤ left_over l u f k h a b
  unfolding fixed
  taken_out zero h a b e t = sym (one-*ℤ (fixed 2 (l ∷ u ∷ []) f h (a ∷ b ∷ [])))
  taken_out (suc k) zero a b e t = none a b (omega arith) (omega arith) ∙ sym (*ℤ-zero (power u (suc k)))
  taken_out (suc k) (suc h) a b e t =
      ap₂ (λ x y. l *ℤ x +ℤ (u *ℤ y +ℤ pos 0)) (taken_out (suc k) h (suc a) b e (omega arith)) (taken_out k h a (suc b) (omega arith) (omega arith))
      ∙ ring (l ∷ u ∷ power u k ∷ left_over l u f (suc k) h (suc a) b ∷ left_over l u f k h a (suc b) ∷ []) (search ring-rules depth 60 fits 9000) tt

-- more points o than there are points: nothing is left
pub too_many : (l u : ℤ) (f : List ℕ → ℤ) (k h a b : ℕ) → h < k → left_over l u f k h a b ≡ pos 0
too_many l u f zero h a b p = absurd (NatL.not-suc-le-zero p)
too_many l u f (suc k) zero a b p = refl
too_many l u f (suc k) (suc h) a b p = ap₂ (λ x y. l *ℤ x +ℤ y) (too_many l u f (suc k) h (suc a) b (omega arith)) (too_many l u f k h a (suc b) (omega arith)) ∙ ap (λ x. x +ℤ pos 0) (*ℤ-zero l)

-- at q itself
module _ (f : List ℕ → ℤ) where
  at-q : (h a b : ℕ) → fixed 2 (pos 1 ∷ pos 0 ∷ []) f h (a ∷ b ∷ []) ≡ f ((h + a) ∷ b ∷ [])
  unfolding fixed
  at-q zero a b = ap (λ i. f (i ∷ b ∷ [])) (sym (NatL.zero-add a))
  at-q (suc h) a b =
      ring (fixed 2 (pos 1 ∷ pos 0 ∷ []) f h (suc a ∷ b ∷ []) ∷ fixed 2 (pos 1 ∷ pos 0 ∷ []) f h (a ∷ suc b ∷ []) ∷ []) (search ring-rules depth 60) tt
      ∙ at-q h (suc a) b
      ∙ ap (λ i. f (i ∷ b ∷ [])) (omega arith)

  pub left-at-q : (k h a b : ℕ) → k ≤ h → left_over (pos 1) (pos 0) f k h a b ≡ pos (choose h k) *ℤ f ((h - k + a) ∷ (b + k) ∷ [])
  left-at-q zero h a b e = at-q h a b ∙ ap₂ (λ i j. f (i ∷ j ∷ [])) (omega arith) (omega arith) ∙ sym (one-*ℤ (f ((h - 0 + a) ∷ (b + 0) ∷ [])))
  left-at-q (suc k) zero a b e = absurd (NatL.not-suc-le-zero e)
  left-at-q (suc k) (suc h) a b e =
      ap₂ (λ x y. pos 1 *ℤ x +ℤ y) (first (native.Mathlib.Decide.dec_le (suc k) h) (left-at-q (suc k) h (suc a) b)) (left-at-q k h a (suc b) (NatL.le_of_suc-le-suc e))
      ∙ ap₂ (λ i j. pos 1 *ℤ (pos (choose h (suc k)) *ℤ value) +ℤ pos (choose h k) *ℤ f (i ∷ j ∷ [])) rows columns
      ∙ ring (pos (choose h (suc k)) ∷ pos (choose h k) ∷ value ∷ []) (search ring-rules depth 60) tt
    where
      value : ℤ
      value = f ((suc h - suc k + a) ∷ (b + suc k) ∷ [])

      rows : h - k + a ≡ suc h - suc k + a
      rows = omega arith

      columns : suc b + k ≡ b + suc k
      columns = omega arith

      -- too many to choose
      over : (h k : ℕ) → h < k → choose h k ≡ 0
      over h zero p = absurd (NatL.not-suc-le-zero p)
      over zero (suc k) p = refl
      over (suc h) (suc k) p = ap₂ ◌+◌ (over h (suc k) (omega arith)) (over h k (omega arith))

      first : Dec (suc k ≤ h) → (suc k ≤ h → left_over (pos 1) (pos 0) f (suc k) h (suc a) b ≡ pos (choose h (suc k)) *ℤ f ((h - suc k + suc a) ∷ (b + suc k) ∷ []))
          → left_over (pos 1) (pos 0) f (suc k) h (suc a) b ≡ pos (choose h (suc k)) *ℤ value
      first (yes p) is = is p ∙ ap (λ i. pos (choose h (suc k)) *ℤ f (i ∷ (b + suc k) ∷ [])) (omega arith)
      first (no p) is = too_many (pos 1) (pos 0) f (suc k) h (suc a) b (omega arith) ∙ sym (ap (λ n. pos n *ℤ value) (over h (suc k) (omega arith)) ∙ zero-*ℤ value)

pub choose-pos : (h k : ℕ) → k ≤ h → 0 < choose h k
choose-pos h zero e = NatL.zero-lt-suc 0
choose-pos zero (suc k) e = absurd (NatL.not-suc-le-zero e)
choose-pos (suc h) (suc k) e = let r : 0 < choose h k = choose-pos h k (NatL.le_of_suc-le-suc e) in omega arith

-- of a form: q = fr 0, o = fr 1
pub near-q : {G : List Point → ℤ} → Form 2 G → (fr : ℕ → Point) (m d : ℕ) → ((a b : ℕ) → b < d → a + b ≡ m → G (entry_points fr (a ∷ b ∷ [])) ≡ pos 0)
    → (l u : ℤ) → G (replicate m (combination 2 (l ∷ u ∷ []) fr) ++ []) ≡ power u d *ℤ left_over l u (λ e. G (entry_points fr e)) d m 0 0
near-q {G} F fr m d none l u =
    sym (fixes {m = m} F fr (l ∷ u ∷ []) (λ e. G (entry_points fr e)) (λ e p t. refl) m (0 ∷ 0 ∷ []) refl (omega arith))
    ∙ taken_out l u (λ e. G (entry_points fr e)) m d none d m 0 0 (NatL.zero-add d) (omega arith)

-- ---- remainders

-- x and y leave the same remainder when u divides them
pub record Same (u x y : ℤ) : Type 0 where
  pub times : ℤ
  pub is : x ≡ y +ℤ u *ℤ times

pub same_refl : (u x : ℤ) → Same u x x
same_refl u x = record { times = pos 0; is = ring (u ∷ x ∷ []) (search ring-rules depth 60) tt }

pub same_sum : {u a b c d : ℤ} → Same u a b → Same u c d → Same u (a +ℤ c) (b +ℤ d)
same_sum {u} {a} {b} {c} {d} p q =
    record { times = p.times +ℤ q.times; is = ap₂ ◌+ℤ◌ p.is q.is ∙ ring (u ∷ b ∷ d ∷ p.times ∷ q.times ∷ []) (search ring-rules depth 60) tt }

pub same-times : {u a b : ℤ} (k : ℤ) → Same u a b → Same u (k *ℤ a) (k *ℤ b)
same-times {u} {a} {b} k p = record { times = k *ℤ p.times; is = ap (λ x. k *ℤ x) p.is ∙ ring (u ∷ k ∷ b ∷ p.times ∷ []) (search ring-rules depth 60) tt }

module _ (u : ℤ) (f : List ℕ → ℤ) where
  fixed-near : (h a b : ℕ) → Same u (fixed 2 (pos 1 ∷ u ∷ []) f h (a ∷ b ∷ [])) (fixed 2 (pos 1 ∷ pos 0 ∷ []) f h (a ∷ b ∷ []))
  unfolding fixed
  fixed-near zero a b = same_refl u (f (a ∷ b ∷ []))
  fixed-near (suc h) a b =
      same_sum (same-times (pos 1) (fixed-near h (suc a) b))
      (record {
        times = fixed 2 (pos 1 ∷ u ∷ []) f h (a ∷ suc b ∷ []);
        is = ring (u ∷ fixed 2 (pos 1 ∷ u ∷ []) f h (a ∷ suc b ∷ []) ∷ fixed 2 (pos 1 ∷ pos 0 ∷ []) f h (a ∷ suc b ∷ []) ∷ []) (search ring-rules depth 60) tt;
      })

  pub left_near : (k h a b : ℕ) → Same u (left_over (pos 1) u f k h a b) (left_over (pos 1) (pos 0) f k h a b)
  left_near zero h a b = fixed-near h a b
  left_near (suc k) zero a b = same_refl u (pos 0)
  left_near (suc k) (suc h) a b = same_sum (same-times (pos 1) (left_near (suc k) h (suc a) b)) (left_near k h a (suc b))

-- a number that every number but 0 divides is 0
pub all-divide : (x : ℤ) → ((u : ℤ) → (u ≡ pos 0 → ⊥) → (t : ℤ) × (x ≡ u *ℤ t)) → x ≡ pos 0
all-divide x h =
    let u = pos (suc (nat_abs x)) in
    let r = h u (λ z. NatL.suc-ne-zero _ (ap nat_abs z)) in
    nat_abs-zero x (small (nat_abs x) (nat_abs r.0) (ap nat_abs r.1 ∙ nat_abs-* u r.0))
  where
    small : (n t : ℕ) → n ≡ suc n * t → n ≡ 0
    small n zero e = e ∙ NatL.mul-zero (suc n)
    small n (suc t) e = let more : suc n * 1 ≤ suc n * suc t = NatL.mul-le-mul_left (suc n) (NatL.zero-lt-suc t) in absurd (omega arith)

pub power-nonzero : (u : ℤ) → (u ≡ pos 0 → ⊥) → (n : ℕ) → power u n ≡ pos 0 → ⊥
power-nonzero u h zero e = NatL.suc-ne-zero _ (ap nat_abs e)
power-nonzero u h (suc n) e = product-nonzero u (power u n) h (power-nonzero u h n) e

pub power-add : (u : ℤ) (a b : ℕ) → power u (a + b) ≡ power u a *ℤ power u b
power-add u zero b = ap (power u) (NatL.zero-add b) ∙ sym (one-*ℤ (power u b))
power-add u (suc a) b = ap (power u) (NatL.suc-add a b) ∙ ap (λ x. u *ℤ x) (power-add u a b) ∙ ring (u ∷ power u a ∷ power u b ∷ []) (search ring-rules depth 60) tt

-- x and y are what is left of one number, at each u, when u^a and u^b are taken out; near 0 they are x₀ and
-- y₀
module _ (x y : ℤ → ℤ) (x₀ y₀ : ℤ) (near-x : (u : ℤ) → Same u (x u) x₀) (near-y : (u : ℤ) → Same u (y u) y₀) where
  pub equal-powers : (a : ℕ) → ((u : ℤ) → power u a *ℤ x u ≡ power u a *ℤ y u) → x₀ ≡ y₀
  equal-powers a e =
      difference-zero x₀ y₀
      (all-divide (x₀ -ℤ y₀)
      (λ u h.
      let p = near-x u in
      let q = near-y u in
      let same = sym p.is ∙ cancelled (power u a) (x u) (y u) (power-nonzero u h a) (e u) ∙ q.is in (
        q.times -ℤ p.times,
        ring (x₀ ∷ y₀ ∷ u ∷ p.times ∷ []) (search ring-rules depth 60) tt
            ∙ ap (λ z. z -ℤ u *ℤ p.times -ℤ y₀) same
            ∙ ring (y₀ ∷ u ∷ p.times ∷ q.times ∷ []) (search ring-rules depth 60) tt,
      )))

  pub lower_power : (a n : ℕ) → ((u : ℤ) → power u a *ℤ x u ≡ power u (a + suc n) *ℤ y u) → x₀ ≡ pos 0
  lower_power a n e =
      all-divide x₀
      (λ u h.
      let p = near-x u in
      let same : x u ≡ u *ℤ (power u n *ℤ y u) =
      cancelled (power u a) (x u) (u *ℤ (power u n *ℤ y u)) (power-nonzero u h a)
      (e u ∙ ap (λ z. z *ℤ y u) (power-add u a (suc n)) ∙ ring (power u a ∷ u ∷ power u n ∷ y u ∷ []) (search ring-rules depth 60) tt) in (
        power u n *ℤ y u -ℤ p.times,
        ring (x₀ ∷ u ∷ p.times ∷ []) (search ring-rules depth 60) tt
            ∙ ap (λ z. z -ℤ u *ℤ p.times) (sym p.is ∙ same)
            ∙ ring (u ∷ power u n ∷ y u ∷ p.times ∷ []) (search ring-rules depth 60) tt,
      ))

-- ---- a multiple of a point

pub fixed-multiple : (k : ℤ) (f : List ℕ → ℤ) (h a b : ℕ) → fixed 2 (k ∷ pos 0 ∷ []) f h (a ∷ b ∷ []) ≡ power k h *ℤ f ((h + a) ∷ b ∷ [])
unfolding fixed
fixed-multiple k f zero a b = ap (λ i. f (i ∷ b ∷ [])) (sym (NatL.zero-add a)) ∙ sym (one-*ℤ (f ((0 + a) ∷ b ∷ [])))
fixed-multiple k f (suc h) a b =
    let same : h + suc a ≡ suc h + a = omega arith in
    ap (λ x. k *ℤ x +ℤ (pos 0 *ℤ fixed 2 (k ∷ pos 0 ∷ []) f h (a ∷ suc b ∷ []) +ℤ pos 0)) (fixed-multiple k f h (suc a) b ∙ ap (λ i. power k h *ℤ f (i ∷ b ∷ [])) same)
    ∙ ring (k ∷ power k h ∷ f ((suc h + a) ∷ b ∷ []) ∷ fixed 2 (k ∷ pos 0 ∷ []) f h (a ∷ suc b ∷ []) ∷ []) (search ring-rules depth 60) tt
