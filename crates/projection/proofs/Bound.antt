-- How far a coordinate may be off. In units of the smallest float the quotient is rounded to a whole number
-- that is near (Rounding.antt); the float is that number of units (`value`), so the bound holds for one way
-- to write it, and cross-multiplied for every other (`within_same`).
use Prim.Native.Nat.{ℕ, zero, suc, ◌+◌, ◌-◌, ◌*◌, ◌/◌, ◌^◌, ◌≤◌, ◌<◌}
use native.Mathlib.Nat as NatL
use native.Mathlib.Omega.{arith}
use mathlib.Core.Path.{◌≡◌, refl, sym, ap, ◌∙◌, subst}
use mathlib.Core.Bool.{Bool, true, false, cond, true≢false}
use mathlib.Core.List.{[], ◌∷◌}
use borrow.Author.Tests.{eqb-true, eqb-false}
use lib.Dec.{T, lit≤, lit<}
use lib.IntN.{ℤ, pos, negsuc, neg_ℤ, nat_abs, ◌+ℤ◌, ◌-ℤ◌, ◌*ℤ◌}
use lib.Pow.{pow_pos}
use lib.Ieee.{Float, nan, inf, fin, Format, binary64, prec, low, up, down, minus, unlike, size, round, fits, to_bits}
use lib.Ieee.Exact.{HasValue, units_val}
use lib.Ieee.Fits.{round_is, round-fits, down_pos}
use lib.Ieee.Order.{drop, kept}
use lib.Ieee.Scale.{grid, overflow, finite, normal_of_fraction}
use Rattle.integers.proofs.Laws.{nat_abs-neg, nat_abs-*, nat_abs-+, nat_abs-zero, nat_abs-difference, *ℤ-negl, *ℤ-distr}
use Rattle.integers.proofs.Ring.{ring, ring-rules, ring-from, cancel}
use Rattle.integers.proofs.Signed.{abs-*-le}
use Rattle.projection.specs.Accuracy.{WithinPart, parts, Accurate, AccuratePoint}
use Rattle.projection.specs.Accuracy.{AccurateBits, AccurateProjections, BoundReached}
use Rattle.projection.specs.Floats.{Writes, sign_bit, exponent_field, digits, significand, shown_whole, shown_exponent, Shows}
use Rattle.projection.specs.Projection.{limit, is_zero, all_zero, all_in_range, is_negative, negated_if}
use Rattle.projection.specs.Projection.{positive_zero, quotient_of, coords_of, projection_by, projection_of}
use Rattle.projection.specs.Projection.{Four, is_four_zeros, projection_of_four, without_length, found_projection}
use Rattle.projection.specs.declared.Projection.{Projection}
use Rattle.projection.specs.declared.Projection.TheVariants.{Finite, Direction, Nowhere, OutOfRange}
use Rattle.projection.proofs.Finite.{rounded-quotient, zero-quotient}
use Rattle.projection.proofs.Floats.{written, shows}
use Rattle.projection.proofs.Rounding.{Apart, grid-near}
use Rattle.projection.proofs.Signed.{within, nat_abs-negated}

-- ---- two ways to write one float

-- n × 2^e and k × 2^f are the same number
abbrev Same : ℤ → ℤ → ℤ → ℤ → Type 0
Same n e k f = n *ℤ pos (up e) *ℤ pos (down f) ≡ k *ℤ pos (up f) *ℤ pos (down e)

same_number : (v : Float) (n e k f : ℤ) → Writes v n e → Writes v k f → Same n e k f
same_number nan n e k f h j = absurd h
same_number (inf s) n e k f h j = absurd h
same_number (fin s m g) n e k f h j = cancel (down g) _ _ (down_pos g) (out n (up e) (down f) ∙ ap (λ z. z *ℤ pos (down f)) h ∙ turn ∙ sym (out k (up f) (down e) ∙ ap (λ z. z *ℤ pos (down e)) j))
  where
    G : ℤ
    G = pos (down g)

    out : (n : ℤ) (u d : ℕ) → G *ℤ (n *ℤ pos u *ℤ pos d) ≡ n *ℤ pos u *ℤ G *ℤ pos d
    out n u d = ring (G ∷ n ∷ pos u ∷ pos d ∷ []) (search ring-rules depth 60 fits 9000) tt

    M : ℤ
    M = negated_if s (pos m) *ℤ pos (up g)

    turn : M *ℤ pos (down e) *ℤ pos (down f) ≡ M *ℤ pos (down f) *ℤ pos (down e)
    turn = ring (M ∷ pos (down e) ∷ pos (down f) ∷ []) (search ring-rules depth 60 fits 9000) tt

-- so what is within a part in one way is so in the other
pub within_same : (P : ℕ) (x w n e k f : ℤ) → Same n e k f → WithinPart P x w n e → WithinPart P x w k f
within_same P x w n e k f same h = NatL.le_of_mul-le-mul_right all (down_pos e)
  where
    A : ℤ
    A = n *ℤ pos (up e) *ℤ w -ℤ x *ℤ pos (down e)

    B : ℤ
    B = k *ℤ pos (up f) *ℤ w -ℤ x *ℤ pos (down f)

    crossed : B *ℤ pos (down e) ≡ A *ℤ pos (down f)
    crossed = ring-from (negsuc 0 *ℤ w) same
        (ring (n ∷ pos (up e) ∷ pos (down e) ∷ k ∷ pos (up f) ∷ pos (down f) ∷ w ∷ x ∷ [])
        (search ring-rules depth 60 fits 9000) tt)

    sizes : nat_abs B * down e ≡ nat_abs A * down f
    sizes = sym (nat_abs-* B (pos (down e))) ∙ ap nat_abs crossed ∙ nat_abs-* A (pos (down f))

    all : nat_abs B * P * down e ≤ nat_abs x * down f * down e
    all =
        NatL.le_trans
        (NatL.le_of_eq
        (NatL.mul_right_comm (nat_abs B) P (down e) ∙ ap (λ z. z * P) sizes ∙ NatL.mul_right_comm (nat_abs A) (down f) P))
        (NatL.le_trans (NatL.mul-le-mul_right (down f) h) (NatL.le_of_eq (NatL.mul_right_comm (nat_abs x) (down e) (down f))))

-- ---- the rounded quotient, in units of the smallest float

value : (f : Format) (s : Bool) (a c : ℕ) → grid f a c < overflow f → HasValue (round f s a c) s (grid f a c) (2 ^ low f)
value f s a c h =
    subst (λ v. HasValue v s (grid f a c) (2 ^ low f)) (sym (round_is f s a c))
    (units_val f s (kept (prec f) (a * 2 ^ low f) c) (drop (prec f) (a * 2 ^ low f) c) h)

-- sign and size apart: a quotient is negative where one of its numbers is and the other is not
signs : (g L : ℕ) (x w : ℤ)
    → nat_abs (negated_if (unlike (is_negative x) (is_negative w)) (pos g) *ℤ pos 1 *ℤ w -ℤ x *ℤ pos L)
    ≡ nat_abs (pos (g * nat_abs w) -ℤ pos (nat_abs x * L))
signs g L (pos a) (pos c) = ap nat_abs is
  where
    is : pos g *ℤ pos 1 *ℤ pos c -ℤ pos a *ℤ pos L ≡ pos g *ℤ pos c -ℤ pos a *ℤ pos L
    is = ring (pos g ∷ pos a ∷ pos c ∷ pos L ∷ []) (search ring-rules depth 60 fits 9000) tt
signs g L (pos a) (negsuc c) = ap nat_abs is
  where
    is : neg_ℤ (pos g) *ℤ pos 1 *ℤ neg_ℤ (pos (suc c)) -ℤ pos a *ℤ pos L ≡ pos g *ℤ pos (suc c) -ℤ pos a *ℤ pos L
    is = ring (pos g ∷ pos a ∷ pos (suc c) ∷ pos L ∷ []) (search ring-rules depth 60 fits 9000) tt
signs g L (negsuc a) (pos c) = ap nat_abs is ∙ nat_abs-neg (pos (g * c) -ℤ pos (suc a * L))
  where
    is : neg_ℤ (pos g) *ℤ pos 1 *ℤ pos c -ℤ neg_ℤ (pos (suc a)) *ℤ pos L ≡ neg_ℤ (pos g *ℤ pos c -ℤ pos (suc a) *ℤ pos L)
    is = ring (pos g ∷ pos (suc a) ∷ pos c ∷ pos L ∷ []) (search ring-rules depth 60 fits 9000) tt
signs g L (negsuc a) (negsuc c) = ap nat_abs is ∙ nat_abs-neg (pos (g * suc c) -ℤ pos (suc a * L))
  where
    is : pos g *ℤ pos 1 *ℤ neg_ℤ (pos (suc c)) -ℤ neg_ℤ (pos (suc a)) *ℤ pos L ≡ neg_ℤ (pos g *ℤ pos (suc c) -ℤ pos (suc a) *ℤ pos L)
    is = ring (pos g ∷ pos (suc a) ∷ pos (suc c) ∷ pos L ∷ []) (search ring-rules depth 60 fits 9000) tt

-- two natural numbers that differ little, as a difference in ℤ
difference : (X Y K B : ℕ) → Apart (X * K) (Y * K) B → nat_abs (pos X -ℤ pos Y) * K ≤ B
difference X Y K B h =
    subst (λ z. z ≤ B) (ap nat_abs (sym out) ∙ nat_abs-* (pos X -ℤ pos Y) (pos K)) (nat_abs-difference (X * K) (Y * K) B h.0 h.1)
  where
    out : (pos X -ℤ pos Y) *ℤ pos K ≡ pos (X * K) -ℤ pos (Y * K)
    out = *ℤ-distr (pos X) (neg_ℤ (pos Y)) (pos K) ∙ ap (λ z. pos (X * K) +ℤ z) (*ℤ-negl (pos Y) (pos K))

module _ (x w : ℤ) (x_fits : nat_abs x ≤ limit) (w_fits : nat_abs w ≤ limit) (X : is_zero x ≡ false) (W : is_zero w ≡ false) where
  above : (v : ℤ) → is_zero v ≡ false → 0 < nat_abs v
  above v h = let apart = eqb-false (nat_abs v) 0 h in omega arith

  abbrev units : ℕ
  units = grid binary64 (nat_abs x) (nat_abs w)

  abbrev rounded : Float
  rounded = round binary64 (unlike (is_negative x) (is_negative w)) (nat_abs x) (nat_abs w)

  -- a quotient of two numbers in range has all digits that the format keeps
  long : 53 ≤ size (nat_abs x * 2 ^ 1074 / nat_abs w)
  long =
      normal_of_fraction binary64 (nat_abs x) (nat_abs w) (above w W)
      (NatL.le_trans (NatL.mul-le-mul_left (2 ^ 52) w_fits)
      (NatL.le_trans (lit≤ {m = 2 ^ 52 * limit} {n = 1 * 2 ^ 1074} tt) (NatL.mul-le-mul_right (2 ^ 1074) (above x X))))

  units-near : Apart (units * nat_abs w * 2 ^ 53) (nat_abs x * 2 ^ 1074 * 2 ^ 53) (nat_abs x * 2 ^ 1074)
  units-near = grid-near binary64 (nat_abs x) (nat_abs w) (above w W) (lit≤ tt) long

  -- and is far from an infinity
  units-below : units < overflow binary64
  units-below =
      NatL.lt_of_le_of_lt (twice units (nat_abs w) (nat_abs x * 2 ^ 1074) (2 ^ 53) (above w W) (pow_pos 53) units-near.0)
      (NatL.lt_of_le_of_lt (NatL.mul-le-mul_left 2 (NatL.mul-le-mul_right (2 ^ 1074) x_fits))
      (lit≤ {m = suc (2 * (limit * 2 ^ 1074))} {n = overflow binary64} tt))
    where
      twice : (g c a K : ℕ) → 0 < c → 0 < K → g * c * K ≤ a * K + a → g ≤ 2 * a
      twice g c a K C P h = NatL.le_of_mul-le-mul_right all P
        where
          all : g * K ≤ 2 * a * K
          all =
              let one : g * K * 1 ≤ g * K * c = NatL.mul-le-mul_left (g * K) C in
              let turn : g * K * c ≡ g * c * K = NatL.mul_right_comm g K c in
              let flat : g * K * 1 ≡ g * K = NatL.mul-one (g * K) in
              let more : a * 1 ≤ a * K = NatL.mul-le-mul_left a P in
              let same : a * 1 ≡ a = NatL.mul-one a in
              let two : 2 * a * K ≡ 2 * (a * K) = NatL.mul_assoc 2 a K in
              omega arith

  -- the float is that number of units, with the quotient's sign
  rounded-written : Writes rounded (negated_if (unlike (is_negative x) (is_negative w)) (pos units)) (negsuc 1073)
  rounded-written =
      let s = unlike (is_negative x) (is_negative w) in
      written rounded s units 0 1074
      (subst (λ a. HasValue rounded s a (2 ^ 1074)) (sym (NatL.mul-one units)) (value binary64 s (nat_abs x) (nat_abs w) units-below))

  rounded-near : WithinPart parts x w (negated_if (unlike (is_negative x) (is_negative w)) (pos units)) (negsuc 1073)
  rounded-near =
      NatL.le_trans (NatL.mul-le-mul_left _ (lit≤ {m = parts} {n = 2 ^ 53} tt))
      (subst (λ d. d * 2 ^ 53 ≤ nat_abs x * 2 ^ 1074) (sym (signs units (2 ^ 1074) x w))
      (difference (units * nat_abs w) (nat_abs x * 2 ^ 1074) (2 ^ 53) (nat_abs x * 2 ^ 1074) units-near))

  near : (n e : ℤ) → Writes rounded n e → WithinPart parts x w n e
  near n e h =
      let s = unlike (is_negative x) (is_negative w) in
      within_same parts x w (negated_if s (pos units)) (negsuc 1073) n e
      (same_number rounded (negated_if s (pos units)) (negsuc 1073) n e rounded-written h) rounded-near

  is_finite : (v : Float) (n e : ℤ) → Writes v n e → T (finite v)
  is_finite nan n e h = h
  is_finite (inf s) n e h = h
  is_finite (fin s m k) n e h = tt

  shown : Shows (to_bits binary64 rounded) rounded
  shown =
      let s = unlike (is_negative x) (is_negative w) in
      shows rounded (round-fits binary64 s (nat_abs x) (nat_abs w))
      (is_finite rounded (negated_if s (pos units)) (negsuc 1073) rounded-written)

  -- with a field of 0 the pattern shows less than 2^52 units, and these are too few
  few : (s : Bool) (t : ℕ) → t < 2 ^ 52 → WithinPart parts x w (negated_if s (pos t)) (negsuc 1073) → ⊥
  few s t l h =
      let n = negated_if s (pos t) *ℤ pos 1 *ℤ w in
      let off = n -ℤ x *ℤ pos (2 ^ 1074) in
      let sum : x *ℤ pos (2 ^ 1074) ≡ n +ℤ neg_ℤ off =
      ring (x ∷ n ∷ pos (2 ^ 1074) ∷ []) (search ring-rules depth 60 fits 9000) tt in
      let most : nat_abs x * 2 ^ 1074 ≤ nat_abs n + nat_abs off =
      NatL.le_trans (NatL.le_of_eq (sym (nat_abs-* x (pos (2 ^ 1074))) ∙ ap nat_abs sum))
      (subst (λ z. nat_abs (n +ℤ neg_ℤ off) ≤ nat_abs n + z) (nat_abs-neg off) (nat_abs-+ n (neg_ℤ off))) in
      let double : nat_abs off * 2 ≤ nat_abs x * 2 ^ 1074 = NatL.le_trans (NatL.mul-le-mul_left (nat_abs off) (lit≤ {m = 2} {n = 2 ^ 53} tt)) h in
      let small : nat_abs n ≤ 2 ^ 52 * limit =
      abs-*-le (negated_if s (pos t) *ℤ pos 1) w
      (NatL.le_trans (NatL.le_of_eq (nat_abs-* (negated_if s (pos t)) (pos 1) ∙ NatL.mul-one (nat_abs (negated_if s (pos t))) ∙ nat_abs-negated s (pos t))) (NatL.le_of_lt l))
      w_fits in
      let least : 1 * 2 ^ 1074 ≤ nat_abs x * 2 ^ 1074 = NatL.mul-le-mul_right (2 ^ 1074) (above x X) in
      NatL.not-le_of_lt (lit< {m = 2 * (2 ^ 52 * limit)} {n = 1 * 2 ^ 1074} tt)
      (NatL.le_trans least (NatL.le_trans (at_most (nat_abs x * 2 ^ 1074) (nat_abs n) (nat_abs off) most double) (NatL.mul-le-mul_left 2 small)))
    where
      at_most : (a n d : ℕ) → a ≤ n + d → d * 2 ≤ a → a ≤ 2 * n
      at_most a n d h k = omega arith

  normal : 0 < exponent_field (to_bits binary64 rounded)
  normal = by (exponent_field b) refl
    where
      b : ℕ
      b = to_bits binary64 rounded

      by : (k : ℕ) → exponent_field b ≡ k → 0 < k
      by zero e =
          absurd
          (few (sign_bit b) (digits b) (NatL.mod-lt b (pow_pos 52))
          (subst (λ k. WithinPart parts x w (negated_if (sign_bit b) (pos (significand k (digits b)))) (minus (k - 1) 1074)) e
          (near (shown_whole b) (shown_exponent b) shown.written)))
      by (suc k) e = NatL.zero-lt-suc k

-- ---- a coordinate

never : {A : Type 0} {b : Bool} → b ≡ true → b ≡ false → A
never p q = absurd (true≢false (sym p ∙ q))

-- nothing over a weight: positive zero, which is 0 however it is written
zero-accurate : (x w : ℤ) → is_zero x ≡ true → Accurate x w positive_zero
unfolding fits
zero-accurate x w none =
    record {
      near = λ n e h.
          within_same parts x w (pos 0) (pos 0) n e (same_number positive_zero (pos 0) (pos 0) n e refl h)
          (subst (λ v. WithinPart parts v w (pos 0) (pos 0)) (sym zero-x) (NatL.le_of_eq (ap (λ z. nat_abs z * 2 ^ 53) nought)));
      shown = shows positive_zero tt tt;
      normal = λ some. never none some;
      zero = λ z. refl;
    }
  where
    zero-x : x ≡ pos 0
    zero-x = nat_abs-zero x (eqb-true (nat_abs x) 0 none)

    nought : pos 0 *ℤ pos 1 *ℤ w -ℤ pos 0 *ℤ pos 1 ≡ pos 0
    nought = ring (w ∷ []) (search ring-rules depth 60) tt

accurate : (x w : ℤ) → nat_abs x ≤ limit → nat_abs w ≤ limit → is_zero w ≡ false → Accurate x w (quotient_of x w)
accurate x w x_fits w_fits W = by (is_zero x) refl
  where
    by : (b : Bool) → is_zero x ≡ b → Accurate x w (quotient_of x w)
    by true none = subst (Accurate x w) (sym (zero-quotient x w none)) (zero-accurate x w none)
    by false X =
        subst (Accurate x w) (sym (rounded-quotient x w x_fits w_fits X W))
        (record {
          near = near x w x_fits w_fits X W;
          shown = shown x w x_fits w_fits X W;
          normal = λ some. normal x w x_fits w_fits X W;
          zero = λ none. never none X;
        })

-- ---- the three coordinates of a finite point

pub accurate-projections : AccurateProjections
unfolding projection_of projection_by coords_of
accurate-projections p = by (all_in_range p.x p.y p.z p.w) (is_zero p.w) (all_zero p.x p.y p.z) refl refl
  where
    by : (a b c : Bool) → all_in_range p.x p.y p.z p.w ≡ a → is_zero p.w ≡ b
        → AccuratePoint p (projection_by a b c p.x p.y p.z p.w)
    by false b c e f = tt
    by true true true e f = tt
    by true true false e f = tt
    by true false c e f =
        let r = within p.x p.y p.z p.w e in (
          accurate p.x p.w r.0 r.3 f,
          accurate p.y p.w r.1 r.3 f,
          accurate p.z p.w r.2 r.3 f,
        )

-- also where a length is left out
without-length-accurate : (p : Four) (at : Projection) → AccuratePoint p at → AccuratePoint p (without_length at)
without-length-accurate p (Finite q) h = h
without-length-accurate p (Direction d) h = h
without-length-accurate p Nowhere h = h
without-length-accurate p OutOfRange h = h

pub accurate-found : (point projected : Four) → AccuratePoint projected (found_projection point projected)
unfolding found_projection
accurate-found point projected = by (is_four_zeros point)
  where
    at : Projection
    at = projection_of_four projected

    by : (b : Bool) → AccuratePoint projected (cond b (without_length at) at)
    by true = without-length-accurate projected at (accurate-projections projected)
    by false = accurate-projections projected

-- ---- bit patterns

pub accurate-bits : (x w : ℤ) (v : Float) → Accurate x w v → AccurateBits x w (to_bits binary64 v)
unfolding to_bits
accurate-bits x w v a =
    let b = to_bits binary64 v in
    record {
      number = a.shown.number;
      near = a.near (shown_whole b) (shown_exponent b) a.shown.written;
      normal = a.normal;
      zero = λ none. ap (to_bits binary64) (a.zero none);
    }

-- ---- no smaller bound

-- the float that the quotient is, as it is written in Float itself
reached-float : quotient_of (pos 28059810762434) (pos 28059810762433) ≡ fin false 140737488355333 (negsuc 46)
unfolding quotient_of
reached-float = refl

pub bound-reached : BoundReached
bound-reached n e h near =
    let x = pos 28059810762434 in
    let w = pos 28059810762433 in
    let own = subst (λ v. Writes v n e) reached-float h in
    let m = pos 140737488355333 in
    NatL.not-le_of_lt (lit< tt) (within_same _ x w n e m (negsuc 46) own near)
