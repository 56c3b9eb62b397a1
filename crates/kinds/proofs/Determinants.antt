-- Determinants of frames. The numbers are at most 4 in absolute value, so every product and sum on the way fits and is read back as it is;
-- and the formulas for two and three rows are `determinant` multiplied out, an identity of the ring.
use Prim.Native.Nat.{ℕ, suc, ◌+◌, ◌*◌, ◌^◌, ◌≤◌, ◌<◌}
use native.Mathlib.Nat.{le_trans, le_of_eq}
use native.Mathlib.Omega.{arith}
use mathlib.Core.Path.{◌≡◌, refl, sym, ap, ap₂, ◌∙◌, subst}
use mathlib.Core.Bool.{true, false, ◌&&◌, not}
use mathlib.Core.List.{List, [], ◌∷◌}
use lib.Dec.{eqb}
use lib.IntN.{ℤ, pos, neg_ℤ, nat_abs, ◌+ℤ◌, ◌-ℤ◌, ◌*ℤ◌}
use lib.ListN.{length, get_or, take, drop}
use lib.Signed.{mag}
use borrow.Author.Rules.{sfits_of}
use borrow.Author.Tests.{leb-true}
use mir.Syntax.{w64}
use mir.Val.{SFits, of_z}
use Rattle.integers.specs.Test.{within, all}
use Rattle.integers.proofs.All.{all_first, and_one}
use Rattle.integers.proofs.Laws.{nat_abs-neg}
use Rattle.integers.proofs.Ring.{ring, ring-rules}
use Rattle.integers.proofs.Signed.{seen, fits-abs, back, back_fits, abs-*-le, abs-+-le}
use Rattle.projection.specs.Projection.{is_zero}
use Rattle.projection.proofs.Signed.{zero_bits}
use Rattle.kinds.specs.Kinds.{groups_of, dimension_of, later_groups, later_dimension}
use Rattle.kinds.specs.Frames.{frame_of, determinant, frame_allowed, frames_allowed}
use Rattle.kinds.proofs.Limits.{by_kind, later-none, later-one}

-- ---- sizes, where the numbers of a row are at most 4 and what they are multiplied by at most X

module _ (a x : ℤ) (X : ℕ) (ha : nat_abs a ≤ 4) (hx : nat_abs x ≤ X) (low : X ≤ 32) where
  times-size : nat_abs (a *ℤ x) ≤ 4 * X
  times-size = abs-*-le a x ha hx

  times-read : seen a *ℤ seen x ≡ a *ℤ x
  times-read = ap₂ ◌*ℤ◌ (back a (omega arith)) (back x (omega arith))

  times-small : nat_abs (a *ℤ x) < 2 ^ 63
  times-small = omega (arith, times-size)

  pub times-fits : SFits w64 (seen a *ℤ seen x)
  times-fits = subst (SFits w64) (sym times-read) (fits-abs (a *ℤ x) times-small)

  times-is : seen (seen a *ℤ seen x) ≡ a *ℤ x
  times-is = ap seen times-read ∙ back (a *ℤ x) times-small

module _ (a x b y : ℤ) (X : ℕ) (ha : nat_abs a ≤ 4) (hx : nat_abs x ≤ X) (hb : nat_abs b ≤ 4) (hy : nat_abs y ≤ X) (low : X ≤ 32) where
  pub minus-size : nat_abs (a *ℤ x -ℤ b *ℤ y) ≤ 4 * X + 4 * X
  minus-size = abs-+-le (a *ℤ x) (neg_ℤ (b *ℤ y)) (times-size a x X ha hx low) (le_trans (le_of_eq (nat_abs-neg (b *ℤ y))) (times-size b y X hb hy low))

  minus-small : nat_abs (a *ℤ x -ℤ b *ℤ y) < 2 ^ 63
  minus-small = omega (arith, minus-size)

  minus-read : seen (seen a *ℤ seen x) -ℤ seen (seen b *ℤ seen y) ≡ a *ℤ x -ℤ b *ℤ y
  minus-read = ap₂ ◌-ℤ◌ (times-is a x X ha hx low) (times-is b y X hb hy low)

  pub minus-fits : SFits w64 (seen (seen a *ℤ seen x) -ℤ seen (seen b *ℤ seen y))
  minus-fits = subst (SFits w64) (sym minus-read) (fits-abs (a *ℤ x -ℤ b *ℤ y) minus-small)

  pub minus_is : seen (seen (seen a *ℤ seen x) -ℤ seen (seen b *ℤ seen y)) ≡ a *ℤ x -ℤ b *ℤ y
  minus_is = ap seen minus-read ∙ back (a *ℤ x -ℤ b *ℤ y) minus-small

  module _ (c z : ℤ) (hc : nat_abs c ≤ 4) (hz : nat_abs z ≤ X) where
    row_small : nat_abs (a *ℤ x -ℤ b *ℤ y +ℤ c *ℤ z) < 2 ^ 63
    row_small = omega (arith, abs-+-le (a *ℤ x -ℤ b *ℤ y) (c *ℤ z) minus-size (times-size c z X hc hz low))

    row_read : seen (seen (seen a *ℤ seen x) -ℤ seen (seen b *ℤ seen y)) +ℤ seen (seen c *ℤ seen z) ≡ a *ℤ x -ℤ b *ℤ y +ℤ c *ℤ z
    row_read = ap₂ ◌+ℤ◌ minus_is (times-is c z X hc hz low)

    pub row_fits : SFits w64 (seen (seen (seen a *ℤ seen x) -ℤ seen (seen b *ℤ seen y)) +ℤ seen (seen c *ℤ seen z))
    row_fits = subst (SFits w64) (sym row_read) (fits-abs (a *ℤ x -ℤ b *ℤ y +ℤ c *ℤ z) row_small)

    pub row_is : seen (seen (seen (seen a *ℤ seen x) -ℤ seen (seen b *ℤ seen y)) +ℤ seen (seen c *ℤ seen z)) ≡ a *ℤ x -ℤ b *ℤ y +ℤ c *ℤ z
    row_is = ap seen row_read ∙ back (a *ℤ x -ℤ b *ℤ y +ℤ c *ℤ z) row_small

-- ---- formulas

-- the determinant of two rows and of three
abbrev pub of_two : ℤ → ℤ → ℤ → ℤ → ℤ
of_two a b c d = a *ℤ d -ℤ b *ℤ c

abbrev pub of_three : ℤ → ℤ → ℤ → ℤ → ℤ → ℤ → ℤ → ℤ → ℤ → ℤ
of_three a b c d e f g h i = a *ℤ of_two e f h i -ℤ b *ℤ of_two d f g i +ℤ c *ℤ of_two d e g h

two_is : (a b c d : ℤ) → of_two a b c d ≡ determinant 2 ((a ∷ b ∷ []) ∷ (c ∷ d ∷ []) ∷ [])
two_is a b c d = ring (a ∷ b ∷ c ∷ d ∷ []) (search ring-rules depth 60) tt

three-is : (a b c d e f g h i : ℤ) → of_three a b c d e f g h i ≡ determinant 3 ((a ∷ b ∷ c ∷ []) ∷ (d ∷ e ∷ f ∷ []) ∷ (g ∷ h ∷ i ∷ []) ∷ [])
three-is a b c d e f g h i = ring (a ∷ b ∷ c ∷ d ∷ e ∷ f ∷ g ∷ h ∷ i ∷ []) (search ring-rules depth 60) tt

-- the frame's rows are its numbers in their order
module _ (numbers : List ℤ) where
  abbrev pub at : ℕ → ℤ
  at i = get_or numbers i (pos 0)

  pub frame-two : of_two (at 0) (at 1) (at 2) (at 3) ≡ determinant 2 (frame_of 2 numbers)
  unfolding frame_of
  frame-two = two_is (at 0) (at 1) (at 2) (at 3)

  pub frame-three : of_three (at 0) (at 1) (at 2) (at 3) (at 4) (at 5) (at 6) (at 7) (at 8) ≡ determinant 3 (frame_of 3 numbers)
  unfolding frame_of
  frame-three = three-is (at 0) (at 1) (at 2) (at 3) (at 4) (at 5) (at 6) (at 7) (at 8)

-- ---- the formulas of numbers as they are read back

abbrev pub Low : ℤ → Type 0
Low a = nat_abs a ≤ 4

low_read : (a : ℤ) → Low a → seen a ≡ a
low_read a h = back a (omega arith)

low-seen : (a : ℤ) → Low a → Low (seen a)
low-seen a h = subst Low (sym (low_read a h)) h

module _ (a b c d r : ℤ) (ha : Low a) (hb : Low b) (hc : Low c) (hd : Low d) (is : r ≡ of_two (seen a) (seen b) (seen c) (seen d)) where
  two-read : r ≡ of_two a b c d
  two-read = is ∙ (λ i. of_two (low_read a ha i) (low_read b hb i) (low_read c hc i) (low_read d hd i))

  two_size : nat_abs r ≤ 32
  two_size = subst (λ v. nat_abs v ≤ 32) (sym two-read) (minus-size a d b c 4 ha hd hb hc (omega arith))

  two-seen : seen r ≡ of_two a b c d
  two-seen = back r (omega (arith, two_size)) ∙ two-read

  pub two-low : nat_abs (seen r) ≤ 32
  two-low = subst (λ v. nat_abs v ≤ 32) (sym (back r (omega (arith, two_size)))) two_size

-- three rows of numbers that are low
abbrev pub AllLow : ℤ → ℤ → ℤ → ℤ → ℤ → ℤ → ℤ → ℤ → ℤ → Type 0
AllLow a b c d e f g h i = Low a × Low b × Low c × Low d × Low e × Low f × Low g × Low h × Low i

module _ (a b c d e f g h i : ℤ) (low : AllLow a b c d e f g h i) where
  module _ (x y z : ℤ) (x-is : x ≡ of_two (seen e) (seen f) (seen h) (seen i)) (y-is : y ≡ of_two (seen d) (seen f) (seen g) (seen i))
      (z-is : z ≡ of_two (seen d) (seen e) (seen g) (seen h)) where
    -- what the sum along the first row asks
    pub three-asks : Low (seen a) × (nat_abs (seen x) ≤ 32) × Low (seen b) × (nat_abs (seen y) ≤ 32) × Low (seen c) × (nat_abs (seen z) ≤ 32)
    three-asks = (
      low-seen a low.0,
      two-low e f h i x low.4 low.5 low.7 low.8 x-is,
      low-seen b low.1,
      two-low d f g i y low.3 low.5 low.6 low.8 y-is,
      low-seen c low.2,
      two-low d e g h z low.3 low.4 low.6 low.7 z-is,
    )

    pub three-read : (r : ℤ) → mag r < 2 ^ 63 → r ≡ seen a *ℤ seen x -ℤ seen b *ℤ seen y +ℤ seen c *ℤ seen z → seen r ≡ of_three a b c d e f g h i
    three-read r small is =
        back_fits {z = r} (sfits_of small)
        ∙ is
        ∙ (λ j.
        low_read a low.0 j *ℤ two-seen e f h i x low.4 low.5 low.7 low.8 x-is j
        -ℤ low_read b low.1 j *ℤ two-seen d f g i y low.3 low.5 low.6 low.8 y-is j
        +ℤ low_read c low.2 j *ℤ two-seen d e g h z low.3 low.4 low.6 low.7 z-is j)

-- ---- the frame of a group of dimension n whose numbers are within their limit

abbrev pub FrameLow : ℕ → List ℤ → Type 0
FrameLow n numbers = all (within 4) (take (suc n * suc n) numbers) ≡ true

module _ (n : ℕ) (numbers : List ℤ) (long : suc n * suc n ≤ length numbers) (k : ℕ) (e : n ≡ k) (pre : FrameLow n numbers) where
  number-low : (i : ℕ) → i < suc k * suc k → Low (at numbers i)
  number-low i b =
      leb-true (nat_abs (at numbers i)) 4
      (all_first (within 4) (suc k * suc k) numbers (subst (λ j. FrameLow j numbers) e pre) i b (le_trans b (subst (λ j. suc j * suc j ≤ length numbers) e long)))

  -- a number of the frame as it is handed on
  number-seen : (i : ℕ) → i < suc k * suc k → Low (seen (at numbers i))
  number-seen i b = low-seen (at numbers i) (number-low i b)

  number_read : (i : ℕ) → i < suc k * suc k → seen (at numbers i) ≡ at numbers i
  number_read i b = low_read (at numbers i) (number-low i b)

  -- what is found for dimension k holds of the dimension
  for-dimension : {v : ℤ} → v ≡ determinant (suc k) (frame_of (suc k) numbers) → v ≡ determinant (suc n) (frame_of (suc n) numbers)
  for-dimension {v} h = subst (λ j. v ≡ determinant (suc j) (frame_of (suc j) numbers)) (sym e) h

module _ (n : ℕ) (numbers : List ℤ) (long : suc n * suc n ≤ length numbers) (pre : FrameLow n numbers) where
  abbrev handed : ℕ → ℤ
  handed i = seen (at numbers i)

  module _ (e : n ≡ 1) where
    pub two-asks : Low (handed 0) × Low (handed 1) × Low (handed 2) × Low (handed 3)
    two-asks = (low 0 (omega arith), low 1 (omega arith), low 2 (omega arith), low 3 (omega arith))
      where
        low : (i : ℕ) → i < 4 → Low (handed i)
        low = number-seen n numbers long 1 e pre

    pub two-determinant : (r : ℤ) → mag r < 2 ^ 63 → r ≡ of_two (handed 0) (handed 1) (handed 2) (handed 3) → seen r ≡ determinant (suc n) (frame_of (suc n) numbers)
    two-determinant r small is =
        for-dimension n numbers long 1 e pre
        (back_fits {z = r} (sfits_of small)
        ∙ is
        ∙ (λ j. of_two (read 0 (omega arith) j) (read 1 (omega arith) j) (read 2 (omega arith) j) (read 3 (omega arith) j))
        ∙ frame-two numbers)
      where
        read : (i : ℕ) → i < 4 → handed i ≡ at numbers i
        read = number_read n numbers long 1 e pre

  module _ (e : n ≡ 2) where
    pub frame-asks : AllLow (handed 0) (handed 1) (handed 2) (handed 3) (handed 4) (handed 5) (handed 6) (handed 7) (handed 8)
    frame-asks = (
      low 0 (omega arith),
      low 1 (omega arith),
      low 2 (omega arith),
      low 3 (omega arith),
      low 4 (omega arith),
      low 5 (omega arith),
      low 6 (omega arith),
      low 7 (omega arith),
      low 8 (omega arith),
    )
      where
        low : (i : ℕ) → i < 9 → Low (handed i)
        low = number-seen n numbers long 2 e pre

    pub three-determinant : (r : ℤ) → mag r < 2 ^ 63 → r ≡ of_three (handed 0) (handed 1) (handed 2) (handed 3) (handed 4) (handed 5) (handed 6) (handed 7) (handed 8)
        → seen r ≡ determinant (suc n) (frame_of (suc n) numbers)
    three-determinant r small is =
        for-dimension n numbers long 2 e pre
        (back_fits {z = r} (sfits_of small)
        ∙ is
        ∙ (λ j.
        of_three
        (read 0 (omega arith) j)
        (read 1 (omega arith) j)
        (read 2 (omega arith) j)
        (read 3 (omega arith) j)
        (read 4 (omega arith) j)
        (read 5 (omega arith) j)
        (read 6 (omega arith) j)
        (read 7 (omega arith) j)
        (read 8 (omega arith) j))
        ∙ frame-three numbers)
      where
        read : (i : ℕ) → i < 9 → handed i ≡ at numbers i
        read = number_read n numbers long 2 e pre

-- ---- the tests of a frame

module _ (n : ℕ) (numbers : List ℤ) where
  -- a number out of its limit
  pub frame-out : all (within 4) (take (suc n * suc n) numbers) ≡ false → false ≡ frame_allowed (suc n) numbers
  unfolding frame_allowed
  frame-out h = sym (ap (λ b. b && not (is_zero (determinant (suc n) (frame_of (suc n) numbers)))) h)

  -- none out of it: whether the determinant is 0, by its bits
  pub frame-by : FrameLow n numbers → (r : ℤ) → mag r < 2 ^ 63 → r ≡ determinant (suc n) (frame_of (suc n) numbers) → not (eqb (of_z w64 r) 0) ≡ frame_allowed (suc n) numbers
  unfolding frame_allowed
  frame-by h r small is = ap not (zero_bits r (sfits_of small) ∙ ap is_zero is) ∙ sym (ap (λ b. b && not (is_zero (determinant (suc n) (frame_of (suc n) numbers)))) h)

-- ---- the groups of a kind

module _ (kind p q : ℕ) (numbers : List ℤ) where
  abbrev d : ℕ
  d = suc (dimension_of kind)

  -- no group: nothing to refuse
  pub no-frame : dimension_of kind ≡ 0 → true ≡ frames_allowed (groups_of kind p q) numbers
  unfolding frames_allowed
  no-frame =
      by_kind (λ k. dimension_of k ≡ 0 → true ≡ frames_allowed (groups_of k p q) numbers)
      (λ e. refl) (λ e. absurd (not-zero 0 e)) (λ e. absurd (not-zero 1 e)) (λ e. absurd (not-zero 0 e)) (λ k e. refl) kind
    where
      not-zero : (j : ℕ) → suc j ≡ 0 → ⊥
      not-zero j e = omega arith

  -- the first group's frame, and those of the groups after it
  frames-part : (dimension_of kind ≡ 0 → ⊥) → frames_allowed (groups_of kind p q) numbers ≡ (frame_allowed d numbers && frames_allowed (later_groups kind q) (drop (d * d) numbers))
  unfolding frames_allowed
  frames-part =
      by_kind
      (λ k. (dimension_of k ≡ 0 → ⊥)
      → frames_allowed (groups_of k p q) numbers
      ≡ (frame_allowed (suc (dimension_of k)) numbers && frames_allowed (later_groups k q) (drop (suc (dimension_of k) * suc (dimension_of k)) numbers)))
      (λ some. absurd (some refl)) (λ some. refl) (λ some. refl) (λ some. refl) (λ k some. absurd (some refl)) kind

  module _ (some : dimension_of kind ≡ 0 → ⊥) where
    pub first_out : frame_allowed d numbers ≡ false → false ≡ frames_allowed (groups_of kind p q) numbers
    first_out h = sym (frames-part some ∙ ap (λ b. b && frames_allowed (later_groups kind q) (drop (d * d) numbers)) h)

    module _ (first : frame_allowed d numbers ≡ true) where
      passed : frames_allowed (groups_of kind p q) numbers ≡ frames_allowed (later_groups kind q) (drop (d * d) numbers)
      passed = frames-part some ∙ ap (λ b. b && frames_allowed (later_groups kind q) (drop (d * d) numbers)) first

      pub no_other : later_dimension kind ≡ 0 → true ≡ frames_allowed (groups_of kind p q) numbers
      unfolding frames_allowed
      no_other none = sym (passed ∙ ap (λ gs. frames_allowed gs (drop (d * d) numbers)) (later-none kind q none))

      pub other-by : (later_dimension kind ≡ 0 → ⊥) → frame_allowed (suc (later_dimension kind)) (drop (d * d) numbers) ≡ frames_allowed (groups_of kind p q) numbers
      unfolding frames_allowed
      other-by more =
          sym
          (passed
          ∙ ap (λ gs. frames_allowed gs (drop (d * d) numbers)) (later-one kind q more)
          ∙ and_one (frame_allowed (suc (later_dimension kind)) (drop (d * d) numbers)))
