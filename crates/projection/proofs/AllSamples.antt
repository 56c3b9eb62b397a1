-- Samples of a projection, and one at each edge: a definition of closed numbers computes, so each holds by
-- reflexivity; and coordinates that are not near, so that the bound says something of each of the three.
use Prim.Native.Nat.{ℕ, ◌^◌}
use native.Mathlib.Nat as NatL
use mathlib.Core.Path.{◌≡◌, refl}
use mathlib.Core.Bool.{false}
use mathlib.Core.List.{[], ◌∷◌}
use lib.Dec.{lit<}
use lib.IntN.{ℤ, pos, negsuc, neg_ℤ}
use lib.Ieee.{Float, fin}
use Rattle.projection.specs.Accuracy.{WithinPart, parts, Accurate, AccuratePoint}
use Rattle.projection.specs.Floats.{shown_whole, shown_exponent}
use Rattle.projection.specs.Projection.{limit, projection_of, refusal, coordinate_bits, direction_numbers, Four, four, four_zeros, first_not_zeros, projection_of_four, found_projection}
use Rattle.projection.specs.declared.Projection.TheVariants.{Finite, Nowhere}

-- B7: the folium's point -9 9 0 0 is the direction 1 -1 0 with length 9
pub folium : direction_numbers (projection_of (negsuc 8) (pos 9) (pos 0) (pos 0)) ≡ pos 1 ∷ negsuc 0 ∷ pos 0 ∷ pos 9 ∷ []
unfolding projection_of
folium = refl

-- the circle's point 6 8 0 10, as its output has it
pub circle : coordinate_bits (projection_of (pos 6) (pos 8) (pos 0) (pos 10)) ≡ 0x3fe3333333333333 ∷ 0x3fe999999999999a ∷ 0 ∷ []
unfolding projection_of coordinate_bits
circle = refl

-- zero over a negative weight is positive zero: 0 0 5 -10
pub zero-numerator : coordinate_bits (projection_of (pos 0) (pos 0) (pos 5) (negsuc 9)) ≡ 0 ∷ 0 ∷ 0xbfe0000000000000 ∷ []
unfolding projection_of coordinate_bits
zero-numerator = refl

-- the limit itself is in range, and one more is not
pub at-the-limit : refusal (projection_of (neg_ℤ (pos limit)) (pos limit) (pos 0) (pos limit)) ≡ 0
unfolding projection_of
at-the-limit = refl

pub past-the-limit : refusal (projection_of (pos 0) (pos 0) (pos 0) (negsuc limit)) ≡ 10
unfolding projection_of
past-the-limit = refl

-- the largest length is the limit
pub longest : direction_numbers (projection_of (pos 0) (neg_ℤ (pos limit)) (pos limit) (pos 0)) ≡ pos 0 ∷ pos 1 ∷ negsuc 0 ∷ pos limit ∷ []
unfolding projection_of
longest = refl

-- a direction found at a common zero has no length of its own; elsewhere it has
pub no_length : direction_numbers (found_projection four_zeros (four (pos 4) (negsuc 5) (pos 0) (pos 0))) ≡ pos 2 ∷ negsuc 2 ∷ pos 0 ∷ pos 1 ∷ []
unfolding found_projection projection_of
no_length = refl

pub own-length : direction_numbers (found_projection (four (pos 4) (negsuc 5) (pos 0) (pos 0)) (four (pos 4) (negsuc 5) (pos 0) (pos 0))) ≡ pos 2 ∷ negsuc 2 ∷ pos 0 ∷ pos 2 ∷ []
unfolding found_projection projection_of
own-length = refl

-- of several fours the first that is not four zeros, by whichever component that is; where there is none,
-- four zeros
pub first-by-x : first_not_zeros (four_zeros ∷ four (pos 1) (pos 0) (pos 0) (pos 0) ∷ four (pos 2) (pos 3) (pos 4) (pos 5) ∷ []) ≡ four (pos 1) (pos 0) (pos 0) (pos 0)
unfolding first_not_zeros
first-by-x = refl

pub first-by-y : first_not_zeros (four (pos 0) (negsuc 0) (pos 0) (pos 0) ∷ four (pos 2) (pos 3) (pos 4) (pos 5) ∷ []) ≡ four (pos 0) (negsuc 0) (pos 0) (pos 0)
unfolding first_not_zeros
first-by-y = refl

pub first-by-z : first_not_zeros (four (pos 0) (pos 0) (pos 1) (pos 0) ∷ four (pos 2) (pos 3) (pos 4) (pos 5) ∷ []) ≡ four (pos 0) (pos 0) (pos 1) (pos 0)
unfolding first_not_zeros
first-by-z = refl

pub first-by-w : first_not_zeros (four (pos 0) (pos 0) (pos 0) (negsuc 0) ∷ four (pos 2) (pos 3) (pos 4) (pos 5) ∷ []) ≡ four (pos 0) (pos 0) (pos 0) (negsuc 0)
unfolding first_not_zeros
first-by-w = refl

pub none-but-zeros : first_not_zeros (four_zeros ∷ four_zeros ∷ []) ≡ four_zeros
unfolding first_not_zeros
none-but-zeros = refl

-- 'four bare zeros handed in without a net' are nowhere
pub bare-zeros : projection_of_four four_zeros ≡ Nowhere
unfolding projection_of
bare-zeros = refl

-- ---- how near a coordinate is (request E13)

abbrev Shown : ℕ → ℤ → ℤ → Type 0
Shown b n e = (shown_whole b ≡ n) × (shown_exponent b ≡ e)

-- 1 ÷ 3 is 6004799503160661 × 2^-54, and its negation has the sign bit besides
pub third : coordinate_bits (projection_of (pos 1) (negsuc 0) (pos 0) (pos 3))
    ≡ 0x3fd5555555555555 ∷ 0xbfd5555555555555 ∷ 0 ∷ []
unfolding projection_of coordinate_bits
third = refl

pub third-shown : Shown 0x3fd5555555555555 (pos 6004799503160661) (negsuc 53)
third-shown = (refl, refl)

pub negative-shown : Shown 0xbfd5555555555555 (neg_ℤ (pos 6004799503160661)) (negsuc 53)
negative-shown = (refl, refl)

-- with an exponent's field of 0 there is no one before the digits, and the exponent is that of a field of 1
pub least-shown : Shown 1 (pos 1) (negsuc 1073)
least-shown = (refl, refl)

pub least-normal-shown : Shown 0x0010000000000000 (pos (2 ^ 52)) (negsuc 1073)
least-normal-shown = (refl, refl)

-- 3 ÷ 5 is 5404319552844595 × 2^-53. Neither of its neighbours is near, nor its negation; of 0 only 0 is.
pub neighbour-above : WithinPart parts (pos 3) (pos 5) (pos 5404319552844596) (negsuc 52) → ⊥
neighbour-above = NatL.not-le_of_lt (lit< tt)

pub neighbour-below : WithinPart parts (pos 3) (pos 5) (pos 5404319552844594) (negsuc 52) → ⊥
neighbour-below = NatL.not-le_of_lt (lit< tt)

pub other_sign : WithinPart parts (pos 3) (pos 5) (neg_ℤ (pos 5404319552844595)) (negsuc 52) → ⊥
other_sign = NatL.not-le_of_lt (lit< tt)

pub not-zero : WithinPart parts (pos 0) (negsuc 4) (pos 1) (negsuc 1073) → ⊥
not-zero = NatL.not-le_of_lt (lit< tt)

-- a point of which one coordinate is such a neighbour is not accurate, whichever it is
abbrev pub fifths : Four
fifths = four (pos 3) (pos 3) (pos 3) (pos 5)

abbrev pub right : Float
right = fin false 5404319552844595 (negsuc 52)

abbrev pub wrong : Float
wrong = fin false 1351079888211149 (negsuc 50)

far : Accurate (pos 3) (pos 5) wrong → ⊥
far a = NatL.not-le_of_lt (lit< tt) (a.near (pos 1351079888211149) (negsuc 50) refl)

pub wrong-x : AccuratePoint fifths (Finite (record { x = wrong; y = right; z = right })) → ⊥
wrong-x h = far h.0

pub wrong-y : AccuratePoint fifths (Finite (record { x = right; y = wrong; z = right })) → ⊥
wrong-y h = far h.1

pub wrong-z : AccuratePoint fifths (Finite (record { x = right; y = right; z = wrong })) → ⊥
wrong-z h = far h.2
