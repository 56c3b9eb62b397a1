-- Projections (docs/SPECIFICATION.md, 'Projection'): what a found point (x, y, z, w) is projected to, and the number and the values of each case of the answer.
use Rattle.std.specs.Prelude.{ℕ, ◌≡◌, Bool, true, false, not, ◌&&◌, cond, List, [], ◌∷◌, map, eqb, ℤ, pos, negsuc, neg_ℤ, nat_abs, ◌*ℤ◌, Float}
use Rattle.std.specs.Int.Signed.{quot_z}
use Rattle.std.specs.Float.{fin, binary64}
use Rattle.std.specs.Float.Ieee.{of_int, div, to_bits}
use Rattle.integers.specs.Test.{within}
use Rattle.projection.specs.Gcd.{gcd}
use Rattle.projection.specs.declared.Four as declared
use Rattle.projection.specs.declared.Coords.{Coords}
use Rattle.projection.specs.declared.ReducedVector.{ReducedVector}
use Rattle.projection.specs.declared.Projection.{Projection}
use Rattle.projection.specs.declared.Projection.TheVariants.{Finite, Direction, Nowhere, OutOfRange}

-- ---- range

-- 2 to the 48th: the largest absolute value of a component in range
abbrev pub limit : ℕ
limit = 281474976710656

-- a component is "in range"
abbrev pub in_range : ℤ → Bool
in_range v = within limit v

-- each of the four is
abbrev pub all_in_range : ℤ → ℤ → ℤ → ℤ → Bool
all_in_range x y z w = in_range x && in_range y && in_range z && in_range w

-- ---- zero and sign

abbrev pub is_zero : ℤ → Bool
is_zero v = eqb (nat_abs v) 0

abbrev pub all_zero : ℤ → ℤ → ℤ → Bool
all_zero x y z = is_zero x && is_zero y && is_zero z

abbrev pub is_negative : ℤ → Bool
is_negative (pos n) = false
is_negative (negsuc n) = true

abbrev pub is_positive : ℤ → Bool
is_positive v = not (is_negative v) && not (is_zero v)

-- of three numbers the first that is not 0, and the last where all are 0
abbrev pub first_nonzero : ℤ → ℤ → ℤ → ℤ
first_nonzero x y z = cond (is_zero x) (cond (is_zero y) z y) x

-- ---- the finite case

abbrev pub positive_zero : Float
positive_zero = fin false 0 (pos 0)

-- A coordinate of a finite point: the component over w, both converted without loss, divided once; a component 0 gives +0 whatever w's sign.
-- Within the range the conversion is exact: `ExactlyConverted` in Conversion.antt says so.
unfoldable pub quotient_of : ℤ → ℤ → Float
unfolding of_int div
quotient_of v w = cond (is_zero v) positive_zero (div binary64 (of_int binary64 v) (of_int binary64 w))

-- the "finite point"
unfoldable pub coords_of : ℤ → ℤ → ℤ → ℤ → Coords
unfolding quotient_of
coords_of x y z w = record { x = quotient_of x w; y = quotient_of y w; z = quotient_of z w }

-- ---- the direction

-- v, or -v where the test passes
abbrev pub negated_if : Bool → ℤ → ℤ
negated_if true v = neg_ℤ v
negated_if false v = v

-- the greatest common divisor of three whole numbers, that of their absolute values
abbrev pub gcd_of : ℤ → ℤ → ℤ → ℕ
gcd_of x y z = gcd (nat_abs x ∷ nat_abs y ∷ nat_abs z ∷ [])

-- The direction: the components reduced by their common divisor, with the sign that makes the first one that is not 0 positive; and the divisor, which is its length.
-- `quot_z` is the library's quotient of two integers. Here it is exact: `Reduced` says so without it.
unfoldable pub direction_of : ℤ → ℤ → ℤ → ReducedVector
unfolding gcd
direction_of x y z =
    let divisor = pos (gcd_of x y z) in
    let negative = is_negative (first_nonzero x y z) in
    record {
      x = negated_if negative (quot_z x divisor);
      y = negated_if negative (quot_z y divisor);
      z = negated_if negative (quot_z z divisor);
      length = divisor;
    }

-- What a direction with its length is to (x, y, z) (request E2)
pub record Reduced (x y z : ℤ) (d : ReducedVector) : Type 0 where
  -- 'the divisor it took out' is positive
  pub length-positive : is_positive d.length ≡ true
  -- 'the products are the old components, up to the sign made positive': all three have one sign, the one that makes the first one that is not 0 positive
  pub products : map (λ v. d.length *ℤ v) (d.x ∷ d.y ∷ d.z ∷ []) ≡ map (negated_if (is_negative (first_nonzero x y z))) (x ∷ y ∷ z ∷ [])
  -- the first of the direction's numbers that is not 0 is positive
  pub first-positive : is_positive (first_nonzero d.x d.y d.z) ≡ true
  -- no divisor is left to be taken out
  pub nothing_left : gcd_of d.x d.y d.z ≡ 1

-- these four sentences fix direction and length: nothing else is a reduction
abbrev pub OneReduction : Type 0
OneReduction = (x y z : ℤ) (d : ReducedVector) → Reduced x y z d → d ≡ direction_of x y z

-- ---- the four cases

-- by three tests: the four numbers are in range, w is 0, and x, y and z are 0
unfoldable pub projection_by : Bool → Bool → Bool → ℤ → ℤ → ℤ → ℤ → Projection
unfolding coords_of direction_of
projection_by false w_zero others_zero x y z w = OutOfRange
projection_by true false others_zero x y z w = Finite (coords_of x y z w)
projection_by true true false x y z w = Direction (direction_of x y z)
projection_by true true true x y z w = Nowhere

-- the projection of a found point
unfoldable pub projection_of : ℤ → ℤ → ℤ → ℤ → Projection
unfolding projection_by
projection_of x y z w = projection_by (all_in_range x y z w) (is_zero w) (all_zero x y z) x y z w

-- ---- four numbers together, and what is projected where they are zeros

-- x, y, z and w of a point
abbrev pub Four : Type 0
Four = declared.Four

abbrev pub four : ℤ → ℤ → ℤ → ℤ → Four
four x y z w = record { x = x; y = y; z = z; w = w }

abbrev pub four_numbers : Four → List ℤ
four_numbers p = p.x ∷ p.y ∷ p.z ∷ p.w ∷ []

abbrev pub FourInRange : Four → Type 0
FourInRange p = all_in_range p.x p.y p.z p.w ≡ true

abbrev pub projection_of_four : Four → Projection
projection_of_four p = projection_of p.x p.y p.z p.w

abbrev pub four_zeros : Four
four_zeros = four (pos 0) (pos 0) (pos 0) (pos 0)

abbrev pub is_four_zeros : Four → Bool
is_four_zeros p = all_zero p.x p.y p.z && is_zero p.w

-- of several fours the first that is not four zeros; four zeros where all are
unfoldable pub first_not_zeros : List Four → Four
first_not_zeros [] = four_zeros
first_not_zeros (p ∷ ps) = cond (is_four_zeros p) (first_not_zeros ps) p

-- 'A direction found so has no length of its own and prints 1 as its fourth number'
abbrev pub without_length : Projection → Projection
without_length (Finite p) = Finite p
without_length (Direction d) = Direction (record { x = d.x; y = d.y; z = d.z; length = pos 1 })
without_length Nowhere = Nowhere
without_length OutOfRange = OutOfRange

-- The projection of a found point by the numbers projected. Where the point is not four zeros these are its
-- own, and it reads as ever; 'found so' is a point of four zeros.
unfoldable pub found_projection : Four → Four → Projection
found_projection point projected = cond (is_four_zeros point) (without_length (projection_of_four projected)) (projection_of_four projected)

-- ---- number and values of each case

-- the table's number: 10 for a component out of range, 0 where nothing is refused
abbrev pub refusal : Projection → ℕ
refusal (Finite p) = 0
refusal (Direction d) = 0
refusal Nowhere = 0
refusal OutOfRange = 10

-- the values of a finite point, x, y, z; the other cases have none
abbrev pub coordinates : Projection → List Float
coordinates (Finite p) = p.x ∷ p.y ∷ p.z ∷ []
coordinates (Direction d) = []
coordinates Nowhere = []
coordinates OutOfRange = []

-- the same as the bit patterns that are printed after `at`
unfoldable pub coordinate_bits : Projection → List ℕ
unfolding to_bits
coordinate_bits p = map (to_bits binary64) (coordinates p)

-- the values of a direction, x, y, z and its length, as they are printed after `far`; the other cases have none
abbrev pub direction_numbers : Projection → List ℤ
direction_numbers (Finite p) = []
direction_numbers (Direction d) = d.x ∷ d.y ∷ d.z ∷ d.length ∷ []
direction_numbers Nowhere = []
direction_numbers OutOfRange = []

-- ---- number and values by the four numbers alone

-- x, y and z over w, where the four are in range and w is not 0; otherwise none
abbrev pub quotients : ℤ → ℤ → ℤ → ℤ → List Float
quotients x y z w = cond (all_in_range x y z w && not (is_zero w)) (quotient_of x w ∷ quotient_of y w ∷ quotient_of z w ∷ []) []

-- the direction's numbers and its length, where the four are in range, w is 0 and another is not; otherwise none
abbrev pub reduced_numbers : ℤ → ℤ → ℤ → ℤ → List ℤ
reduced_numbers x y z w =
    let d = direction_of x y z in
    cond (all_in_range x y z w && is_zero w && not (all_zero x y z)) (d.x ∷ d.y ∷ d.z ∷ d.length ∷ []) []

-- of a direction what its reduction is; the other cases reduce nothing
abbrev pub DirectionReduced : ℤ → ℤ → ℤ → Projection → Type 0
DirectionReduced x y z (Finite p) = Unit {0}
DirectionReduced x y z (Direction d) = Reduced x y z d
DirectionReduced x y z Nowhere = Unit {0}
DirectionReduced x y z OutOfRange = Unit {0}

-- What an answer tells of (x, y, z, w): 10 exactly where a number is out of range, then the quotients and their bit patterns, and the direction with its length, and that these are x, y and z reduced.
-- Where nothing is refused and both lists are empty, the four numbers are 0: nowhere.
abbrev pub Projected : ℤ → ℤ → ℤ → ℤ → Projection → Type 0
Projected x y z w p =
    (refusal p ≡ cond (all_in_range x y z w) 0 10)
    × (coordinates p ≡ quotients x y z w)
    × (coordinate_bits p ≡ map (to_bits binary64) (quotients x y z w))
    × (direction_numbers p ≡ reduced_numbers x y z w)
    × DirectionReduced x y z p
