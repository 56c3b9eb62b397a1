-- A projection for callers who have no enum: a number of the table or 0, which case it is, and its values in
-- places that the caller lends.
use Rattle.std.specs.Prelude.{ℕ, ◌≡◌, ◌&&◌, cond, List, leb, ℤ, length, get_or}
use Rattle.projection.specs.Projection.{Four, refusal, coordinate_bits, direction_numbers, found_projection}
use Rattle.projection.specs.Accuracy.{AccurateBits}
use Rattle.projection.specs.declared.Projection.{Projection}
use Rattle.projection.specs.declared.Projection.TheVariants.{Finite, Direction, Nowhere, OutOfRange}
use Rattle.machine.specs.Lent.{put_at}
use Rattle.machine.specs.Carried.{four_at}

-- the outcome, a number for the case, as include/gadwemosh.h has it: 1 'a finite point', 2 'a direction',
-- 3 'nowhere'; 0 where the four numbers are refused
abbrev pub outcome_of : Projection → ℕ
outcome_of (Finite p) = 1
outcome_of (Direction d) = 2
outcome_of Nowhere = 3
outcome_of OutOfRange = 0

-- what comes back: the number of the refusal or 0, the outcome, and what then stands in the places lent for
-- bit patterns and for a direction
pub record ProjectionReturned : Type 0 where
  pub number : ℕ
  pub outcome : ℕ
  pub bits : List ℕ
  pub direction : List ℤ

-- with room: a finite point's three bit patterns are put into the ones, a direction's three numbers and its length into the others, and all other places stay
abbrev pub projection_with_room : Projection → List ℕ → List ℤ → ProjectionReturned
projection_with_room p bits direction =
    record {
      number = refusal p;
      outcome = outcome_of p;
      bits = put_at 0 (coordinate_bits p) bits;
      direction = put_at 0 (direction_numbers p) direction;
    }

-- 'output buffer shorter', than 3 places for bit patterns or 4 for a direction: 11, and no place is written;
-- the outcome, which is no place of a buffer, is 0 beside it as beside 10
abbrev pub projection_without_room : List ℕ → List ℤ → ProjectionReturned
projection_without_room bits direction = record { number = 11; outcome = 0; bits = bits; direction = direction }

unfoldable pub projection_returned : Projection → List ℕ → List ℤ → ProjectionReturned
projection_returned p bits direction = cond (leb 3 (length bits) && leb 4 (length direction)) (projection_with_room p bits direction) (projection_without_room bits direction)

-- of what gadwemosh_point found, by the eight numbers in its places; where there are not eight it is 11 too
unfoldable pub found_returned : List ℤ → List ℕ → List ℤ → ProjectionReturned
found_returned found bits direction =
    cond (leb 8 (length found))
    (projection_returned (found_projection (four_at 0 found) (four_at 4 found)) bits direction)
    (projection_without_room bits direction)

-- 'each coordinate … at most that quotient's absolute value ÷ 2 to the 53rd' (request E13), of the three bit
-- patterns of a finite point, outcome 1, in their places; p are the numbers projected
abbrev pub AccuratePatterns : Four → ℕ → List ℕ → Type 0
AccuratePatterns p outcome bits =
    outcome ≡ 1
    → AccurateBits p.x p.w (get_or bits 0 0)
    × AccurateBits p.y p.w (get_or bits 1 0)
    × AccurateBits p.z p.w (get_or bits 2 0)

-- of a found point, by the second four of its eight numbers
abbrev pub AccurateFound : List ℤ → ℕ → List ℕ → Type 0
AccurateFound found = AccuratePatterns (four_at 4 found)
