-- Demand 3 (docs/SPECIFICATION.md, 'The three demands') carried to what callers call: any list of exported moves and points on the places in which gadwemosh_open or gadwemosh_first left a first net.
use Rattle.std.specs.Prelude.{ℕ, ◌≤◌, ◌≡◌, List, [], map, ℤ, length, take}
use Rattle.projection.specs.Projection.{Four}
use Rattle.projection.specs.declared.Projection.{Projection}
use Rattle.kinds.specs.Frames.{Frames}
use Rattle.machine.specs.Steps.{Found, after}
use Rattle.machine.specs.Comparison.{Polynomials, machine_step}
use Rattle.machine.specs.Lent.{polynomials_from, made_number, made_places, call_places, call_found}
use Rattle.machine.specs.Carried.{LentCall, lent_step, SameNet, lent_frames, LentGuaranteed}
use Rattle.opening.specs.Opening.{polynomials_in, numbers_in, opened_in, places_in}
use Rattle.gadwemosh.specs.Calls.{move_call, point_call}
use Rattle.gadwemosh.specs.Projections.{projection_returned, found_returned}

-- ---- first nets

-- A first net that a caller has, by the call that gave it and answered 0: of gadwemosh_open with any bytes,
-- or of gadwemosh_first. `lent` is what stood in the net's places before.
pub data Start : Type 0 where
  opened : (input : List ℕ) (lent : List ℤ) → (opened_in input lent).refusal.number ≡ 0 → Start
  made : (kind degree second : ℕ) (frame coefficients lent : List ℤ)
      → made_number kind degree second frame coefficients lent ≡ 0 → Start

-- its polynomials and the numbers of its frame
abbrev pub start_polynomials : Start → Polynomials
start_polynomials (opened input lent none) = polynomials_in input
start_polynomials (made kind degree second frame coefficients lent none) =
    polynomials_from kind degree second coefficients

abbrev pub start_numbers : Start → List ℤ
start_numbers (opened input lent none) = numbers_in input
start_numbers (made kind degree second frame coefficients lent none) = take 9 frame

-- its places before the call and after it
abbrev pub start_lent : Start → List ℤ
start_lent (opened input lent none) = lent
start_lent (made kind degree second frame coefficients lent none) = lent

abbrev pub start_places : Start → List ℤ
start_places (opened input lent none) = places_in input lent
start_places (made kind degree second frame coefficients lent none) =
    made_places kind degree second frame coefficients lent

-- ---- calls on them

-- a call of gadwemosh_move or of gadwemosh_point, by its arguments other than the net; a point has places lent for its numbers
pub data Exported : Type 0 where
  move : (operation vertex : ℕ) (r s t u : ℤ) → Exported
  point : (r s t u : ℤ) (found : List ℤ) → Exported

abbrev pub lent_call : Exported → LentCall
lent_call (move operation vertex r s t u) = record { call = move_call operation vertex r s t u; found = [] }
lent_call (point r s t u found) = record { call = point_call r s t u; found = found }

-- the places after calls, and the comparison machine's frames after them
abbrev pub places_reached : Start → List Exported → List ℤ
places_reached start calls = after lent_step (start_places start) (map lent_call calls)

abbrev pub machine_frames : Start → List Exported → Frames
machine_frames start calls = lent_frames (start_polynomials start) (start_numbers start) (map lent_call calls)

-- ---- what is guaranteed of a list of exported calls on a first net

pub record ExportedGuaranteed (start : Start) (calls : List Exported) : Type 0 where
  -- the net in the places, what came back from every call, which further call is refused for size, and all
  -- other places are as on any lent places
  pub guaranteed : LentGuaranteed (start_polynomials start) (start_numbers start) (start_lent start)
      (start_places start) (map lent_call calls)
  -- 'two lists that reach the same frame leave the same net, and every further list gets the same answers
  -- after the one as after the other': also where another caller has opened the record in places of his own,
  -- or has made a first net of its polynomials
  pub same : (theirs : Start) → start_polynomials theirs ≡ start_polynomials start
      → (their_calls : List Exported) → machine_frames theirs their_calls ≡ machine_frames start calls
      → SameNet (start_polynomials start) (places_reached theirs their_calls) (places_reached start calls)
  -- a further point leaves every place, as gadwemosh_point does, which is lent the net to be read
  pub point_keeps : (r s t u : ℤ) (found : List ℤ)
      → call_places (point_call r s t u) (places_reached start calls) found ≡ places_reached start calls
  -- of a further point that the comparison machine finds, in places enough for its numbers,
  -- gadwemosh_project_found, lent these places, gives back number, outcome and places by the machine's
  -- projection
  pub projected : (r s t u : ℤ) (found : List ℤ) (bits : List ℕ) (direction : List ℤ)
      {point projected : Four} {at : Projection}
      → (machine_step (start_polynomials start) (machine_frames start calls) (point_call r s t u)).answer
      ≡ Found point projected at
      → 8 ≤ length found
      → found_returned (call_found (point_call r s t u) (places_reached start calls) found) bits direction
      ≡ projection_returned at bits direction

abbrev pub Demand3Exported : Type 0
Demand3Exported = (start : Start) (calls : List Exported) → ExportedGuaranteed start calls
