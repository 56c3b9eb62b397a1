-- Demand 3 carried to the callers: any list of calls on lent places in which a first net was made.
use Rattle.std.specs.Prelude.{ℕ, zero, suc, ◌+◌, ◌≡◌, true, cond, ◌↔◌, ℤ, pos, get_or, take, drop}
use mathlib.Core.List.{List, ◌++◌, map, zip_with}
use lib.Seq.{slice}
use Rattle.entries.specs.Entries.{number_count}
use Rattle.projection.specs.Projection.{Four, found_projection}
use Rattle.machine.specs.Refusals.{all_pass}
use Rattle.machine.specs.Steps.{Answer, Taken, Found, Refused, point_values, Step, after, answers}
use Rattle.machine.specs.Comparison.{Polynomials, groups, net_over, machine_before, machine_step}
use Rattle.machine.specs.First.{first_net, first_refusal}
use Rattle.kinds.specs.Frames.{Frames, frame_count, frames_of}
use Rattle.machine.specs.Demand3.{Beyond, frames_reached}
use Rattle.machine.specs.Lent.{net_at, put_at, put_net, enough_places, polynomials_from, made_number}
use Rattle.machine.specs.Lent.{made_places, room, call_number, call_places, call_found}
use Rattle.machine.specs.declared.Call.{Call}
use Rattle.machine.specs.declared.Call.TheVariants.{Move, Point}

-- a call as it is made: its arguments other than the net, and the places lent for a point's numbers
pub record LentCall : Type 0 where
  pub call : Call
  pub found : List ℤ

-- what comes back: the answer, and what then stands in the places lent for a point's numbers
pub record Returned : Type 0 where
  pub answer : Answer
  pub found : List ℤ

-- four numbers in lent places
abbrev pub four_at : ℕ → List ℤ → Four
four_at at found = record { x = get_or found at (pos 0); y = get_or found (1 + at) (pos 0); z = get_or found (2 + at) (pos 0); w = get_or found (3 + at) (pos 0) }

-- The answer as the caller has it: by the number returned, and of a point by the eight numbers in its places
-- and what the projection tells of them.
unfoldable pub answer_by : ℕ → Call → List ℤ → Answer
answer_by (suc k) call found = Refused (suc k)
answer_by zero (Move operation vertex weights) found = Taken
answer_by zero (Point weights) found = Found (four_at 0 found) (four_at 4 found) (found_projection (four_at 0 found) (four_at 4 found))

-- the step that the functions make on lent places
unfoldable pub lent_step : List ℤ → LentCall → Step Returned (List ℤ)
lent_step lent c =
    let found = call_found c.call lent c.found in
    record {
      answer = record { answer = answer_by (call_number c.call lent c.found) c.call found; found = found };
      left = call_places c.call lent c.found;
    }

-- what has to come back where the comparison machine answers so: 11 where the point's numbers have no room, else its answer, with the point's numbers in the places
unfoldable pub expected : LentCall → Answer → Returned
expected c answer =
    cond (room c.call c.found)
    (record { answer = answer; found = put_at 0 (point_values answer) c.found })
    (record { answer = Refused 11; found = c.found })

-- the places of a net: kind, degrees, the frame's numbers, the entries, and the largest component
abbrev pub net_places : Polynomials → List ℤ → List ℤ
net_places f lent =
    take (3 + frame_count (groups f)) lent
    ++ (slice 12 (12 + number_count (groups f)) lent ++ slice 192 193 lent)

-- the places that are not a net's: those of the nine past the frame's numbers, those past the entries, and the caller's
abbrev pub other_places : Polynomials → List ℤ → List ℤ
other_places f lent = slice (3 + frame_count (groups f)) 12 lent ++ (slice (12 + number_count (groups f)) 192 lent ++ drop 193 lent)

-- in the places stands the first net of f over the numbers' frames, which were accepted; `lent` is what stood
-- there before
pub record FirstNetIn (f : Polynomials) (numbers lent places : List ℤ) : Type 0 where
  pub accepted : first_refusal f numbers ≡ 0
  pub enough : enough_places lent ≡ true
  pub written : places ≡ put_net (first_net f numbers) lent

-- what two runs of places have in common that hold the same net of f
pub record SameNet (f : Polynomials) (one two : List ℤ) : Type 0 where
  -- 'the nets left are the same', and in the places of a net stand the same numbers
  pub nets : net_at one ≡ net_at two
  pub places : net_places f one ≡ net_places f two
  -- 'every further list gets the same answers after the one as after the other': all that comes back
  pub further : (more : List LentCall) → answers lent_step one more ≡ answers lent_step two more

-- the comparison machine's frames after calls
abbrev pub lent_frames : Polynomials → List ℤ → List LentCall → Frames
lent_frames f numbers calls = frames_reached f numbers (map (λ c. c.call) calls)

-- What is guaranteed of a list of calls on places where the first net of f over the numbers' frames was made; `lent` is what stood there before.
pub record LentGuaranteed (f : Polynomials) (numbers lent places : List ℤ) (calls : List LentCall) : Type 0 where
  -- the net in the places carries the frames that the accepted moves give, its entries are the scaled polar values over them, and it stores the largest component of these
  pub net : net_at (after lent_step places calls) ≡ net_over f (lent_frames f numbers calls)
  -- what came back from every call is the comparison machine's answer: its number, its point, and the point's projection
  pub returned : answers lent_step places calls ≡ zip_with expected calls (answers (machine_step f) (frames_of (groups f) numbers) (map (λ c. c.call) calls))
  -- a further move or point that is otherwise in order, a point with room for its numbers, is answered with
  -- 10 exactly when one of its named polar values has a component beyond 2 to the 48th
  pub sized : (c : LentCall) → room c.call c.found ≡ true
      → all_pass (machine_before f (lent_frames f numbers calls) c.call) ≡ true
      → (call_number c.call (after lent_step places calls) c.found ≡ 10)
      ↔ Beyond f (lent_frames f numbers calls) c.call
  -- another list that reaches the same frames leaves the same net, on these places or on another caller's,
  -- where a first net of f stood over whatever frames
  pub same : (their_numbers their_lent their_places : List ℤ) → FirstNetIn f their_numbers their_lent their_places
      → (their_calls : List LentCall) → lent_frames f their_numbers their_calls ≡ lent_frames f numbers calls
      → SameNet f (after lent_step their_places their_calls) (after lent_step places calls)
  -- all other places hold what they held before
  pub kept : other_places f (after lent_step places calls) ≡ other_places f lent

abbrev pub Demand3Lent : Type 0
Demand3Lent =
    (kind degree second : ℕ) (frame coefficients lent : List ℤ) → made_number kind degree second frame coefficients lent ≡ 0 → (calls : List LentCall)
    → LentGuaranteed (polynomials_from kind degree second coefficients) (take 9 frame) lent (made_places kind degree second frame coefficients lent) calls
