-- Answers, and machines that go from call to call: each call gets the state that the one before it left.
use Rattle.std.specs.Prelude.{ℕ, zero, suc, List, [], ◌∷◌, ◌++◌, map, ℤ, pos}
use Rattle.projection.specs.Projection.{Four, four_numbers, four_zeros, first_not_zeros, found_projection, coordinate_bits, direction_numbers}
use Rattle.projection.specs.declared.Projection.{Projection}

-- ---- answers

-- The move is taken, or the point is found: its components x, y, z, w, the numbers projected, and their
-- projection. Or the number of the refusal.
pub data Answer : Type 0 where
  Taken : Answer
  Found : Four → Four → Projection → Answer
  Refused : ℕ → Answer

-- four numbers by their place
abbrev pub four_of : (ℕ → ℤ) → Four
four_of p = record { x = p 0; y = p 1; z = p 2; w = p 3 }

-- the answer for a point; `at_zero` are the values of which the first that is not four zeros is projected
-- where the point is four zeros
unfoldable pub found_at : Four → List Four → Answer
found_at point at_zero =
    let projected = first_not_zeros (point ∷ at_zero) in
    Found point projected (found_projection point projected)

-- the table's number, 0 where nothing is refused
abbrev pub refusal_number : Answer → ℕ
refusal_number Taken = 0
refusal_number (Found point projected at) = 0
refusal_number (Refused k) = k

-- the point found, and the numbers projected; zeros where there is none
abbrev pub found_of : Answer → Four
found_of Taken = four_zeros
found_of (Found point projected at) = point
found_of (Refused k) = four_zeros

abbrev pub projected_of : Answer → Four
projected_of Taken = four_zeros
projected_of (Found point projected at) = projected
projected_of (Refused k) = four_zeros

-- what a call writes into lent places: the components of a found point, and then the numbers projected
abbrev pub point_values : Answer → List ℤ
point_values Taken = []
point_values (Found point projected at) = four_numbers point ++ four_numbers projected
point_values (Refused k) = []

-- the values of a projection: the three bit patterns of a finite point, or the three numbers of a direction and its length; nowhere has none
abbrev pub projection_values : Projection → List ℤ
projection_values p = map pos (coordinate_bits p) ++ direction_numbers p

-- the values of an answer: those of a found point, and then its projection's
abbrev pub answer_values : Answer → List ℤ
answer_values Taken = []
answer_values (Found point projected at) = (four_numbers point ++ four_numbers projected) ++ projection_values at
answer_values (Refused k) = []

-- ---- steps

-- what a call answers, and the state that it leaves
pub record Step (A S : Type 0) : Type 0 where
  pub answer : A
  pub left : S

-- by the refusal's number: a refused call answers the number and changes nothing
unfoldable pub step_by : {S : Type 0} → ℕ → S → Step Answer S → Step Answer S
step_by zero state accepted = accepted
step_by (suc k) state accepted = record { answer = Refused (suc k); left = state }

-- ---- lists of calls

-- the state after them
unfoldable pub after : {C A S : Type 0} → (S → C → Step A S) → S → List C → S
after step state [] = state
after step state (c ∷ cs) = after step (step state c).left cs

-- the answers to them
unfoldable pub answers : {C A S : Type 0} → (S → C → Step A S) → S → List C → List A
answers step state [] = []
answers step state (c ∷ cs) = (step state c).answer ∷ answers step (step state c).left cs
