-- The table of fields (docs/RECORDS.md, 'The bytes'): the slots in their order, what may stand in each, and a row for each field: its tag byte, its lengths and the
-- tests of its value with their refusals. What a kind is and which frames it accepts is said in kinds' specs; here stand only the places of their bytes.
use Rattle.std.specs.Prelude.{ℕ, ◌+◌, ◌*◌, ◌%◌, Bool, true, false, ◌&&◌, ◌||◌, List, [], ◌∷◌, length, get_or, eqb, leb}
use Rattle.integers.specs.Test.{within, all}
use Rattle.polar.specs.Groups.{Group, monomials_over}
use Rattle.kinds.specs.Kinds.{groups_of, known}
use Rattle.kinds.specs.Frames.{vertex_count, frame_count, frames_allowed}
use Rattle.machine.specs.Refusals.{Test, ◌else◌}
use Rattle.machine.specs.Comparison.{Polynomials}
use Rattle.decoding.specs.Numbers.{frame_numbers, coefficients_of}
use Rattle.kinds.specs.Heads.{head_groups}
use Rattle.kinds.specs.declared.Head.{Head}
use Rattle.records.specs.declared.Slot.{Slot}
use Rattle.records.specs.declared.Slot.TheVariants.{KindSlot, FrameSlot, CoefficientsSlot, MovesSlot, PointSlot}
use Rattle.records.specs.declared.Tag.{Tag}
use Rattle.records.specs.declared.Tag.TheVariants.{Kind, Frame, Coefficients, Moves, Point}

-- ---- the slots, in the order in which fields come: 'tags rise'

abbrev pub slots : List Slot
slots = KindSlot ∷ FrameSlot ∷ CoefficientsSlot ∷ MovesSlot ∷ PointSlot ∷ []

-- the field that a slot is for
abbrev pub tag_of : Slot → Tag
tag_of KindSlot = Kind
tag_of FrameSlot = Frame
tag_of CoefficientsSlot = Coefficients
tag_of MovesSlot = Moves
tag_of PointSlot = Point

-- the fields that may stand in a slot, one of them in each record: as yet none stands in place of another
abbrev pub tags_in : Slot → List Tag
tags_in slot = tag_of slot ∷ []

-- 'Tags 1, 2, 3 are required, 4 and 5 may be absent'
abbrev pub required : Slot → Bool
required KindSlot = true
required FrameSlot = true
required CoefficientsSlot = true
required MovesSlot = false
required PointSlot = false

-- ---- lengths and numbers, by what field 1 says

-- what its value says: the kind, a degree and another, which is 0 where it is not there
abbrev pub head_in : List ℕ → Head
head_in value = record { kind = get_or value 0 0; degree = get_or value 1 0; second = get_or value 2 0 }

-- 1 byte for the kind, and 1 for the degree of each group
abbrev pub head_length : List Group → ℕ
head_length gs = 1 + length gs

-- the kind is one and has the degrees, and there is a degree for each of its groups and no more: 'a kind that disagrees with its length is 4'
abbrev pub head_allowed : List ℕ → Bool
head_allowed value =
    let h = head_in value in
    known h.kind h.degree h.second && eqb (length value) (head_length (head_groups h))

-- 2 bytes for each number of a frame
abbrev pub frame_length : List Group → ℕ
frame_length gs = 2 * frame_count gs

-- four coefficients x, y, z, w for each monomial, 4 bytes for each of them
abbrev pub coefficient_count : List Group → ℕ
coefficient_count gs = 4 * length (monomials_over gs)

abbrev pub coefficients_length : List Group → ℕ
coefficients_length gs = 16 * length (monomials_over gs)

-- whole moves of 8 bytes each, none up to 32 of them
abbrev pub moves_length_allowed : ℕ → Bool
moves_length_allowed n = eqb (n % 8) 0 && leb n 256

-- 2 bytes for the weight of each vertex
abbrev pub point_length : List Group → ℕ
point_length gs = 2 * vertex_count gs

-- the polynomials of a part that begins with field 3's value
abbrev pub polynomials_of : ℕ → ℕ → ℕ → List ℕ → Polynomials
polynomials_of kind degree second part =
    record { kind = kind; degree = degree; second = second; coefficients = coefficients_of part (coefficient_count (groups_of kind degree second)) }

-- ---- the rows

-- The tag byte; which lengths are allowed, and what is tested of a value of such a length, both by what field 1 says.
pub record FieldRow : Type 0 where
  pub byte : ℕ
  pub length_allowed : Head → ℕ → Bool
  pub tests : Head → List ℕ → List Test

abbrev pub field_row : Tag → FieldRow
-- 'kind byte (1 curve, 2 patch), degree byte', or 3 bytes, 'kind, p, q; lengths 2 and 3 both pass'; 'kind or degree outside' is 4
field_row Kind =
    record {
      byte = 1;
      length_allowed = λ h n. eqb n 2 || eqb n 3;
      tests = λ h value. head_allowed value else 4 ∷ [];
    }
-- 'r, s (, t), each as T, Z or U, V, Z, 16-bit signed', or 'r1, s1, r2, s2'; 'frame number outside, or determinant 0' is 5
field_row Frame =
    record {
      byte = 2;
      length_allowed = λ h n. eqb n (frame_length (head_groups h));
      tests = λ h value. frames_allowed (head_groups h) (frame_numbers value) else 5 ∷ [];
    }
-- 'x, y, z, w of each [monomial], 32-bit signed'; 'coefficient outside' is 6
field_row Coefficients =
    record {
      byte = 3;
      length_allowed = λ h n. eqb n (coefficients_length (head_groups h));
      tests = λ h value. all (within 1048576) (polynomials_of h.kind h.degree h.second value).coefficients else 6 ∷ [];
    }
-- 'operation byte, vertex byte, three 16-bit weights', of each move; 'A record's moves and point are judged when made, not when read'
field_row Moves = record { byte = 4; length_allowed = λ h n. moves_length_allowed n; tests = λ h value. [] }
-- 'weights of a point, 16-bit signed'
field_row Point = record { byte = 5; length_allowed = λ h n. eqb n (point_length (head_groups h)); tests = λ h value. [] }
