-- The table of refusals (docs/SPECIFICATION.md, 'Refusals'), rows 1 to 6, as propositions about any bytes:
-- where a field begins, and what is wrong there. `EachCause` says both ways what they have to do with the
-- reading; proofs/Causes.antt proves it.
use Rattle.std.specs.Prelude.{ℕ, suc, ◌+◌, ◌≤◌, ◌<◌, ◌≡◌, ◌⊎◌, ◌↔◌, Bool, true, false, not, ◌&&◌, ◌||◌, List, [], ◌∷◌, length, get_or, drop, Some, None}
use Rattle.integers.specs.Test.{within, all}
use Rattle.polar.specs.Groups.{Group}
use Rattle.kinds.specs.Kinds.{groups_of, known}
use Rattle.kinds.specs.Frames.{frames_allowed}
use Rattle.machine.specs.Refusals.{first_failed}
use Rattle.decoding.specs.Numbers.{frame_numbers}
use Rattle.records.specs.Table.{slots, tags_in, required, head_length, frame_length, coefficients_length, point_length, moves_length_allowed, polynomials_of, field_row}
use Rattle.records.specs.Reading.{bytes_left, length_at, bytes_at, head_of, field_number, tag_among, is_tag, standing, extent_in, bytes_of, Inside, reading_of}
use Rattle.records.specs.declared.Slot.{Slot}
use Rattle.records.specs.declared.Tag.{Tag}
use Rattle.records.specs.declared.Layout.{Layout}
use Rattle.records.specs.Reading.{Fields, Refused}

-- A field may begin at the offset: the fields before it are as they should be, and these slots have not had
-- their turn yet.
pub data Begins (s : List ℕ) : List Slot → ℕ → Type 0 where
  first : Begins s slots 0
  after : {slot : Slot} {rest : List Slot} {tag : Tag} {at : ℕ} → Begins s (slot ∷ rest) at → standing slot s at ≡ Some tag
      → field_number tag (head_of s) s at ≡ 0 → Begins s rest (at + 3 + length_at s at)
  without : {slot : Slot} {rest : List Slot} {at : ℕ} → Begins s (slot ∷ rest) at → standing slot s at ≡ None → required slot ≡ false
      → Begins s rest at

-- a field with a tag that may come next begins at the offset
pub data Comes (s : List ℕ) : Tag → ℕ → Type 0 where
  comes : {slot : Slot} {rest : List Slot} {tag : Tag} {at : ℕ} → Begins s (slot ∷ rest) at → standing slot s at ≡ Some tag → Comes s tag at

-- The byte is a tag that may come next: one of the slots' that are left, with no slot before it that must be
-- filled. Any other byte is no tag, has had its turn, or comes too early.
abbrev pub may_come : List Slot → ℕ → Bool
may_come [] byte = false
may_come (slot ∷ rest) byte = is_tag (tag_among (tags_in slot) byte) || (not (required slot) && may_come rest byte)

-- one of the slots must be filled
abbrev pub any_required : List Slot → Bool
any_required [] = false
any_required (slot ∷ rest) = required slot || any_required rest

-- the causes, each with its number and offset
pub data Caused (s : List ℕ) : ℕ → ℕ → Type 0 where
  -- row 1: a field begins here, and its tag and length are not all there
  cut_field : {rest : List Slot} {at : ℕ} → Begins s rest at → 0 < bytes_left s at → bytes_left s at < 3 → Caused s 1 at
  -- row 1: the length says more bytes than the record still has
  cut_value : {tag : Tag} {at : ℕ} → Comes s tag at → (field_row tag).length_allowed (head_of s) (length_at s at) ≡ true → bytes_left s (at + 3) < length_at s at
      → Caused s 1 at
  -- row 2: the byte is no tag that may come next
  wrong_tag : {rest : List Slot} {at : ℕ} → Begins s rest at → 3 ≤ bytes_left s at → may_come rest (get_or s at 0) ≡ false → Caused s 2 at
  -- row 2: the record is over, and a slot that must be filled has not had its turn
  absent_tag : {rest : List Slot} → Begins s rest (length s) → any_required rest ≡ true → Caused s 2 (length s)
  -- row 3: the field cannot have this length
  wrong_length : {tag : Tag} {at : ℕ} → Comes s tag at → (field_row tag).length_allowed (head_of s) (length_at s at) ≡ false → Caused s 3 at
  -- rows 4, 5 and 6, by the field's own tests: the value is there whole, and the number is that of the first
  -- test that it fails
  wrong_value : {tag : Tag} {at n : ℕ} → Comes s tag at → (field_row tag).length_allowed (head_of s) (length_at s at) ≡ true → length_at s at ≤ bytes_left s (at + 3)
      → first_failed ((field_row tag).tests (head_of s) (bytes_at s at)) ≡ suc n → Caused s (suc n) at

-- The table's verdict on any bytes, a number and the values with it: 0 with kind and degrees where the fields
-- go up to the record's very end, or a row's number with the offset where its cause is there.
pub data TableVerdict (s : List ℕ) : ℕ → List ℕ → Type 0 where
  whole :
      Begins s [] (length s)
      → TableVerdict s 0 ((head_of s).kind ∷ (head_of s).degree ∷ (head_of s).second ∷ [])
  refused : {number offset : ℕ} → Caused s number offset → TableVerdict s number (offset ∷ [])

-- ---- each cause both ways

-- What the causes have to do with the reading of any bytes. `Caused` is the first cause: `Begins` leads to
-- its offset over fields that pass all their tests, and at that offset it is the first test that fails.
pub record EachCause (s : List ℕ) : Type 0 where
  -- refused with this number at this offset exactly if that cause is there
  pub refused :
      (number offset : ℕ)
      → (reading_of s ≡ Refused (record { number = number; offset = offset })) ↔ Caused s number offset
  -- not refused exactly if there is no cause
  pub uncaused :
      ((l : Layout) × (reading_of s ≡ Fields l)) ↔ ((number offset : ℕ) → Caused s number offset → ⊥)
  -- and exactly if fields that pass all their tests go up to the record's very end, with no field lacking
  pub whole : ((l : Layout) × (reading_of s ≡ Fields l)) ↔ Begins s [] (length s)
  -- there are no two causes
  pub one : {n m at place : ℕ} → Caused s n at → Caused s m place → (n ≡ m) × (at ≡ place)

-- ---- what is known of a record that the reader does not refuse

-- its groups of vertices
abbrev pub layout_groups : Layout → List Group
layout_groups l = groups_of l.said.kind l.said.degree l.said.second

-- What holds of a record that the reader does not refuse: fields 1, 2 and 3 are there, with the lengths and
-- values that the table allows; 4 and 5 have such a length or are absent; every value lies within the record;
-- and the coefficients are those of the part that begins with field 3's value.
pub record Sound (s : List ℕ) (l : Layout) : Type 0 where
  pub degrees : known l.said.kind l.said.degree l.said.second ≡ true
  pub head_long : l.head.length ≡ head_length (layout_groups l)
  pub frame_long : l.frame.length ≡ frame_length (layout_groups l)
  pub frame_good : frames_allowed (layout_groups l) (frame_numbers (bytes_of l.frame s)) ≡ true
  pub coefficients_field : l.coefficients.start ≡ l.coefficients.field + 3
  pub coefficients_long : l.coefficients.length ≡ coefficients_length (layout_groups l)
  pub coefficients_good : all (within 1048576) (polynomials_of l.said.kind l.said.degree l.said.second (drop l.coefficients.start s)).coefficients ≡ true
  pub moves_long : moves_length_allowed l.moves.length ≡ true
  pub point_long : (l.point.length ≡ 0) ⊎ (l.point.length ≡ point_length (layout_groups l))
  pub within : (slot : Slot) → Inside s (extent_in slot l)
