-- What the reader makes of any bytes at all (docs/RECORDS.md, 'The bytes' and 'Refusals'): the layout of its
-- fields, or the number and the offset of the first cause of refusal, 1 to 6. A record that has a layout may
-- still be refused 7, by its first net. The reader goes from slot to slot; `at` is the offset where it
-- stands.
use Rattle.std.specs.Prelude.{ℕ, Option, None, Some, Result, Ok, Err, ◌+◌, ◌-◌, ◌≤◌, Bool, true, false, ◌||◌, not, cond, List, [], ◌∷◌, ◌++◌, length, get_or, take, drop, eqb, leb, ltb}
use Rattle.machine.specs.Refusals.{Test, ◌else◌, first_failed}
use Rattle.decoding.specs.Numbers.{unsigned_of}
use Rattle.records.specs.Table.{slots, tags_in, required, head_in, field_row}
use Rattle.machine.specs.Numbers.{number_of}
use Rattle.kinds.specs.declared.Head.{Head}
use Rattle.records.specs.declared.Slot.{Slot}
use Rattle.records.specs.declared.Slot.TheVariants.{KindSlot, FrameSlot, CoefficientsSlot, MovesSlot, PointSlot}
use Rattle.records.specs.declared.Tag.{Tag}
use Rattle.records.specs.declared.Extent.{Extent}
use Rattle.records.specs.declared.Layout.{Layout}
use Rattle.records.specs.declared.RefusedAt.{RefusedAt}
use Rattle.records.specs.declared.Passed.{Passed}

-- a number of the table and an offset
pub record NumberAt : Type 0 where
  pub number : ℕ
  pub offset : ℕ

-- what reading gives: the layout, or the refusal
pub data Reading : Type 0 where
  Fields : Layout → Reading
  Refused : NumberAt → Reading

-- how far the reader has come: the offset where it stands, and where what stood in the last slot is. A number that
-- is not 0 is a refusal's, and the offset then is the refusal's too.
pub record Progress : Type 0 where
  pub number : ℕ
  pub at : ℕ
  pub extent : Extent

-- ---- one field: its tag in 1 byte, its length in 2, and then its value

-- how many bytes are left from the offset on
abbrev pub bytes_left : List ℕ → ℕ → ℕ
bytes_left s at = length s - at

-- the length, from the two bytes after the tag
unfoldable pub length_at : List ℕ → ℕ → ℕ
unfolding unsigned_of
length_at s at = unsigned_of (take 2 (drop (at + 1) s))

-- the value: as many bytes as the length says, or what is left of them
unfoldable pub bytes_at : List ℕ → ℕ → List ℕ
unfolding length_at
bytes_at s at = take (length_at s at) (drop (at + 3) s)

-- what field 1 says: it comes first, at offset 0
unfoldable pub head_of : List ℕ → Head
unfolding bytes_at
head_of s = head_in (bytes_at s 0)

-- the tests of a field with a right tag
abbrev pub field_tests : Tag → Head → List ℕ → ℕ → List Test
field_tests tag h s at =
    -- 'length not one the table allows'
    (field_row tag).length_allowed h (length_at s at) else 3
    -- 'value cut short'
    ∷ leb (length_at s at) (bytes_left s (at + 3)) else 1
    ∷ (field_row tag).tests h (bytes_at s at)

unfoldable pub field_number : Tag → Head → List ℕ → ℕ → ℕ
unfolding length_at bytes_at
field_number tag h s at = first_failed (field_tests tag h s at)

-- ---- one slot

-- the field among these that has the tag byte
abbrev pub tag_among : List Tag → ℕ → Option Tag
tag_among [] byte = None
tag_among (tag ∷ more) byte = cond (eqb byte (field_row tag).byte) (Some tag) (tag_among more byte)

-- what stands in a slot: tag and length are all there, and the tag is one of the slot's
unfoldable pub standing : Slot → List ℕ → ℕ → Option Tag
standing slot s at = cond (leb 3 (bytes_left s at)) (tag_among (tags_in slot) (get_or s at 0)) None

-- The tests where the reader stands at no tag that may come next: none fails unless a field is due. At the
-- end of the record the offset is the record's length.
abbrev pub missing_tests : Bool → List ℕ → ℕ → List Test
missing_tests due s at =
    -- '1 or 2 bytes left where a field begins'
    (not due || (eqb (bytes_left s at) 0 || leb 3 (bytes_left s at))) else 1
    -- 'tag unknown, repeated, lower than the last, or before a required lower one; or required one absent at
    -- the end'
    ∷ not due else 2
    ∷ []

abbrev pub missing_number : Bool → List ℕ → ℕ → ℕ
missing_number due s at = first_failed (missing_tests due s at)

-- the extent of an absent field: nothing, after the last byte
abbrev pub end_extent : List ℕ → Extent
end_extent s = record { field = length s; start = length s; length = 0 }

-- the extent of the field at an offset
unfoldable pub extent_at : List ℕ → ℕ → Extent
unfolding length_at
extent_at s at = record { field = at; start = at + 3; length = length_at s at }

-- past the field at the offset; or still there, refused with a number or, where it is 0, not
abbrev pub past : List ℕ → ℕ → Progress
past s at = record { number = 0; at = at + 3 + length_at s at; extent = extent_at s at }

abbrev pub stay : ℕ → List ℕ → ℕ → Progress
stay number s at = record { number = number; at = at; extent = end_extent s }

-- a field of the slot is taken, or refused; where there is none, a slot that must be filled is refused and
-- another one is left empty
unfoldable pub read_standing : Option Tag → Slot → Head → List ℕ → ℕ → Progress
unfolding field_number length_at extent_at
read_standing (Some tag) slot h s at = let n = field_number tag h s at in cond (eqb n 0) (past s at) (stay n s at)
read_standing None slot h s at = stay (missing_number (required slot) s at) s at

-- the reader comes to a slot; a refusal is passed on
unfoldable pub read_slot : Slot → Head → List ℕ → Progress → Progress
unfolding read_standing standing
read_slot slot h s before = cond (eqb before.number 0) (read_standing (standing slot s before.at) slot h s before.at) before

-- after the last slot nothing may be left: what is, is no field
unfoldable pub read_end : List ℕ → Progress → Progress
read_end s last = cond (eqb last.number 0) (stay (missing_number (ltb 0 (bytes_left s last.at)) s last.at) s last.at) last

-- ---- all slots

-- the layout by the extents of the slots, in their order
abbrev pub layout_of_extents : List ℕ → List Extent → Layout
layout_of_extents s es =
    let e : ℕ → Extent = λ k. get_or es k (end_extent s) in
    record { said = head_of s; head = e 0; frame = e 1; coefficients = e 2; moves = e 3; point = e 4 }

-- the reading by how far the reader has come after all slots
unfoldable pub concluded : List ℕ → Progress → List Extent → Reading
concluded s end es = cond (eqb end.number 0) (Fields (layout_of_extents s es)) (Refused (record { number = end.number; offset = end.at }))

-- the reading from there on, with the extents so far
abbrev pub onward : List Slot → List ℕ → Progress → List Extent → Reading
onward [] s here es = concluded s (read_end s here) es
onward (slot ∷ rest) s here es = let next = read_slot slot (head_of s) s here in onward rest s next (es ++ (next.extent ∷ []))

-- the reading of any bytes: the slots in their order, and then the end
unfoldable pub reading_of : List ℕ → Reading
unfolding head_of read_slot read_end concluded
reading_of s = onward slots s (stay 0 s 0) []

-- a layout of no kind, in which every field is absent: a refused record has no other
abbrev pub no_fields : List ℕ → Layout
no_fields s = let e = end_extent s in record { said = record { kind = 0; degree = 0; second = 0 }; head = e; frame = e; coefficients = e; moves = e; point = e }

-- ---- what the code answers, in the words above

-- of one slot: past a field, or at the same offset, or refused
abbrev pub progress_told : List ℕ → Result Passed RefusedAt → Progress
progress_told s (Ok p) = record { number = 0; at = p.next; extent = p.extent }
progress_told s (Err r) = record { number = number_of r.refusal; at = r.offset; extent = end_extent s }

-- of a refusal: its number, and the offset
abbrev pub number_at : RefusedAt → NumberAt
number_at r = record { number = number_of r.refusal; offset = r.offset }

-- of all bytes
abbrev pub reading_told : Result Layout RefusedAt → Reading
reading_told (Ok l) = Fields l
reading_told (Err r) = Refused (number_at r)

-- ---- number and values of each case

-- the table's number, 0 where nothing is refused
abbrev pub reading_number : Reading → ℕ
reading_number (Fields l) = 0
reading_number (Refused r) = r.number

-- the values: kind and degrees with a layout; what is returned with a refusal's number, the offset
abbrev pub reading_values : Reading → List ℕ
reading_values (Fields l) = l.said.kind ∷ l.said.degree ∷ l.said.second ∷ []
reading_values (Refused r) = r.offset ∷ []

-- ---- a field's value: where it stands, and its bytes

-- the extent of what stands in a slot, by a layout
abbrev pub extent_in : Slot → Layout → Extent
extent_in KindSlot l = l.head
extent_in FrameSlot l = l.frame
extent_in CoefficientsSlot l = l.coefficients
extent_in MovesSlot l = l.moves
extent_in PointSlot l = l.point

-- the same by the tag byte; a number that is no tag is an absent field
abbrev pub is_tag : Option Tag → Bool
is_tag (Some tag) = true
is_tag None = false

abbrev pub extent_among : List Slot → List ℕ → Layout → ℕ → Extent
extent_among [] s l n = end_extent s
extent_among (slot ∷ rest) s l n = cond (is_tag (tag_among (tags_in slot) n)) (extent_in slot l) (extent_among rest s l n)

-- the part of the record that is the value: its bounds are the extent's start and length
abbrev pub bytes_of : Extent → List ℕ → List ℕ
bytes_of e s = take e.length (drop e.start s)

-- the value ends within the record
abbrev pub Inside : List ℕ → Extent → Type 0
Inside s e = e.start + e.length ≤ length s
