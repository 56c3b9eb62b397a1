-- What a lookup finds in any bytes (docs/RECORDS.md, 'The bytes'): 'hands back a field's value as part of the
-- record itself', and 'for an absent field or a refused record it is the empty part at the record's end'. It
-- is said by the bytes alone, for every tag number; which fields there can be does not matter.
use Rattle.std.specs.Prelude.{ℕ, ◌+◌, ◌≤◌, ◌≡◌, ◌↔◌, List, length, take, drop}
use Rattle.records.specs.Reading.{bytes_of}
use Rattle.records.specs.Fields.{tag_byte, length_bytes, field_end, FieldAt}
use Rattle.records.specs.declared.Extent.{Extent}
use Rattle.opening.specs.Opening.{refusal_in, field_extent}

-- The extent is that of the field which begins at the offset: the value begins after the tag and the two
-- bytes of the length, is as long as these say, and is all there. A field of length 0 has its place too.
pub record Found (s : List ℕ) (at : ℕ) (e : Extent) : Type 0 where
  pub field : e.field ≡ at
  pub start : e.start ≡ at + 3
  pub long : e.length ≡ length_bytes s at
  pub inside : field_end s at ≤ length s
  pub value : bytes_of e s ≡ take (length_bytes s at) (drop (at + 3) s)

-- the extent is the empty part at the record's end, where no field begins
pub record AtEnd (s : List ℕ) (e : Extent) : Type 0 where
  pub field : e.field ≡ length s
  pub start : e.start ≡ length s
  pub long : e.length ≡ 0

-- The lookup of any tag number, of 0 to 255 and of every other one.
pub record FieldLookup (s : List ℕ) (tag : ℕ) : Type 0 where
  -- an accepted record: a field of it that has the tag is the one that is found
  pub found :
      (refusal_in s).number ≡ 0 → {at : ℕ} → FieldAt s at → tag_byte s at ≡ tag → Found s at (field_extent s tag)
  -- the empty part at the end exactly if no field of the record has the tag
  pub absent :
      (refusal_in s).number ≡ 0
      → AtEnd s (field_extent s tag) ↔ ((at : ℕ) → FieldAt s at → tag_byte s at ≡ tag → ⊥)
  -- a refused record, with whichever number
  pub refused : ((refusal_in s).number ≡ 0 → ⊥) → AtEnd s (field_extent s tag)
