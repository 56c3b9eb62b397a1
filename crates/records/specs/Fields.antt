-- The fields of a record by its bytes alone (docs/RECORDS.md, 'The bytes'): 'Fields follow each other: one
-- tag byte, a two-byte length, the value.' No table of fields is used here, so what is said with these words
-- is said of any.
use Rattle.std.specs.Prelude.{ℕ, ◌+◌, ◌*◌, ◌<◌, List, length, get_or}

-- the tag of the field at an offset
abbrev pub tag_byte : List ℕ → ℕ → ℕ
tag_byte s at = get_or s at 0

-- its length, in the two bytes after the tag, the high byte first
abbrev pub length_bytes : List ℕ → ℕ → ℕ
length_bytes s at = 256 * get_or s (at + 1) 0 + get_or s (at + 2) 0

-- where the field ends: right after its value
abbrev pub field_end : List ℕ → ℕ → ℕ
field_end s at = at + 3 + length_bytes s at

-- A field begins at the offset: the first one at 0, and each next one where the one before it ends, while
-- bytes are left.
pub data FieldAt (s : List ℕ) : ℕ → Type 0 where
  first : 0 < length s → FieldAt s 0
  next : {at : ℕ} → FieldAt s at → field_end s at < length s → FieldAt s (field_end s at)
