-- What netprint makes of the answers of its reads and writes: an answer about bytes that were not all read is
-- never printed.
use Rattle.std.specs.Prelude.{ℕ, zero, suc, ◌≤◌, ◌≡◌, ⊤, Bool, true, false, Option, None, Some, List, [], ◌++◌, length, take, drop}
use Rattle.io.specs.Counts.{IsPrefixLen}
use Rattle.text.specs.Text.{text_of}
use Rattle.netprint.specs.declared.Stop.{Stop}

-- a read of at most n bytes has answered how many it gave, or nothing
abbrev pub Moved : ℕ → Option ℕ → Type 0
Moved n (Some k) = k ≤ n
Moved n None = ⊤

-- how many bytes a read gave
abbrev pub gave_bytes : Option ℕ → ℕ
gave_bytes (Some n) = n
gave_bytes None = 0

-- a read that failed has answered nothing
abbrev pub failed : Option ℕ → Bool
failed (Some n) = false
failed None = true

-- a read that gave bytes has answered how many
abbrev pub gave : Option ℕ → Bool
gave (Some zero) = false
gave (Some (suc n)) = true
gave None = false

-- The bytes that were read are the first of the buffer, and reading does not stop after a read that gave bytes,
-- unless the buffer is full.
pub record Stopped (stop : Stop) (input : List ℕ) : Type 0 where
  pub counted : IsPrefixLen stop.bytes input
  pub full : gave stop.last ≡ true → stop.bytes ≡ length input

-- 'It reads at most 2048 bytes of standard input, which suffice': how many places there are for them
abbrev pub most_read : ℕ
most_read = 2048

-- they suffice: the text of any input is that of its first bytes
abbrev pub ReadEnough : Type 0
ReadEnough = (s : List ℕ) → text_of (take most_read s) ≡ text_of s

-- What was read is of this whole input: the bytes that were read are its first ones, and all of them where
-- the last read answered 0, the end of the input.
pub record ReadOf (stop : Stop) (input whole : List ℕ) : Type 0 where
  pub first : take stop.bytes input ≡ take stop.bytes whole
  pub ended : stop.last ≡ Some 0 → stop.bytes ≡ length whole

-- for standard output: the text of the bytes that were read, and nothing where a read failed
abbrev pub output_by : Bool → List ℕ → List ℕ
output_by true s = []
output_by false s = text_of s

abbrev pub output_for : Stop → List ℕ → List ℕ
output_for stop input = output_by (failed stop.last) (take stop.bytes input)

-- it is the text of the whole input, however long that is
abbrev pub OutputOfWhole : Stop → List ℕ → Type 0
OutputOfWhole stop input =
    (whole : List ℕ) → ReadOf stop input whole → output_for stop input ≡ output_by (failed stop.last) whole

-- It is in the buffer from its first byte to its last, none left out for want of room, and so many bytes are
-- counted; behind it the buffer is as it was.
pub record OutputReady (stop : Stop) (input old new : List ℕ) (bytes : ℕ) : Type 0 where
  pub counted : bytes ≡ length (output_for stop input)
  pub within : IsPrefixLen bytes new
  pub buffer : new ≡ output_for stop input ++ drop bytes old
  pub whole : OutputOfWhole stop input

-- for standard error: the line `unread` where a read failed, the line `unwritten` where a write failed, else
-- nothing
abbrev pub error_by : Bool → Bool → List ℕ → List ℕ → List ℕ
error_by true wrote unread unwritten = unread
error_by false true unread unwritten = []
error_by false false unread unwritten = unwritten

abbrev pub error_for : Option ℕ → Bool → List ℕ → List ℕ → List ℕ
error_for last wrote unread unwritten = error_by (failed last) wrote unread unwritten
