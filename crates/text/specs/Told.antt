-- What a caller is told: number and count of bytes by the table's row 'output buffer shorter than the text', and what it needs to take the written part of its buffer.
use Rattle.std.specs.Prelude.{ℕ, Result, ◌≤◌, ◌<◌, List, length}
use Rattle.io.specs.Counts.{IsPrefixLen}
use Rattle.machine.specs.declared.Refusal.{Refusal}
use Rattle.text.specs.Text.{written_number, written_bytes}

-- The table's verdict on a text and a buffer: 0 with the length of the text where the buffer is no shorter, or 11, and then nothing is written.
pub data BufferVerdict (text out : List ℕ) : ℕ → ℕ → Type 0 where
  written : length text ≤ length out → BufferVerdict text out 0 (length text)
  refused : length out < length text → BufferVerdict text out 11 0

-- number and count of an answer are the table's, and the bytes that were written are the buffer's first
pub record Told (text old new : List ℕ) (r : Result ℕ Refusal) : Type 0 where
  pub verdict : BufferVerdict text old (written_number r) (written_bytes r)
  pub within : IsPrefixLen (written_bytes r) new
