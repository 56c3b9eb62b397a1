-- How much room a text needs, and how much of an input it comes from (docs/RECORDS.md, 'The text of
-- netprint'): 'It reads at most 2048 bytes of standard input, which suffice: a whole record has at most
-- 1017', and no text is longer than 4183 bytes. proofs/Longest.antt proves both statements.
use Rattle.std.specs.Prelude.{ℕ, ◌+◌, ◌≤◌, ◌≡◌, List, length, take}
use Rattle.records.specs.Longest.{longest_record}
use Rattle.text.specs.Text.{text_of}

-- a room for every text: the sum of the longest lines
abbrev pub longest_text : ℕ
longest_text = 4183

abbrev pub NoLongerText : Type 0
NoLongerText = (s : List ℕ) → length (text_of s) ≤ longest_text

-- the text of any input is that of its first bytes, as many as the longest record has and three more
abbrev pub TextByFirstBytes : Type 0
TextByFirstBytes = (n : ℕ) → longest_record + 3 ≤ n → (s : List ℕ) → text_of (take n s) ≡ text_of s
