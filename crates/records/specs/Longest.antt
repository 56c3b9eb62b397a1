-- How many bytes the reader needs (docs/RECORDS.md, 'The bytes'): 'a whole record has at most 1017', and what
-- it says of a longer input it says of that input's first bytes. proofs/Longest.antt proves the statements.
use Rattle.std.specs.Prelude.{ℕ, ◌+◌, ◌≤◌, ◌≡◌, List, [], ◌∷◌, ◌++◌, length, take, replicate}
use Rattle.records.specs.Reading.{reading_of, reading_number}
use Rattle.records.specs.declared.Layout.{Layout}
use Rattle.records.specs.Reading.{NumberAt}
use Rattle.records.specs.Reading.{Fields, Refused}

-- the most bytes of a record that the reader does not refuse, and so of an accepted one
abbrev pub longest_record : ℕ
longest_record = 1017

abbrev pub NoLongerRecord : Type 0
NoLongerRecord = (s : List ℕ) (l : Layout) → reading_of s ≡ Fields l → length s ≤ longest_record

-- A record that has as many: a patch of degree 8 over (1, 0, 0), (0, 1, 0), (0, 0, 1), with 180 coefficients
-- 0, 32 moves of no known operation and a point.
abbrev pub long_record : List ℕ
long_record =
    (1 ∷ 0 ∷ 2 ∷ 2 ∷ 8 ∷ [])
    ++ (2 ∷ 0 ∷ 18 ∷ 0 ∷ 1 ∷ 0 ∷ 0 ∷ 0 ∷ 0 ∷ 0 ∷ 0 ∷ 0 ∷ 1 ∷ 0 ∷ 0 ∷ 0 ∷ 0 ∷ 0 ∷ 0 ∷ 0 ∷ 1 ∷ [])
    ++ (3 ∷ 2 ∷ 208 ∷ replicate 720 0)
    ++ (4 ∷ 1 ∷ 0 ∷ replicate 256 0)
    ++ (5 ∷ 0 ∷ 6 ∷ replicate 6 0)

pub record OneAsLong : Type 0 where
  pub long : length long_record ≡ longest_record
  pub read : reading_number (reading_of long_record) ≡ 0

-- What the reader says depends on the first bytes only: on as many as the longest record has, and on three
-- more, the tag and the length of a field that comes after it.
abbrev pub ReadByFirstBytes : Type 0
ReadByFirstBytes = (n : ℕ) → longest_record + 3 ≤ n → (s : List ℕ) → reading_of (take n s) ≡ reading_of s

-- a refusal of the reader: a number from 1 to 6, at an offset where a field may begin or the record may end
pub record NearRefusal (r : NumberAt) : Type 0 where
  pub some : 1 ≤ r.number
  pub few : r.number ≤ 6
  pub near : r.offset ≤ longest_record

abbrev pub RefusedNear : Type 0
RefusedNear = (s : List ℕ) (r : NumberAt) → reading_of s ≡ Refused r → NearRefusal r
