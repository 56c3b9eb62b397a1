-- What the definitions of the text must give, as a table of single instances. Writer and text are both stated
-- by these definitions, so that no theorem compares them with anything else: what a word, a number or a line
-- looks like, in which order lines stand, and which buffer is long enough is held by these rows.
-- proofs/AllSamples.antt proves every row.
use Rattle.std.specs.Prelude.{ℕ, suc, ◌*◌, List, [], ◌∷◌, ◌++◌, map, ℤ, pos, negsuc, replicate}
use Rattle.polar.specs.Groups.{counts_over}
use Rattle.integers.specs.Sum.{upto}
use Rattle.integers.specs.Instances.{Instance, ◌is◌}
use Rattle.projection.specs.Projection.{coords_of, four, four_zeros}
use Rattle.projection.specs.declared.Projection.TheVariants.{Finite, Direction, Nowhere, OutOfRange}
use Rattle.kinds.specs.Kinds.{groups_of}
use Rattle.machine.specs.Steps.{Taken, Found, Refused}
use Rattle.machine.specs.Nets.{Net}
use Rattle.text.specs.Words.{decimal, signed_decimal, hex_bits, line}
use Rattle.text.specs.Text.{
  word,
  refused_line,
  kind_word,
  head_line,
  move_line,
  move_lines,
  frame_line,
  entry_lines,
  net_lines,
  point_refused_line,
  projection_line,
  point_line,
  text_of,
  written_of,
  buffer_of,
  written_number,
  written_bytes,
}
use Rattle.text.specs.Told.{BufferVerdict}

-- ---- words and numbers

abbrev words : List (Instance ℕ)
words =
    word "-09 az\n" is (45 ∷ 48 ∷ 57 ∷ 32 ∷ 97 ∷ 122 ∷ 10 ∷ [])
    ∷ kind_word 1 is word "curve"
    ∷ kind_word 2 is word "patch"
    ∷ kind_word 3 is word "rect"
    ∷ decimal 0 is word "0"
    ∷ decimal 9 is word "9"
    ∷ decimal 10 is word "10"
    ∷ decimal 2520 is word "2520"
    ∷ signed_decimal (pos 0) is word "0"
    ∷ signed_decimal (pos 10) is word "10"
    ∷ signed_decimal (negsuc 0) is word "-1"
    ∷ signed_decimal (negsuc 9) is word "-10"
    ∷ hex_bits 0 is word "0000000000000000"
    ∷ hex_bits 0x3fe999999999999a is word "3fe999999999999a"
    ∷ hex_bits 0xfedcba9876543210 is word "fedcba9876543210"
    ∷ line [] is word "\n"
    ∷ line (word "nowhere" ∷ []) is word "nowhere\n"
    ∷ line (word "a" ∷ word "bc" ∷ word "d" ∷ []) is word "a bc d\n"
    ∷ []

-- ---- lines

-- the numbers 1, 2, 3, .., four to each of n entries
abbrev rising : ℕ → List ℤ
rising n = map (λ k. pos (suc k)) (upto (4 * n))

-- the lines of a net's entries, by its kind and degrees
abbrev entries : ℕ → ℕ → ℕ → ℕ → List ℕ
entries kind degree second n = entry_lines (counts_over (groups_of kind degree second)) (rising n)

-- a net of a curve of degree 1, and one of a rectangular patch of degrees 1 and 1
abbrev curve : Net
curve =
    record {
      kind = 1;
      degree = 1;
      second = 0;
      frames = ((pos 0 ∷ pos 1 ∷ []) ∷ (pos 3 ∷ negsuc 3 ∷ []) ∷ []) ∷ [];
      entries = rising 2;
      largest = pos 8;
    }

abbrev rectangle : Net
rectangle =
    record {
      kind = 3;
      degree = 1;
      second = 1;
      frames =
          ((pos 1 ∷ pos 2 ∷ []) ∷ (pos 3 ∷ pos 4 ∷ []) ∷ [])
          ∷ ((pos 5 ∷ pos 6 ∷ []) ∷ (pos 7 ∷ pos 8 ∷ []) ∷ [])
          ∷ [];
      entries = rising 4;
      largest = pos 16;
    }

abbrev lines : List (Instance ℕ)
lines =
    refused_line 1 26 is word "refused 1 at 26\n"
    ∷ head_line 1 10 0 is word "curve 10 2520\n"
    ∷ head_line 2 3 0 is word "patch 3 6\n"
    ∷ head_line 3 2 4 is word "rect 2 4 24\n"
    ∷ move_line 1 0 is []
    ∷ move_line 32 10 is word "move 32 refused 10\n"
    ∷ move_lines 1 (Refused 8 ∷ Taken ∷ Refused 12 ∷ []) is word "move 1 refused 8\nmove 3 refused 12\n"
    -- of a curve the copies of s, rising; of a patch those of r, s and t, i falling and then j falling; of a
    -- rectangular patch those of s1 and of s2, i rising and then j rising
    ∷ entries 1 2 0 3 is word "0 1 2 3 4\n1 5 6 7 8\n2 9 10 11 12\n"
    ∷ entries 2 1 0 3 is word "1 0 0 1 2 3 4\n0 1 0 5 6 7 8\n0 0 1 9 10 11 12\n"
    ∷ entries 3 1 2 6
    is word "0 0 1 2 3 4\n0 1 5 6 7 8\n0 2 9 10 11 12\n1 0 13 14 15 16\n1 1 17 18 19 20\n1 2 21 22 23 24\n"
    -- the frame stands right before the entries
    ∷ frame_line rectangle is word "frame 1 2 3 4 5 6 7 8\n"
    ∷ net_lines curve is word "frame 0 1 3 -4\n0 1 2 3 4\n1 5 6 7 8\n"
    ∷ []

-- ---- the point

abbrev points : List (Instance ℕ)
points =
    point_refused_line 9 is word "point refused 9\n"
    ∷ projection_line (Finite (coords_of (pos 6) (pos 8) (pos 0) (pos 10)))
    is word "at 3fe3333333333333 3fe999999999999a 0000000000000000\n"
    ∷ projection_line (Direction (record { x = pos 1; y = negsuc 1; z = pos 0; length = pos 9 }))
    is word "far 1 -2 0 9\n"
    ∷ projection_line Nowhere is word "nowhere\n"
    ∷ projection_line OutOfRange is word "point refused 10\n"
    ∷ point_line Taken is []
    -- the line is the projection's, whatever the found components are
    ∷ point_line (Found four_zeros four_zeros Nowhere) is word "nowhere\n"
    ∷ point_line (Found four_zeros (four (pos 2) (pos 4) (pos 6) (pos 0)) (Direction (record { x = pos 1; y = pos 2; z = pos 3; length = pos 1 })))
    is word "far 1 2 3 1\n"
    ∷ point_line (Refused 8) is word "point refused 8\n"
    ∷ []

-- ---- whole texts

-- the circle's record, with two moves before its point: one of operation 3, which is none, and the flip of r
abbrev flipped : List ℕ
flipped =
    (1 ∷ 0 ∷ 2 ∷ 1 ∷ 2 ∷ [])
    ++ (2 ∷ 0 ∷ 8 ∷ 0 ∷ 0 ∷ 0 ∷ 1 ∷ 0 ∷ 1 ∷ 0 ∷ 1 ∷ [])
    ++ (3 ∷ 0 ∷ 48 ∷ [])
    ++ (0 ∷ 0 ∷ 0 ∷ 1 ∷ 0 ∷ 0 ∷ 0 ∷ 0 ∷ 0 ∷ 0 ∷ 0 ∷ 0 ∷ 0 ∷ 0 ∷ 0 ∷ 1 ∷ [])
    ++ (0 ∷ 0 ∷ 0 ∷ 0 ∷ 0 ∷ 0 ∷ 0 ∷ 2 ∷ 0 ∷ 0 ∷ 0 ∷ 0 ∷ 0 ∷ 0 ∷ 0 ∷ 0 ∷ [])
    ++ (255 ∷ 255 ∷ 255 ∷ 255 ∷ 0 ∷ 0 ∷ 0 ∷ 0 ∷ 0 ∷ 0 ∷ 0 ∷ 0 ∷ 0 ∷ 0 ∷ 0 ∷ 1 ∷ [])
    ++ (4 ∷ 0 ∷ 16 ∷ 3 ∷ 1 ∷ 0 ∷ 0 ∷ 0 ∷ 0 ∷ 0 ∷ 0 ∷ 2 ∷ 1 ∷ 0 ∷ 0 ∷ 0 ∷ 0 ∷ 0 ∷ 0 ∷ [])
    ++ (5 ∷ 0 ∷ 4 ∷ 0 ∷ 1 ∷ 0 ∷ 1 ∷ [])

-- the first line, the refused moves, the net that the others reach and the point; and a record of no bytes
abbrev whole_texts : List (Instance ℕ)
whole_texts =
    text_of flipped
    is (word "curve 2 2\nmove 1 refused 8\nframe 0 -1 1 1\n0 2 0 0 2\n1 -2 -2 0 -2\n2 0 4 0 4\n"
    ++ word "at bff0000000000000 0000000000000000 0000000000000000\n")
    ∷ text_of [] is word "refused 2 at 0\n"
    ∷ []

-- ---- the lent buffer

-- number and count of bytes, and the whole buffer: the text `abc` lent a buffer of n places with 7 in each
abbrev lent : ℕ → List ℕ
lent n =
    let text = word "abc" in
    let out : List ℕ = replicate n 7 in
    written_number (written_of text out) ∷ written_bytes (written_of text out) ∷ buffer_of text out

-- a buffer of exactly the text's length is long enough, one of a byte less is left as it was, and one of a
-- byte more keeps its last byte
abbrev buffers : List (Instance ℕ)
buffers =
    lent 2 is (11 ∷ 0 ∷ 7 ∷ 7 ∷ [])
    ∷ lent 3 is (0 ∷ 3 ∷ word "abc")
    ∷ lent 4 is (0 ∷ 3 ∷ (word "abc" ++ (7 ∷ [])))
    ∷ []

-- and so says the table's verdict
pub record BufferVerdicts : Type 0 where
  pub short : BufferVerdict (word "abc") (replicate 2 7) 11 0
  pub exact : BufferVerdict (word "abc") (replicate 3 7) 0 3
  pub longer : BufferVerdict (word "abc") (replicate 4 7) 0 3

-- ---- all of them

abbrev pub instances : List (Instance ℕ)
instances = words ++ (lines ++ (points ++ (whole_texts ++ buffers)))
