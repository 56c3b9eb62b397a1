-- The text of netprint (docs/RECORDS.md, 'The text of netprint'), line by line, from what the comparison machine answers and from the net over the frames that it reaches.
use Rattle.std.specs.Prelude.{ℕ, Result, Ok, Err, zero, suc, Bool, cond, List, [], ◌∷◌, ◌++◌, map, eqb, leb, ℤ, Float, length, take, drop}
use Prim.Native.Char.{code}
use Prim.Native.String.{String, [] as none, ◌∷◌ as ◌then◌}
use Rattle.std.specs.Float.{binary64}
use Rattle.std.specs.Float.Ieee.{to_bits}
use Rattle.polar.specs.Order.{joined}
use Rattle.polar.specs.Groups.{counts_over}
use Rattle.projection.specs.Projection.{refusal}
use Rattle.projection.specs.declared.Projection.{Projection}
use Rattle.projection.specs.declared.Projection.TheVariants.{Finite, Direction, Nowhere, OutOfRange}
use Rattle.kinds.specs.Kinds.{groups_of}
use Rattle.kinds.specs.Frames.{Frames, numbers_of}
use Rattle.kinds.specs.Scales.{scale_of}
use Rattle.machine.specs.Steps.{Answer, Taken, Found, Refused as NotTaken, refusal_number, after, answers}
use Rattle.machine.specs.Nets.{Net, net_groups}
use Rattle.machine.specs.Comparison.{Polynomials, machine_step, net_over}
use Rattle.machine.specs.Numbers.{number_of}
use Rattle.machine.specs.declared.Call.{Call}
use Rattle.machine.specs.declared.Refusal.{Refusal}
use Rattle.machine.specs.declared.Refusal.TheVariants as why
use Rattle.opening.specs.Opening.{polynomials_in, frames_from, moves_in, point_in, refusal_in}
use Rattle.text.specs.Words.{decimal, signed_decimal, hex_bits, line}

-- a word's bytes, from its letters
abbrev pub word : String → List ℕ
word none = []
word (c then s) = code c ∷ word s

-- ---- a refused record

unfoldable pub refused_line : ℕ → ℕ → List ℕ
refused_line number offset = line (word "refused" ∷ decimal number ∷ word "at" ∷ decimal offset ∷ [])

-- ---- what the text says by the kind: its word. To add a kind, add it here and to src/kind.rt; the rest of the text goes by the groups of the kind.

-- 'kind word (`curve` or `patch`)', 'The kind word is `rect`'
abbrev pub kind_word : ℕ → List ℕ
kind_word kind = cond (eqb kind 1) (word "curve") (cond (eqb kind 2) (word "patch") (word "rect"))

-- ---- what the text says by the groups: how an entry is named. An entry's counts are a list for each group.

-- 'the entry's j (or i j k)', 'entry i j has i copies of s1 and j of s2': of two vertices the copies of the second, of three those of all
abbrev pub named : List ℕ → List ℕ
named e = cond (eqb (length e) 2) (drop 1 e) e

-- group after group
abbrev pub indices : List (List ℕ) → List ℕ
indices es = joined named es

-- ---- the first line: kind word, the degree of each group, scale

unfoldable pub head_line : ℕ → ℕ → ℕ → List ℕ
head_line kind degree second =
    line (kind_word kind ∷ (map (λ g. decimal g.degree) (groups_of kind degree second) ++ (decimal (scale_of kind degree second) ∷ [])))

-- ---- the moves: a line for each refused one, the moves being counted from k

unfoldable pub move_line : ℕ → ℕ → List ℕ
move_line k zero = []
move_line k (suc number) = line (word "move" ∷ decimal k ∷ word "refused" ∷ decimal (suc number) ∷ [])

unfoldable pub move_lines : ℕ → List Answer → List ℕ
move_lines k [] = []
move_lines k (a ∷ rest) = move_line k (refusal_number a) ++ move_lines (suc k) rest

-- ---- the net: its frame, and a line for each entry with its indices and its four numbers

-- 'printed right before the entries on a line `frame` with its numbers'
unfoldable pub frame_line : Net → List ℕ
frame_line net = line (word "frame" ∷ map signed_decimal (numbers_of net.frames))

unfoldable pub entry_line : List (List ℕ) → List ℤ → List ℕ
entry_line es numbers = line (map decimal (indices es) ++ map signed_decimal numbers)

-- the entries with their numbers, four to an entry
unfoldable pub entry_lines : List (List (List ℕ)) → List ℤ → List ℕ
entry_lines [] numbers = []
entry_lines (es ∷ ess) numbers = entry_line es (take 4 numbers) ++ entry_lines ess (drop 4 numbers)

unfoldable pub net_lines : Net → List ℕ
net_lines net = frame_line net ++ entry_lines (counts_over (net_groups net)) net.entries

-- ---- the point

unfoldable pub point_refused_line : ℕ → List ℕ
point_refused_line number = line (word "point" ∷ word "refused" ∷ decimal number ∷ [])

abbrev pub coordinate_word : Float → List ℕ
coordinate_word x = hex_bits (to_bits binary64 x)

-- a found point by its projection
unfoldable pub projection_line : Projection → List ℕ
projection_line (Finite p) = line (word "at" ∷ coordinate_word p.x ∷ coordinate_word p.y ∷ coordinate_word p.z ∷ [])
projection_line (Direction d) = line (word "far" ∷ signed_decimal d.x ∷ signed_decimal d.y ∷ signed_decimal d.z ∷ signed_decimal d.length ∷ [])
projection_line Nowhere = line (word "nowhere" ∷ [])
projection_line OutOfRange = point_refused_line (refusal OutOfRange)

unfoldable pub point_line : Answer → List ℕ
point_line Taken = []
point_line (Found point projected at) = projection_line at
point_line (NotTaken number) = point_refused_line number

-- ---- the whole text of an accepted record: f are its polynomials, `frames` its frames, `moves` its moves, and `points` its point, or nothing where it has none

unfoldable pub accepted_text : Polynomials → Frames → List Call → List Call → List ℕ
accepted_text f frames moves points =
    let reached = after (machine_step f) frames moves in
    head_line f.kind f.degree f.second
    ++ (move_lines 1 (answers (machine_step f) frames moves)
    ++ (net_lines (net_over f reached) ++ joined point_line (answers (machine_step f) reached points)))

-- ---- the text of any bytes

-- by the number of the record's refusal: a refused record has one line
abbrev pub text_by : ℕ → List ℕ → List ℕ
text_by zero s = accepted_text (polynomials_in s) (frames_from s) (moves_in s) (point_in s)
text_by (suc k) s = refused_line (suc k) (refusal_in s).offset

unfoldable pub text_of : List ℕ → List ℕ
text_of s = text_by (refusal_in s).number s

-- ---- what is answered and left of a lent buffer

-- a text goes into a buffer that is no shorter
abbrev pub fits : List ℕ → List ℕ → Bool
fits text out = leb (length text) (length out)

-- how many bytes are written, or the refusal
unfoldable pub written_of : List ℕ → List ℕ → Result ℕ Refusal
written_of text out = cond (fits text out) (Ok (length text)) (Err why.Short)

-- the whole buffer: the text, and behind it what was there; or all of what was there
unfoldable pub buffer_of : List ℕ → List ℕ → List ℕ
buffer_of text out = cond (fits text out) (text ++ drop (length text) out) out

-- number and values of each answer: the table's number, and how many bytes of a buffer hold the text
abbrev pub written_number : Result ℕ Refusal → ℕ
written_number (Ok n) = 0
written_number (Err r) = number_of r

abbrev pub written_bytes : Result ℕ Refusal → ℕ
written_bytes (Ok n) = n
written_bytes (Err r) = 0
