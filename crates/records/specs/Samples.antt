-- What the reading of some bytes must be (docs/RECORDS.md, 'The bytes' and 'Refusals'), as one table: two
-- records whole, and refusals, a line or more for each row of the table of causes. Definition, causes and
-- code all go by one test of the tag byte and one reading of the length, so these rows hold which bytes are
-- tags and which lengths are meant. proofs/AllSamples.antt proves every row.
use Rattle.std.specs.Prelude.{ℕ, ◌+◌, List, [], ◌∷◌, ◌++◌, map, get_or, drop, replicate}
use Rattle.integers.specs.Instances.{Instance, ◌is◌}
use Rattle.records.specs.Reading.{reading_of}
use Rattle.records.specs.declared.Extent.{Extent}
use Rattle.records.specs.Reading.{Reading}
use Rattle.records.specs.Reading.{Fields, Refused}

-- ---- how the table is written

-- where a field stands: its offset, the offset of its value, and the value's length
abbrev pub place : Extent → List ℕ
place e = e.field ∷ e.start ∷ e.length ∷ []

-- a reading in numbers: 0, kind and degrees and the place of each field; or number and offset of the refusal
abbrev reading_row : Reading → List ℕ
reading_row (Fields l) =
    0 ∷ l.said.kind ∷ l.said.degree ∷ l.said.second
    ∷ (place l.head ++ place l.frame ++ place l.coefficients ++ place l.moves ++ place l.point)
reading_row (Refused r) = r.number ∷ r.offset ∷ []

unfoldable pub reading : List ℕ → List ℕ
unfolding reading_of
reading s = reading_row (reading_of s)

abbrev refused : ℕ → ℕ → List ℕ
refused number offset = number ∷ offset ∷ []

-- the place of a field, written
abbrev pub at : ℕ → ℕ → ℕ → List ℕ
at field start length = field ∷ start ∷ length ∷ []

-- ---- fields

-- of the circle: a curve of degree 2
abbrev kind_field : List ℕ
kind_field = 1 ∷ 0 ∷ 2 ∷ 1 ∷ 2 ∷ []

abbrev frame_field : List ℕ
frame_field = 2 ∷ 0 ∷ 8 ∷ 0 ∷ 0 ∷ 0 ∷ 1 ∷ 0 ∷ 1 ∷ 0 ∷ 1 ∷ []

-- a coefficient of one byte
abbrev pub small : ℕ → List ℕ
small n = 0 ∷ 0 ∷ 0 ∷ n ∷ []

-- 1 0 0 1, 0 2 0 0, -1 0 0 1
abbrev coefficients_field : List ℕ
coefficients_field =
    3 ∷ 0 ∷ 48
    ∷ (small 1 ++ small 0 ++ small 0 ++ small 1 ++ small 0 ++ small 2 ++ small 0 ++ small 0
    ++ replicate 4 255 ++ small 0 ++ small 0 ++ small 1)

-- one move, which flips r
abbrev pub moves_field : List ℕ
moves_field = 4 ∷ 0 ∷ 8 ∷ 2 ∷ 1 ∷ replicate 6 0

abbrev pub point_field : List ℕ
point_field = 5 ∷ 0 ∷ 4 ∷ 0 ∷ 1 ∷ 0 ∷ 1 ∷ []

-- the first two, three and four fields: 16, 67 and 78 bytes
abbrev two_fields : List ℕ
two_fields = kind_field ++ frame_field

abbrev three_fields : List ℕ
three_fields = two_fields ++ coefficients_field

abbrev four_fields : List ℕ
four_fields = three_fields ++ moves_field

abbrev circle : List ℕ
circle = three_fields ++ point_field

-- of a rectangular patch of degrees 1 and 2
abbrev degrees_field : List ℕ
degrees_field = 1 ∷ 0 ∷ 3 ∷ 3 ∷ 1 ∷ 2 ∷ []

abbrev pair : List ℕ
pair = 0 ∷ 0 ∷ 0 ∷ 1 ∷ 0 ∷ 1 ∷ 0 ∷ 1 ∷ []

abbrev pairs_field : List ℕ
pairs_field = 2 ∷ 0 ∷ 16 ∷ (pair ++ pair)

-- six monomials
abbrev products_field : List ℕ
products_field = 3 ∷ 0 ∷ 96 ∷ replicate 96 0

abbrev rectangle : List ℕ
rectangle = degrees_field ++ pairs_field ++ products_field ++ (5 ∷ 0 ∷ 8 ∷ pair)

-- ---- the table

abbrev whole : List (Instance ℕ)
whole =
    reading circle is (0 ∷ 1 ∷ 2 ∷ 0 ∷ (at 0 3 2 ++ at 5 8 8 ++ at 16 19 48 ++ at 74 74 0 ++ at 67 70 4))
    ∷ reading four_fields
    is (0 ∷ 1 ∷ 2 ∷ 0 ∷ (at 0 3 2 ++ at 5 8 8 ++ at 16 19 48 ++ at 67 70 8 ++ at 78 78 0))
    ∷ reading (four_fields ++ point_field)
    is (0 ∷ 1 ∷ 2 ∷ 0 ∷ (at 0 3 2 ++ at 5 8 8 ++ at 16 19 48 ++ at 67 70 8 ++ at 78 81 4))
    ∷ reading rectangle
    is (0 ∷ 3 ∷ 1 ∷ 2 ∷ (at 0 3 3 ++ at 6 9 16 ++ at 25 28 96 ++ at 135 135 0 ++ at 124 127 8))
    ∷ []

-- bytes left where a field begins, behind each field, and values cut short
abbrev cut : List (Instance ℕ)
cut =
    reading (1 ∷ []) is refused 1 0
    ∷ reading (1 ∷ 0 ∷ []) is refused 1 0
    ∷ reading (kind_field ++ (2 ∷ 0 ∷ [])) is refused 1 5
    ∷ reading (two_fields ++ (3 ∷ [])) is refused 1 16
    ∷ reading (three_fields ++ (4 ∷ [])) is refused 1 67
    ∷ reading (three_fields ++ (0 ∷ 0 ∷ [])) is refused 1 67
    ∷ reading (four_fields ++ (5 ∷ [])) is refused 1 78
    ∷ reading (four_fields ++ (5 ∷ 0 ∷ [])) is refused 1 78
    ∷ reading (circle ++ (5 ∷ [])) is refused 1 74
    ∷ reading (circle ++ (0 ∷ 0 ∷ [])) is refused 1 74
    ∷ reading (1 ∷ 0 ∷ 3 ∷ 3 ∷ 1 ∷ []) is refused 1 0
    ∷ reading (kind_field ++ (2 ∷ 0 ∷ 8 ∷ 0 ∷ [])) is refused 1 5
    ∷ reading (four_fields ++ (5 ∷ 0 ∷ 4 ∷ 0 ∷ 1 ∷ 0 ∷ [])) is refused 1 78
    ∷ []

-- rows for each field in its place, by what stands before it, the field and its offset; a point with and
-- without moves before it
abbrev each_field : (List ℕ → List ℕ → ℕ → List (Instance ℕ)) → List (Instance ℕ)
each_field rows =
    rows [] kind_field 0
    ++ rows kind_field frame_field 5
    ++ rows two_fields coefficients_field 16
    ++ rows three_fields moves_field 67
    ++ rows three_fields point_field 67
    ++ rows four_fields point_field 78

-- a field behind others, at an offset, with other tag bytes: 0, 7, 8, its own plus 16 and plus 128, and
-- 255
abbrev other_tags : List ℕ → List ℕ → ℕ → List (Instance ℕ)
other_tags before field offset =
    let own = get_or field 0 0 in
    map (λ tag. reading (before ++ (tag ∷ drop 1 field)) is refused 2 offset)
    (0 ∷ 7 ∷ 8 ∷ (own + 16) ∷ (own + 128) ∷ 255 ∷ [])

abbrev tags : List (Instance ℕ)
tags =
    each_field other_tags
    -- 6, a tag too early, one that comes twice, one after its turn
    ++ (reading (6 ∷ 0 ∷ 2 ∷ 1 ∷ 2 ∷ []) is refused 2 0
    ∷ reading (three_fields ++ (6 ∷ 0 ∷ 0 ∷ [])) is refused 2 67
    ∷ reading (kind_field ++ coefficients_field) is refused 2 5
    ∷ reading (kind_field ++ kind_field) is refused 2 5
    ∷ reading (circle ++ (4 ∷ 0 ∷ 0 ∷ [])) is refused 2 74
    ∷ reading (circle ++ point_field) is refused 2 74
    -- the end with one still to come
    ∷ reading [] is refused 2 0
    ∷ reading two_fields is refused 2 16
    ∷ [])

-- a field behind others, at an offset, with other lengths: its own plus 0x0400, 0x8000 and 0xff00
abbrev other_lengths : List ℕ → List ℕ → ℕ → List (Instance ℕ)
other_lengths before field offset =
    map (λ high. reading (before ++ (get_or field 0 0 ∷ high ∷ drop 2 field)) is refused 3 offset)
    (4 ∷ 128 ∷ 255 ∷ [])

abbrev lengths : List (Instance ℕ)
lengths =
    each_field other_lengths
    -- before the value is looked for
    ++ (reading (1 ∷ 0 ∷ 1 ∷ []) is refused 3 0
    ∷ reading (1 ∷ 0 ∷ 4 ∷ []) is refused 3 0
    ∷ reading (kind_field ++ (2 ∷ 0 ∷ 18 ∷ [])) is refused 3 5
    -- with all of a value of that length there
    ∷ reading (kind_field ++ (2 ∷ 0 ∷ 18 ∷ replicate 18 1)) is refused 3 5
    -- by the kind
    ∷ reading (degrees_field ++ (2 ∷ 0 ∷ 8 ∷ [])) is refused 3 6
    ∷ reading (degrees_field ++ (2 ∷ 0 ∷ 18 ∷ [])) is refused 3 6
    ∷ reading (degrees_field ++ pairs_field ++ (3 ∷ 0 ∷ 32 ∷ [])) is refused 3 25
    ∷ reading (degrees_field ++ pairs_field ++ products_field ++ (5 ∷ 0 ∷ 6 ∷ [])) is refused 3 124
    -- 33 moves
    ∷ reading (three_fields ++ (4 ∷ 1 ∷ 8 ∷ replicate 264 0)) is refused 3 67
    ∷ [])

-- a frame with the number 5, and coefficients the first of which is 1048577
abbrev wrong_frame : List ℕ
wrong_frame = 2 ∷ 0 ∷ 8 ∷ 0 ∷ 5 ∷ 0 ∷ 1 ∷ 0 ∷ 1 ∷ 0 ∷ 1 ∷ []

abbrev wrong_coefficients : List ℕ
wrong_coefficients = 3 ∷ 0 ∷ 48 ∷ 0 ∷ 16 ∷ 0 ∷ 1 ∷ replicate 44 0

abbrev values : List (Instance ℕ)
values =
    -- a kind that is none, a degree outside, and a degree too many or too few
    reading (1 ∷ 0 ∷ 2 ∷ 4 ∷ 2 ∷ []) is refused 4 0
    ∷ reading (1 ∷ 0 ∷ 2 ∷ 1 ∷ 11 ∷ []) is refused 4 0
    ∷ reading (1 ∷ 0 ∷ 2 ∷ 2 ∷ 0 ∷ []) is refused 4 0
    ∷ reading (1 ∷ 0 ∷ 3 ∷ 3 ∷ 6 ∷ 1 ∷ []) is refused 4 0
    ∷ reading (1 ∷ 0 ∷ 3 ∷ 3 ∷ 1 ∷ 0 ∷ []) is refused 4 0
    ∷ reading (1 ∷ 0 ∷ 3 ∷ 1 ∷ 2 ∷ 0 ∷ []) is refused 4 0
    ∷ reading (1 ∷ 0 ∷ 3 ∷ 2 ∷ 2 ∷ 0 ∷ []) is refused 4 0
    ∷ reading (1 ∷ 0 ∷ 2 ∷ 3 ∷ 2 ∷ []) is refused 4 0
    -- a frame number of 5, one of -5, and a determinant of 0, also of the second pair alone
    ∷ reading (kind_field ++ wrong_frame) is refused 5 5
    ∷ reading (kind_field ++ (2 ∷ 0 ∷ 8 ∷ 255 ∷ 251 ∷ 0 ∷ 1 ∷ 0 ∷ 1 ∷ 0 ∷ 1 ∷ [])) is refused 5 5
    ∷ reading (kind_field ++ (2 ∷ 0 ∷ 8 ∷ 0 ∷ 1 ∷ 0 ∷ 2 ∷ 0 ∷ 2 ∷ 0 ∷ 4 ∷ [])) is refused 5 5
    ∷ reading (degrees_field ++ (2 ∷ 0 ∷ 16 ∷ (pair ++ replicate 8 0))) is refused 5 6
    -- a coefficient of 1048577, the first, and one in the last monomial
    ∷ reading (two_fields ++ wrong_coefficients) is refused 6 16
    ∷ reading (degrees_field ++ pairs_field ++ (3 ∷ 0 ∷ 96 ∷ (replicate 92 0 ++ (0 ∷ 16 ∷ 0 ∷ 1 ∷ []))))
    is refused 6 25
    -- each before a length of the next field that is not allowed
    ∷ reading ((1 ∷ 0 ∷ 2 ∷ 4 ∷ 2 ∷ []) ++ (2 ∷ 4 ∷ 8 ∷ replicate 8 0)) is refused 4 0
    ∷ reading (kind_field ++ wrong_frame ++ (3 ∷ 4 ∷ 48 ∷ [])) is refused 5 5
    ∷ reading (two_fields ++ wrong_coefficients ++ (4 ∷ 4 ∷ 8 ∷ [])) is refused 6 16
    ∷ []

abbrev pub instances : List (Instance ℕ)
instances = whole ++ cut ++ tags ++ lengths ++ values
