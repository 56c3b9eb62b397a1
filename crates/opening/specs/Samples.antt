-- What a lookup must find and what a record must be refused with (docs/RECORDS.md, 'The bytes' and
-- 'Refusals'), as one table: every tag and some numbers that are none, in records with and without each field
-- that may be absent, and in refused ones. Definition and code choose a field by its tag alike, so these rows
-- hold which one. proofs/AllSamples.antt proves every row.
use Rattle.std.specs.Prelude.{ℕ, List, [], ◌∷◌, ◌++◌, map, drop, replicate}
use Rattle.integers.specs.Sum.{upto}
use Rattle.integers.specs.Instances.{Instance, ◌is◌}
use Rattle.polar.specs.Order.{joined}
use Rattle.records.specs.Reading.{bytes_of}
use Rattle.records.specs.Samples.{place, at, small, moves_field, point_field}
use Rattle.records.specs.declared.Extent.{Extent}
use Rattle.opening.specs.Opening.{refusal_in, field_extent}

-- ---- how the table is written

-- what is found: its place, and then its value
abbrev found : Extent → List ℕ → List ℕ
found e s = place e ++ bytes_of e s

unfoldable pub lookup : List ℕ → ℕ → List ℕ
unfolding field_extent
lookup s tag = found (field_extent s tag) s

-- number and offset of a refusal
unfoldable pub refusal : List ℕ → List ℕ
unfolding refusal_in
refusal s = (refusal_in s).number ∷ (refusal_in s).offset ∷ []

-- the empty part at the end of a record of so many bytes
abbrev absent : ℕ → List ℕ
absent size = at size size 0

-- ---- fields

-- a curve of degree 1, over r = (0, 1) and s = (1, 1)
abbrev kind_value : List ℕ
kind_value = 1 ∷ 1 ∷ []

abbrev frame_value : List ℕ
frame_value = 0 ∷ 0 ∷ 0 ∷ 1 ∷ 0 ∷ 1 ∷ 0 ∷ 1 ∷ []

-- 1 0 0 1, 0 2 0 0
abbrev coefficients_value : List ℕ
coefficients_value = joined small (1 ∷ 0 ∷ 0 ∷ 1 ∷ 0 ∷ 2 ∷ 0 ∷ 0 ∷ [])

-- fields 1 to 3, 51 bytes
abbrev line : List ℕ
line = (1 ∷ 0 ∷ 2 ∷ kind_value) ++ (2 ∷ 0 ∷ 8 ∷ frame_value) ++ (3 ∷ 0 ∷ 32 ∷ coefficients_value)

abbrev moves_value : List ℕ
moves_value = drop 3 moves_field

abbrev point_value : List ℕ
point_value = drop 3 point_field

-- field 4 with no move
abbrev no_moves : List ℕ
no_moves = 4 ∷ 0 ∷ 0 ∷ []

-- a curve of degree 9 with every coefficient of x 2 to the 20th, over r = (4, 4) and s = (-4, 4): x of its
-- first entry is 2520 times 2 to the 38th; fields 1 to 3 have 179 bytes
abbrev far : List ℕ
far =
    (1 ∷ 0 ∷ 2 ∷ 1 ∷ 9 ∷ []) ++ (2 ∷ 0 ∷ 8 ∷ 0 ∷ 4 ∷ 0 ∷ 4 ∷ 255 ∷ 252 ∷ 0 ∷ 4 ∷ [])
    ++ (3 ∷ 0 ∷ 160 ∷ joined (λ k. 0 ∷ 16 ∷ 0 ∷ 0 ∷ replicate 12 0) (upto 10))

-- ---- the table

-- all tags of a record of the line, of so many bytes, by what is found for 4 and 5; and numbers that are no
-- tags
abbrev lookups : List ℕ → ℕ → List ℕ → List ℕ → List (Instance ℕ)
lookups s size moves point =
    lookup s 1 is (at 0 3 2 ++ kind_value)
    ∷ lookup s 2 is (at 5 8 8 ++ frame_value)
    ∷ lookup s 3 is (at 16 19 32 ++ coefficients_value)
    ∷ lookup s 4 is moves
    ∷ lookup s 5 is point
    ∷ lookup s 0 is absent size
    ∷ lookup s 6 is absent size
    ∷ lookup s 20 is absent size
    ∷ lookup s 133 is absent size
    ∷ lookup s 255 is absent size
    ∷ []

-- none is found in a refused record of so many bytes
abbrev no_lookups : List ℕ → ℕ → List (Instance ℕ)
no_lookups s size = map (λ tag. lookup s tag is absent size) (1 ∷ 2 ∷ 3 ∷ 4 ∷ 5 ∷ 0 ∷ 6 ∷ 255 ∷ [])

abbrev pub instances : List (Instance ℕ)
instances =
    lookups line 51 (absent 51) (absent 51)
    ++ lookups (line ++ moves_field) 62 (at 51 54 8 ++ moves_value) (absent 62)
    ++ lookups (line ++ point_field) 58 (absent 58) (at 51 54 4 ++ point_value)
    ++ lookups (line ++ moves_field ++ point_field) 69 (at 51 54 8 ++ moves_value) (at 62 65 4 ++ point_value)
    -- a field of length 0 is there, the last one too
    ++ lookups (line ++ no_moves) 54 (at 51 54 0) (absent 54)
    ++ lookups (line ++ no_moves ++ point_field) 61 (at 51 54 0) (at 54 57 4 ++ point_value)
    -- refused by the reader, at its end, and 7
    ++ no_lookups (line ++ moves_field ++ point_field ++ (5 ∷ [])) 70
    ++ no_lookups (far ++ point_field) 186
    -- 7 at the offset of field 3, after the end of input
    ++ (refusal (line ++ moves_field ++ point_field) is (0 ∷ 0 ∷ [])
    ∷ refusal (far ++ point_field) is (7 ∷ 16 ∷ [])
    ∷ refusal (far ++ (5 ∷ [])) is (1 ∷ 179 ∷ [])
    ∷ refusal (far ++ point_field ++ point_field) is (2 ∷ 186 ∷ [])
    ∷ [])
