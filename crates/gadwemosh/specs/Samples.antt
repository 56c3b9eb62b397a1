-- What comes back from the eight exported functions in single instances, as one table. Definition and code
-- could exchange two arguments, two outcomes or two places together: include/gadwemosh.h says which is which,
-- and these rows hold it, as with two of them exchanged something else comes back. In which order the
-- arguments are handed over, the contracts of src/positions.rt say.
use Rattle.std.specs.Prelude.{ℕ, ◌-◌, List, [], ◌∷◌, ◌++◌, map, ℤ, pos, neg_ℤ, length, replicate}
use Rattle.integers.specs.Instances.{Instance, ◌is◌}
use Rattle.projection.specs.Projection.{projection_of}
use Rattle.machine.specs.Lent.{made_number, made_places, call_number, call_places, call_found}
use Rattle.opening.specs.Opening.{refusal_in, field_extent, opened_in, places_in}
use Rattle.text.specs.Text.{word, text_of, written_of, written_number, written_bytes, buffer_of}
use Rattle.gadwemosh.specs.Calls.{move_call, point_call}
use Rattle.gadwemosh.specs.Projections.{projection_returned, found_returned}

-- ---- what comes back, by the arguments in the header's order: the number, and then what stands in places
-- that the function may write

abbrev opens : List ℕ → List ℤ → List ℤ
opens input net =
    let refusal = (opened_in input net).refusal in
    pos refusal.number ∷ pos refusal.offset ∷ places_in input net

abbrev field : List ℕ → ℕ → List ℤ
field input tag =
    let extent = field_extent input tag in
    pos (refusal_in input).number ∷ pos extent.start ∷ pos extent.length ∷ []

abbrev makes : ℕ → ℕ → ℕ → List ℤ → List ℤ → List ℤ → List ℤ
makes kind degree second frame coefficients net =
    pos (made_number kind degree second frame coefficients net)
    ∷ made_places kind degree second frame coefficients net

abbrev moves : List ℤ → ℕ → ℕ → ℤ → ℤ → ℤ → ℤ → List ℤ
moves net operation vertex r s t u =
    let call = move_call operation vertex r s t u in
    pos (call_number call net []) ∷ call_places call net []

abbrev finds : List ℤ → ℤ → ℤ → ℤ → ℤ → List ℤ → List ℤ
finds net r s t u found =
    let call = point_call r s t u in
    pos (call_number call net found) ∷ call_found call net found

abbrev projects : ℤ → ℤ → ℤ → ℤ → List ℕ → List ℤ → List ℤ
projects x y z w bits direction =
    let back = projection_returned (projection_of x y z w) bits direction in
    pos back.number ∷ pos back.outcome ∷ (map pos back.bits ++ back.direction)

abbrev projects_found : List ℤ → List ℕ → List ℤ → List ℤ
projects_found found bits direction =
    let back = found_returned found bits direction in
    pos back.number ∷ pos back.outcome ∷ (map pos back.bits ++ back.direction)

abbrev writes : List ℕ → List ℕ → List ℤ
writes input out =
    let written = written_of (text_of input) out in
    pos (written_number written) ∷ pos (written_bytes written) ∷ map pos (buffer_of (text_of input) out)

-- ---- how the table is written

abbrev minus : ℕ → ℤ
minus k = neg_ℤ (pos k)

-- places of which nothing is known: each holds 100
abbrev hundreds : ℕ → List ℤ
hundreds n = replicate n (pos 100)

-- a net in 194 places, all that are not its own being 100
abbrev lent_net : ℕ → ℕ → ℕ → List ℤ → List ℤ → ℕ → List ℤ
lent_net kind degree second frame entries largest =
    pos kind ∷ pos degree ∷ pos second
    ∷ (frame
    ++ hundreds (9 - length frame)
    ++ entries
    ++ hundreds (180 - length entries)
    ++ (pos largest ∷ pos 100 ∷ []))

-- ---- records

-- a number in four bytes
abbrev four : ℕ → List ℕ
four n = 0 ∷ 0 ∷ 0 ∷ n ∷ []

-- the circle's record: fields 1, 2, 3 and 5
abbrev circle : List ℕ
circle =
    (1 ∷ 0 ∷ 2 ∷ 1 ∷ 2 ∷ [])
    ++ (2 ∷ 0 ∷ 8 ∷ 0 ∷ 0 ∷ 0 ∷ 1 ∷ 0 ∷ 1 ∷ 0 ∷ 1 ∷ [])
    ++ (3 ∷ 0 ∷ 48 ∷ [])
    ++ (four 1 ++ four 0 ++ four 0 ++ four 1)
    ++ (four 0 ++ four 2 ++ four 0 ++ four 0)
    ++ (replicate 4 255 ++ four 0 ++ four 0 ++ four 1)
    ++ (5 ∷ 0 ∷ 4 ∷ 0 ∷ 1 ∷ 0 ∷ 1 ∷ [])

-- field 1 twice, which is refused 2 at the second
abbrev twice : List ℕ
twice = 1 ∷ 0 ∷ 2 ∷ 1 ∷ 2 ∷ 1 ∷ 0 ∷ 2 ∷ 1 ∷ 2 ∷ []

abbrev circle_net : List ℤ
circle_net =
    lent_net 1 2 0 (map pos (0 ∷ 1 ∷ 1 ∷ 1 ∷ []))
    (map pos (2 ∷ 0 ∷ 0 ∷ 2 ∷ 2 ∷ 2 ∷ 0 ∷ 2 ∷ 0 ∷ 4 ∷ 0 ∷ 4 ∷ [])) 4

abbrev records : List (Instance ℤ)
records =
    -- gadwemosh_open: number, offset, net
    opens circle (hundreds 194) is (pos 0 ∷ pos 0 ∷ circle_net)
    ∷ opens twice (hundreds 194) is (pos 2 ∷ pos 5 ∷ hundreds 194)
    ∷ opens circle (hundreds 192) is (pos 11 ∷ pos 0 ∷ hundreds 192)
    -- gadwemosh_field: number, start, length; of field 5, of field 2, of one that is absent, of a refused
    -- record
    ∷ field circle 5 is map pos (0 ∷ 70 ∷ 4 ∷ [])
    ∷ field circle 2 is map pos (0 ∷ 8 ∷ 8 ∷ [])
    ∷ field circle 4 is map pos (0 ∷ 74 ∷ 0 ∷ [])
    ∷ field twice 1 is map pos (2 ∷ 10 ∷ 0 ∷ [])
    -- gadwemosh_text: number, length, buffer; one longer than the text, one as long, and one shorter by a
    -- byte
    ∷ writes twice (replicate 17 7) is (pos 0 ∷ pos 15 ∷ map pos (word "refused 2 at 5\n" ++ (7 ∷ 7 ∷ [])))
    ∷ writes twice (replicate 15 7) is (pos 0 ∷ pos 15 ∷ map pos (word "refused 2 at 5\n"))
    ∷ writes twice (replicate 14 7) is (pos 11 ∷ pos 0 ∷ map pos (replicate 14 7))
    ∷ []

-- ---- nets

-- a triangular patch of degree 1, over r = (1, 0, 1), s = (0, 1, 1), t = (0, 0, 1); its entries at r, s and t
abbrev facet_entries : List ℤ → List ℤ → List ℤ
facet_entries at_r at_t = at_r ++ (pos 5 ∷ minus 6 ∷ pos 7 ∷ pos 8 ∷ []) ++ at_t

abbrev facet : List ℤ
facet =
    lent_net 2 1 0 (map pos (1 ∷ 0 ∷ 1 ∷ 0 ∷ 1 ∷ 1 ∷ 0 ∷ 0 ∷ 1 ∷ []))
    (facet_entries (pos 1 ∷ pos 2 ∷ pos 3 ∷ pos 4 ∷ []) (pos 9 ∷ pos 10 ∷ minus 11 ∷ pos 12 ∷ [])) 12

-- a rectangular patch of degrees 1 and 1
abbrev tile : List ℤ
tile =
    lent_net 3 1 1 (map pos (0 ∷ 1 ∷ 1 ∷ 1 ∷ 1 ∷ 2 ∷ 1 ∷ 1 ∷ []))
    (map pos (1 ∷ 0 ∷ 0 ∷ 1 ∷ 0 ∷ 1 ∷ 0 ∷ 1 ∷ 0 ∷ 0 ∷ 1 ∷ 1 ∷ 1 ∷ 1 ∷ 1 ∷ []) ++ (minus 1 ∷ [])) 1

-- x = (Z₁² − T₁²) Z₂, y = 2 T₁Z₁ Z₂, z = (3 Z₁² + T₁²) T₂, w = (Z₁² + T₁²) Z₂, of degrees 2 and 1; what is
-- not used is 100
abbrev strip_coefficients : List ℤ
strip_coefficients =
    map pos (1 ∷ 0 ∷ 0 ∷ 1 ∷ 0 ∷ 0 ∷ 3 ∷ 0 ∷ 0 ∷ 2 ∷ 0 ∷ 0 ∷ 0 ∷ 0 ∷ 0 ∷ 0 ∷ [])
    ++ (minus 1 ∷ (map pos (0 ∷ 0 ∷ 1 ∷ 0 ∷ 0 ∷ 1 ∷ 0 ∷ []) ++ hundreds 156))

abbrev strip_frame : List ℤ
strip_frame = map pos (0 ∷ 1 ∷ 1 ∷ 1 ∷ 1 ∷ 2 ∷ 1 ∷ 1 ∷ [])

-- two curves of degree 2 through a common zero, at equal weights and at r: their entries with no copy of s,
-- one and two
abbrev chord : List ℤ
chord =
    lent_net 1 2 0 (map pos (0 ∷ 1 ∷ 1 ∷ 1 ∷ []))
    ((minus 2 ∷ pos 0 ∷ pos 6 ∷ pos 0 ∷ []) ++ (pos 0 ∷ pos 0 ∷ pos 0 ∷ minus 1 ∷ []) ++ (pos 2 ∷ pos 0 ∷ minus 6 ∷ pos 2 ∷ [])) 6

abbrev ray : List ℤ
ray = lent_net 1 2 0 (map pos (0 ∷ 1 ∷ 1 ∷ 1 ∷ [])) (map pos (0 ∷ 0 ∷ 0 ∷ 0 ∷ 2 ∷ 3 ∷ 4 ∷ 5 ∷ 6 ∷ 7 ∷ 8 ∷ 9 ∷ [])) 9

abbrev nets : List (Instance ℤ)
nets =
    -- gadwemosh_first: number, net
    makes 3 2 1 (strip_frame ++ (pos 100 ∷ [])) strip_coefficients (hundreds 194)
    is (pos 0
    ∷ lent_net 3 2 1 strip_frame
    (map pos
    (4 ∷ 0 ∷ 6 ∷ 4 ∷ 2 ∷ 0 ∷ 6 ∷ 2 ∷ 4 ∷ 4 ∷ 6 ∷ 4 ∷ 2 ∷ 2 ∷ 6 ∷ 2 ∷ 0 ∷ 8 ∷ 8 ∷ 8 ∷ 0 ∷ 4 ∷ 8 ∷ 4 ∷ [])) 8)
    ∷ makes 4 2 1 (strip_frame ++ (pos 100 ∷ [])) strip_coefficients (hundreds 194) is (pos 4 ∷ hundreds 194)
    ∷ makes 3 2 1 strip_frame strip_coefficients (hundreds 194) is (pos 11 ∷ hundreds 194)
    -- gadwemosh_move: number, net; t becomes 2 r + 3 s + 5 t, and r becomes -r
    ∷ moves facet 1 3 (pos 2) (pos 3) (pos 5) (pos 0)
    is (pos 0
    ∷ lent_net 2 1 0 (map pos (1 ∷ 0 ∷ 1 ∷ 0 ∷ 1 ∷ 1 ∷ 2 ∷ 3 ∷ 10 ∷ []))
    (facet_entries (pos 1 ∷ pos 2 ∷ pos 3 ∷ pos 4 ∷ []) (pos 62 ∷ pos 36 ∷ minus 28 ∷ pos 92 ∷ [])) 92)
    ∷ moves facet 2 1 (pos 0) (pos 0) (pos 0) (pos 0)
    is (pos 0
    ∷ lent_net 2 1 0 (minus 1 ∷ pos 0 ∷ minus 1 ∷ map pos (0 ∷ 1 ∷ 1 ∷ 0 ∷ 0 ∷ 1 ∷ []))
    (facet_entries (minus 1 ∷ minus 2 ∷ minus 3 ∷ minus 4 ∷ []) (pos 9 ∷ pos 10 ∷ minus 11 ∷ pos 12 ∷ [])) 12)
    ∷ moves facet 1 3 (pos 2) (pos 3) (pos 0) (pos 0) is (pos 9 ∷ facet)
    ∷ moves (hundreds 192) 1 3 (pos 2) (pos 3) (pos 5) (pos 0) is (pos 11 ∷ hundreds 192)
    -- gadwemosh_point: number, x, y, z, w, and the numbers projected; with 1, 2 for the first pair and 3, 5
    -- for the second the four entries are taken 3, 5, 6 and 10 times
    ∷ finds tile (pos 1) (pos 2) (pos 3) (pos 5) (hundreds 9)
    is map pos (0 ∷ 13 ∷ 15 ∷ 16 ∷ 4 ∷ 13 ∷ 15 ∷ 16 ∷ 4 ∷ 100 ∷ [])
    ∷ finds tile (pos 1) (pos 2) (pos 0) (pos 0) (hundreds 9) is (pos 9 ∷ hundreds 9)
    ∷ finds tile (pos 1) (pos 2) (pos 3) (pos 5) (hundreds 7) is (pos 11 ∷ hundreds 7)
    -- at the common zero of a curve: with one copy of r where the weight of s is not 0, else with one of s
    ∷ finds chord (pos 1) (pos 1) (pos 0) (pos 0) (hundreds 9)
    is (map pos (0 ∷ 0 ∷ 0 ∷ 0 ∷ 0 ∷ []) ++ (minus 2 ∷ pos 0 ∷ pos 6 ∷ minus 1 ∷ pos 100 ∷ []))
    ∷ finds ray (pos 5) (pos 0) (pos 0) (pos 0) (hundreds 9)
    is map pos (0 ∷ 0 ∷ 0 ∷ 0 ∷ 0 ∷ 10 ∷ 15 ∷ 20 ∷ 25 ∷ 100 ∷ [])
    ∷ []

-- ---- projections: number, outcome, and both buffers, of one place more than is written

abbrev projections : List (Instance ℤ)
projections =
    -- GADWEMOSH_FINITE: 0.25, 0.5 and -0.75
    projects (pos 1) (pos 2) (minus 3) (pos 4) (7 ∷ 7 ∷ 7 ∷ 7 ∷ []) (hundreds 5)
    is (map pos (0 ∷ 1 ∷ 0x3fd0000000000000 ∷ 0x3fe0000000000000 ∷ 0xbfe8000000000000 ∷ 7 ∷ []) ++ hundreds 5)
    -- GADWEMOSH_DIRECTION: 2, -3 and 4 of length 5
    ∷ projects (pos 10) (minus 15) (pos 20) (pos 0) (7 ∷ 7 ∷ 7 ∷ 7 ∷ []) (hundreds 5)
    is (map pos (0 ∷ 2 ∷ 7 ∷ 7 ∷ 7 ∷ 7 ∷ 2 ∷ []) ++ (minus 3 ∷ map pos (4 ∷ 5 ∷ 100 ∷ [])))
    -- GADWEMOSH_NOWHERE
    ∷ projects (pos 0) (pos 0) (pos 0) (pos 0) (7 ∷ 7 ∷ 7 ∷ 7 ∷ []) (hundreds 5)
    is (map pos (0 ∷ 3 ∷ 7 ∷ 7 ∷ 7 ∷ 7 ∷ []) ++ hundreds 5)
    -- GADWEMOSH_REFUSED_RANGE, and GADWEMOSH_REFUSED_SHORT, which goes first
    ∷ projects (pos 0) (pos 0) (pos 0) (pos 281474976710657) (7 ∷ 7 ∷ 7 ∷ []) (hundreds 4)
    is (map pos (10 ∷ 0 ∷ 7 ∷ 7 ∷ 7 ∷ []) ++ hundreds 4)
    ∷ projects (pos 0) (pos 0) (pos 0) (pos 281474976710657) (7 ∷ 7 ∷ []) (hundreds 4)
    is (map pos (11 ∷ 0 ∷ 7 ∷ 7 ∷ []) ++ hundreds 4)
    ∷ projects (pos 1) (pos 2) (minus 3) (pos 4) (7 ∷ 7 ∷ 7 ∷ []) (hundreds 3)
    is (map pos (11 ∷ 0 ∷ 7 ∷ 7 ∷ 7 ∷ []) ++ hundreds 3)
    ∷ []

-- the same of found points, by eight numbers: the first four are the point, the second four are projected
abbrev projections_found : List (Instance ℤ)
projections_found =
    projects_found (map pos (1 ∷ 1 ∷ 1 ∷ 1 ∷ 1 ∷ 2 ∷ []) ++ (minus 3 ∷ pos 4 ∷ pos 100 ∷ [])) (7 ∷ 7 ∷ 7 ∷ 7 ∷ []) (hundreds 5)
    is (map pos (0 ∷ 1 ∷ 0x3fd0000000000000 ∷ 0x3fe0000000000000 ∷ 0xbfe8000000000000 ∷ 7 ∷ []) ++ hundreds 5)
    -- a direction has its length, but length 1 where all of the first four are 0
    ∷ projects_found (map pos (0 ∷ 0 ∷ 0 ∷ 1 ∷ 10 ∷ 20 ∷ 30 ∷ 0 ∷ [])) (7 ∷ 7 ∷ 7 ∷ 7 ∷ []) (hundreds 5)
    is map pos (0 ∷ 2 ∷ 7 ∷ 7 ∷ 7 ∷ 7 ∷ 1 ∷ 2 ∷ 3 ∷ 10 ∷ 100 ∷ [])
    ∷ projects_found (map pos (1 ∷ 0 ∷ 0 ∷ 0 ∷ 10 ∷ 20 ∷ 30 ∷ 0 ∷ [])) (7 ∷ 7 ∷ 7 ∷ 7 ∷ []) (hundreds 5)
    is map pos (0 ∷ 2 ∷ 7 ∷ 7 ∷ 7 ∷ 7 ∷ 1 ∷ 2 ∷ 3 ∷ 10 ∷ 100 ∷ [])
    ∷ projects_found (map pos (0 ∷ 0 ∷ 0 ∷ 0 ∷ 10 ∷ 20 ∷ 30 ∷ 0 ∷ [])) (7 ∷ 7 ∷ 7 ∷ 7 ∷ []) (hundreds 5)
    is map pos (0 ∷ 2 ∷ 7 ∷ 7 ∷ 7 ∷ 7 ∷ 1 ∷ 2 ∷ 3 ∷ 1 ∷ 100 ∷ [])
    ∷ projects_found (map pos (0 ∷ 0 ∷ 0 ∷ 0 ∷ 0 ∷ 0 ∷ 0 ∷ 0 ∷ [])) (7 ∷ 7 ∷ 7 ∷ 7 ∷ []) (hundreds 5)
    is (map pos (0 ∷ 3 ∷ 7 ∷ 7 ∷ 7 ∷ 7 ∷ []) ++ hundreds 5)
    -- the range of the second four is judged and that of the first four is not, and a buffer that is short
    -- goes first
    ∷ projects_found (map pos (0 ∷ 0 ∷ 0 ∷ 281474976710657 ∷ 0 ∷ 0 ∷ 0 ∷ 1 ∷ [])) (7 ∷ 7 ∷ 7 ∷ []) (hundreds 4)
    is (map pos (0 ∷ 1 ∷ 0 ∷ 0 ∷ 0 ∷ []) ++ hundreds 4)
    ∷ projects_found (map pos (0 ∷ 0 ∷ 0 ∷ 1 ∷ 0 ∷ 0 ∷ 0 ∷ 281474976710657 ∷ [])) (7 ∷ 7 ∷ 7 ∷ []) (hundreds 4)
    is (map pos (10 ∷ 0 ∷ 7 ∷ 7 ∷ 7 ∷ []) ++ hundreds 4)
    ∷ projects_found (map pos (0 ∷ 0 ∷ 0 ∷ 1 ∷ 0 ∷ 0 ∷ 281474976710657 ∷ [])) (7 ∷ 7 ∷ 7 ∷ []) (hundreds 4)
    is (map pos (11 ∷ 0 ∷ 7 ∷ 7 ∷ 7 ∷ []) ++ hundreds 4)
    ∷ projects_found (map pos (0 ∷ 0 ∷ 0 ∷ 1 ∷ 0 ∷ 0 ∷ 0 ∷ 281474976710657 ∷ [])) (7 ∷ 7 ∷ []) (hundreds 4)
    is (map pos (11 ∷ 0 ∷ 7 ∷ 7 ∷ []) ++ hundreds 4)
    ∷ projects_found (map pos (0 ∷ 0 ∷ 0 ∷ 1 ∷ 0 ∷ 0 ∷ 0 ∷ 281474976710657 ∷ [])) (7 ∷ 7 ∷ 7 ∷ []) (hundreds 3)
    is (map pos (11 ∷ 0 ∷ 7 ∷ 7 ∷ 7 ∷ []) ++ hundreds 3)
    ∷ []

abbrev pub instances : List (Instance ℤ)
instances = records ++ (nets ++ (projections ++ projections_found))
