-- What the definitions must give, as two tables: the samples B1 to B10 (docs/SPECIFICATION.md, 'Samples')
-- with the answers to further calls, and single instances. Both machines share the tables of refusals and the
-- names of the size rule, so these rows hold their order, and over two groups what no law holds.
-- proofs/AllSamples.antt proves every row.
use Rattle.std.specs.Prelude.{ℕ, ◌≡◌, Bool, cond, List, [], ◌∷◌, ◌++◌, map, ℤ, pos, neg_ℤ, get_or, replicate}
use Rattle.integers.specs.Sum.{upto}
use Rattle.integers.specs.Instances.{Instance, ◌is◌}
use Rattle.polar.specs.Order.{joined}
use Rattle.polar.specs.Groups.{Group, monomials_over}
use Rattle.polar.specs.Polar.{polar_over, terms}
use Rattle.entries.specs.Frame.{entry_points_over, points_over, frames_with_q}
use Rattle.entries.specs.Entries.{entry_over, listed_over, fixed_over}
use Rattle.kinds.specs.Kinds.{group, groups_of}
use Rattle.machine.specs.Steps.{Answer, refusal_number, answer_values, answers}
use Rattle.machine.specs.Comparison.{Polynomials, groups, machine_step, net_over}
use Rattle.kinds.specs.Frames.{Frames, frames_of, frames_allowed, numbers_of}
use Rattle.machine.specs.Refusals.{first_failed}
use Rattle.machine.specs.Calls.{weights_for}
use Rattle.machine.specs.Frames.{new_numbers}
use Rattle.machine.specs.Sizes.{call_tests, named_by_replace, named_by_point}
use Rattle.machine.specs.Nets.{Net, net_tests, step_of}
use Rattle.machine.specs.Lent.{call_number, call_places, made_number}
use Rattle.machine.specs.First.{first_refusal}
use Rattle.machine.specs.Demand3.{frames_reached}
use Rattle.machine.specs.declared.Call.{Call}
use Rattle.machine.specs.declared.Call.TheVariants.{Move, Point}

-- a sample: polynomials and the numbers of a frame, the calls made, the frame's numbers and the net reached with the largest component that it stores, and what each call is answered
pub record Sample : Type 0 where
  pub polynomials : Polynomials
  pub frame : List ℤ
  pub calls : List Call
  pub reached : List ℤ
  pub net : List (List ℤ)
  pub largest : ℕ
  pub answers : List (List ℤ)

-- an answer in a row: the number of the refusal or 0, and then the answer's values
abbrev pub answer_row : Answer → List ℤ
answer_row a = pos (refusal_number a) ∷ answer_values a

-- the net that a sample's calls reach
abbrev pub net_of : Sample → Net
net_of s = net_over s.polynomials (frames_reached s.polynomials s.frame s.calls)

-- what a sample says of the definitions
pub record SampleHolds (s : Sample) : Type 0 where
  pub accepted : first_refusal s.polynomials s.frame ≡ 0
  pub reached : numbers_of (net_of s).frames ≡ s.reached
  pub net : (net_of s).entries ≡ joined (λ numbers. numbers) s.net
  pub largest : (net_of s).largest ≡ pos s.largest
  pub answered : map answer_row (answers (machine_step s.polynomials) (frames_of (groups s.polynomials) s.frame) s.calls) ≡ s.answers

-- ---- how the table is written

-- x, y, z, w of a monomial, an entry or a point
abbrev four : ℕ → ℕ → ℕ → ℕ → List ℤ
four x y z w = pos x ∷ pos y ∷ pos z ∷ pos w ∷ []

-- the same where some are below 0
abbrev four_signed : ℤ → ℤ → ℤ → ℤ → List ℤ
four_signed x y z w = x ∷ y ∷ z ∷ w ∷ []

abbrev minus : ℕ → ℤ
minus k = neg_ℤ (pos k)

abbrev polynomials : ℕ → ℕ → ℕ → List (List ℤ) → Polynomials
polynomials kind degree second rows = record { kind = kind; degree = degree; second = second; coefficients = joined (λ numbers. numbers) rows }

-- a move with the first of its weights; those that are not written are 0
abbrev move : ℕ → ℕ → List ℤ → Call
move operation vertex ws = Move operation vertex (record { r = get_or ws 0 (pos 0); s = get_or ws 1 (pos 0); t = get_or ws 2 (pos 0); u = get_or ws 3 (pos 0) })

abbrev replace : ℕ → ℤ → ℤ → Call
replace vertex r s = move 1 vertex (r ∷ s ∷ [])

-- four times 4096 v in the place of v: its numbers are then 2 to the 48th times what they were
abbrev grown : ℕ → List Call
grown vertex = replicate 4 (replace vertex (pos 4096) (pos 0))

abbrev flip : ℕ → Call
flip vertex = move 2 vertex []

-- the weights of all vertices, 0 where there is none
abbrev point : ℤ → ℤ → ℤ → ℤ → Call
point r s t u = Point (record { r = r; s = s; t = t; u = u })

abbrev refused : ℕ → List ℤ
refused k = pos k ∷ []

abbrev taken : List ℤ
taken = refused 0

-- a point found, which is projected itself, with its projection's values
abbrev found : List ℤ → List ℤ → List ℤ
found numbers values = pos 0 ∷ (numbers ++ (numbers ++ values))

-- four zeros found, the numbers projected there, and their projection's values
abbrev found_at_zero : List ℤ → List ℤ → List ℤ
found_at_zero projected values = pos 0 ∷ (four 0 0 0 0 ++ (projected ++ values))

-- the bit patterns of a finite point: those of the point's quotients, each rounded once; they were worked out from the numbers beside them, not by these definitions
abbrev finite : ℕ → ℕ → ℕ → List ℤ
finite x y z = pos x ∷ pos y ∷ pos z ∷ []

-- a direction and its length
abbrev direction : ℤ → ℤ → ℤ → ℕ → List ℤ
direction x y z length = x ∷ y ∷ z ∷ pos length ∷ []

-- ---- the polynomials

abbrev circle : Polynomials
circle = polynomials 1 2 0 (four 1 0 0 1 ∷ four 0 2 0 0 ∷ four_signed (minus 1) (pos 0) (pos 0) (pos 1) ∷ [])

-- x = 3TZ², y = 3T²Z, z = 0, w = Z³ + T³
abbrev folium : Polynomials
folium = polynomials 1 3 0 (four 0 0 0 1 ∷ four 3 0 0 0 ∷ four 0 3 0 0 ∷ four 0 0 0 1 ∷ [])

-- x = UZ, y = VZ, z = UV, w = Z²
abbrev saddle : Polynomials
saddle = polynomials 2 2 0 (four 0 0 0 1 ∷ four 0 1 0 0 ∷ four 0 0 0 0 ∷ four 1 0 0 0 ∷ four 0 0 1 0 ∷ four 0 0 0 0 ∷ [])

-- x = 1048576 Z, y = z = 0, w = Z + T
abbrev line : Polynomials
line = polynomials 1 1 0 (four 1048576 0 0 1 ∷ four 0 0 0 1 ∷ [])

-- x = (Z₁² − T₁²) Z₂, y = 2 T₁Z₁ Z₂, z = (3 Z₁² + T₁²) T₂, w = (Z₁² + T₁²) Z₂: degrees 2 and 1
abbrev strip_coefficients : List (List ℤ)
strip_coefficients = four 1 0 0 1 ∷ four 0 0 3 0 ∷ four 0 2 0 0 ∷ four 0 0 0 0 ∷ four_signed (minus 1) (pos 0) (pos 0) (pos 1) ∷ four 0 0 1 0 ∷ []

-- ---- the table

abbrev pub samples : List Sample
samples =
    -- B1 and B2
    record {
      polynomials = circle;
      frame = four 0 1 1 1;
      calls = point (pos 1) (pos 1) (pos 0) (pos 0) ∷ [];
      reached = four 0 1 1 1;
      net = four 2 0 0 2 ∷ four 2 2 0 2 ∷ four 0 4 0 4 ∷ [];
      largest = 4;
      -- 0.6, 0.8 and 0, as in the circle's text
      answers = found (four 6 8 0 10) (finite 0x3fe3333333333333 0x3fe999999999999a 0) ∷ [];
    }
    ∷  -- B3
    record {
      polynomials = circle;
      frame = four 0 1 1 1;
      calls = replace 2 (pos 1) (pos 1) ∷ [];
      reached = four 0 1 1 2;
      net = four 2 0 0 2 ∷ four 4 2 0 4 ∷ four 6 8 0 10 ∷ [];
      largest = 10;
      answers = taken ∷ [];
    }
    ∷  -- B4 and B5
    record {
      polynomials = circle;
      frame = four 0 1 1 1;
      calls = flip 1 ∷ point (pos 1) (pos 1) (pos 0) (pos 0) ∷ [];
      reached = four_signed (pos 0) (minus 1) (pos 1) (pos 1);
      net = four 2 0 0 2 ∷ four_signed (minus 2) (minus 2) (pos 0) (minus 2) ∷ four 0 4 0 4 ∷ [];
      largest = 4;
      -- -1, 0 and 0
      answers = taken ∷ found (four_signed (minus 2) (pos 0) (pos 0) (pos 2)) (finite 0xbff0000000000000 0 0) ∷ [];
    }
    ∷  -- B6 and B7
    record {
      polynomials = folium;
      frame = four 0 1 1 1;
      calls = point (pos 2) (minus 1) (pos 0) (pos 0) ∷ [];
      reached = four 0 1 1 1;
      net = four 0 0 0 3 ∷ four 3 0 0 3 ∷ four 6 3 0 3 ∷ four 9 9 0 6 ∷ [];
      largest = 9;
      answers = found (four_signed (minus 9) (pos 9) (pos 0) (pos 0)) (direction (pos 1) (minus 1) (pos 0) 9) ∷ [];
    }
    ∷  -- B8 and B9
    record {
      polynomials = saddle;
      frame = pos 1 ∷ pos 0 ∷ pos 1 ∷ pos 0 ∷ pos 1 ∷ pos 1 ∷ pos 0 ∷ pos 0 ∷ pos 1 ∷ [];
      calls = point (pos 1) (pos 1) (pos 1) (pos 0) ∷ [];
      reached = pos 1 ∷ pos 0 ∷ pos 1 ∷ pos 0 ∷ pos 1 ∷ pos 1 ∷ pos 0 ∷ pos 0 ∷ pos 1 ∷ [];
      net = four 2 0 0 2 ∷ four 1 1 1 2 ∷ four 1 0 0 2 ∷ four 0 2 0 2 ∷ four 0 1 0 2 ∷ four 0 0 0 2 ∷ [];
      largest = 2;
      -- 1/3, 1/3 and 1/9
      answers = found (four 6 6 2 18) (finite 0x3fd5555555555555 0x3fd5555555555555 0x3fbc71c71c71c71c) ∷ [];
    }
    ∷  -- B10, taken with 16 and refused with 17
    record {
      polynomials = line;
      frame = four 0 1 1 0;
      calls = replace 1 (pos 4096) (pos 1) ∷ replace 1 (pos 4096) (pos 1) ∷ replace 1 (pos 16) (pos 1) ∷ [];
      reached = four 65553 268435456 1 0;
      net = four 281474976710656 0 0 268501009 ∷ four 0 0 0 1 ∷ [];
      largest = 281474976710656;
      answers = taken ∷ taken ∷ taken ∷ [];
    }
    ∷  -- and refusals with several reasons: 8 and 10, 8 and 9 and 10, 9 and 10; of a point 8 and 10, 8 and 9, 9
    record {
      polynomials = line;
      frame = four 0 1 1 0;
      calls =
          replace 1 (pos 4096) (pos 1)
          ∷ replace 1 (pos 4096) (pos 1)
          ∷ replace 1 (pos 17) (pos 1)
          ∷ replace 1 (pos 4097) (pos 1)
          ∷ replace 2 (pos 4097) (pos 0)
          ∷ replace 2 (pos 4096) (pos 0)
          ∷ point (pos 4097) (pos 0) (pos 0) (pos 0)
          ∷ point (pos 0) (pos 0) (pos 1) (pos 0)
          ∷ point (pos 0) (pos 0) (pos 0) (pos 0)
          ∷ [];
      reached = four 4097 16777216 1 0;
      net = four 17592186044416 0 0 16781313 ∷ four 0 0 0 1 ∷ [];
      largest = 17592186044416;
      answers = taken ∷ taken ∷ refused 10 ∷ refused 8 ∷ refused 8 ∷ refused 9 ∷ refused 8 ∷ refused 8 ∷ refused 9 ∷ [];
    }
    ∷  -- a move's own refusals: operation, vertex, weight outside, weight of a flip, weight past the vertices, weight 0 of the replaced vertex
    record {
      polynomials = saddle;
      frame = pos 1 ∷ pos 0 ∷ pos 1 ∷ pos 0 ∷ pos 1 ∷ pos 1 ∷ pos 0 ∷ pos 0 ∷ pos 1 ∷ [];
      calls =
          move 0 1 (four 0 0 0 0)
          ∷ move 3 1 (four 1 0 0 0)
          ∷ move 2 0 (four 0 0 0 0)
          ∷ move 2 4 (four 0 0 0 0)
          ∷ move 1 3 (four_signed (pos 0) (minus 4097) (pos 1) (pos 0))
          ∷ move 2 3 (four 0 0 1 0)
          ∷ move 1 3 (four 0 0 1 1)
          ∷ move 1 3 (four 1 1 0 0)
          ∷ [];
      reached = pos 1 ∷ pos 0 ∷ pos 1 ∷ pos 0 ∷ pos 1 ∷ pos 1 ∷ pos 0 ∷ pos 0 ∷ pos 1 ∷ [];
      net = four 2 0 0 2 ∷ four 1 1 1 2 ∷ four 1 0 0 2 ∷ four 0 2 0 2 ∷ four 0 1 0 2 ∷ four 0 0 0 2 ∷ [];
      largest = 2;
      answers = refused 8 ∷ refused 8 ∷ refused 8 ∷ refused 8 ∷ refused 8 ∷ refused 8 ∷ refused 8 ∷ refused 9 ∷ [];
    }
    ∷  -- every case of a projection, off a common zero: x = -4T², y = 3TZ + 6T², z = 0, w = -2TZ is in a direction,
    -- and at 2, -4.5 and positive zero over a weight below 0. T = 0 is a common zero: T taken out leaves 0,
    -- 3, 0, -2
    record {
      polynomials = polynomials 1 2 0 (four 0 0 0 0 ∷ four_signed (pos 0) (pos 3) (pos 0) (minus 2) ∷ four_signed (minus 4) (pos 6) (pos 0) (pos 0) ∷ []);
      frame = four 0 1 1 0;
      calls = point (pos 1) (pos 0) (pos 0) (pos 0) ∷ point (pos 0) (pos 1) (pos 0) (pos 0) ∷ point (pos 1) (pos 1) (pos 0) (pos 0) ∷ [];
      reached = four 0 1 1 0;
      net = four 0 0 0 0 ∷ four_signed (pos 0) (pos 3) (pos 0) (minus 2) ∷ four_signed (minus 8) (pos 12) (pos 0) (pos 0) ∷ [];
      largest = 12;
      answers =
          found_at_zero (four_signed (pos 0) (pos 3) (pos 0) (minus 2)) (finite 0 0xbff8000000000000 0)
          ∷ found (four_signed (minus 8) (pos 12) (pos 0) (pos 0)) (direction (pos 2) (minus 3) (pos 0) 4)
          ∷ found (four_signed (minus 8) (pos 18) (pos 0) (minus 4)) (finite 0x4000000000000000 0xc012000000000000 0)
          ∷ [];
    }
    -- ---- common zeros. The numbers projected were found by taking 2T - Z, T or Z out of the polynomials,
    -- not by these definitions
    ∷  -- x = 4TZ, y = -6TZ, z = 0, w = T²: at T = 0, by weights of which that of s is 0, a direction is left; it has no
    -- length of its own, and elsewhere there are lengths
    record {
      polynomials = polynomials 1 2 0 (four 0 0 0 0 ∷ four_signed (pos 4) (minus 6) (pos 0) (pos 0) ∷ four 0 0 0 1 ∷ []);
      frame = four 0 1 1 0;
      calls = point (pos 1) (pos 0) (pos 0) (pos 0) ∷ point (pos 0) (pos 1) (pos 0) (pos 0) ∷ [];
      reached = four 0 1 1 0;
      net = four 0 0 0 0 ∷ four_signed (pos 4) (minus 6) (pos 0) (pos 0) ∷ four 0 0 0 2 ∷ [];
      largest = 6;
      answers =
          found_at_zero (four_signed (pos 4) (minus 6) (pos 0) (pos 0)) (direction (pos 2) (minus 3) (pos 0) 1)
          ∷ found (four 0 0 0 2) (finite 0 0 0)
          ∷ [];
    }
    ∷  -- x = (2T - Z) Z, w = (2T - Z) T at q = r + s, q = 2r + 2s and q = -r - s: r is the other vertex
    record {
      polynomials = polynomials 1 2 0 (four_signed (minus 1) (pos 0) (pos 0) (pos 0) ∷ four_signed (pos 2) (pos 0) (pos 0) (minus 1) ∷ four 0 0 0 2 ∷ []);
      frame = four 0 1 1 1;
      calls = point (pos 1) (pos 1) (pos 0) (pos 0) ∷ point (pos 2) (pos 2) (pos 0) (pos 0) ∷ point (minus 1) (minus 1) (pos 0) (pos 0) ∷ [];
      reached = four 0 1 1 1;
      net = four_signed (minus 2) (pos 0) (pos 0) (pos 0) ∷ four_signed (pos 0) (pos 0) (pos 0) (minus 1) ∷ four 2 0 0 2 ∷ [];
      largest = 2;
      answers =
          found_at_zero (four_signed (minus 2) (pos 0) (pos 0) (minus 1)) (finite 0x4000000000000000 0 0)
          ∷ found_at_zero (four_signed (minus 4) (pos 0) (pos 0) (minus 2)) (finite 0x4000000000000000 0 0)
          ∷ found_at_zero (four 2 0 0 1) (finite 0x4000000000000000 0 0)
          ∷ [];
    }
    ∷  -- (2T - Z)² times 3Z², -2T², TZ, 4T²: a zero of order 2 in degree 4
    record {
      polynomials =
          polynomials 1 4 0
          (four 3 0 0 0
          ∷ four_signed (minus 12) (pos 0) (pos 1) (pos 0)
          ∷ four_signed (pos 12) (minus 2) (minus 4) (pos 4)
          ∷ four_signed (pos 0) (pos 8) (pos 4) (minus 16)
          ∷ four_signed (pos 0) (minus 8) (pos 0) (pos 16)
          ∷ []);
      frame = four 0 1 1 1;
      calls = point (pos 1) (pos 1) (pos 0) (pos 0) ∷ point (minus 2) (minus 2) (pos 0) (pos 0) ∷ [];
      reached = four 0 1 1 1;
      net =
          four 36 0 0 0
          ∷ four 0 0 3 0
          ∷ four_signed (minus 12) (minus 4) (minus 2) (pos 8)
          ∷ four_signed (pos 0) (pos 12) (minus 3) (minus 24)
          ∷ four_signed (pos 36) (minus 24) (pos 12) (pos 48)
          ∷ [];
      largest = 48;
      answers =
          found_at_zero (four_signed (pos 24) (minus 4) (pos 4) (pos 8)) (finite 0x4008000000000000 0xbfe0000000000000 0x3fe0000000000000)
          ∷ found_at_zero (four_signed (pos 96) (minus 16) (pos 16) (pos 32)) (finite 0x4008000000000000 0xbfe0000000000000 0x3fe0000000000000)
          ∷ [];
    }
    ∷  -- x = TZ², y = 5Z³, w = 2TZ² over r = (1, 0), s = (0, 1): order 2 at q = 2r, q's weight of s is 0
    record {
      polynomials = polynomials 1 3 0 (four 0 5 0 0 ∷ four 1 0 0 2 ∷ four 0 0 0 0 ∷ four 0 0 0 0 ∷ []);
      frame = four 1 0 0 1;
      calls = point (pos 2) (pos 0) (pos 0) (pos 0) ∷ point (pos 0) (pos 3) (pos 0) (pos 0) ∷ [];
      reached = four 1 0 0 1;
      net = four 0 0 0 0 ∷ four 0 0 0 0 ∷ four 1 0 0 2 ∷ four 0 15 0 0 ∷ [];
      largest = 15;
      answers = found_at_zero (four 2 0 0 4) (finite 0x3fe0000000000000 0 0) ∷ found (four 0 405 0 0) (direction (pos 0) (pos 1) (pos 0) 405) ∷ [];
    }
    ∷  -- (2T - Z)³, (2T - Z) TZ, (2T - Z)² T, 0: the least of the four orders counts
    record {
      polynomials =
          polynomials 1 3 0
          (four_signed (minus 1) (pos 0) (pos 0) (pos 0)
          ∷ four_signed (pos 6) (minus 1) (pos 1) (pos 0)
          ∷ four_signed (minus 12) (pos 2) (minus 4) (pos 0)
          ∷ four 8 0 4 0
          ∷ []);
      frame = four 0 1 1 1;
      calls = point (pos 1) (pos 1) (pos 0) (pos 0) ∷ [];
      reached = four 0 1 1 1;
      net =
          four_signed (minus 3) (pos 0) (pos 0) (pos 0)
          ∷ four_signed (pos 3) (minus 1) (pos 1) (pos 0)
          ∷ four_signed (minus 3) (pos 0) (minus 2) (pos 0)
          ∷ four 3 3 3 0
          ∷ [];
      largest = 3;
      answers = found_at_zero (four_signed (pos 0) (minus 2) (pos 0) (pos 0)) (direction (pos 0) (pos 1) (pos 0) 1) ∷ [];
    }
    ∷  -- 7, 0, -2, 4 times (2T - Z)³: the order is the degree
    record {
      polynomials =
          polynomials 1 3 0
          (four_signed (minus 7) (pos 0) (pos 2) (minus 4)
          ∷ four_signed (pos 42) (pos 0) (minus 12) (pos 24)
          ∷ four_signed (minus 84) (pos 0) (pos 24) (minus 48)
          ∷ four_signed (pos 56) (pos 0) (minus 16) (pos 32)
          ∷ []);
      frame = four 0 1 1 1;
      calls = point (pos 1) (pos 1) (pos 0) (pos 0) ∷ [];
      reached = four 0 1 1 1;
      net =
          four_signed (minus 21) (pos 0) (pos 6) (minus 12)
          ∷ four_signed (pos 21) (pos 0) (minus 6) (pos 12)
          ∷ four_signed (minus 21) (pos 0) (pos 6) (minus 12)
          ∷ four_signed (pos 21) (pos 0) (minus 6) (pos 12)
          ∷ [];
      largest = 21;
      answers = found_at_zero (four_signed (minus 21) (pos 0) (pos 6) (minus 12)) (finite 0x3ffc000000000000 0 0xbfe0000000000000) ∷ [];
    }
    ∷  -- the zero curve is nowhere
    record {
      polynomials = polynomials 1 1 0 (four 0 0 0 0 ∷ four 0 0 0 0 ∷ []);
      frame = four 0 1 1 1;
      calls = point (pos 1) (pos 1) (pos 0) (pos 0) ∷ point (pos 1) (pos 0) (pos 0) (pos 0) ∷ [];
      reached = four 0 1 1 1;
      net = four 0 0 0 0 ∷ four 0 0 0 0 ∷ [];
      largest = 0;
      answers = found_at_zero (four 0 0 0 0) [] ∷ found_at_zero (four 0 0 0 0) [] ∷ [];
    }
    ∷  -- a triangular patch is nowhere at a common zero: x = w = U, y = V at U = V = 0
    record {
      polynomials = polynomials 2 1 0 (four 0 0 0 0 ∷ four 0 1 0 0 ∷ four 1 0 0 1 ∷ []);
      frame = pos 1 ∷ pos 0 ∷ pos 0 ∷ pos 0 ∷ pos 1 ∷ pos 0 ∷ pos 0 ∷ pos 0 ∷ pos 1 ∷ [];
      calls = point (pos 0) (pos 0) (pos 1) (pos 0) ∷ [];
      reached = pos 1 ∷ pos 0 ∷ pos 0 ∷ pos 0 ∷ pos 1 ∷ pos 0 ∷ pos 0 ∷ pos 0 ∷ pos 1 ∷ [];
      net = four 1 0 0 1 ∷ four 0 1 0 0 ∷ four 0 0 0 0 ∷ [];
      largest = 1;
      answers = found_at_zero (four 0 0 0 0) [] ∷ [];
    }
    ∷  -- so is a rectangular one: x = w = T₁T₂, y = T₁Z₂ at T₁ = 0
    record {
      polynomials = polynomials 3 1 1 (four 0 0 0 0 ∷ four 0 0 0 0 ∷ four 0 1 0 0 ∷ four 1 0 0 1 ∷ []);
      frame = four 0 1 1 1 ++ four 0 1 1 1;
      calls = point (pos 1) (pos 0) (pos 1) (pos 1) ∷ [];
      reached = four 0 1 1 1 ++ four 0 1 1 1;
      net = four 0 0 0 0 ∷ four 0 0 0 0 ∷ four 0 1 0 0 ∷ four 1 1 0 1 ∷ [];
      largest = 1;
      answers = found_at_zero (four 0 0 0 0) [] ∷ [];
    }
    ∷  -- a rectangular patch: a replace in each pair, a flip in each, a point, a direction, and the refusals of vertices, weights and pairs
    record {
      polynomials = polynomials 3 2 1 strip_coefficients;
      frame = four 0 1 1 1 ++ four 1 2 1 1;
      calls =
          replace 2 (pos 1) (pos 1)
          ∷ replace 3 (pos 1) (minus 2)
          ∷ flip 4
          ∷ flip 1
          ∷ point (pos 1) (pos 2) (pos 3) (pos 1)
          ∷ point (pos 1) (pos 1) (pos 1) (pos 0)
          ∷ move 1 4 (four 1 2 1 0)
          ∷ replace 3 (pos 0) (pos 1)
          ∷ point (pos 0) (pos 0) (pos 1) (pos 1)
          ∷ point (pos 1) (pos 0) (pos 0) (pos 0)
          ∷ flip 5
          ∷ [];
      reached = four_signed (pos 0) (minus 1) (pos 1) (pos 2) ++ four_signed (minus 1) (pos 0) (minus 1) (minus 1);
      net =
          four_signed (pos 0) (pos 0) (minus 6) (pos 0)
          ∷ four_signed (minus 2) (pos 0) (minus 6) (minus 2)
          ∷ four 0 0 12 0
          ∷ four 4 2 12 4
          ∷ four_signed (pos 0) (pos 0) (minus 26) (pos 0)
          ∷ four_signed (minus 6) (minus 8) (minus 26) (minus 10)
          ∷ [];
      largest = 26;
      answers =
          taken
          ∷ taken
          ∷ taken
          ∷ taken
          ∷ found (four_signed (minus 10) (minus 24) (minus 248) (minus 26)) (finite 0x3fd89d89d89d89d9 0x3fed89d89d89d89e 0x402313b13b13b13b)
          ∷ found (four_signed (pos 0) (pos 0) (minus 8) (pos 0)) (direction (pos 0) (pos 0) (pos 1) 8)
          ∷ refused 8
          ∷ refused 9
          ∷ refused 9
          ∷ refused 9
          ∷ refused 8
          ∷ [];
    }
    ∷  -- frames: a number of 2 to the 48th is taken and one more is 12, a point's q is not looked at, and a flip gives the negative
    record {
      polynomials = polynomials 1 1 0 (four 0 0 0 0 ∷ four 1 0 0 0 ∷ []);
      frame = four 0 1 1 1;
      calls =
          grown 1
          ++ (replace 1 (pos 1) (pos 1)
          ∷ point (pos 1) (pos 1) (pos 0) (pos 0)
          ∷ flip 1
          ∷ replace 1 (pos 1) (minus 1)
          ∷ []);
      reached = four_signed (pos 0) (minus 281474976710656) (pos 1) (pos 1);
      net = four 0 0 0 0 ∷ four 1 0 0 0 ∷ [];
      largest = 1;
      answers = replicate 4 taken ++ (refused 12 ∷ found (four 1 0 0 0) (direction (pos 1) (pos 0) (pos 0) 1) ∷ taken ∷ refused 12 ∷ []);
    }
    ∷  -- 12 before 10 and after 8 and 9
    record {
      polynomials = polynomials 1 1 0 (four 1 0 0 0 ∷ four 0 0 0 0 ∷ []);
      frame = four 0 1 1 1;
      calls =
          grown 1
          ++ (replace 1 (pos 1) (pos 1)
          ∷ point (pos 1) (pos 1) (pos 0) (pos 0)
          ∷ replace 1 (pos 4097) (pos 1)
          ∷ replace 2 (pos 2) (pos 0)
          ∷ []);
      reached = four 0 281474976710656 1 1;
      net = four 281474976710656 0 0 0 ∷ four 1 0 0 0 ∷ [];
      largest = 281474976710656;
      answers = replicate 4 taken ++ (refused 12 ∷ refused 10 ∷ refused 8 ∷ refused 9 ∷ []);
    }
    ∷  -- the q of the second pair, over the numbers of that pair
    record {
      polynomials = polynomials 3 1 1 (four 0 0 0 0 ∷ four 0 0 0 0 ∷ four 0 0 0 0 ∷ four 0 0 0 1 ∷ []);
      frame = four 1 0 0 1 ++ four 0 1 1 1;
      calls =
          grown 3
          ++ (replace 3 (pos 1) (pos 1)
          ∷ replace 1 (pos 1) (pos 1)
          ∷ replace 4 (pos 1) (pos 1)
          ∷ []);
      reached = four 1 1 0 1 ++ four 0 281474976710656 1 1;
      net = four 0 0 0 0 ∷ four 0 0 0 1 ∷ four 0 0 0 0 ∷ four 0 0 0 0 ∷ [];
      largest = 1;
      answers = replicate 4 taken ++ (refused 12 ∷ taken ∷ refused 12 ∷ []);
    }
    ∷  -- a triangular patch: a replace of each vertex with three weights of its own, a flip of each, a point, and a fourth weight, which no vertex has
    record {
      polynomials = saddle;
      frame = pos 1 ∷ pos 0 ∷ pos 1 ∷ pos 0 ∷ pos 1 ∷ pos 1 ∷ pos 0 ∷ pos 0 ∷ pos 1 ∷ [];
      calls =
          move 1 1 (four 2 1 3 0)
          ∷ flip 2
          ∷ move 1 3 (four_signed (pos 1) (minus 1) (pos 2) (pos 0))
          ∷ flip 3
          ∷ move 1 2 (four_signed (minus 1) (pos 2) (pos 1) (pos 0))
          ∷ flip 1
          ∷ point (pos 1) (pos 2) (minus 1) (pos 0)
          ∷ point (pos 1) (pos 2) (minus 1) (pos 1)
          ∷ [];
      reached = minus 2 ∷ minus 1 ∷ minus 6 ∷ minus 4 ∷ minus 5 ∷ minus 17 ∷ minus 2 ∷ minus 2 ∷ minus 9 ∷ [];
      net =
          four 24 12 4 72
          ∷ four 58 47 14 204
          ∷ four 30 21 6 108
          ∷ four 136 170 40 578
          ∷ four 70 79 18 306
          ∷ four 36 36 8 162
          ∷ [];
      largest = 578;
      -- 248/961, 279/961 and 72/961
      answers = replicate 6 taken ++ (found (four 496 558 144 1922) (finite 0x3fd0842108421084 0x3fd294a5294a5295 0x3fb32e15d80aa7d3) ∷ refused 8 ∷ []);
    }
    ∷ []

-- ---- single instances

-- the refusals 7, 6, 5 and 4 of a first net, each with those of the rows before it: x of the first entry is 2520 times 2 to the 38th; a coefficient is outside;
-- the determinant is 0 or a number outside; there is a second degree, or the degree is 11
abbrev far : ℕ → ℕ → ℕ → Polynomials
far degree second last = polynomials 1 degree second (joined (λ k. four 1048576 0 0 0 ∷ []) (upto degree) ++ (four 1048576 0 0 last ∷ []))

abbrev first_nets : List (Instance ℤ)
first_nets =
    refused (first_refusal (far 9 0 1048576) (four_signed (pos 4) (pos 4) (minus 4) (pos 4))) is refused 7
    ∷ refused (first_refusal (far 9 0 1048577) (four_signed (pos 4) (pos 4) (minus 4) (pos 4))) is refused 6
    ∷ refused (first_refusal (far 9 0 1048577) (four 4 4 4 4)) is refused 5
    ∷ refused (first_refusal (far 9 0 1048577) (four 5 4 4 5)) is refused 5
    ∷ refused (first_refusal (far 9 1 1048577) (four 4 4 4 4)) is refused 4
    ∷ refused (first_refusal (far 11 0 1048577) (four 4 4 4 4)) is refused 4
    ∷ []

-- the refusals 4 and 10 of a handed net before those of the call; its first entry is x, 0, 0, w; what a net claims as its largest component is not judged
abbrev handed : ℕ → ℕ → ℕ → ℕ → ℕ → ℤ → List ℤ
handed kind degree second x w weight =
    refused
    (first_failed
    (net_tests
    (record { kind = kind; degree = degree; second = second; frames = frames_of (group 1 1 ∷ []) (four 0 1 1 0); entries = four x 0 0 w ++ four 0 0 0 1; largest = minus 1 })
    (point weight (pos 1) (pos 0) (pos 0))))

abbrev handed_last : List ℤ → List ℤ
handed_last last =
    refused
    (first_failed
    (net_tests
    (record { kind = 1; degree = 1; second = 0; frames = frames_of (group 1 1 ∷ []) (four 0 1 1 0); entries = four 0 0 0 1 ++ last; largest = minus 1 })
    (flip 1)))

abbrev handed_nets : List (Instance ℤ)
handed_nets =
    handed 1 1 0 281474976710656 1 (pos 1) is refused 0
    ∷ handed 1 1 0 281474976710656 1 (pos 2) is refused 10
    ∷ handed 1 1 0 1 281474976710656 (pos 2) is refused 10
    ∷ handed 1 1 0 281474976710656 1 (pos 4097) is refused 8
    ∷ handed 1 1 0 281474976710657 1 (pos 4097) is refused 10
    ∷ handed 1 1 1 281474976710657 1 (pos 4097) is refused 4
    ∷ handed 3 1 1 281474976710657 1 (pos 4097) is refused 10
    ∷ handed 3 1 0 281474976710657 1 (pos 4097) is refused 4
    ∷ handed 3 1 6 281474976710657 1 (pos 4097) is refused 4
    ∷ handed 3 6 1 281474976710657 1 (pos 4097) is refused 4
    ∷ handed 4 1 1 281474976710657 1 (pos 4097) is refused 4
    -- each number of the last entry too
    ∷ handed_last (four 281474976710657 0 0 1) is refused 10
    ∷ handed_last (four 0 281474976710657 0 1) is refused 10
    ∷ handed_last (four 0 0 281474976710657 1) is refused 10
    ∷ handed_last (four_signed (pos 0) (pos 0) (pos 0) (minus 281474976710657)) is refused 10
    ∷ handed_last (four 281474976710656 0 0 1) is refused 0
    ∷ []

abbrev zeros : ℕ → List ℤ
zeros n = replicate n (pos 0)

-- the refusal 12 of a handed net: Z is `number` at r, and x of the first entry is `component`; what it claims as its largest component is not judged
abbrev handed_frame : ℤ → ℤ → Call → List ℤ
handed_frame number component call =
    refused
    (first_failed
    (net_tests
    (record { kind = 1; degree = 1; second = 0; frames = frames_of (group 1 1 ∷ []) (four_signed (pos 0) number (pos 1) (pos 0)); entries = component ∷ zeros 7; largest = minus 1 })
    call))

-- a net of zeros, of degree 1 in each group, over a frame with these numbers, and the number of a call's
-- refusal on it
abbrev on_zeros : ℕ → ℕ → List ℤ → Call → List ℤ
on_zeros kind second numbers call =
    let gs = groups_of kind 1 second in
    refused (first_failed (net_tests (record { kind = kind; degree = 1; second = second; frames = frames_of gs numbers; entries = zeros 16; largest = minus 1 }) call))

abbrev handed_frames : List (Instance ℤ)
handed_frames =
    -- a number of 2 to the 48th passes, and one beyond is 12 for every call
    handed_frame (minus 281474976710656) (pos 1) (flip 1) is refused 0
    ∷ handed_frame (minus 281474976710657) (pos 1) (flip 2) is refused 12
    ∷ handed_frame (pos 281474976710657) (pos 1) (point (pos 0) (pos 1) (pos 0) (pos 0)) is refused 12
    ∷ handed_frame (pos 281474976710657) (pos 1) (replace 1 (pos 1) (pos 0)) is refused 12
    -- before size, and after 8, 9 and a component of the net
    ∷ handed_frame (pos 281474976710657) (pos 281474976710656) (replace 1 (pos 2) (pos 0)) is refused 12
    ∷ handed_frame (pos 281474976710657) (pos 1) (replace 1 (pos 0) (pos 1)) is refused 9
    ∷ handed_frame (pos 281474976710657) (pos 1) (flip 3) is refused 8
    ∷ handed_frame (pos 281474976710657) (minus 281474976710657) (flip 3) is refused 10
    -- the last number of a frame of each kind; one past the frame's numbers is not looked at
    ∷ on_zeros 1 0 (zeros 3 ++ (pos 281474976710657 ∷ [])) (flip 1) is refused 12
    ∷ on_zeros 1 0 (zeros 4 ++ (pos 281474976710657 ∷ [])) (flip 1) is refused 0
    ∷ on_zeros 2 0 (zeros 8 ++ (pos 281474976710657 ∷ [])) (flip 1) is refused 12
    ∷ on_zeros 3 1 (zeros 7 ++ (minus 281474976710657 ∷ [])) (flip 1) is refused 12
    ∷ on_zeros 3 1 (zeros 8 ++ (minus 281474976710657 ∷ [])) (flip 1) is refused 0
    ∷ []

-- what a point of a handed curve's net answers, over a frame of zeros: no record has it, and its determinant
-- is 0
abbrev handed_point : ℕ → List (List ℤ) → ℤ → ℤ → List ℤ
handed_point degree entries r s =
    answer_row
    (step_of
    (record {
      kind = 1;
      degree = degree;
      second = 0;
      frames = frames_of (group 1 degree ∷ []) (zeros 4);
      entries = joined (λ numbers. numbers) entries;
      largest = pos 0;
    })
    (point r s (pos 0) (pos 0))
    ).answer

-- x = 2 (a² - b²), w = 2b (b - a) in the weights a and b: a common zero at a = b, and none at b = 0
abbrev handed_curve : List (List ℤ)
handed_curve = four 2 0 0 0 ∷ four_signed (pos 0) (pos 0) (pos 0) (minus 1) ∷ four_signed (minus 2) (pos 0) (pos 0) (pos 2) ∷ []

abbrev handed_zeros : List (Instance ℤ)
handed_zeros =
    handed_point 2 handed_curve (pos 1) (pos 1) is found_at_zero (four_signed (pos 2) (pos 0) (pos 0) (minus 1)) (finite 0xc000000000000000 0 0)
    ∷ handed_point 2 handed_curve (pos 1) (pos 0) is found (four 2 0 0 0) (direction (pos 1) (pos 0) (pos 0) 2)
    ∷ handed_point 2 (four 0 0 0 0 ∷ four 0 0 0 0 ∷ four 0 0 3 0 ∷ []) (pos 5) (pos 0) is found_at_zero (four 0 0 3 0) (direction (pos 0) (pos 0) (pos 1) 1)
    ∷ handed_point 2 (four 0 0 0 0 ∷ four 0 4 0 0 ∷ four 0 0 3 0 ∷ []) (pos 5) (pos 0) is found_at_zero (four 0 20 0 0) (direction (pos 0) (pos 1) (pos 0) 1)
    ∷ handed_point 1 (four 0 0 0 0 ∷ four 0 0 0 0 ∷ []) (pos 1) (pos 1) is found_at_zero (four 0 0 0 0) []
    ∷ []

-- a curve of degree 1 and zero entries, in the nine places of whose frame a number stands at place k, counted from 0
abbrev lent_frame : ℕ → ℕ → List ℤ
lent_frame k number = pos 1 ∷ pos 1 ∷ pos 0 ∷ (zeros k ++ (pos number ∷ zeros 189))

-- a net of zeros in lent places, with these numbers for kind, degree and second degree
abbrev lent_head : ℤ → ℤ → ℤ → List ℤ
lent_head kind degree second = refused (call_number (flip 1) (kind ∷ degree ∷ second ∷ zeros 190) [])

-- too few places are 11 before all else, and places past the frame's numbers are not looked at
abbrev lent_nets : List (Instance ℤ)
lent_nets =
    refused (call_number (flip 1) (lent_frame 3 281474976710657) []) is refused 12
    ∷ refused (call_number (flip 1) (lent_frame 4 281474976710657) []) is refused 0
    ∷ refused (call_number (point (pos 4097) (pos 0) (pos 0) (pos 0)) (zeros 192) (zeros 8)) is refused 11
    ∷ refused (call_number (point (pos 4097) (pos 0) (pos 0) (pos 0)) (zeros 193) (zeros 7)) is refused 11
    ∷ refused (call_number (point (pos 4097) (pos 0) (pos 0) (pos 0)) (zeros 193) (zeros 8)) is refused 4
    ∷ refused (call_number (flip 3) (zeros 193) []) is refused 4
    -- kind and degrees that are no bytes are none that a net has
    ∷ lent_head (pos 1) (pos 1) (pos 0) is refused 0
    ∷ lent_head (pos 257) (pos 1) (pos 0) is refused 4
    ∷ lent_head (pos 1) (pos 257) (pos 0) is refused 4
    ∷ lent_head (pos 1) (pos 1) (pos 256) is refused 4
    ∷ lent_head (pos 1) (pos 1) (minus 1) is refused 4
    ∷ lent_head (pos 1) (pos 1) (minus 256) is refused 4
    ∷ refused (made_number 3 0 0 (zeros 8) (zeros 180) (zeros 193)) is refused 11
    ∷ refused (made_number 3 0 0 (zeros 9) (zeros 179) (zeros 193)) is refused 11
    ∷ refused (made_number 3 0 0 (zeros 9) (zeros 180) (zeros 192)) is refused 11
    ∷ refused (made_number 3 0 0 (zeros 9) (zeros 180) (zeros 193)) is refused 4
    -- coefficients past those of kind and degrees are not looked at
    ∷ refused (made_number 1 1 0 (four 0 1 1 0 ++ zeros 5) (zeros 8 ++ replicate 172 (pos 1048577)) (zeros 193)) is refused 0
    ∷ refused (made_number 1 1 0 (four 0 1 1 0 ++ zeros 5) (zeros 7 ++ replicate 173 (pos 1048577)) (zeros 193)) is refused 6
    ∷ []

-- ---- weights, place by place

-- the refusals of four calls on a net of zeros over a frame of zeros: `x` is the first weight, the second,
-- the third or the fourth, and the other weights are 0
abbrev in_each_place : ℕ → ℕ → (List ℤ → Call) → ℤ → List ℤ
in_each_place kind second call x = joined (λ k. on_zeros kind second [] (call (zeros k ++ (x ∷ [])))) (upto 4)

abbrev on_curve : (List ℤ → Call) → ℤ → List ℤ
on_curve = in_each_place 1 0

abbrev on_patch : (List ℤ → Call) → ℤ → List ℤ
on_patch = in_each_place 2 0

abbrev on_rect : (List ℤ → Call) → ℤ → List ℤ
on_rect = in_each_place 3 1

abbrev point_by : List ℤ → Call
point_by ws = point (get_or ws 0 (pos 0)) (get_or ws 1 (pos 0)) (get_or ws 2 (pos 0)) (get_or ws 3 (pos 0))

-- A replace is taken where the weight is the vertex's own, 9 where it is another vertex's of its group, and 8
-- where it is no vertex's; a flip uses none. A point uses as many as there are vertices; with one weight a
-- rectangular patch has a pair all 0. The limit 4096 is each weight's, on both sides.
abbrev weight_places : List (Instance ℤ)
weight_places =
    on_curve (move 1 1) (pos 1) is four 0 9 8 8
    ∷ on_curve (move 1 2) (minus 4096) is four 9 0 8 8
    ∷ on_curve (move 1 2) (minus 4097) is four 8 8 8 8
    ∷ on_curve (move 2 1) (pos 1) is four 8 8 8 8
    ∷ on_curve point_by (pos 4096) is four 0 0 8 8
    ∷ on_curve point_by (pos 4097) is four 8 8 8 8
    ∷ on_patch (move 1 1) (pos 1) is four 0 9 9 8
    ∷ on_patch (move 1 2) (pos 4096) is four 9 0 9 8
    ∷ on_patch (move 1 3) (minus 4096) is four 9 9 0 8
    ∷ on_patch (move 1 3) (pos 4097) is four 8 8 8 8
    ∷ on_patch (move 2 3) (minus 1) is four 8 8 8 8
    ∷ on_patch point_by (minus 4096) is four 0 0 0 8
    ∷ on_patch point_by (minus 4097) is four 8 8 8 8
    ∷ on_rect (move 1 1) (pos 1) is four 0 9 8 8
    ∷ on_rect (move 1 2) (minus 1) is four 9 0 8 8
    ∷ on_rect (move 1 3) (pos 4096) is four 0 9 8 8
    ∷ on_rect (move 1 4) (minus 4096) is four 9 0 8 8
    ∷ on_rect (move 1 4) (pos 4097) is four 8 8 8 8
    ∷ on_rect (move 2 4) (pos 1) is four 8 8 8 8
    ∷ on_rect point_by (pos 4096) is four 9 9 9 9
    ∷ on_rect point_by (minus 4097) is four 8 8 8 8
    ∷ []

-- ---- the largest component of handed nets

-- the entries of a line: at r and at s of its frame
abbrev line_entries : List ℤ
line_entries = four_signed (minus 3) (pos 1) (pos 0) (pos 2) ++ four 1 5 0 1

-- this line over a frame, with the largest component -1, which no net has
abbrev claiming : Net
claiming = record { kind = 1; degree = 1; second = 0; frames = frames_of (group 1 1 ∷ []) (four 0 1 1 0); entries = line_entries; largest = minus 1 }

-- what the net that a call leaves stores, and its entries
abbrev stored : Call → List ℤ
stored call = let left = (step_of claiming call).left in left.largest ∷ left.entries

-- a line in lent places; all places that are not its own hold 100
abbrev lent_line : List ℤ → List ℤ → ℤ → List ℤ
lent_line frame entries largest =
    pos 1 ∷ pos 1 ∷ pos 0 ∷ (frame ++ replicate 5 (pos 100) ++ entries ++ replicate 172 (pos 100) ++ (largest ∷ pos 100 ∷ []))

abbrev lent_after : Call → List ℤ
lent_after call = call_places call (lent_line (four 0 1 1 0) line_entries (minus 1)) []

-- a replace works it out from the entries that it leaves, not from what is claimed and not from places past the entries; a flip, a point and a refused replace hand on what is claimed
abbrev claims : List (Instance ℤ)
claims =
    stored (replace 2 (pos 1) (minus 2)) is (pos 9 ∷ (four_signed (minus 3) (pos 1) (pos 0) (pos 2) ++ four_signed (minus 5) (minus 9) (pos 0) (pos 0)))
    ∷ stored (flip 2) is (minus 1 ∷ (four_signed (minus 3) (pos 1) (pos 0) (pos 2) ++ four_signed (minus 1) (minus 5) (pos 0) (minus 1)))
    ∷ stored (point (pos 1) (pos 1) (pos 0) (pos 0)) is (minus 1 ∷ line_entries)
    ∷ stored (replace 2 (pos 1) (pos 4097)) is (minus 1 ∷ line_entries)
    ∷ lent_after (replace 2 (pos 1) (minus 2))
    is lent_line (four_signed (pos 0) (pos 1) (minus 2) (pos 1)) (four_signed (minus 3) (pos 1) (pos 0) (pos 2) ++ four_signed (minus 5) (minus 9) (pos 0) (pos 0)) (pos 9)
    ∷ lent_after (flip 2) is lent_line (four_signed (pos 0) (pos 1) (minus 1) (pos 0)) (four_signed (minus 3) (pos 1) (pos 0) (pos 2) ++ four_signed (minus 1) (minus 5) (pos 0) (minus 1)) (minus 1)
    ∷ lent_after (replace 2 (pos 1) (pos 4097)) is lent_line (four 0 1 1 0) line_entries (minus 1)
    ∷ []

-- ---- the polar values that entries fix

-- the worked example at `fixed_over`: entries 1, 2 and 5 of a curve of degree 2, weights 2 and 3; q not taken,
-- taken once with r, once with s, and twice
abbrev example : List ℕ → ℤ
example e = fixed_over (group 1 2 ∷ []) ((pos 2 ∷ pos 3 ∷ []) ∷ []) (λ es. entry_over (group 1 2 ∷ []) (pos 1 ∷ zeros 3 ++ (pos 2 ∷ zeros 3) ++ (pos 5 ∷ zeros 3)) 0 es) (e ∷ [])

abbrev fixed_values : List (Instance ℤ)
fixed_values =
    (example (0 ∷ 1 ∷ 1 ∷ []) ∷ example (1 ∷ 1 ∷ 0 ∷ []) ∷ example (1 ∷ 0 ∷ 1 ∷ []) ∷ example (2 ∷ 0 ∷ 0 ∷ []) ∷ []) is four 2 8 19 73
    ∷ []

-- ---- two groups of two vertices, as request E3 has them

-- the net of coefficients over frames
abbrev net_numbers : List Group → List (List ℤ) → Frames → List ℤ
net_numbers gs coefficients frames = listed_over gs (λ c es. polar_over gs (terms c (monomials_over gs) (joined (λ numbers. numbers) coefficients)) (entry_points_over frames es))

-- the number of a call's refusal, its polar values being those of coefficients over frames
abbrev number_over : List Group → List (List ℤ) → Frames → Call → ℕ
number_over gs coefficients frames call =
    first_failed
    (call_tests gs call (new_numbers gs frames call)
    (λ c es.
    polar_over gs (terms c (monomials_over gs) (joined (λ numbers. numbers) coefficients)) (entry_points_over (frames_with_q (points_over gs (weights_for gs call) frames) frames) es)))

-- the numbers of a list of names, and one name: how often q₁, r₁, s₁ and q₂, r₂, s₂ are taken
abbrev counted : List (List (List ℕ)) → List ℤ
counted names = map pos (joined (λ es. joined (λ e. e) es) names)

abbrev name : ℕ → ℕ → ℕ → ℕ → ℕ → ℕ → List ℤ
name a b c d e f = map pos (a ∷ b ∷ c ∷ d ∷ e ∷ f ∷ [])

abbrev strip : List Group
strip = group 1 2 ∷ group 1 1 ∷ []

abbrev strip_number : Call → List ℤ
strip_number call = refused (number_over strip strip_coefficients (frames_of strip (four 0 1 1 1 ++ four 0 1 1 1)) call)

-- x = 1048576 Z₁ Z₂, y = z = 0, w = Z₁ Z₂ + T₁ Z₂ + Z₁ T₂, over frames with Z = 4096 at r₁ and r₂
abbrev tile : List Group
tile = group 1 1 ∷ group 1 1 ∷ []

abbrev tile_number : Call → List ℤ
tile_number call =
    let pair = (pos 1 ∷ pos 4096 ∷ []) ∷ (pos 1 ∷ pos 0 ∷ []) ∷ [] in
    refused (number_over tile (four 1048576 0 0 1 ∷ four 0 0 0 1 ∷ four 0 0 0 1 ∷ four 0 0 0 0 ∷ []) (pair ∷ pair ∷ []) call)

abbrev first_names : List (List ℤ)
first_names = name 1 0 0 0 1 0 ∷ name 1 0 0 0 0 1 ∷ name 0 1 0 0 1 0 ∷ name 0 1 0 0 0 1 ∷ name 0 0 1 0 1 0 ∷ name 0 0 1 0 0 1 ∷ []

abbrev is_true : Bool → List ℤ
is_true b = cond b (pos 1 ∷ []) (pos 0 ∷ [])

abbrev two_groups : List (Instance ℤ)
two_groups =
    net_numbers strip strip_coefficients (frames_of strip (four 0 1 1 1 ++ four 1 2 1 1))
    is joined (λ numbers. numbers) (four 4 0 6 4 ∷ four 2 0 6 2 ∷ four 4 4 6 4 ∷ four 2 2 6 2 ∷ four 0 8 8 8 ∷ four 0 4 8 4 ∷ [])
    -- a determinant 0, or a number outside, of the second pair
    ∷ is_true (frames_allowed strip (four 0 1 1 1 ++ four 0 1 1 1)) is (pos 1 ∷ [])
    ∷ is_true (frames_allowed strip (four 0 1 1 1 ++ four 1 1 1 1)) is (pos 0 ∷ [])
    ∷ is_true (frames_allowed strip (four 0 1 1 1 ++ four 0 1 1 5)) is (pos 0 ∷ [])
    -- vertices 1 to 4, weights of the own pair, no pair of a point all 0
    ∷ strip_number (replace 4 (pos 1) (pos 2)) is refused 0
    ∷ strip_number (replace 3 (pos 0) (pos 1)) is refused 9
    ∷ strip_number (move 1 4 (four 1 2 1 0)) is refused 8
    ∷ strip_number (flip 5) is refused 8
    ∷ strip_number (point (pos 1) (pos 1) (pos 0) (pos 1)) is refused 0
    ∷ strip_number (point (pos 1) (pos 1) (pos 0) (pos 0)) is refused 9
    ∷ strip_number (point (pos 0) (pos 0) (pos 1) (pos 1)) is refused 9
    -- sizes: the second pair's with its own frame, or with q of the first
    ∷ tile_number (replace 3 (pos 16) (pos 1)) is refused 0
    ∷ tile_number (replace 3 (pos 17) (pos 1)) is refused 10
    ∷ tile_number (point (pos 16) (pos 1) (pos 1) (pos 1)) is refused 0
    ∷ tile_number (point (pos 16) (pos 1) (pos 2) (pos 1)) is refused 10
    ∷ tile_number (point (pos 1) (pos 1) (pos 17) (pos 1)) is refused 10
    -- the names of a replace on a curve of degree 3: q, r and s, any number of each
    ∷ counted (named_by_replace (group 1 3 ∷ []) 0)
    is map pos (3 ∷ 0 ∷ 0 ∷ 2 ∷ 1 ∷ 0 ∷ 2 ∷ 0 ∷ 1 ∷ 1 ∷ 2 ∷ 0 ∷ 1 ∷ 1 ∷ 1 ∷ 1 ∷ 0 ∷ 2 ∷ 0 ∷ 3 ∷ 0 ∷ 0 ∷ 2 ∷ 1 ∷ 0 ∷ 1 ∷ 2 ∷ 0 ∷ 0 ∷ 3 ∷ [])
    -- the names of a replace in the first pair, of one in the second, and of a point
    ∷ counted (named_by_replace tile 0) is joined (λ n. n) first_names
    ∷ counted (named_by_replace tile 1)
    is joined (λ n. n) (name 0 1 0 1 0 0 ∷ name 0 1 0 0 1 0 ∷ name 0 1 0 0 0 1 ∷ name 0 0 1 1 0 0 ∷ name 0 0 1 0 1 0 ∷ name 0 0 1 0 0 1 ∷ [])
    ∷ counted (named_by_point tile) is joined (λ n. n) (first_names ++ (name 1 0 0 1 0 0 ∷ name 1 0 0 0 1 0 ∷ name 1 0 0 0 0 1 ∷ []))
    ∷ []

abbrev pub instances : List (Instance ℤ)
instances = first_nets ++ handed_nets ++ handed_frames ++ handed_zeros ++ lent_nets ++ weight_places ++ claims ++ fixed_values ++ two_groups
