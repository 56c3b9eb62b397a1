-- What the bytes of a record say: its polynomials, its frame, its first net, its fields, its moves and its point, or the refusal with its offset
-- (docs/RECORDS.md, 'The bytes' and 'Refusals': after the end of input comes 7, at the offset of field 3).
use Rattle.std.specs.Prelude.{ℕ, Result, Ok, Err, zero, suc, ◌/◌, ◌≡◌, cond, List, [], ◌∷◌, map, eqb, ℤ, length, drop}
use Rattle.integers.specs.Sum.{upto}
use Rattle.kinds.specs.Frames.{Frames, frames_of}
use Rattle.machine.specs.Nets.{Net}
use Rattle.machine.specs.Comparison.{Polynomials, groups}
use Rattle.machine.specs.First.{first_net, first_refusal}
use Rattle.machine.specs.Lent.{put_net, enough_places, unless_refused}
use Rattle.machine.specs.declared.Call.{Call}
use Rattle.machine.specs.declared.Call.TheVariants as call
use Rattle.decoding.specs.Numbers.{frame_numbers}
use Rattle.decoding.specs.Moves.{weights_of, call_at}
use Rattle.records.specs.Table.{slots, polynomials_of}
use Rattle.records.specs.Reading.{NumberAt, Reading, Fields, Refused, number_at, no_fields, extent_among, bytes_of, reading_of}
use Rattle.records.specs.declared.Extent.{Extent}
use Rattle.records.specs.declared.Layout.{Layout}
use Rattle.records.specs.declared.RefusedAt.{RefusedAt}

-- ---- what the fields say

-- the layout that the reader finds, also where the first net will be refused; of a record that the reader refuses it finds none
abbrev pub reading_layout : Reading → List ℕ → Layout
reading_layout (Fields l) s = l
reading_layout (Refused r) s = no_fields s

unfoldable pub layout_read : List ℕ → Layout
layout_read s = reading_layout (reading_of s) s

-- the polynomials by a layout: the coefficients stand in the part of the record where field 3's value begins
abbrev pub polynomials_at : Layout → List ℕ → Polynomials
polynomials_at l s = polynomials_of l.said.kind l.said.degree l.said.second (drop l.coefficients.start s)

unfoldable pub polynomials_in : List ℕ → Polynomials
polynomials_in s = polynomials_at (layout_read s) s

-- the numbers of the frame, and the frame
abbrev pub numbers_at : Layout → List ℕ → List ℤ
numbers_at l s = frame_numbers (bytes_of l.frame s)

unfoldable pub numbers_in : List ℕ → List ℤ
numbers_in s = numbers_at (layout_read s) s

abbrev pub frames_from : List ℕ → Frames
frames_from s = frames_of (groups (polynomials_in s)) (numbers_in s)

-- the first net
abbrev pub first_net_from : List ℕ → Net
first_net_from s = first_net (polynomials_in s) (numbers_in s)

-- ---- the refusal

-- a number at an offset; where nothing is refused both are 0
abbrev pub refusal_at : ℕ → ℕ → NumberAt
refusal_at zero offset = record { number = 0; offset = 0 }
refusal_at (suc k) offset = record { number = suc k; offset = offset }

-- the reader's own refusal comes first, then that of the first net, at the offset of field 3
abbrev pub refusal_by : Reading → List ℕ → NumberAt
refusal_by (Refused r) s = r
refusal_by (Fields l) s = refusal_at (first_refusal (polynomials_in s) (numbers_in s)) l.coefficients.field

unfoldable pub refusal_in : List ℕ → NumberAt
refusal_in s = refusal_by (reading_of s) s

-- ---- the fields

-- what a record gives besides its first net: the refusal, with number 0 where there is none, and where the record's
-- fields stand
pub record Opened : Type 0 where
  pub refusal : NumberAt
  pub layout : Layout

-- A record opened with a refusal, of number 0 where there is none. 'for an absent field or a refused record it is the empty part at the record's end': beside a
-- refusal there are no fields, whichever its number is.
abbrev pub opened_with : NumberAt → List ℕ → Opened
opened_with r s = record { refusal = r; layout = unless_refused r.number (layout_read s) (no_fields s) }

-- the layout of any bytes
unfoldable pub opened_layout : List ℕ → Layout
opened_layout s = (opened_with (refusal_in s) s).layout

-- where the value of the field with a tag byte stands in any bytes: at the record's end where the record is refused, where it has no such field, and where the
-- byte is no tag
unfoldable pub field_extent : List ℕ → ℕ → Extent
field_extent s tag = extent_among slots s (opened_layout s) tag

-- ---- moves and point

-- the moves in the value of field 4, in their order: 8 bytes each
abbrev pub moves_of : List ℕ → List Call
moves_of value = map (call_at value) (upto (length value / 8))

-- the point in the value of field 5, if there is one
abbrev pub point_of : List ℕ → List Call
point_of value = cond (eqb (length value) 0) [] (call.Point (weights_of value) ∷ [])

unfoldable pub moves_in : List ℕ → List Call
moves_in s = moves_of (bytes_of (opened_layout s).moves s)

unfoldable pub point_in : List ℕ → List Call
point_in s = point_of (bytes_of (opened_layout s).point s)

-- ---- all of it

-- too few places for a net are 11, before the record is looked at
abbrev pub refusal_over : List ℕ → List ℤ → NumberAt
refusal_over s lent = cond (enough_places lent) (refusal_in s) (record { number = 11; offset = 0 })

unfoldable pub opened_in : List ℕ → List ℤ → Opened
unfolding refusal_in layout_read polynomials_in numbers_in
opened_in s lent = opened_with (refusal_over s lent) s

-- the first net put into the places where nothing is refused, and else what stood there
unfoldable pub places_in : List ℕ → List ℤ → List ℤ
unfolding opened_in refusal_in layout_read polynomials_in numbers_in
places_in s lent = unless_refused (opened_in s lent).refusal.number (put_net (first_net_from s) lent) lent

-- ---- what the making of a first net promises

-- by a layout: the number answered, and what then stands in the lent places
pub record FirstMade (l : Layout) (s : List ℕ) (lent : List ℤ) (answered : ℕ) (left : List ℤ) : Type 0 where
  pub number : answered ≡ first_refusal (polynomials_at l s) (numbers_at l s)
  pub places : left ≡ unless_refused answered (put_net (first_net (polynomials_at l s) (numbers_at l s)) lent) lent

-- ---- what the code answers, in the words above: beside a refusal there are no fields
abbrev pub opened_told : List ℕ → Result Layout RefusedAt → Opened
opened_told s (Ok l) = record { refusal = record { number = 0; offset = 0 }; layout = l }
opened_told s (Err r) = record { refusal = number_at r; layout = no_fields s }
