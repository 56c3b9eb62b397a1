-- Nets in places that the caller lends: how a net stands among 64-bit numbers, and what each function answers and leaves there.
--
--   places       what stands there
--   0, 1, 2      kind, degree, second degree
--   3 to 11      the frame's numbers, as many as the kind has; those past them are kept
--   12 to 191    the entries, as many as kind and degrees have; those past them are kept
--   192          the largest component
--   193 and on   the caller's
use Rattle.std.specs.Prelude.{ℕ, zero, suc, ◌+◌, ◌*◌, Bool, true, cond, List, [], ◌∷◌, ◌++◌, leb, ℤ, pos, negsuc, length, get_or, take, drop}
use Rattle.polar.specs.Groups.{monomials_over}
use Rattle.entries.specs.Entries.{number_count}
use Rattle.machine.specs.Refusals.{◌else◌, first_failed}
use Rattle.kinds.specs.Kinds.{groups_of}
use Rattle.kinds.specs.declared.Head.{Head}
use Rattle.kinds.specs.Frames.{frames_of, numbers_of}
use Rattle.machine.specs.Steps.{point_values}
use Rattle.machine.specs.Nets.{Net, net_tests, accepted}
use Rattle.machine.specs.Comparison.{Polynomials}
use Rattle.machine.specs.First.{first_tests, first_net}
use Rattle.machine.specs.declared.Call.{Call}
use Rattle.machine.specs.declared.Call.TheVariants.{Move, Point}

-- ---- reading and writing

-- a place of the head; a number that is no byte counts as 255, which is no kind and no degree
abbrev pub byte_of : ℤ → ℕ
byte_of (pos n) = cond (leb n 255) n 255
byte_of (negsuc n) = 255

-- the head of the net in lent places: kind and degrees, in the first three of them
abbrev pub head_at : List ℤ → Head
head_at lent = record { kind = byte_of (get_or lent 0 (pos 0)); degree = byte_of (get_or lent 1 (pos 0)); second = byte_of (get_or lent 2 (pos 0)) }

-- the net that stands in lent places
unfoldable pub net_at : List ℤ → Net
net_at lent =
    let kind = byte_of (get_or lent 0 (pos 0)) in
    let degree = byte_of (get_or lent 1 (pos 0)) in
    let second = byte_of (get_or lent 2 (pos 0)) in
    let gs = groups_of kind degree second in
    record {
      kind = kind;
      degree = degree;
      second = second;
      frames = frames_of gs (drop 3 lent);
      entries = take (number_count gs) (drop 12 lent);
      largest = get_or lent 192 (pos 0);
    }

-- numbers put into the places from `at` on; all others stay
abbrev pub put_at : {A : Type 0} → ℕ → List A → List A → List A
put_at at numbers lent = take at lent ++ (numbers ++ drop (at + length numbers) lent)

-- a net put into lent places
unfoldable pub put_net : Net → List ℤ → List ℤ
put_net net lent =
    put_at 0 (pos net.kind ∷ pos net.degree ∷ pos net.second ∷ [])
    (put_at 3 (numbers_of net.frames)
    (put_at 12 net.entries
    (put_at 192 (net.largest ∷ []) lent)))

-- places enough for a net; more are taken
abbrev pub enough_places : List ℤ → Bool
enough_places lent = leb 193 (length lent)

-- by the number that a function answers: what it writes where that is 0, and else what stood there
abbrev pub unless_refused : {A : Type 0} → ℕ → A → A → A
unless_refused zero written stood = written
unless_refused (suc k) written stood = stood

-- ---- a first net: the frame and the coefficients are lent too, in nine places and 180 or more; the frame's numbers are the first nine

-- the coefficients are as many as kind and degrees have
abbrev pub polynomials_from : ℕ → ℕ → ℕ → List ℤ → Polynomials
polynomials_from kind degree second coefficients =
    record { kind = kind; degree = degree; second = second; coefficients = take (4 * length (monomials_over (groups_of kind degree second))) coefficients }

-- its number, and the net's places after it
unfoldable pub made_number : ℕ → ℕ → ℕ → List ℤ → List ℤ → List ℤ → ℕ
made_number kind degree second frame coefficients lent =
    first_failed
    (leb 9 (length frame) else 11
    ∷ leb 180 (length coefficients) else 11
    ∷ enough_places lent else 11
    ∷ first_tests (polynomials_from kind degree second coefficients) (take 9 frame))

unfoldable pub made_places : ℕ → ℕ → ℕ → List ℤ → List ℤ → List ℤ → List ℤ
made_places kind degree second frame coefficients lent =
    unless_refused (made_number kind degree second frame coefficients lent) (put_net (first_net (polynomials_from kind degree second coefficients) (take 9 frame)) lent) lent

-- ---- a call

-- a point writes eight numbers into places lent for them, its components and the numbers projected; a move
-- writes none
abbrev pub room : Call → List ℤ → Bool
room (Move operation vertex weights) found = true
room (Point weights) found = leb 8 (length found)

-- its number, and after it the net's places and those lent for a point's numbers
unfoldable pub call_number : Call → List ℤ → List ℤ → ℕ
call_number call lent found =
    first_failed
    (enough_places lent else 11
    ∷ room call found else 11
    ∷ net_tests (net_at lent) call)

unfoldable pub call_places : Call → List ℤ → List ℤ → List ℤ
call_places call lent found = unless_refused (call_number call lent found) (put_net (accepted (net_at lent) call).left lent) lent

unfoldable pub call_found : Call → List ℤ → List ℤ → List ℤ
call_found call lent found = unless_refused (call_number call lent found) (put_at 0 (point_values (accepted (net_at lent) call).answer) found) found
