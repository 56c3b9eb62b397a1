-- `make_entries` meets its contract: the first group's net over its frame is made, then the second group's in each part of it, and what is left is the net over the frames.
use Prim.Native.Nat.{ℕ, ◌≤◌, ◌<◌}
use native.Mathlib.Nat.{le_trans, le_of_eq, le-mul_of_pos_right, not-suc-le-zero}
use native.Mathlib.Omega.{arith}
use native.Mathlib.Decide.{dec_lt}
use mathlib.Core.Path.{◌≡◌, refl, sym, ap₂, ◌∙◌, subst}
use mathlib.Core.Bool.{true}
use mathlib.Core.List.{List}
use lib.IntN.{ℤ}
use lib.ListN.{length}
use Rattle.entries.specs.Entries.{number_count}
use Rattle.entries.specs.Rows.{size}
use Rattle.kinds.specs.Kinds.{dimension_of, later_groups, later_dimension, known}
use Rattle.kinds.specs.Heads.{head_groups}
use Rattle.kinds.specs.declared.Head.{Head}
use Rattle.kinds.proofs.Counts.{known-size}
use Rattle.machine.specs.Comparison.{Polynomials}
use Rattle.machine.specs.First.{first_net}
use Rattle.machine.specs.Lent.{put_at, polynomials_from}
use Rattle.nets.specs.FirstNet.{Room, Framing, Spare, LaterFraming, LaterFramed, framed_list}
use Rattle.nets.specs.Calls.{FirstAsked, Rooms}
use Rattle.nets.proofs.FirstMoves.{counts_some}
use Rattle.nets.proofs.FirstSteps.{first-known, first-framed, first-within, first-framing, later-framing, part-size, one-made, two_made, first-largest}
use Rattle.nets.proofs.first.make_entries.Goals as goal

module _ (head : Head) (frame coefficients : List ℤ) (asked : FirstAsked head frame coefficients) where
  abbrev n : ℕ
  n = dimension_of head.kind

  -- how many numbers a row has
  abbrev w : ℕ
  w = number_count (later_groups head.kind head.second)

  abbrev polynomials : Polynomials
  polynomials = polynomials_from head.kind head.degree head.second coefficients

  right : known head.kind head.degree head.second ≡ true
  right = first-known polynomials frame asked.accepted

  room_in : (xs : List ℤ) → number_count (head_groups head) ≤ length xs → Room w n head.degree xs
  room_in xs enough = subst (λ k. k ≤ length xs) (known-size head.kind head.degree head.second right) enough

  rows-asked : (out work cur base : List ℤ) (v d : ℕ) → v ≡ w → d ≡ n → Room w n head.degree out → Spare w n head.degree work cur base
      → Framing v d head.degree frame coefficients × Room v d head.degree out × Spare v d head.degree work cur base
  rows-asked out work cur base v d wide many room rooms =
      subst (λ v. Framing v d head.degree frame coefficients × Room v d head.degree out × Spare v d head.degree work cur base) (sym wide)
      (subst (λ d. Framing w d head.degree frame coefficients × Room w d head.degree out × Spare w d head.degree work cur base) (sym many)
      (first-framing head right frame asked.nine (first-framed polynomials frame asked.accepted) coefficients asked.enough (first-within polynomials frame asked.accepted), room, rooms))

  -- what the first group's making leaves
  module _ (room out : List ℤ) (places : Room w n head.degree room) (v d : ℕ) (wide : v ≡ w) (many : d ≡ n) (made : out ≡ framed_list v d head.degree frame coefficients room) where
    rows_are : out ≡ framed_list w n head.degree frame coefficients room
    rows_are = made ∙ ap₂ (λ v d. framed_list v d head.degree frame coefficients room) wide many

    later-asked : (work cur base : List ℤ) → Spare w n head.degree work cur base → LaterFraming head frame out work cur base
    later-asked work cur base rooms =
        record {
          nine = asked.nine;
          parts = λ some. later-framing head right frame asked.nine (first-framed polynomials frame asked.accepted) coefficients asked.enough (first-within polynomials frame asked.accepted) some room out places rows_are;
          spare = λ some.
              let small : size 4 (later_dimension head.kind) head.second ≤ size w n head.degree =
              le_trans (le_of_eq (part-size head right frame coefficients some room out places rows_are)) (le-mul_of_pos_right w (counts_some n head.degree)) in
              record { work-room = le_trans small rooms.work-room; cur-room = le_trans small rooms.cur-room; base-room = le_trans small rooms.base-room };
        }

    -- all that is made is the net
    made-is : (ys : List ℤ) → LaterFramed head frame out ys → ys ≡ put_at 0 (first_net polynomials frame).entries room
    made-is ys later = by (dec_lt 0 (later_dimension head.kind))
      where
        by : Dec (0 < later_dimension head.kind) → ys ≡ put_at 0 (first_net polynomials frame).entries room
        by (yes more) =
            let some : later_dimension head.kind ≡ 0 → ⊥ = λ none. not-suc-le-zero (subst (λ k. 0 < k) none more) in
            two_made head right frame coefficients some room out ys asked.nine places rows_are (later.some some)
        by (no more) =
            let none : later_dimension head.kind ≡ 0 = omega arith in
            one-made head right frame coefficients none room ys (later.none none ∙ rows_are)

-- the rooms, and as their lengths are kept
spare : (head : Head) (frame coefficients : List ℤ) (asked : FirstAsked head frame coefficients) {work cur base out : List ℤ} (rooms : Rooms head work cur base out)
    → (work2 cur2 base2 : List ℤ) → length work2 ≡ length work → length cur2 ≡ length cur → length base2 ≡ length base
    → Spare (w head frame coefficients asked) (n head frame coefficients asked) head.degree work2 cur2 base2
spare head frame coefficients asked rooms work2 cur2 base2 a b c =
    record {
      work-room = room_in head frame coefficients asked work2 (subst (λ k. number_count (head_groups head) ≤ k) (sym a) rooms.work-room);
      cur-room = room_in head frame coefficients asked cur2 (subst (λ k. number_count (head_groups head) ≤ k) (sym b) rooms.cur-room);
      base-room = room_in head frame coefficients asked base2 (subst (λ k. number_count (head_groups head) ≤ k) (sym c) rooms.base-room);
    }

pub make_rows-requires : goal.make_rows-requires
make_rows-requires c =
    let a = c.args in
    let asked = c.requires.0 in
    rows-asked a.head a.frame.now a.coefficients.now asked a.out.now _ _ _ c.later_count.result c.dimension_of.result c.later_count.ensures c.dimension_of.ensures
    (room_in a.head a.frame.now a.coefficients.now asked a.out.now c.requires.1.out-room)
    (spare a.head a.frame.now a.coefficients.now asked c.requires.1 _ _ _ refl refl refl)

pub make_later-requires : goal.make_later-requires
make_later-requires c =
    let a = c.args in
    let asked = c.requires.0 in
    let m = c.make_rows in
    later-asked a.head a.frame.now a.coefficients.now asked a.out.now m.new.out (room_in a.head a.frame.now a.coefficients.now asked a.out.now c.requires.1.out-room)
    c.later_count.result c.dimension_of.result c.later_count.ensures c.dimension_of.ensures m.ensures m.new.work m.new.cur m.new.base
    (spare a.head a.frame.now a.coefficients.now asked c.requires.1 m.new.work m.new.cur m.new.base m.auto.work m.auto.cur m.auto.base)

pub returns : goal.returns
returns c =
    let a = c.args in
    let asked = c.requires.0 in
    let count = c.number_count in
    let made =
    made-is a.head a.frame.now a.coefficients.now asked a.out.now c.make_rows.new.out (room_in a.head a.frame.now a.coefficients.now asked a.out.now c.requires.1.out-room)
    c.later_count.result c.dimension_of.result c.later_count.ensures c.dimension_of.ensures c.make_rows.ensures c.make_later.new.out c.make_later.ensures in
    record {
      made = made;
      largest = first-largest a.head (right a.head a.frame.now a.coefficients.now asked) a.frame.now a.coefficients.now a.out.now c.make_later.new.out count.result c.entries_largest.result count.ensures.entries made
          c.entries_largest.ensures;
    }
