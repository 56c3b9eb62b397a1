-- What holds of a record that the reader does not refuse. The steps of the reader are followed back from the
-- end: none was refused, so that what stands in each slot passed its tests.
use mathlib.Core.Path.{◌≡◌, refl, sym, ◌∙◌, ap, ap₂, subst}
use mathlib.Core.Bool.{Bool, true, false, cond}
use mathlib.Core.List.{List, [], ◌∷◌}
use mathlib.Core.Logic.{◌⊎◌, inl, inr}
use Prim.Native.Nat.{ℕ, ◌+◌, ◌*◌}
use native.Mathlib.Omega.{arith}
use borrow.Author.Tests.{eqb-true}
use lib.ListN.{length, get_or, take, drop, length-drop}
use lib.Seq.{length-take-le}
use lib.Dec.{eqb, ltb}
use Rattle.std.specs.Prelude.{Some, None}
use Rattle.integers.specs.Test.{within, all}
use Rattle.integers.proofs.All.{clash, and_parts}
use Rattle.kinds.specs.Kinds.{known}
use Rattle.kinds.specs.Frames.{frames_allowed}
use Rattle.machine.proofs.Refusals.{none-failed}
use Rattle.decoding.specs.Numbers.{frame_numbers, coefficients_of}
use Rattle.decoding.proofs.Numbers.{coefficients-of-value}
use Rattle.kinds.specs.Heads.{head_groups}
use Rattle.records.specs.Table.{tag_of, tags_in, required, head_length, head_allowed, frame_length, coefficient_count, coefficients_length, point_length, moves_length_allowed, polynomials_of, field_row}
use Rattle.machine.specs.Refusals.{◌else◌, first_failed, numbered}
use Rattle.records.specs.Reading.{bytes_left, length_at, bytes_at, head_of, tag_among, is_tag, standing, missing_number, end_extent, extent_at, extent_in, extent_among, no_fields, bytes_of, Inside, stay, read_standing, read_slot, read_end, layout_of_extents, concluded, reading_of}
use Rattle.records.specs.Causes.{Sound}
use Rattle.records.specs.declared.Extent.{Extent}
use Rattle.records.specs.declared.Layout.{Layout}
use Rattle.records.specs.declared.Slot.{Slot}
use Rattle.records.specs.declared.Slot.TheVariants.{KindSlot, FrameSlot, CoefficientsSlot, MovesSlot, PointSlot}
use Rattle.records.specs.declared.Tag.{Tag}
use Rattle.records.specs.declared.Tag.TheVariants.{Kind, Coefficients}
use Rattle.records.specs.Reading.{Progress}
use Rattle.records.specs.Reading.{Fields, Refused}
use Rattle.records.proofs.Slots.{long-enough, stands-there, field-passes, missing-refused, Stepped, stepped, all-steps}
use Rattle.records.proofs.Slots.Stepped.{took, fell, lacked, skipped}

-- ---- one slot

-- the extent is that of a field, which passed its tests
record Filled (tag : Tag) (s : List ℕ) (e : Extent) : Type 0 where
  starts : e.start ≡ e.field + 3
  ends : e.length ≡ length_at s e.field
  long : (field_row tag).length_allowed (head_of s) e.length ≡ true
  room : Inside s e
  good : first_failed ((field_row tag).tests (head_of s) (bytes_of e s)) ≡ 0

-- what a slot has after a step that was not refused, from an offset on
data Went (slot : Slot) (s : List ℕ) (at : ℕ) (e : Extent) : Type 0 where
  filled : {tag : Tag} → standing slot s at ≡ Some tag → e.field ≡ at → Filled tag s e → Went slot s at e
  empty : required slot ≡ false → e ≡ end_extent s → Went slot s at e

went : {slot : Slot} {s : List ℕ} {at : ℕ} {x : Progress} → Stepped slot s at x → x.number ≡ 0 → Went slot s at x.extent
unfolding extent_at bytes_at
went {slot} {s} {at} (took {tag = tag} h k is) z =
    let tests = field-passes tag (head_of s) s at k in
    let there = stands-there slot s at h in
    subst (λ (y : Progress). Went slot s at y.extent) (sym is)
    (filled h refl (record { starts = refl; ends = refl; long = tests.long; room = omega arith; good = tests.good }))
went (fell h k is) z = absurd (k (sym (ap (λ (y : Progress). y.number) is) ∙ z))
went {s = s} {at = at} (lacked h q is) z = absurd (missing-refused s at (sym (ap (λ (y : Progress). y.number) is) ∙ z))
went (skipped h q is) z = empty q (ap (λ (y : Progress). y.extent) is)

inside : {slot : Slot} {s : List ℕ} {at : ℕ} {e : Extent} → Went slot s at e → Inside s e
inside (filled h f t) = t.room
inside {s = s} (empty r h) = subst (Inside s) (sym h) (omega arith)

-- a field that stands in a slot is the slot's own, as yet the only one
only : {tag t : Tag} (byte : ℕ) → tag_among (t ∷ []) byte ≡ Some tag → tag ≡ t
only {tag} {t} byte e = by (eqb byte (field_row t).byte) e
  where
    by : (b : Bool) → cond b (Some t) None ≡ Some tag → tag ≡ t
    by true k = cc
    by false k = absurd (clash (ap is_tag k) refl)

own : (slot : Slot) (s : List ℕ) (at : ℕ) {tag : Tag} {e : Extent} → standing slot s at ≡ Some tag → Filled tag s e → Filled (tag_of slot) s e
own slot s at {e = e} h t = subst (λ (u : Tag). Filled u s e) (only (get_or s at 0) (sym (long-enough slot s at (stands-there slot s at h)) ∙ h)) t

must : {slot : Slot} {s : List ℕ} {at : ℕ} {e : Extent} → required slot ≡ true → Went slot s at e → (e.field ≡ at) × Filled (tag_of slot) s e
must {slot} {s} {at} q (filled h f t) = (f, own slot s at h t)
must q (empty r h) = absurd (clash q r)

-- a step that was not refused: nor was the one before
not_stopped : (before next : Progress) → (cond (eqb before.number 0) next before).number ≡ 0 → before.number ≡ 0
not_stopped before next z = by (eqb before.number 0) refl z
  where
    by : (b : Bool) → eqb before.number 0 ≡ b → (cond b next before).number ≡ 0 → before.number ≡ 0
    by true k z = eqb-true before.number 0 k
    by false k z = z

pub earlier : (slot : Slot) (s : List ℕ) (before : Progress) → (read_slot slot (head_of s) s before).number ≡ 0
    → before.number ≡ 0
unfolding read_slot
earlier slot s before z =
    not_stopped before (read_standing (standing slot s before.at) slot (head_of s) s before.at) z

back : (slot : Slot) (s : List ℕ) (before : Progress) → (read_slot slot (head_of s) s before).number ≡ 0
    → (before.number ≡ 0) × Went slot s before.at (read_slot slot (head_of s) s before).extent
back slot s before z = let none = earlier slot s before z in (none, went (stepped slot s before none) z)

-- ---- what the tests of the fields say

passed : (b : Bool) (k : ℕ) → numbered (b else k ∷ []) ≡ true → first_failed (b else k ∷ []) ≡ 0 → b ≡ true
passed b k n e = (and_parts b true ((none-failed (b else k ∷ []) n).0 e)).0

-- field 1 begins at 0, so that its value is what the head is read from
head-right : {s : List ℕ} {e : Extent} → e.field ≡ 0 → Filled Kind s e
    → (known (head_of s).kind (head_of s).degree (head_of s).second ≡ true) × (e.length ≡ head_length (head_groups (head_of s)))
unfolding head_of bytes_at
head-right {s} {e} first h =
    let value : bytes_of e s ≡ bytes_at s 0 = ap₂ (λ n k. take n (drop k s)) (h.ends ∙ ap (length_at s) first) (h.starts ∙ ap (λ k. k + 3) first) in
    let long : length (bytes_of e s) ≡ e.length = length-take-le e.length (drop e.start s) (simp length-drop (omega (arith, h.room))) in
    let parts =
    and_parts (known (head_of s).kind (head_of s).degree (head_of s).second) (eqb (length (bytes_at s 0)) (head_length (head_groups (head_of s))))
    (ap head_allowed (sym value) ∙ passed (head_allowed (bytes_of e s)) 4 refl h.good) in
    (parts.0, sym long ∙ ap length value ∙ eqb-true (length (bytes_at s 0)) (head_length (head_groups (head_of s))) parts.1)

-- the coefficients of field 3's value are those of the part that begins with it
coefficients-in : {s : List ℕ} {e : Extent} → Filled Coefficients s e
    → all (within 1048576) (polynomials_of (head_of s).kind (head_of s).degree (head_of s).second (drop e.start s)).coefficients ≡ true
coefficients-in {s} {e} h =
    let count = coefficient_count (head_groups (head_of s)) in
    let long : e.length ≡ 4 * count = omega (arith, eqb-true e.length (coefficients_length (head_groups (head_of s))) h.long) in
    ap (all (within 1048576))
    (sym (coefficients-of-value (drop e.start s) count) ∙ ap (λ n. coefficients_of (take n (drop e.start s)) count) (sym long))
    ∙ passed (all (within 1048576) (coefficients_of (bytes_of e s) count)) 6 refl h.good

-- ---- all slots

module _ (s : List ℕ) where
  abbrev pub step1 : Progress
  step1 = read_slot KindSlot (head_of s) s (stay 0 s 0)

  abbrev pub step2 : Progress
  step2 = read_slot FrameSlot (head_of s) s step1

  abbrev pub step3 : Progress
  step3 = read_slot CoefficientsSlot (head_of s) s step2

  abbrev pub step4 : Progress
  step4 = read_slot MovesSlot (head_of s) s step3

  abbrev pub step5 : Progress
  step5 = read_slot PointSlot (head_of s) s step4

  abbrev pub layout : Layout
  layout = layout_of_extents s (step1.extent ∷ step2.extent ∷ step3.extent ∷ step4.extent ∷ step5.extent ∷ [])

  whole-layout : step5.number ≡ 0 → Sound s layout
  whole-layout z =
      let five = back PointSlot s step4 z in
      let four = back MovesSlot s step3 five.0 in
      let three = back CoefficientsSlot s step2 four.0 in
      let two = back FrameSlot s step1 three.0 in
      let one = back KindSlot s (stay 0 s 0) two.0 in
      let first = must refl one.1 in
      let head = head-right first.0 first.1 in
      let frame = (must refl two.1).1 in
      let coefficients = (must refl three.1).1 in
      record {
        degrees = head.0;
        head_long = head.1;
        frame_long = eqb-true step2.extent.length (frame_length (head_groups (head_of s))) frame.long;
        frame_good = passed (frames_allowed (head_groups (head_of s)) (frame_numbers (bytes_of step2.extent s))) 5 refl frame.good;
        coefficients_field = coefficients.starts;
        coefficients_long = eqb-true step3.extent.length (coefficients_length (head_groups (head_of s))) coefficients.long;
        coefficients_good = coefficients-in coefficients;
        moves_long = moves four.1;
        point_long = point five.1;
        within = within_all layout (inside one.1) (inside two.1) (inside three.1) (inside four.1) (inside five.1);
      }
    where
      moves : {at : ℕ} {e : Extent} → Went MovesSlot s at e → moves_length_allowed e.length ≡ true
      moves {at} (filled h f t) = (own MovesSlot s at h t).long
      moves (empty r h) = ap (λ (e : Extent). moves_length_allowed e.length) h

      point : {at : ℕ} {e : Extent} → Went PointSlot s at e → (e.length ≡ 0) ⊎ (e.length ≡ point_length (head_groups (head_of s)))
      point {at} {e} (filled h f t) = inr (eqb-true e.length (point_length (head_groups (head_of s))) (own PointSlot s at h t).long)
      point (empty r h) = inl (ap (λ (e : Extent). e.length) h)

      within_all : (l : Layout) → Inside s l.head → Inside s l.frame → Inside s l.coefficients → Inside s l.moves → Inside s l.point
          → (slot : Slot) → Inside s (extent_in slot l)
      within_all l a b c d e KindSlot = a
      within_all l a b c d e FrameSlot = b
      within_all l a b c d e CoefficientsSlot = c
      within_all l a b c d e MovesSlot = d
      within_all l a b c d e PointSlot = e

  -- the end is not refused, nor then is the last slot
  pub at-end : (read_end s step5).number ≡ 0 → step5.number ≡ 0
  unfolding read_end
  at-end z = not_stopped step5 (stay (missing_number (ltb 0 (bytes_left s step5.at)) s step5.at) s step5.at) z

  -- a reading that is not refused: the steps gave its layout, and none of them was
  pub by-steps : (l : Layout) → reading_of s ≡ Fields l → (layout ≡ l) × ((read_end s step5).number ≡ 0)
  unfolding concluded
  by-steps l e =
      by (eqb (read_end s step5).number 0) refl (sym (all-steps s refl refl refl refl refl refl refl) ∙ e)
    where
      by : (b : Bool) → eqb (read_end s step5).number 0 ≡ b
          → cond b (Fields layout)
          (Refused (record { number = (read_end s step5).number; offset = (read_end s step5).at }))
          ≡ Fields l
          → (layout ≡ l) × ((read_end s step5).number ≡ 0)
      by true z k = (cc, eqb-true (read_end s step5).number 0 z)
      by false z k = let z : ◌≡◌ {A = ℕ} 0 1 = cc in absurd (omega arith)

  pub accepted-sound : (l : Layout) → reading_of s ≡ Fields l → Sound s l
  accepted-sound l e =
      let steps = by-steps l e in subst (Sound s) steps.0 (whole-layout (at-end steps.1))

-- ---- every field's value lies within the record

-- by a layout that has every slot inside, whatever number is asked for
module _ (s : List ℕ) (l : Layout) (all-inside : (slot : Slot) → Inside s (extent_in slot l)) (n : ℕ) where
  either : (a b : Extent) (t : Bool) → Inside s a → Inside s b → Inside s (cond t a b)
  either a b true h k = h
  either a b false h k = k

  pub found_inside : (rest : List Slot) → Inside s (extent_among rest s l n)
  found_inside [] = omega arith
  found_inside (slot ∷ rest) = either (extent_in slot l) (extent_among rest s l n) (is_tag (tag_among (tags_in slot) n)) (all-inside slot) (found_inside rest)

-- so has the layout of no fields
pub none_inside : (s : List ℕ) (slot : Slot) → Inside s (extent_in slot (no_fields s))
none_inside s KindSlot = omega arith
none_inside s FrameSlot = omega arith
none_inside s CoefficientsSlot = omega arith
none_inside s MovesSlot = omega arith
none_inside s PointSlot = omega arith
