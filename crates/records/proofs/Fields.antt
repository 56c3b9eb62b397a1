-- The fields by the bytes alone are those that the reader finds. The slots are followed from an offset on to
-- the record's end, beside the fields from there on: each slot that is filled has the next of them. A tag
-- byte belongs to one slot, so the slot that a lookup stops at is the one that has the field.
use mathlib.Core.Path.{◌≡◌, refl, sym, ◌∙◌, ap, subst}
use mathlib.Core.Bool.{Bool, true, false, ◌||◌, cond, or-true}
use mathlib.Core.List.{List, [], ◌∷◌}
use Prim.Native.Nat.{ℕ, ◌+◌, ◌*◌, ◌≤◌, ◌<◌}
use native.Mathlib.Omega.{arith}
use borrow.Author.Tests.{eqb-true, eq-eqb, ltb-false}
use lib.ListN.{length, get_or}
use lib.Dec.{eqb, ltb}
use Rattle.std.specs.Prelude.{Some, None}
use Rattle.integers.proofs.All.{clash}
use Rattle.decoding.proofs.Numbers.{two_bytes}
use Rattle.records.specs.Table.{slots, tag_of, tags_in, field_row}
use Rattle.records.specs.Reading.{
  bytes_left,
  length_at,
  head_of,
  tag_among,
  is_tag,
  missing_number,
  end_extent,
  extent_at,
  extent_in,
  extent_among,
  no_fields,
  stay,
  read_slot,
  read_end,
  reading_of,
}
use Rattle.records.specs.Fields.{tag_byte, length_bytes, field_end, FieldAt}
use Rattle.records.specs.Fields.FieldAt.{first, next}
use Rattle.records.specs.declared.Extent.{Extent}
use Rattle.records.specs.declared.Layout.{Layout}
use Rattle.records.specs.declared.Slot.{Slot}
use Rattle.records.specs.declared.Slot.TheVariants.{
  KindSlot,
  FrameSlot,
  CoefficientsSlot,
  MovesSlot,
  PointSlot,
}
use Rattle.records.specs.Reading.{Progress}
use Rattle.records.specs.Reading.{Fields}
use Rattle.records.proofs.Slots.{long-enough, stands-there, missing-refused, Stepped, stepped}
use Rattle.records.proofs.Slots.Stepped.{took, fell, lacked, skipped}
use Rattle.records.proofs.Accepted.{
  earlier,
  step1,
  step2,
  step3,
  step4,
  step5,
  layout,
  at-end,
  by-steps,
}

-- the extent of the field at an offset, by its bytes
abbrev field_bytes : List ℕ → ℕ → Extent
field_bytes s at = record { field = at; start = at + 3; length = length_bytes s at }

length-said : (s : List ℕ) (at : ℕ) → at + 3 ≤ length s → length_at s at ≡ length_bytes s at
unfolding length_at
length-said s at room =
    let on : at + 1 + 1 ≡ at + 2 = omega arith in
    two_bytes s (at + 1) (omega arith) ∙ ap (λ k. 256 * get_or s (at + 1) 0 + get_or s k 0) on

-- ---- the slots from an offset on, by a layout

data Along (s : List ℕ) (l : Layout) : List Slot → ℕ → Type 0 where
  over : {at : ℕ} → length s ≤ at → Along s l [] at
  filled : {slot : Slot} {rest : List Slot} {at : ℕ} → at < length s
      → is_tag (tag_among (tags_in slot) (tag_byte s at)) ≡ true
      → extent_in slot l ≡ field_bytes s at → Along s l rest (field_end s at) → Along s l (slot ∷ rest) at
  empty : {slot : Slot} {rest : List Slot} {at : ℕ} → extent_in slot l ≡ end_extent s → Along s l rest at
      → Along s l (slot ∷ rest) at

module _ (s : List ℕ) (l : Layout) where
  -- one slot, by the reader's step, which was not refused
  along : (slot : Slot) {rest : List Slot} (before : Progress) → (read_slot slot (head_of s) s before).number ≡ 0
      → extent_in slot l ≡ (read_slot slot (head_of s) s before).extent
      → Along s l rest (read_slot slot (head_of s) s before).at
      → Along s l (slot ∷ rest) before.at
  unfolding extent_at
  along slot {rest} before z e later = by (stepped slot s before (earlier slot s before z)) z e later
    where
      by : {x : Progress} → Stepped slot s before.at x → x.number ≡ 0 → extent_in slot l ≡ x.extent
          → Along s l rest x.at
          → Along s l (slot ∷ rest) before.at
      by (took h k is) z e later =
          let there = stands-there slot s before.at h in
          let said = length-said s before.at (omega arith) in
          filled {at = before.at} (omega arith) (ap is_tag (sym (long-enough slot s before.at there) ∙ h))
          (e
          ∙ ap (λ (y : Progress). y.extent) is
          ∙ ap (λ n. record { field = before.at; start = before.at + 3; length = n }) said)
          (subst (Along s l rest) (ap (λ (y : Progress). y.at) is ∙ ap (λ n. before.at + 3 + n) said) later)
      by (fell h k is) z e later = absurd (k (sym (ap (λ (y : Progress). y.number) is) ∙ z))
      by (lacked h q is) z e later =
          absurd (missing-refused s before.at (sym (ap (λ (y : Progress). y.number) is) ∙ z))
      by (skipped h q is) z e later =
          empty (e ∙ ap (λ (y : Progress). y.extent) is)
          (subst (λ (y : Progress). Along s l rest y.at) is later)

-- nothing is left after the last slot
nothing_left : (s : List ℕ) (last : Progress) → last.number ≡ 0 → (read_end s last).number ≡ 0
    → length s ≤ last.at
unfolding read_end
nothing_left s last none z =
    by (ltb 0 (bytes_left s last.at)) refl (sym (rw (eq-eqb last.number 0 none) refl) ∙ z)
  where
    by : (t : Bool) → ltb 0 (bytes_left s last.at) ≡ t → missing_number t s last.at ≡ 0
        → length s ≤ last.at
    by true k e = absurd (missing-refused s last.at e)
    by false k e = let none = ltb-false 0 (bytes_left s last.at) k in omega arith

-- all slots of a record that the reader does not refuse
all-along : (s : List ℕ) (l : Layout) → reading_of s ≡ Fields l → Along s l slots 0
all-along s l e =
    let steps = by-steps s l e in
    let five = at-end s steps.1 in
    let four = earlier PointSlot s (step4 s) five in
    let three = earlier MovesSlot s (step3 s) four in
    let two = earlier CoefficientsSlot s (step2 s) three in
    let one = earlier FrameSlot s (step1 s) two in
    subst (λ l. Along s l slots 0) steps.0
    (along s (layout s) KindSlot (stay 0 s 0) one refl
    (along s (layout s) FrameSlot (step1 s) two refl
    (along s (layout s) CoefficientsSlot (step2 s) three refl
    (along s (layout s) MovesSlot (step3 s) four refl
    (along s (layout s) PointSlot (step4 s) five refl
    (over (nothing_left s (step5 s) five steps.1)))))))

-- ---- the fields from an offset on

data Onward (s : List ℕ) : ℕ → ℕ → Type 0 where
  here : {at : ℕ} → at < length s → Onward s at at
  further : {at place : ℕ} → Onward s (field_end s at) place → Onward s at place

onward-inside : {s : List ℕ} {at place : ℕ} → Onward s at place → (at ≤ place) × (place < length s)
onward-inside (here h) = (omega arith, h)
onward-inside (further o) = let rest = onward-inside o in (omega arith, rest.1)

one_more : {s : List ℕ} {at place : ℕ} → Onward s at place → field_end s place < length s
    → Onward s at (field_end s place)
one_more (here h) room = further (here room)
one_more (further o) room = further (one_more o room)

from_first : {s : List ℕ} {at : ℕ} → FieldAt s at → Onward s 0 at
from_first (first h) = here h
from_first (next f room) = one_more (from_first f) room

-- ---- a tag byte belongs to one slot

-- it is a tag of one of the slots
abbrev any_tag : List Slot → ℕ → Bool
any_tag [] n = false
any_tag (slot ∷ rest) n = is_tag (tag_among (tags_in slot) n) || any_tag rest n

-- a slot has one tag, as yet
own-byte : (slot : Slot) (n : ℕ) → is_tag (tag_among (tags_in slot) n) ≡ true → n ≡ (field_row (tag_of slot)).byte
own-byte slot n e = by (eqb n (field_row (tag_of slot)).byte) refl e
  where
    by : (b : Bool) → eqb n (field_row (tag_of slot)).byte ≡ b
        → is_tag (cond b (Some (tag_of slot)) None) ≡ true → n ≡ (field_row (tag_of slot)).byte
    by true k e = eqb-true n (field_row (tag_of slot)).byte k
    by false k e = absurd (clash e refl)

-- and no later slot has it
data Apart : List Slot → Type 0 where
  alone : Apart []
  also : {slot : Slot} {rest : List Slot} → any_tag rest (field_row (tag_of slot)).byte ≡ false → Apart rest
      → Apart (slot ∷ rest)

slots_apart : Apart slots
slots_apart = also refl (also refl (also refl (also refl (also refl alone))))

-- ---- what a lookup finds

-- a slot that does not have the tag is passed by
passes-by : (s : List ℕ) (l : Layout) (slot : Slot) (rest : List Slot) (n : ℕ)
    → any_tag rest (field_row (tag_of slot)).byte ≡ false → any_tag rest n ≡ true
    → extent_among (slot ∷ rest) s l n ≡ extent_among rest s l n
passes-by s l slot rest n apart some = by (is_tag (tag_among (tags_in slot) n)) refl
  where
    by : (b : Bool) → is_tag (tag_among (tags_in slot) n) ≡ b
        → cond b (extent_in slot l) (extent_among rest s l n) ≡ extent_among rest s l n
    by true k = absurd (clash some (ap (any_tag rest) (own-byte slot n k) ∙ apart))
    by false k = refl

module _ {s : List ℕ} {l : Layout} where
  -- a field from the offset on has a tag of one of the slots
  some-slot : {rest : List Slot} {at place : ℕ} → Along s l rest at → Onward s at place
      → any_tag rest (tag_byte s place) ≡ true
  some-slot (over h) o = let inside = onward-inside o in absurd (omega arith)
  some-slot {at = at} (filled {slot = slot} {rest = rest} h t e later) (here k) = rw t refl
  some-slot {place = place} (filled {slot = slot} {rest = rest} h t e later) (further o) =
      rw (some-slot later o, or-true) refl
  some-slot {place = place} (empty {slot = slot} e later) o = rw (some-slot later o, or-true) refl

  found : {rest : List Slot} {at place : ℕ} → Apart rest → Along s l rest at → Onward s at place
      → extent_among rest s l (tag_byte s place) ≡ field_bytes s place
  found a (over h) o = let inside = onward-inside o in absurd (omega arith)
  found a (filled {slot = slot} {rest = rest} h t e later) (here {at = at} k) =
      ap (λ b. cond b (extent_in slot l) (extent_among rest s l (tag_byte s at))) t ∙ e
  found {place = place} (also a b) (filled {slot = slot} {rest = rest} h t e later) (further o) =
      passes-by s l slot rest (tag_byte s place) a (some-slot later o) ∙ found b later o
  found {place = place} (also a b) (empty {slot = slot} {rest = rest} e later) o =
      passes-by s l slot rest (tag_byte s place) a (some-slot later o) ∙ found b later o

  -- no field has the tag
  module _ (n : ℕ) (none : (at : ℕ) → FieldAt s at → tag_byte s at ≡ n → ⊥) where
    not_found : {rest : List Slot} {at : ℕ} → (at < length s → FieldAt s at) → Along s l rest at
        → extent_among rest s l n ≡ end_extent s
    not_found f (over h) = refl
    not_found {at = at} f (filled {slot = slot} {rest = rest} h t e later) =
        by (is_tag (tag_among (tags_in slot) n)) refl (not_found (λ room. next (f h) room) later)
      where
        by : (b : Bool) → is_tag (tag_among (tags_in slot) n) ≡ b → extent_among rest s l n ≡ end_extent s
            → cond b (extent_in slot l) (extent_among rest s l n) ≡ end_extent s
        by true k ends = absurd (none at (f h) (own-byte slot (tag_byte s at) t ∙ sym (own-byte slot n k)))
        by false k ends = ends
    not_found f (empty {slot = slot} {rest = rest} e later) =
        by (is_tag (tag_among (tags_in slot) n)) (not_found f later)
      where
        by : (b : Bool) → extent_among rest s l n ≡ end_extent s
            → cond b (extent_in slot l) (extent_among rest s l n) ≡ end_extent s
        by true ends = e
        by false ends = ends

-- In a record that the reader does not refuse, a field is found by its tag byte.
pub field_found : (s : List ℕ) (l : Layout) → reading_of s ≡ Fields l → {at : ℕ} → FieldAt s at
    → extent_among slots s l (tag_byte s at) ≡ record { field = at; start = at + 3; length = length_bytes s at }
field_found s l e f = found slots_apart (all-along s l e) (from_first f)

-- A tag that no field has is not found.
pub field-absent : (s : List ℕ) (l : Layout) → reading_of s ≡ Fields l → (n : ℕ)
    → ((at : ℕ) → FieldAt s at → tag_byte s at ≡ n → ⊥)
    → extent_among slots s l n ≡ end_extent s
field-absent s l e n none = not_found n none (λ h. first h) (all-along s l e)

-- In a layout of no fields none is.
pub no_field : (s : List ℕ) (n : ℕ) (rest : List Slot) → extent_among rest s (no_fields s) n ≡ end_extent s
no_field s n [] = refl
no_field s n (slot ∷ rest) = by (is_tag (tag_among (tags_in slot) n)) (no_field s n rest)
  where
    absent : (slot : Slot) → extent_in slot (no_fields s) ≡ end_extent s
    absent KindSlot = refl
    absent FrameSlot = refl
    absent CoefficientsSlot = refl
    absent MovesSlot = refl
    absent PointSlot = refl

    by : (b : Bool) → extent_among rest s (no_fields s) n ≡ end_extent s
        → cond b (extent_in slot (no_fields s)) (extent_among rest s (no_fields s) n) ≡ end_extent s
    by true ends = absent slot
    by false ends = ends

-- A field begins within the record.
pub field-inside : {s : List ℕ} {at : ℕ} → FieldAt s at → at < length s
field-inside (first h) = h
field-inside (next f h) = h
