-- The table of refusals, both ways. The slots are followed from wherever a field begins: there a cause
-- settles the reading, and a reading that is refused leads back to its cause.
use mathlib.Core.Path.{◌≡◌, refl, sym, ◌∙◌, ap, subst}
use mathlib.Core.Bool.{Bool, true, false, not, ◌&&◌, ◌||◌}
use mathlib.Core.List.{List, [], ◌∷◌, ◌++◌}
use mathlib.Core.Logic.{◌⊎◌, inl, inr}
use Prim.Native.Nat.{ℕ, zero, suc, ◌+◌, ◌≤◌, ◌<◌}
use native.Mathlib.Omega.{arith}
use borrow.Author.Tests.{eqb-true, eqb-false, ltb-true, ltb-false, lt-ltb, le-ltb, ne_eqb}
use lib.ListN.{length, get_or}
use lib.Dec.{eqb, ltb}
use Rattle.std.specs.Prelude.{Option, Some, None}
use Rattle.records.specs.Table.{slots, tags_in, required, field_row}
use Rattle.integers.proofs.All.{clash}
use Rattle.machine.specs.Refusals.{first_failed}
use Rattle.records.specs.Reading.{bytes_left, length_at, bytes_at, head_of, field_number, tag_among, is_tag, standing, missing_number, end_extent, extent_at, stay, read_slot, read_end, layout_of_extents, concluded, onward, reading_of, reading_number, reading_values}
use Rattle.records.specs.Causes.{Begins, Comes, may_come, any_required, Caused, TableVerdict, EachCause}
use Rattle.records.specs.Causes.Begins.{first, after, without}
use Rattle.records.specs.Causes.Comes.{comes}
use Rattle.records.specs.Causes.Caused.{cut_field, cut_value, wrong_tag, absent_tag, wrong_length, wrong_value}
use Rattle.records.specs.declared.Extent.{Extent}
use Rattle.records.specs.declared.Layout.{Layout}
use Rattle.records.specs.declared.Slot.{Slot}
use Rattle.records.specs.declared.Slot.TheVariants.{KindSlot, FrameSlot, CoefficientsSlot, MovesSlot, PointSlot}
use Rattle.records.specs.declared.Tag.{Tag}
use Rattle.records.specs.Reading.{NumberAt}
use Rattle.records.specs.Reading.{Progress}
use Rattle.records.specs.Reading.{Reading}
use Rattle.records.specs.Reading.{Fields, Refused}
use Rattle.records.proofs.Slots.{too_short, long-enough, stands-there, wrong-length, cut_short, by_value, Judged, judged, field-passes, goes-past, stops, at-end, one-or-two, other_tag, missing-refused, passed_on, Stepped, takes, misses, stepped}
use Rattle.records.proofs.Slots.Stepped.{took, fell, lacked, skipped}

-- ---- a step of the reader that is not refused

abbrev go : ℕ → Extent → Progress
go at e = record { number = 0; at = at; extent = e }

-- the reading after a slot, by the step that it makes
abbrev onto : List Slot → List ℕ → List Extent → Progress → Reading
onto rest s es x = onward rest s x (es ++ (x.extent ∷ []))

-- ---- the reading, from where a field begins

record From (s : List ℕ) (rest : List Slot) (at : ℕ) : Type 0 where
  extents : List Extent
  last : Extent
  is : reading_of s ≡ onward rest s (go at last) extents

from-here : {s : List ℕ} {rest : List Slot} {at : ℕ} → Begins s rest at → From s rest at
unfolding reading_of
from-here {s} first = record { extents = []; last = end_extent s; is = refl }
from-here {s} (after {slot = slot} {rest = rest} {tag = tag} {at = at} b h k) =
    let f = from-here b in
    record {
      extents = f.extents ++ (extent_at s at ∷ []);
      last = extent_at s at;
      is = f.is ∙ ap (onto rest s f.extents) (takes slot s (go at f.last) refl h ∙ goes-past tag (head_of s) s at slot k);
    }
from-here {s} (without {slot = slot} {rest = rest} {at = at} b h k) =
    let f = from-here b in
    record {
      extents = f.extents ++ (end_extent s ∷ []);
      last = end_extent s;
      is = f.is ∙ ap (onto rest s f.extents) (misses slot s (go at f.last) refl h k);
    }

-- a refusal is not taken back
refuses : (s : List ℕ) (step : Progress) (es : List Extent) → (step.number ≡ 0 → ⊥) → concluded s step es ≡ Refused (record { number = step.number; offset = step.at })
unfolding concluded
refuses s step es z = rw (ne_eqb step.number 0 z) refl

stays : (rest : List Slot) (s : List ℕ) (step : Progress) (es : List Extent) → (step.number ≡ 0 → ⊥)
    → onward rest s step es ≡ Refused (record { number = step.number; offset = step.at })
unfolding read_end
stays [] s step es z = rw (ne_eqb step.number 0 z) (refuses s step es z)
stays (slot ∷ rest) s step es z = ap (onto rest s es) (passed_on slot (head_of s) s step z) ∙ stays rest s step (es ++ (step.extent ∷ [])) z

-- an offset that is reached lies within the record
reached : {s : List ℕ} {rest : List Slot} {at : ℕ} → Begins s rest at → at ≤ length s
reached first = omega arith
reached {s} (after {slot = slot} {tag = tag} {at = at} b h k) =
    let there = stands-there slot s at h in let room = field-passes tag (head_of s) s at k in omega arith
reached (without b h k) = reached b

-- ---- a cause settles the reading

or-false : (a b : Bool) → a || b ≡ false → (a ≡ false) × (b ≡ false)
or-false true b e = absurd (clash refl e)
or-false false b e = (refl, e)

not-tag : (x : (Option Tag)) → is_tag x ≡ false → x ≡ None
not-tag (Some tag) e = absurd (clash refl e)
not-tag None e = refl

-- no tag that may come, by the byte, stands here, and the record has not ended or a slot must still be filled
module _ (s : List ℕ) (at byte : ℕ) (none : (slot : Slot) → is_tag (tag_among (tags_in slot) byte) ≡ false → standing slot s at ≡ None) where
  abbrev Stuck : List Slot → Type 0
  Stuck rest =
      (e : Extent) (es : List Extent) → may_come rest byte ≡ false → (0 < bytes_left s at) ⊎ (any_required rest ≡ true)
      → onward rest s (go at e) es ≡ Refused (record { number = missing_number true s at; offset = at })

  stuck : (rest : List Slot) → Stuck rest
  unfolding read_end
  stuck [] e es m (inl h) = ap (λ t. concluded s (stay (missing_number t s at) s at) es) (lt-ltb 0 (bytes_left s at) h) ∙ refuses s (stay (missing_number true s at) s at) es (missing-refused s at)
  stuck [] e es m (inr h) = absurd (clash h refl)
  stuck (slot ∷ rest) e es m c = by-case (required slot) refl (stuck rest)
    where
      parts : (is_tag (tag_among (tags_in slot) byte) ≡ false) × ((not (required slot) && may_come rest byte) ≡ false)
      parts = or-false (is_tag (tag_among (tags_in slot) byte)) (not (required slot) && may_come rest byte) m

      still : required slot ≡ false → (0 < bytes_left s at) ⊎ (any_required (slot ∷ rest) ≡ true) → (0 < bytes_left s at) ⊎ (any_required rest ≡ true)
      still q (inl h) = inl h
      still q (inr h) = inr (sym (ap (λ (b : Bool). b || any_required rest) q) ∙ h)

      by-case : (t : Bool) → required slot ≡ t → Stuck rest → onto rest s es (read_slot slot (head_of s) s (go at e)) ≡ Refused (record { number = missing_number true s at; offset = at })
      by-case true q later =
          ap (onto rest s es) (misses slot s (go at e) refl (none slot parts.0) q) ∙ stays rest s (stay (missing_number true s at) s at) (es ++ (end_extent s ∷ [])) (missing-refused s at)
      by-case false q later =
          ap (onto rest s es) (misses slot s (go at e) refl (none slot parts.0) q)
          ∙ later (end_extent s) (es ++ (end_extent s ∷ [])) (sym (ap (λ (b : Bool). not b && may_come rest byte) q) ∙ parts.1) (still q c)

-- no tag is 0
zero-comes-not : (rest : List Slot) → may_come rest 0 ≡ false
zero-comes-not [] = refl
zero-comes-not (KindSlot ∷ rest) = refl
zero-comes-not (FrameSlot ∷ rest) = refl
zero-comes-not (CoefficientsSlot ∷ rest) = refl
zero-comes-not (MovesSlot ∷ rest) = zero-comes-not rest
zero-comes-not (PointSlot ∷ rest) = zero-comes-not rest

-- fewer than three bytes are left, so that no field stands here
stuck-short : {s : List ℕ} {rest : List Slot} {at : ℕ} → Begins s rest at → bytes_left s at < 3 → (0 < bytes_left s at) ⊎ (any_required rest ≡ true)
    → reading_of s ≡ Refused (record { number = missing_number true s at; offset = at })
stuck-short {s} {rest} {at} b short c =
    let f = from-here b in f.is ∙ stuck s at 0 (λ slot e. too_short slot s at short) rest f.last f.extents (zero-comes-not rest) c

-- a field with a right tag is refused
halted : {s : List ℕ} {tag : Tag} {at n : ℕ} → Comes s tag at → field_number tag (head_of s) s at ≡ suc n → reading_of s ≡ Refused (record { number = suc n; offset = at })
halted {s} {tag} {at} {n} (comes {slot = slot} {rest = rest} b h) e =
    let f = from-here b in
    f.is
    ∙ ap (onto rest s f.extents)
    (takes slot s (go at f.last) refl h ∙ stops tag (head_of s) s at slot (λ k. let z = sym e ∙ k in omega arith) ∙ ap (λ (m : ℕ). stay m s at) e)
    ∙ stays rest s (stay (suc n) s at) (f.extents ++ (end_extent s ∷ [])) (λ z. omega arith)

abbrev as-refused : ℕ → ℕ → Reading
as-refused at n = Refused (record { number = n; offset = at })

-- Where a cause is there, the reading is refused with its number and offset.
pub caused-refused : {s : List ℕ} {n at : ℕ} → Caused s n at → reading_of s ≡ Refused (record { number = n; offset = at })
caused-refused {s} (cut_field {at = at} b h k) = stuck-short b k (inl h) ∙ ap (as-refused at) (one-or-two s at h k)
caused-refused {s} (cut_value {tag = tag} {at = at} c e k) = halted c (cut_short tag (head_of s) s at e k)
caused-refused {s} (wrong_tag {rest = rest} {at = at} b h m) =
    let f = from-here b in
    f.is
    ∙ stuck s at (get_or s at 0) (λ slot k. long-enough slot s at h ∙ not-tag (tag_among (tags_in slot) (get_or s at 0)) k) rest f.last f.extents m (inl (omega arith))
    ∙ ap (as-refused at) (other_tag s at h)
caused-refused {s} (absent_tag b e) =
    let none : bytes_left s (length s) ≡ 0 = omega arith in
    stuck-short b (omega arith) (inr e) ∙ ap (as-refused (length s)) (at-end s (length s) none)
caused-refused {s} (wrong_length {tag = tag} {at = at} c e) = halted c (wrong-length tag (head_of s) s at e)
caused-refused {s} (wrong_value {tag = tag} {at = at} c e k v) = halted c (by_value tag (head_of s) s at e k ∙ v)

-- ---- a refused reading has a cause

-- by what is left where no tag that may come stands
module _ {s : List ℕ} {rest : List Slot} {at : ℕ} (b : Begins s rest at) where
  missing-caused : (3 ≤ bytes_left s at → may_come rest (get_or s at 0) ≡ false) → (bytes_left s at ≡ 0 → any_required rest ≡ true) → Caused s (missing_number true s at) at
  missing-caused tag end = by_end (eqb (bytes_left s at) 0) refl
    where
      with_number : {n : ℕ} → missing_number true s at ≡ n → Caused s n at → Caused s (missing_number true s at) at
      with_number e c = subst (λ n. Caused s n at) (sym e) c

      by_three : (t : Bool) → ltb (bytes_left s at) 3 ≡ t → 0 < bytes_left s at → Caused s (missing_number true s at) at
      by_three true k h = let short = ltb-true (bytes_left s at) 3 k in with_number (one-or-two s at h short) (cut_field b h short)
      by_three false k h = let long = ltb-false (bytes_left s at) 3 k in with_number (other_tag s at long) (wrong_tag b long (tag long))

      by_end : (t : Bool) → eqb (bytes_left s at) 0 ≡ t → Caused s (missing_number true s at) at
      by_end true k =
          let none = eqb-true (bytes_left s at) 0 k in
          let inside = reached b in
          let last : length s ≡ at = omega arith in
          with_number (at-end s at none) (subst (Caused s 2) last (absent_tag (subst (Begins s rest) (sym last) b) (end none)))
      by_end false k = let some = eqb-false (bytes_left s at) 0 k in by_three (ltb (bytes_left s at) 3) refl (omega arith)

-- by the first test that a field fails
module _ {s : List ℕ} {tag : Tag} {at : ℕ} (c : Comes s tag at) where
  field-caused : (field_number tag (head_of s) s at ≡ 0 → ⊥) → Caused s (field_number tag (head_of s) s at) at
  field-caused z = by (judged tag (head_of s) s at)
    where
      with_number : {n : ℕ} → field_number tag (head_of s) s at ≡ n → Caused s n at → Caused s (field_number tag (head_of s) s at) at
      with_number e d = subst (λ n. Caused s n at) (sym e) d

      by : Judged tag (head_of s) s at → Caused s (field_number tag (head_of s) s at) at
      by (Judged.bad_length e) = with_number (wrong-length tag (head_of s) s at e) (wrong_length c e)
      by (Judged.bad_room e r) = with_number (cut_short tag (head_of s) s at e r) (cut_value c e r)
      by (Judged.whole e r) = by_number (first_failed ((field_row tag).tests (head_of s) (bytes_at s at))) refl
        where
          by_number : (n : ℕ) → first_failed ((field_row tag).tests (head_of s) (bytes_at s at)) ≡ n → Caused s (field_number tag (head_of s) s at) at
          by_number zero v = absurd (z (by_value tag (head_of s) s at e r ∙ v))
          by_number (suc n) v = with_number (by_value tag (head_of s) s at e r ∙ v) (wrong_value c e r v)

-- what a reading tells: a record that is not refused is read to its end, and a refused one has a cause
abbrev Outcome : List ℕ → Reading → Type 0
Outcome s (Fields l) = TableVerdict s 0 (l.said.kind ∷ l.said.degree ∷ l.said.second ∷ [])
Outcome s (Refused r) = Caused s r.number r.offset

at_rest : {s : List ℕ} {at : ℕ} (e : Extent) (es : List Extent) → Begins s [] at → Outcome s (onward [] s (go at e) es)
unfolding read_end concluded
at_rest {s} {at} e es b = by-case (ltb 0 (bytes_left s at)) refl
  where
    by-case : (t : Bool) → ltb 0 (bytes_left s at) ≡ t → Outcome s (concluded s (stay (missing_number t s at) s at) es)
    by-case true k =
        let some = ltb-true 0 (bytes_left s at) k in
        subst (Outcome s) (sym (refuses s (stay (missing_number true s at) s at) es (missing-refused s at))) (missing-caused b (λ h. refl) (λ z. absurd (omega arith)))
    by-case false k = let none = ltb-false 0 (bytes_left s at) k in let inside = reached b in TableVerdict.whole (subst (Begins s []) (omega arith) b)

outcome : {s : List ℕ} (rest : List Slot) (at : ℕ) (e : Extent) (es : List Extent) → Begins s rest at → Outcome s (onward rest s (go at e) es)
outcome [] at e es b = at_rest e es b
outcome {s} (slot ∷ rest) at e es b = by (stepped slot s (go at e) refl) (outcome rest)
  where
    settled : {x y : Progress} → x ≡ y → Outcome s (onto rest s es y) → Outcome s (onto rest s es x)
    settled is o = subst (λ x. Outcome s (onto rest s es x)) (sym is) o

    halt : (n : ℕ) → (n ≡ 0 → ⊥) → Caused s n at → Outcome s (onto rest s es (stay n s at))
    halt n z c = subst (Outcome s) (sym (stays rest s (stay n s at) (es ++ (end_extent s ∷ [])) z)) c

    by : {x : Progress} → Stepped slot s at x → ((k : ℕ) (e : Extent) (es : List Extent) → Begins s rest k → Outcome s (onward rest s (go k e) es)) → Outcome s (onto rest s es x)
    by (took h k is) later = settled is (later (at + 3 + length_at s at) (extent_at s at) (es ++ (extent_at s at ∷ [])) (after b h k))
    by (fell {tag = tag} h k is) later = settled is (halt (field_number tag (head_of s) s at) k (field-caused (comes b h) k))
    by (lacked h q is) later =
        settled is
        (halt (missing_number true s at) (missing-refused s at)
        (missing-caused b (λ long. rw (ap is_tag (sym (long-enough slot s at long) ∙ h), q) refl) (λ z. rw q refl)))
    by (skipped h q is) later = settled is (later at (end_extent s) (es ++ (end_extent s ∷ [])) (without b h q))

outcome-of : (s : List ℕ) → Outcome s (reading_of s)
unfolding reading_of
outcome-of s = outcome {s = s} slots 0 (end_extent s) [] first

-- Where a reading is refused, its cause is there.
pub refused-caused : (s : List ℕ) (r : NumberAt) → reading_of s ≡ Refused r → Caused s r.number r.offset
refused-caused s r e = subst (Outcome s) e (outcome-of s)

-- So number and values of every reading are what the table tells of the bytes.
pub table-verdict : (s : List ℕ) → TableVerdict s (reading_number (reading_of s)) (reading_values (reading_of s))
table-verdict s = by-case (reading_of s) (outcome-of s)
  where
    by-case : (r : Reading) → Outcome s r → TableVerdict s (reading_number r) (reading_values r)
    by-case (Fields l) o = o
    by-case (Refused r) o = TableVerdict.refused o

-- ---- each cause both ways

module _ (s : List ℕ) where
  abbrev NotRefused : Type 0
  NotRefused = (l : Layout) × (reading_of s ≡ Fields l)

  -- one reading is not two refusals, nor fields and a refusal
  one-cause : {n m at place : ℕ} → Caused s n at → Caused s m place → (n ≡ m) × (at ≡ place)
  one-cause {n} {m} {at} {place} c d =
      let same : as-refused at n ≡ as-refused place m = sym (caused-refused c) ∙ caused-refused d in
      (ap reading_number same, ap (λ r. get_or (reading_values r) 0 0) same)

  no-cause : NotRefused → (number offset : ℕ) → Caused s number offset → ⊥
  no-cause (l, e) number offset c =
      let same : Fields l ≡ as-refused offset number = sym e ∙ caused-refused c in
      let z : ◌≡◌ {A = ℕ} 0 1 = cc in omega arith

  -- the reading is one or the other, and a refusal has a cause
  settled : ((number offset : ℕ) → Caused s number offset → ⊥) → NotRefused
  settled none = by (reading_of s) refl
    where
      by : (r : Reading) → reading_of s ≡ r → NotRefused
      by (Fields l) e = (l, e)
      by (Refused r) e = absurd (none r.number r.offset (refused-caused s r e))

  to-its-end : NotRefused → Begins s [] (length s)
  to-its-end (l, e) = by (subst (Outcome s) e (outcome-of s))
    where
      by : {n : ℕ} {values : List ℕ} → TableVerdict s n values → Begins s [] (length s)
      by (TableVerdict.whole b) = b
      by (TableVerdict.refused {number = n} {offset = at} c) = absurd (no-cause (l, e) n at c)

  at-its-end : Begins s [] (length s) → NotRefused
  unfolding read_end concluded
  at-its-end b =
      let f = from-here b in
      let none : ltb 0 (bytes_left s (length s)) ≡ false = le-ltb 0 (bytes_left s (length s)) (omega arith) in
      (layout_of_extents s f.extents, f.is ∙ rw none refl)

  pub each-cause : EachCause s
  each-cause =
      record {
        refused =
            λ number offset. (refused-caused s (record { number = number; offset = offset }), caused-refused);
        uncaused = (no-cause, settled);
        whole = (to-its-end, at-its-end);
        one = one-cause;
      }
