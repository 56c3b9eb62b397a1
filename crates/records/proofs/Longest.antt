-- No record that the reader does not refuse is longer than `longest_record`, and it looks no further. From
-- wherever a field may begin, what the slots that are left can take stays within that bound, by the kind and
-- the degrees; so where the bytes are more, a cause that is there in all of them is there in the first ones.
use Prim.Native.Nat.{ℕ, ◌+◌, ◌%◌, ◌≤◌, ◌<◌, max}
use native.Mathlib.Omega.{arith}
use mathlib.Core.Path.{◌≡◌, refl, sym, ◌∙◌, ap, subst}
use mathlib.Core.Bool.{Bool, true, false, ◌||◌, cond}
use mathlib.Core.List.{List, [], ◌∷◌}
use borrow.Author.Tests.{eqb-true, leb-true, leb-false, ltb-true, ltb-false}
use lib.Dec.{eqb, leb, ltb}
use lib.ListN.{length, get_or, take, drop, length-take, length-drop, get_or-eq_default}
use lib.Seq.{length-take-le, take_all, get_or-take, get_or-drop}
use Rattle.std.specs.Prelude.{Some, None}
use Rattle.integers.specs.Test.{within, all}
use Rattle.integers.proofs.All.{clash, and_parts}
use Rattle.polar.specs.Order.{monomials}
use Rattle.polar.specs.Groups.{Group, monomials_over}
use Rattle.kinds.specs.Kinds.{groups_of, known}
use Rattle.kinds.specs.Frames.{frame_of, frame_allowed, frames_allowed}
use Rattle.kinds.proofs.Limits.{by-known}
use Rattle.kinds.proofs.Counts.{
  coefficients-entries,
  curve-count,
  patch-count,
  rectangle-count,
  patch-low,
  rectangle-low,
}
use Rattle.machine.specs.Refusals.{◌else◌, first_failed}
use Rattle.machine.proofs.Refusals.{none-failed}
use Rattle.decoding.specs.Numbers.{unsigned_of, frame_numbers, coefficients_of}
use Rattle.decoding.proofs.Numbers.{take-drop-take}
use Rattle.kinds.specs.Heads.{head_groups}
use Rattle.records.specs.Table.{
  slots,
  tags_in,
  required,
  head_in,
  head_length,
  head_allowed,
  frame_length,
  coefficients_length,
  point_length,
  polynomials_of,
  field_row,
}
use Rattle.records.specs.Reading.{
  bytes_left,
  length_at,
  bytes_at,
  head_of,
  field_number,
  tag_among,
  is_tag,
  standing,
  reading_of,
  reading_number,
  reading_values,
}
use Rattle.records.specs.Causes.{Begins, Comes, may_come, Caused, TableVerdict}
use Rattle.records.specs.Causes.Begins.{first, after, without}
use Rattle.records.specs.Causes.Comes.{comes}
use Rattle.records.specs.Causes.Caused.{
  cut_field,
  cut_value,
  wrong_tag,
  absent_tag,
  wrong_length,
  wrong_value,
}
use Rattle.records.specs.Longest.{
  longest_record,
  NoLongerRecord,
  OneAsLong,
  ReadByFirstBytes,
  NearRefusal,
  RefusedNear,
}
use Rattle.kinds.specs.declared.Head.{Head}
use Rattle.records.specs.declared.Slot.{Slot}
use Rattle.records.specs.declared.Slot.TheVariants.{
  KindSlot,
  FrameSlot,
  CoefficientsSlot,
  MovesSlot,
  PointSlot,
}
use Rattle.records.specs.declared.Tag.{Tag}
use Rattle.records.specs.declared.Tag.TheVariants.{Kind, Frame, Coefficients, Moves, Point}
use Rattle.records.specs.Reading.{Reading}
use Rattle.records.specs.Reading.{Fields, Refused}
use Rattle.records.proofs.Slots.{long-enough, stands-there, by_value, field-passes}
use Rattle.records.proofs.Causes.{caused-refused, refused-caused, table-verdict}

-- ---- how long a field can be

-- the most bytes of a value, by the groups of vertices
abbrev most_of : Tag → List Group → ℕ
most_of Kind gs = 3
most_of Frame gs = frame_length gs
most_of Coefficients gs = coefficients_length gs
most_of Moves gs = 256
most_of Point gs = point_length gs

allowed-most : (tag : Tag) (h : Head) (n : ℕ) → (field_row tag).length_allowed h n ≡ true
    → n ≤ most_of tag (head_groups h)
allowed-most Kind h n e = by (eqb n 2) refl (eqb n 3) refl e
  where
    by : (a : Bool) → eqb n 2 ≡ a → (b : Bool) → eqb n 3 ≡ b → a || b ≡ true → n ≤ 3
    by true x b y z = let is = eqb-true n 2 x in omega arith
    by false x true y z = let is = eqb-true n 3 y in omega arith
    by false x false y z = absurd (clash z refl)
allowed-most Frame h n e = let is = eqb-true n (frame_length (head_groups h)) e in omega arith
allowed-most Coefficients h n e = let is = eqb-true n (coefficients_length (head_groups h)) e in omega arith
allowed-most Moves h n e = leb-true n 256 (and_parts (eqb (n % 8) 0) (leb n 256) e).1
allowed-most Point h n e = let is = eqb-true n (point_length (head_groups h)) e in omega arith

-- the most of the fields that may stand in a slot
abbrev most_among : List Tag → List Group → ℕ
most_among [] gs = 0
most_among (tag ∷ more) gs = max (most_of tag gs) (most_among more gs)

among-most : (tags : List Tag) {tag : Tag} (byte : ℕ) (gs : List Group) → tag_among tags byte ≡ Some tag
    → most_of tag gs ≤ most_among tags gs
among-most [] byte gs e = absurd (clash (ap is_tag e) refl)
among-most (t ∷ more) {tag} byte gs e = by (eqb byte (field_row t).byte) e (λ k. among-most more byte gs k)
  where
    by : (b : Bool) → cond b (Some t) (tag_among more byte) ≡ Some tag
        → (tag_among more byte ≡ Some tag → most_of tag gs ≤ most_among more gs)
        → most_of tag gs ≤ max (most_of t gs) (most_among more gs)
    by true k later =
        let is : t ≡ tag = cc in
        subst (λ x. most_of x gs ≤ max (most_of t gs) (most_among more gs)) is (omega arith)
    by false k later = let most = later k in omega arith

-- a field that stands in a slot and has an allowed length
slot-most : (slot : Slot) (s : List ℕ) (at : ℕ) {tag : Tag} → standing slot s at ≡ Some tag
    → (field_row tag).length_allowed (head_of s) (length_at s at) ≡ true
    → length_at s at ≤ most_among (tags_in slot) (head_groups (head_of s))
slot-most slot s at {tag} h e =
    let gs = head_groups (head_of s) in
    let one = allowed-most tag (head_of s) (length_at s at) e in
    let byte = sym (long-enough slot s at (stands-there slot s at h)) ∙ h in
    let all = among-most (tags_in slot) (get_or s at 0) gs byte in
    omega (arith, one, all)

-- ---- how far the slots can lead

-- the most bytes of the fields in these slots, each with its tag and its length
abbrev most_in : List Slot → List Group → ℕ
most_in [] gs = 0
most_in (slot ∷ rest) gs = 3 + most_among (tags_in slot) gs + most_in rest gs

abbrev later : List Slot
later = FrameSlot ∷ CoefficientsSlot ∷ MovesSlot ∷ PointSlot ∷ []

-- field 1 as long as it must be, and the fields after it as long as they can be
abbrev most_over : List Group → ℕ
most_over gs = 3 + head_length gs + most_in later gs

-- by the kind
all-within : (kind p q : ℕ) → known kind p q ≡ true → most_over (groups_of kind p q) ≤ longest_record
all-within = by-known (λ kind p q. most_over (groups_of kind p q) ≤ longest_record)
    (λ p m. omega (arith, coefficients-entries (groups_of 1 p 0), curve-count 1 p 0 refl, m.high))
    (λ p m.
    let low = patch-low {m = p} {n = 9} (omega (arith, m.high)) in
    omega (arith, coefficients-entries (groups_of 2 p 0), patch-count 2 p 0 refl, low))
    (λ p q m n.
    let low = rectangle-low {m = p} {q = q} {n = 6} (omega (arith, m.high)) (omega (arith, n.high)) in
    omega (arith, coefficients-entries (groups_of 3 p q), rectangle-count 3 p q refl, low))

-- where a field may begin: at the record's beginning, or so that what may still come stays within the bound
data Ahead (s : List ℕ) (rest : List Slot) (at : ℕ) : Type 0 where
  none : rest ≡ slots → at ≡ 0 → Ahead s rest at
  some : at + most_in rest (head_groups (head_of s)) ≤ longest_record → Ahead s rest at

-- the tag that stands in the first slot is that of field 1
first-tag : (s : List ℕ) {tag : Tag} → standing KindSlot s 0 ≡ Some tag → tag ≡ Kind
first-tag s {tag} h =
    by (eqb (get_or s 0 0) 1) (sym (long-enough KindSlot s 0 (stands-there KindSlot s 0 h)) ∙ h)
  where
    by : (b : Bool) → cond b (Some Kind) None ≡ Some tag → tag ≡ Kind
    by true k = cc
    by false k = absurd (clash (ap is_tag k) refl)

-- its value is what the head is read from, so that it is as long as its kind says
head-within : (s : List ℕ) → field_number Kind (head_of s) s 0 ≡ 0
    → 3 + length_at s 0 + most_in later (head_groups (head_of s)) ≤ longest_record
unfolding head_of bytes_at
head-within s k =
    let h = head_of s in
    let value = bytes_at s 0 in
    let passes = field-passes Kind h s 0 k in
    let right = known h.kind h.degree h.second in
    let must = head_length (head_groups h) in
    let tests = (none-failed (head_allowed value else 4 ∷ []) refl).0 passes.good in
    let parts = and_parts right (eqb (length value) must) (and_parts (head_allowed value) true tests).0 in
    let long = eqb-true (length value) must parts.1 in
    let room : length_at s 0 ≤ length (drop 3 s) = simp length-drop passes.room in
    let whole : length value ≡ length_at s 0 = length-take-le (length_at s 0) (drop 3 s) room in
    let most = all-within h.kind h.degree h.second parts.0 in
    omega (arith, long, whole, most)

ahead : {s : List ℕ} {rest : List Slot} {at : ℕ} → Begins s rest at → Ahead s rest at
ahead first = none refl refl
ahead {s} (after {slot = slot} {rest = rest} {tag = tag} {at = at} b h k) = by (ahead b)
  where
    by : Ahead s (slot ∷ rest) at → Ahead s rest (at + 3 + length_at s at)
    by (none is z) =
        let gs = head_groups (head_of s) in
        let slot_is : slot ≡ KindSlot = cc in
        let rest-is : rest ≡ later = cc in
        let tag_is : tag ≡ Kind = first-tag s ((λ i. standing (sym slot_is i) s (sym z i)) ∙ h) in
        let most = head-within s ((λ i. field_number (sym tag_is i) (head_of s) s (sym z i)) ∙ k) in
        some
        (subst (λ n. n + 3 + length_at s n + most_in rest gs ≤ longest_record) (sym z)
        (subst (λ r. 3 + length_at s 0 + most_in r gs ≤ longest_record) (sym rest-is) most))
    by (some most) =
        let here = slot-most slot s at h (field-passes tag (head_of s) s at k).long in
        some (omega (arith, most, here))
ahead {s} (without {slot = slot} {rest = rest} {at = at} b h k) = by (ahead b)
  where
    by : Ahead s (slot ∷ rest) at → Ahead s rest at
    by (none is z) = let slot_is : slot ≡ KindSlot = cc in absurd (clash (ap required slot_is) k)
    by (some most) = some (omega (arith, most))

-- an offset where a field may begin
begins-near : {s : List ℕ} {rest : List Slot} {at : ℕ} → Begins s rest at → at ≤ longest_record
begins-near {s} {rest} {at} b = by (ahead b)
  where
    by : Ahead s rest at → at ≤ longest_record
    by (none is z) = omega arith
    by (some most) = omega (arith, most)

comes-begins : {s : List ℕ} {tag : Tag} {at : ℕ} → Comes s tag at → at ≤ longest_record
comes-begins (comes b h) = begins-near b

-- the end of a field that may come and has an allowed length
comes-near : {s : List ℕ} {tag : Tag} {at : ℕ} → Comes s tag at
    → (field_row tag).length_allowed (head_of s) (length_at s at) ≡ true
    → at + 3 + length_at s at ≤ longest_record
comes-near {s} {tag} {at} (comes {slot = slot} {rest = rest} b h) e = by (ahead b)
  where
    here : length_at s at ≤ most_among (tags_in slot) (head_groups (head_of s))
    here = slot-most slot s at h e

    by : Ahead s (slot ∷ rest) at → at + 3 + length_at s at ≤ longest_record
    by (none is z) =
        let slot_is : slot ≡ KindSlot = cc in
        let gs = head_groups (head_of s) in
        let few : length_at s at ≤ 3 = subst (λ x. length_at s at ≤ most_among (tags_in x) gs) slot_is here in
        omega (arith, few)
    by (some most) = omega (arith, most, here)

-- ---- a refusal

one-test : (b : Bool) (k : ℕ) → k ≤ 6 → first_failed (b else k ∷ []) ≤ 6
one-test true k h = omega arith
one-test false k h = h

tests-few : (tag : Tag) (h : Head) (value : List ℕ) → first_failed ((field_row tag).tests h value) ≤ 6
tests-few Kind h value = one-test (head_allowed value) 4 (omega arith)
tests-few Frame h value = one-test (frames_allowed (head_groups h) (frame_numbers value)) 5 (omega arith)
tests-few Coefficients h value =
    let f = polynomials_of h.kind h.degree h.second value in
    one-test (all (within 1048576) f.coefficients) 6 (omega arith)
tests-few Moves h value = omega arith
tests-few Point h value = omega arith

caused-near : {s : List ℕ} {n at : ℕ} → Caused s n at → NearRefusal (record { number = n; offset = at })
caused-near (cut_field b h k) = record { some = omega arith; few = omega arith; near = begins-near b }
caused-near (cut_value c e k) = record { some = omega arith; few = omega arith; near = comes-begins c }
caused-near (wrong_tag b h m) = record { some = omega arith; few = omega arith; near = begins-near b }
caused-near (absent_tag b e) = record { some = omega arith; few = omega arith; near = begins-near b }
caused-near (wrong_length c e) = record { some = omega arith; few = omega arith; near = comes-begins c }
caused-near {s} (wrong_value {tag = tag} {at = at} c e k v) =
    let few = tests-few tag (head_of s) (bytes_at s at) in
    record { some = omega arith; few = omega (arith, few, v); near = comes-begins c }

pub refused-near : RefusedNear
refused-near s r e = caused-near (refused-caused s r e)

-- ---- the longest record

pub no-longer-record : NoLongerRecord
no-longer-record s l e =
    by (subst (λ r. TableVerdict s (reading_number r) (reading_values r)) e (table-verdict s)) refl
  where
    by : {n : ℕ} {values : List ℕ} → TableVerdict s n values → n ≡ 0 → length s ≤ longest_record
    by (TableVerdict.whole b) z = begins-near b
    by (TableVerdict.refused c) z = let some = (caused-near c).some in absurd (omega (arith, some))

pub one-as-long : OneAsLong
unfolding reading_of frames_allowed frame_allowed frame_numbers frame_of monomials_over monomials coefficients_of
one-as-long = record { long = refl; read = refl }

-- ---- the first bytes of more than n, as many as the longest record has and three more

module _ (n : ℕ) (wide : longest_record + 3 ≤ n) (s : List ℕ) (more : n < length s) where
  long : length (take n s) ≡ n
  long = length-take-le n s (omega arith)

  -- what stands at an offset
  length-same : (at : ℕ) → at + 3 ≤ n → length_at (take n s) at ≡ length_at s at
  unfolding length_at
  length-same at h = ap unsigned_of (take-drop-take s (at + 1) 2 n (omega arith) (omega arith))

  standing-same : (slot : Slot) (at : ℕ) → at + 3 ≤ n → standing slot (take n s) at ≡ standing slot s at
  standing-same slot at h =
      long-enough slot (take n s) at (omega (arith, long))
      ∙ ap (tag_among (tags_in slot)) (get_or-take n s at 0 (omega arith))
      ∙ sym (long-enough slot s at (omega arith))

  bytes_same : (at : ℕ) → at + 3 + length_at s at ≤ n → bytes_at (take n s) at ≡ bytes_at s at
  unfolding bytes_at
  bytes_same at h =
      ap (λ k. take k (drop (at + 3) (take n s))) (length-same at (omega (arith, h)))
      ∙ take-drop-take s (at + 3) (length_at s at) n h (omega arith)

  -- field 1, whose first three bytes tell kind and degrees
  byte-same : (k i : ℕ) → i < 3 → get_or (take k (drop 3 (take n s))) i 0 ≡ get_or (take k (drop 3 s)) i 0
  byte-same k i h = by (ltb i k) refl
    where
      by : (b : Bool) → ltb i k ≡ b → get_or (take k (drop 3 (take n s))) i 0 ≡ get_or (take k (drop 3 s)) i 0
      by true e =
          let few = ltb-true i k e in
          get_or-take k (drop 3 (take n s)) i 0 few
          ∙ get_or-drop 3 (take n s) i 0
          ∙ get_or-take n s (3 + i) 0 (omega arith)
          ∙ sym (get_or-drop 3 s i 0)
          ∙ sym (get_or-take k (drop 3 s) i 0 few)
      by false e =
          let past = ltb-false i k e in
          get_or-eq_default (take k (drop 3 (take n s))) 0 (simp length-take (omega arith))
          ∙ sym (get_or-eq_default (take k (drop 3 s)) 0 (simp length-take (omega arith)))

  head-same : head_of (take n s) ≡ head_of s
  unfolding head_of bytes_at
  head-same =
      let k = length_at s 0 in
      ap (λ m. head_in (take m (drop 3 (take n s)))) (length-same 0 (omega arith))
      ∙ (λ i.
      record {
        kind = byte-same k 0 (omega arith) i;
        degree = byte-same k 1 (omega arith) i;
        second = byte-same k 2 (omega arith) i;
      })

  -- a field that passes
  allowed_same : (tag : Tag) (at : ℕ) {b : Bool} → at + 3 ≤ n
      → (field_row tag).length_allowed (head_of s) (length_at s at) ≡ b
      → (field_row tag).length_allowed (head_of (take n s)) (length_at (take n s) at) ≡ b
  allowed_same tag at h e = (λ i. (field_row tag).length_allowed (head-same i) (length-same at h i)) ∙ e

  room-same : (at : ℕ) → at + 3 + length_at s at ≤ n → length_at (take n s) at ≤ bytes_left (take n s) (at + 3)
  room-same at h = let is = length-same at (omega (arith, h)) in omega (arith, is, long)

  tests_same : (tag : Tag) (at : ℕ) → at + 3 + length_at s at ≤ n
      → first_failed ((field_row tag).tests (head_of (take n s)) (bytes_at (take n s) at))
      ≡ first_failed ((field_row tag).tests (head_of s) (bytes_at s at))
  tests_same tag at h = λ i. first_failed ((field_row tag).tests (head-same i) (bytes_same at h i))

  begins-same : {rest : List Slot} {at : ℕ} → Begins s rest at → Begins (take n s) rest at
  begins-same first = first
  begins-same (after {slot = slot} {rest = rest} {tag = tag} {at = at} b h k) =
      let passes = field-passes tag (head_of s) s at k in
      let near = comes-near (comes b h) passes.long in
      let there : at + 3 ≤ n = omega arith in
      let whole : at + 3 + length_at s at ≤ n = omega (arith, near) in
      let t = take n s in
      let allowed = allowed_same tag at there passes.long in
      let value = by_value tag (head_of t) t at allowed (room-same at whole) ∙ tests_same tag at whole in
      subst (λ m. Begins t rest (at + 3 + m)) (length-same at there)
      (after (begins-same b) (standing-same slot at there ∙ h) (value ∙ passes.good))
  begins-same (without {slot = slot} {rest = rest} {at = at} b h k) =
      let near = begins-near b in
      without (begins-same b) (standing-same slot at (omega (arith, near)) ∙ h) k

  comes-same : {tag : Tag} {at : ℕ} → Comes s tag at → Comes (take n s) tag at
  comes-same (comes {slot = slot} {at = at} b h) =
      let near = begins-near b in
      comes (begins-same b) (standing-same slot at (omega (arith, near)) ∙ h)

  -- what ends the record is not there, and what is wrong before its end is
  caused-same : {k at : ℕ} → Caused s k at → Caused (take n s) k at
  caused-same (cut_field {at = at} b h k) = let near = begins-near b in absurd (omega (arith, near, k))
  caused-same (cut_value {at = at} c e k) = let near = comes-near c e in absurd (omega (arith, near, k))
  caused-same (wrong_tag {rest = rest} {at = at} b h m) =
      let near = begins-near b in
      let byte = get_or-take n s at 0 (omega (arith, near)) in
      wrong_tag (begins-same b) (omega (arith, near, long)) (ap (may_come rest) byte ∙ m)
  caused-same (absent_tag b e) = let near = begins-near b in absurd (omega (arith, near))
  caused-same (wrong_length {tag = tag} {at = at} c e) =
      let near = comes-begins c in wrong_length (comes-same c) (allowed_same tag at (omega (arith, near)) e)
  caused-same (wrong_value {tag = tag} {at = at} c e k v) =
      let near = comes-near c e in
      let whole : at + 3 + length_at s at ≤ n = omega (arith, near) in
      let allowed = allowed_same tag at (omega (arith, near)) e in
      wrong_value (comes-same c) allowed (room-same at whole) (tests_same tag at whole ∙ v)

pub read-by-first-bytes : ReadByFirstBytes
read-by-first-bytes n wide s = by_length (leb (length s) n) refl
  where
    by_length : (b : Bool) → leb (length s) n ≡ b → reading_of (take n s) ≡ reading_of s
    by_length true e = ap reading_of (take_all n s (leb-true (length s) n e))
    by_length false e = by (reading_of s) refl
      where
        more : n < length s
        more = leb-false (length s) n e

        by : (r : Reading) → reading_of s ≡ r → reading_of (take n s) ≡ r
        by (Fields l) is = let short = no-longer-record s l is in absurd (omega (arith, short, more))
        by (Refused r) is = caused-refused (caused-same n wide s more (refused-caused s r is))
