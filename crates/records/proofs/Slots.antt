-- One field and one slot, test by test: what each test of the definitions settles, in their order. The code's returns and the causes of a refusal both cite
-- these laws.
use mathlib.Core.Path.{◌≡◌, refl, sym, ◌∙◌, ap}
use mathlib.Core.Bool.{Bool, true, false, ◌||◌, cond}
use mathlib.Core.List.{List, [], ◌∷◌}
use Prim.Native.Nat.{ℕ, ◌+◌, ◌≤◌, ◌<◌}
use native.Mathlib.Omega.{arith}
use borrow.Author.Tests.{le-leb, lt-leb, eq-eqb, ne_eqb, leb-true, leb-false, eqb-true, eqb-false}
use lib.ListN.{get_or}
use lib.Dec.{eqb, leb}
use Rattle.std.specs.Prelude.{Option, Some, None}
use Rattle.records.specs.Table.{tags_in, required, field_row}
use Rattle.integers.proofs.All.{clash}
use Rattle.machine.specs.Refusals.{◌else◌, first_failed}
use Rattle.records.specs.Reading.{bytes_left, length_at, bytes_at, head_of, field_number, tag_among, is_tag, standing, missing_number, past, stay, read_standing, read_slot, read_end, concluded, reading_of}
use Rattle.kinds.specs.declared.Head.{Head}
use Rattle.records.specs.declared.Slot.{Slot}
use Rattle.records.specs.declared.Slot.TheVariants.{KindSlot, FrameSlot, CoefficientsSlot, MovesSlot, PointSlot}
use Rattle.records.specs.declared.Tag.{Tag}
use Rattle.records.specs.Reading.{Progress}

-- ---- what stands in a slot

module _ (slot : Slot) (s : List ℕ) (at : ℕ) where
  pub too_short : bytes_left s at < 3 → standing slot s at ≡ None
  unfolding standing
  too_short h = rw (lt-leb 3 (bytes_left s at) h) refl

  pub long-enough : 3 ≤ bytes_left s at → standing slot s at ≡ tag_among (tags_in slot) (get_or s at 0)
  unfolding standing
  long-enough h = rw (le-leb 3 (bytes_left s at) h) refl

  -- three bytes are left where a field stands
  pub stands-there : {tag : Tag} → standing slot s at ≡ Some tag → 3 ≤ bytes_left s at
  unfolding standing
  stands-there {tag} e = by-case (leb 3 (bytes_left s at)) refl e
    where
      by-case : (t : Bool) → leb 3 (bytes_left s at) ≡ t → cond t (tag_among (tags_in slot) (get_or s at 0)) None ≡ Some tag → 3 ≤ bytes_left s at
      by-case true h k = leb-true 3 (bytes_left s at) h
      by-case false h k = absurd (clash (ap is_tag k) refl)

-- ---- the tests of a field whose tag is right

module _ (tag : Tag) (h : Head) (s : List ℕ) (at : ℕ) where
  pub wrong-length : (field_row tag).length_allowed h (length_at s at) ≡ false → field_number tag h s at ≡ 3
  unfolding field_number
  wrong-length e = rw e refl

  pub cut_short : (field_row tag).length_allowed h (length_at s at) ≡ true → bytes_left s (at + 3) < length_at s at → field_number tag h s at ≡ 1
  unfolding field_number
  cut_short e k = rw (e, lt-leb (length_at s at) (bytes_left s (at + 3)) k) refl

  pub by_value : (field_row tag).length_allowed h (length_at s at) ≡ true → length_at s at ≤ bytes_left s (at + 3) → field_number tag h s at ≡ first_failed ((field_row tag).tests h (bytes_at s at))
  unfolding field_number
  by_value e k = rw (e, le-leb (length_at s at) (bytes_left s (at + 3)) k) refl

  -- the three ways of a field, by its tests
  pub data Judged : Type 0 where
    bad_length : (field_row tag).length_allowed h (length_at s at) ≡ false → Judged
    bad_room : (field_row tag).length_allowed h (length_at s at) ≡ true → bytes_left s (at + 3) < length_at s at → Judged
    whole : (field_row tag).length_allowed h (length_at s at) ≡ true → length_at s at ≤ bytes_left s (at + 3) → Judged

  pub judged : Judged
  judged = by_length ((field_row tag).length_allowed h (length_at s at)) refl
    where
      by-room : (t : Bool) → leb (length_at s at) (bytes_left s (at + 3)) ≡ t → (field_row tag).length_allowed h (length_at s at) ≡ true → Judged
      by-room true k e = whole e (leb-true (length_at s at) (bytes_left s (at + 3)) k)
      by-room false k e = bad_room e (leb-false (length_at s at) (bytes_left s (at + 3)) k)

      by_length : (t : Bool) → (field_row tag).length_allowed h (length_at s at) ≡ t → Judged
      by_length true e = by-room (leb (length_at s at) (bytes_left s (at + 3))) refl e
      by_length false e = bad_length e

  -- not refused: every test passes
  pub record Passes : Type 0 where
    pub long : (field_row tag).length_allowed h (length_at s at) ≡ true
    pub room : length_at s at ≤ bytes_left s (at + 3)
    pub good : first_failed ((field_row tag).tests h (bytes_at s at)) ≡ 0

  pub field-passes : field_number tag h s at ≡ 0 → Passes
  field-passes z = by judged
    where
      by : Judged → Passes
      by (bad_length e) = let k = sym z ∙ wrong-length e in absurd (omega arith)
      by (bad_room e r) = let k = sym z ∙ cut_short e r in absurd (omega arith)
      by (whole e r) = record { long = e; room = r; good = sym (by_value e r) ∙ z }

  -- a field is taken or refused
  module _ (slot : Slot) where
    pub goes-past : field_number tag h s at ≡ 0 → read_standing (Some tag) slot h s at ≡ past s at
    unfolding read_standing
    goes-past e = rw (eq-eqb (field_number tag h s at) 0 e) refl

    pub stops : (field_number tag h s at ≡ 0 → ⊥) → read_standing (Some tag) slot h s at ≡ stay (field_number tag h s at) s at
    unfolding read_standing
    stops e = rw (ne_eqb (field_number tag h s at) 0 e) refl

-- ---- no field that may come next, where one is due

module _ (s : List ℕ) (at : ℕ) where
  pub at-end : bytes_left s at ≡ 0 → missing_number true s at ≡ 2
  at-end h = rw h refl

  pub one-or-two : 0 < bytes_left s at → bytes_left s at < 3 → missing_number true s at ≡ 1
  one-or-two h k = rw (ne_eqb (bytes_left s at) 0 (λ e. omega arith), lt-leb 3 (bytes_left s at) k) refl

  pub other_tag : 3 ≤ bytes_left s at → missing_number true s at ≡ 2
  other_tag k = rw (ne_eqb (bytes_left s at) 0 (λ e. omega arith), le-leb 3 (bytes_left s at) k) refl

  -- its number is not 0
  pub missing-refused : missing_number true s at ≡ 0 → ⊥
  missing-refused e = by-case (eqb (bytes_left s at) 0 || leb 3 (bytes_left s at)) e
    where
      by-case : (t : Bool) → first_failed (t else 1 ∷ false else 2 ∷ []) ≡ 0 → ⊥
      by-case true k = omega arith
      by-case false k = omega arith

-- ---- the reader comes to a slot

module _ (slot : Slot) (h : Head) (s : List ℕ) (before : Progress) where
  pub arrives : before.number ≡ 0 → read_slot slot h s before ≡ read_standing (standing slot s before.at) slot h s before.at
  unfolding read_slot
  arrives e = rw (eq-eqb before.number 0 e) refl

  pub passed_on : (before.number ≡ 0 → ⊥) → read_slot slot h s before ≡ before
  unfolding read_slot
  passed_on e = rw (ne_eqb before.number 0 e) refl

-- what the step from an offset can be
pub data Stepped (slot : Slot) (s : List ℕ) (at : ℕ) (x : Progress) : Type 0 where
  took : {tag : Tag} → standing slot s at ≡ Some tag → field_number tag (head_of s) s at ≡ 0 → x ≡ past s at → Stepped slot s at x
  fell : {tag : Tag} → standing slot s at ≡ Some tag → (field_number tag (head_of s) s at ≡ 0 → ⊥) → x ≡ stay (field_number tag (head_of s) s at) s at
      → Stepped slot s at x
  lacked : standing slot s at ≡ None → required slot ≡ true → x ≡ stay (missing_number true s at) s at → Stepped slot s at x
  skipped : standing slot s at ≡ None → required slot ≡ false → x ≡ stay 0 s at → Stepped slot s at x

module _ (slot : Slot) (s : List ℕ) (before : Progress) (e : before.number ≡ 0) where
  pub takes : {tag : Tag} → standing slot s before.at ≡ Some tag → read_slot slot (head_of s) s before ≡ read_standing (Some tag) slot (head_of s) s before.at
  takes h = arrives slot (head_of s) s before e ∙ ap (λ x. read_standing x slot (head_of s) s before.at) h

  pub misses : {due : Bool} → standing slot s before.at ≡ None → required slot ≡ due → read_slot slot (head_of s) s before ≡ stay (missing_number due s before.at) s before.at
  unfolding read_standing
  misses h q =
      arrives slot (head_of s) s before e
      ∙ ap (λ x. read_standing x slot (head_of s) s before.at) h
      ∙ ap (λ due. stay (missing_number due s before.at) s before.at) q

  pub stepped : Stepped slot s before.at (read_slot slot (head_of s) s before)
  stepped = by (standing slot s before.at) refl
    where
      by_number : {tag : Tag} (t : Bool) → eqb (field_number tag (head_of s) s before.at) 0 ≡ t → standing slot s before.at ≡ Some tag
          → Stepped slot s before.at (read_slot slot (head_of s) s before)
      by_number {tag} true k h =
          let none = eqb-true (field_number tag (head_of s) s before.at) 0 k in took h none (takes h ∙ goes-past tag (head_of s) s before.at slot none)
      by_number {tag} false k h =
          let some = eqb-false (field_number tag (head_of s) s before.at) 0 k in fell h some (takes h ∙ stops tag (head_of s) s before.at slot some)

      by-need : (t : Bool) → required slot ≡ t → standing slot s before.at ≡ None → Stepped slot s before.at (read_slot slot (head_of s) s before)
      by-need true q h = lacked h q (misses h q)
      by-need false q h = skipped h q (misses h q)

      by : (x : (Option Tag)) → standing slot s before.at ≡ x → Stepped slot s before.at (read_slot slot (head_of s) s before)
      by (Some tag) h = by_number (eqb (field_number tag (head_of s) s before.at) 0) refl h
      by None h = by-need (required slot) refl h

-- ---- five slots and the end, step by step

pub all-steps : (s : List ℕ) {h : Head} {a b c d e z : Progress} → h ≡ head_of s → a ≡ read_slot KindSlot h s (stay 0 s 0) → b ≡ read_slot FrameSlot h s a → c ≡ read_slot CoefficientsSlot h s b
    → d ≡ read_slot MovesSlot h s c → e ≡ read_slot PointSlot h s d → z ≡ read_end s e
    → reading_of s ≡ concluded s z (a.extent ∷ b.extent ∷ c.extent ∷ d.extent ∷ e.extent ∷ [])
unfolding reading_of
all-steps s hs ea eb ec ed ee ez = rw (ez, ee, ed, ec, eb, ea, hs) refl
