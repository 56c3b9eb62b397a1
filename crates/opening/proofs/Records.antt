-- A record opened, by the reading. Of a record that the reader does not refuse, kind, frame and coefficients
-- are accepted, so that only its first net is left to be judged; and every field lies within the record.
use Prim.Native.Nat.{ℕ, zero, suc}
use native.Mathlib.Omega.{arith}
use mathlib.Core.Path.{◌≡◌, refl, sym, ap, ◌∙◌, subst}
use mathlib.Core.Bool.{Bool, true, false, ◌&&◌, cond}
use mathlib.Core.List.{List, [], ◌∷◌}
use lib.IntN.{ℤ}
use Rattle.integers.specs.Test.{within, all}
use Rattle.kinds.specs.Kinds.{known}
use Rattle.kinds.specs.Frames.{frames_allowed}
use Rattle.machine.specs.Refusals.{◌else◌, first_failed}
use Rattle.machine.specs.Comparison.{groups}
use Rattle.machine.specs.Nets.{net_in_range}
use Rattle.machine.specs.First.{first_tests, first_refusal}
use Rattle.machine.specs.Lent.{enough_places, unless_refused}
use Rattle.machine.proofs.Refusals.{passed_first}
use Rattle.records.proofs.Causes.{caused-refused, refused-caused}
use Rattle.records.proofs.Longest.{refused-near}
use Rattle.records.proofs.Accepted.{accepted-sound, found_inside, none_inside}
use Rattle.records.specs.Table.{slots}
use Rattle.records.specs.Reading.{Reading, Fields, Refused, no_fields, extent_in, extent_among, Inside, reading_of}
use Rattle.records.specs.Causes.{Caused, Sound}
use Rattle.records.specs.declared.Extent.{Extent}
use Rattle.records.specs.declared.Layout.{Layout}
use Rattle.records.specs.declared.Slot.{Slot}
use Rattle.opening.specs.Opening.{Opened, reading_layout, layout_read, polynomials_at, polynomials_in, numbers_at, numbers_in, first_net_from, refusal_at, refusal_by, refusal_in, opened_with, opened_layout, field_extent, refusal_over, opened_in}

-- ---- numbers and offsets

refusal-number : (k offset : ℕ) → (refusal_at k offset).number ≡ k
refusal-number zero offset = refl
refusal-number (suc k) offset = refl

-- with places enough the refusal is the record's own
refusal-wide : (s : List ℕ) (lent : List ℤ) → enough_places lent ≡ true → refusal_over s lent ≡ refusal_in s
refusal-wide s lent enough = ap (λ b. cond b (refusal_in s) (record { number = 11; offset = 0 })) enough

pub opened-wide : (s : List ℕ) (lent : List ℤ) → enough_places lent ≡ true → opened_in s lent ≡ opened_with (refusal_in s) s
unfolding opened_in
opened-wide s lent enough = ap (λ r. opened_with r s) (refusal-wide s lent enough)

-- no cause has number 0
pub caused-some : {s : List ℕ} {n at : ℕ} → Caused s n at → n ≡ 0 → ⊥
caused-some {s} {n} {at} c z = let near = refused-near s (record { number = n; offset = at }) (caused-refused c) in absurd (omega (arith, near.some))

-- ---- a reading that is not refused

module _ (s : List ℕ) (l : Layout) (e : reading_of s ≡ Fields l) where
  layout_is : layout_read s ≡ l
  unfolding layout_read
  layout_is = ap (λ r. reading_layout r s) e

  polynomials-are : polynomials_in s ≡ polynomials_at l s
  unfolding polynomials_in
  polynomials-are = ap (λ x. polynomials_at x s) layout_is

  numbers-are : numbers_in s ≡ numbers_at l s
  unfolding numbers_in
  numbers-are = ap (λ x. numbers_at x s) layout_is

  sound : Sound s l
  sound = accepted-sound s l e

  pub layout-known : known l.said.kind l.said.degree l.said.second ≡ true
  layout-known = sound.degrees

  pub refusal_is : refusal_in s ≡ refusal_at (first_refusal (polynomials_in s) (numbers_in s)) l.coefficients.field
  unfolding refusal_in
  refusal_is = ap (λ r. refusal_by r s) e

  -- what the reader has judged is not refused again: only the first net is left
  pub judged-before : first_refusal (polynomials_in s) (numbers_in s) ≡ first_failed (net_in_range (first_net_from s) else 7 ∷ [])
  unfolding first_refusal first_tests
  judged-before =
      let f = polynomials_in s in
      passed_first
      (known f.kind f.degree f.second else 4 ∷ frames_allowed (groups f) (numbers_in s) else 5 ∷ all (within 1048576) f.coefficients else 6 ∷ [])
      (net_in_range (first_net_from s) else 7 ∷ [])
      ((λ i.
      let g = polynomials-are i in
      known g.kind g.degree g.second && (frames_allowed (groups g) (numbers-are i) && (all (within 1048576) g.coefficients && true)))
      ∙ (λ i. sound.degrees i && (sound.frame_good i && (sound.coefficients_good i && true))))

-- ---- any record

-- one that is not refused is one that the reader does not refuse
pub accepted-read : (s : List ℕ) → (refusal_in s).number ≡ 0 → (l : Layout) × (reading_of s ≡ Fields l)
unfolding refusal_in
accepted-read s none = by (reading_of s) refl
  where
    by : (r : Reading) → reading_of s ≡ r → (l : Layout) × (reading_of s ≡ Fields l)
    by (Fields l) e = (l, e)
    by (Refused r) e = absurd (caused-some (refused-caused s r e) (sym (ap (λ x. (refusal_by x s).number) e) ∙ none))

-- and has numbers that are not refused
pub accepted-numbers : (s : List ℕ) → (refusal_in s).number ≡ 0
    → first_refusal (polynomials_in s) (numbers_in s) ≡ 0
accepted-numbers s none =
    let read = accepted-read s none in
    sym
    (ap (λ r. r.number) (refusal_is s read.0 read.1)
    ∙ refusal-number _ read.0.coefficients.field)
    ∙ none

-- one that is opened has places enough, and is not refused
pub opened-none : (s : List ℕ) (lent : List ℤ) → (opened_in s lent).refusal.number ≡ 0 → (enough_places lent ≡ true) × ((refusal_in s).number ≡ 0)
unfolding opened_in
opened-none s lent none = by (enough_places lent) none
  where
    by : (b : Bool) → (cond b (refusal_in s) (record { number = 11; offset = 0 })).number ≡ 0 → (b ≡ true) × ((refusal_in s).number ≡ 0)
    by true h = (refl, h)
    by false h = absurd (let z : ◌≡◌ {A = ℕ} 11 0 = h in omega arith)

-- ---- the fields of any bytes

-- every value ends within the record
layout-inside : (s : List ℕ) (slot : Slot) → Inside s (extent_in slot (opened_layout s))
unfolding opened_layout layout_read
layout-inside s slot = by (refusal_in s).number (reading_of s) refl
  where
    by : (k : ℕ) (r : Reading) → reading_of s ≡ r → Inside s (extent_in slot (unless_refused k (reading_layout r s) (no_fields s)))
    by zero (Fields l) e = (accepted-sound s l e).within slot
    by zero (Refused r) e = none_inside s slot
    by (suc k) r e = none_inside s slot

pub extent-inside : (s : List ℕ) (tag : ℕ) → Inside s (field_extent s tag)
unfolding field_extent
extent-inside s tag = found_inside s (opened_layout s) (layout-inside s) tag slots

-- what is found in the layout of a record opened in places enough
pub extent-found : (s : List ℕ) (lent : List ℤ) (tag : ℕ) {o : Opened} {e : Extent} → enough_places lent ≡ true → o ≡ opened_in s lent → e ≡ extent_among slots s o.layout tag
    → (e ≡ field_extent s tag) × Inside s e
unfolding field_extent opened_layout
extent-found s lent tag {o} {e} enough opened found =
    let is : e ≡ field_extent s tag = found ∙ ap (λ x. extent_among slots s x.layout tag) (opened ∙ opened-wide s lent enough) in
    (is, subst (Inside s) (sym is) (extent-inside s tag))
