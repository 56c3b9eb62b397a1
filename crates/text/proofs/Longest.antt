-- Every text has room, and comes from the first bytes of its input. A reading that is refused has a small
-- number and an offset within the longest record, which the first bytes tell; a record that the reader does
-- not refuse is no longer than these.
use Prim.Native.Nat.{ℕ, zero, suc, ◌≤◌, ◌<◌}
use native.Mathlib.Omega.{arith}
use mathlib.Core.Path.{◌≡◌, refl, sym, ap, ◌∙◌, subst}
use mathlib.Core.Bool.{Bool, true, false}
use mathlib.Core.List.{List, [], ◌∷◌}
use lib.ListN.{length, take}
use lib.Seq.{take_all}
use Rattle.machine.specs.Refusals.{◌else◌, first_failed}
use Rattle.machine.specs.Nets.{net_in_range}
use Rattle.records.specs.Reading.{NumberAt, Reading, Fields, Refused, reading_of}
use Rattle.records.specs.Longest.{longest_record}
use Rattle.records.specs.declared.Slot.TheVariants.{CoefficientsSlot}
use Rattle.records.proofs.Accepted.{accepted-sound}
use Rattle.records.proofs.Longest.{no-longer-record, read-by-first-bytes, refused-near}
use Rattle.opening.proofs.Records.{refusal_is, judged-before}
use Rattle.opening.specs.Opening.{first_net_from, refusal_at, refusal_by, refusal_in}
use Rattle.text.specs.Text.{refused_line, text_by, text_of}
use Rattle.text.specs.Longest.{longest_text, NoLongerText, TextByFirstBytes}
use Rattle.text.proofs.Room.{refused-room}
use Rattle.text.proofs.Whole.{text-room}

-- ---- a refused record

refusal-read : (s : List ℕ) (r : NumberAt) → reading_of s ≡ Refused r → refusal_in s ≡ r
unfolding refusal_in
refusal-read s r is = ap (λ x. refusal_by x s) is

-- its text, by the number, which is not 0
by_number : (s : List ℕ) (n : ℕ) → 1 ≤ n → text_by n s ≡ refused_line n (refusal_in s).offset
by_number s zero h = absurd (omega arith)
by_number s (suc k) h = refl

refused-is : (s : List ℕ) (r : NumberAt) → refusal_in s ≡ r → 1 ≤ r.number
    → text_of s ≡ refused_line r.number r.offset
unfolding text_of
refused-is s r is some =
    ap (λ (x : NumberAt). text_by x.number s) is
    ∙ by_number s r.number some
    ∙ ap (λ (x : NumberAt). refused_line r.number x.offset) is

-- ---- room

-- a number of one byte at an offset within the longest record
near-room : (s : List ℕ) → (refusal_in s).number < 256 → (refusal_in s).offset ≤ longest_record
    → length (text_of s) ≤ longest_text
near-room s few near = by (refusal_in s).number refl
  where
    by : (n : ℕ) → (refusal_in s).number ≡ n → length (text_of s) ≤ longest_text
    by zero is = text-room s is
    by (suc k) is =
        subst (λ t. length t ≤ longest_text) (sym (refused-is s (refusal_in s) refl (omega (arith, is))))
        (refused-room (refusal_in s).number (refusal_in s).offset few (omega (arith, near)))

-- of a reading that is not refused the first net may be, at the offset of field 3
net-refusal : (b : Bool) (offset : ℕ) → offset ≤ longest_record →
    let r = refusal_at (first_failed (b else 7 ∷ [])) offset in
    (r.number < 256) × (r.offset ≤ longest_record)
net-refusal true offset h = (omega arith, omega arith)
net-refusal false offset h = (omega arith, h)

pub no-longer-text : NoLongerText
no-longer-text s = by (reading_of s) refl
  where
    by : (r : Reading) → reading_of s ≡ r → length (text_of s) ≤ longest_text
    by (Refused r) is =
        let near = refused-near s r is in
        let all = refusal-read s r is in
        near-room s (subst (λ (x : NumberAt). x.number < 256) (sym all) (omega (arith, near.few)))
        (subst (λ (x : NumberAt). x.offset ≤ longest_record) (sym all) near.near)
    by (Fields l) is =
        let sound = accepted-sound s l is in
        let inside = sound.within CoefficientsSlot in
        let short = no-longer-record s l is in
        let near : l.coefficients.field ≤ longest_record = omega (arith, sound.coefficients_field) in
        let net = net-refusal (net_in_range (first_net_from s)) l.coefficients.field near in
        let all = refusal_is s l is ∙ ap (λ k. refusal_at k l.coefficients.field) (judged-before s l is) in
        near-room s (subst (λ (x : NumberAt). x.number < 256) (sym all) net.0)
        (subst (λ (x : NumberAt). x.offset ≤ longest_record) (sym all) net.1)

-- ---- the first bytes

pub text-by-first-bytes : TextByFirstBytes
text-by-first-bytes n wide s = by (reading_of s) refl
  where
    by : (r : Reading) → reading_of s ≡ r → text_of (take n s) ≡ text_of s
    by (Fields l) is =
        let short = no-longer-record s l is in
        ap text_of (take_all n s (omega (arith, short, wide)))
    by (Refused r) is =
        let some = (refused-near s r is).some in
        refused-is (take n s) r (refusal-read (take n s) r (read-by-first-bytes n wide s ∙ is)) some
        ∙ sym (refused-is s r (refusal-read s r is) some)
