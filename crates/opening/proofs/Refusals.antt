-- Each refusal both ways. The first cause settles the refusal; and any bytes are either accepted or have a
-- first cause: that of the reader, or the first net, by which alone a record is judged that the reader does
-- not refuse.
use Prim.Native.Nat.{ℕ, suc}
use native.Mathlib.Omega.{arith}
use mathlib.Core.Path.{◌≡◌, refl, sym, ap, ◌∙◌, subst}
use mathlib.Core.Bool.{Bool, true, false}
use mathlib.Core.List.{List, [], ◌∷◌}
use Rattle.machine.specs.Refusals.{◌else◌, first_failed}
use Rattle.machine.specs.Nets.{net_in_range}
use Rattle.records.specs.Reading.{NumberAt, Reading, Fields, Refused, reading_of}
use Rattle.records.specs.declared.Layout.{Layout}
use Rattle.records.proofs.Causes.{caused-refused, refused-caused}
use Rattle.opening.specs.Opening.{first_net_from, refusal_at, refusal_by, refusal_in}
use Rattle.opening.specs.Refusals.{FirstCause, EachRefusal}
use Rattle.opening.specs.Refusals.FirstCause.{read, first_net}
use Rattle.opening.proofs.Records.{judged-before, refusal_is, caused-some}

-- of a record that the reader does not refuse, the first net decides
by-first-net : (s : List ℕ) (l : Layout) → reading_of s ≡ Fields l → {b : Bool}
    → net_in_range (first_net_from s) ≡ b
    → refusal_in s ≡ refusal_at (first_failed (b else 7 ∷ [])) l.coefficients.field
by-first-net s l e {b} is =
    refusal_is s l e
    ∙ ap (λ k. refusal_at k l.coefficients.field)
    (judged-before s l e ∙ ap (λ b. first_failed (b else 7 ∷ [])) is)

abbrev at-number : ℕ → ℕ → NumberAt
at-number at n = record { number = n; offset = at }

-- the refusal by its cause
cause-refuses : {s : List ℕ} {n at : ℕ} → FirstCause s n at → refusal_in s ≡ at-number at n
unfolding refusal_in
cause-refuses {s} (read c) = ap (λ r. refusal_by r s) (caused-refused c)
cause-refuses {s} (first_net {l = l} e out) = by-first-net s l e out

cause-some : {s : List ℕ} {n at : ℕ} → FirstCause s n at → n ≡ 0 → ⊥
cause-some (read c) z = caused-some c z
cause-some (first_net e out) z = omega arith

-- any bytes: accepted, or with a first cause
data Outcome (s : List ℕ) : Type 0 where
  taken : (refusal_in s).number ≡ 0 → Outcome s
  stopped : {n at : ℕ} → FirstCause s n at → Outcome s

outcome : (s : List ℕ) → Outcome s
outcome s = by (reading_of s) refl
  where
    by-net : (l : Layout) → reading_of s ≡ Fields l → (b : Bool) → net_in_range (first_net_from s) ≡ b → Outcome s
    by-net l e true is = taken (ap (λ (r : NumberAt). r.number) (by-first-net s l e is))
    by-net l e false is = stopped (first_net e is)

    by : (r : Reading) → reading_of s ≡ r → Outcome s
    by (Fields l) e = by-net l e (net_in_range (first_net_from s)) refl
    by (Refused r) e = stopped (read (refused-caused s r e))

module _ (s : List ℕ) where
  one-cause : {n m at place : ℕ} → FirstCause s n at → FirstCause s m place → (n ≡ m) × (at ≡ place)
  one-cause {n} {m} {at} {place} c d =
      let same : at-number at n ≡ at-number place m = sym (cause-refuses c) ∙ cause-refuses d in
      (ap (λ (r : NumberAt). r.number) same, ap (λ (r : NumberAt). r.offset) same)

  refused : (k offset : ℕ) → refusal_in s ≡ record { number = suc k; offset = offset }
      → FirstCause s (suc k) offset
  refused k offset e = by (outcome s)
    where
      by : Outcome s → FirstCause s (suc k) offset
      by (taken z) = let no = sym z ∙ ap (λ (r : NumberAt). r.number) e in absurd (omega arith)
      by (stopped {n = n} {at = at} c) =
          let same : at-number at n ≡ at-number offset (suc k) = sym (cause-refuses c) ∙ e in
          subst (λ (r : NumberAt). FirstCause s r.number r.offset) same c

  accepted : ((number offset : ℕ) → FirstCause s number offset → ⊥) → (refusal_in s).number ≡ 0
  accepted none = by (outcome s)
    where
      by : Outcome s → (refusal_in s).number ≡ 0
      by (taken z) = z
      by (stopped {n = n} {at = at} c) = absurd (none n at c)

  uncaused : (refusal_in s).number ≡ 0 → (number offset : ℕ) → FirstCause s number offset → ⊥
  uncaused z number offset c = cause-some c (sym (ap (λ (r : NumberAt). r.number) (cause-refuses c)) ∙ z)

  pub each-refusal : EachRefusal s
  each-refusal =
      record {
        refused = λ k offset. (refused k offset, cause-refuses);
        accepted = (uncaused, accepted);
        one = one-cause;
      }
