-- The causes 1 to 7 of a record's refusal (docs/SPECIFICATION.md, 'Refusals'), each both ways.
use Rattle.std.specs.Prelude.{ℕ, suc, ◌≡◌, false, ◌↔◌, List}
use Rattle.machine.specs.Nets.{net_in_range}
use Rattle.records.specs.Reading.{Fields, reading_of}
use Rattle.records.specs.Causes.{Caused}
use Rattle.records.specs.declared.Layout.{Layout}
use Rattle.opening.specs.Opening.{first_net_from, refusal_in}

-- the first cause, with its number and offset
pub data FirstCause (s : List ℕ) : ℕ → ℕ → Type 0 where
  -- 1 to 6: what the reader finds, up to the end of input
  read : {number offset : ℕ} → Caused s number offset → FirstCause s number offset
  -- 'End of input comes last, then 7': 'first net out of range', at the offset of field 3
  first_net :
      {l : Layout} → reading_of s ≡ Fields l → net_in_range (first_net_from s) ≡ false
      → FirstCause s 7 l.coefficients.field

-- Each refusal of any bytes, both ways; s is an accepted record where `refusal_in` has number 0.
pub record EachRefusal (s : List ℕ) : Type 0 where
  -- refused with this number at this offset exactly if that is the first cause
  pub refused :
      (k offset : ℕ)
      → (refusal_in s ≡ record { number = suc k; offset = offset }) ↔ FirstCause s (suc k) offset
  -- accepted exactly if there is none
  pub accepted : ((refusal_in s).number ≡ 0) ↔ ((number offset : ℕ) → FirstCause s number offset → ⊥)
  -- there are no two
  pub one : {n m at place : ℕ} → FirstCause s n at → FirstCause s m place → (n ≡ m) × (at ≡ place)
