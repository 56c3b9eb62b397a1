-- What stands in the buffer for standard output where a read failed, and what stands there where none did;
-- and that it is the text of the whole input.
use Prim.Native.Nat.{ℕ, zero, suc, ◌≤◌}
use native.Mathlib.Omega.{arith}
use mathlib.Core.Path.{◌≡◌, refl, sym, ap, subst, ◌∙◌}
use mathlib.Core.Bool.{Bool, true, false, cond}
use mathlib.Core.List.{List, ◌++◌}
use borrow.Author.Tests.{le-leb}
use lib.ListN.{length, take, drop}
use lib.Seq.{take_all}
use Rattle.std.specs.Prelude.{Result, Ok, Err, Option, None, Some}
use Rattle.std.specs.Result.{result_unwrap_or}
use Rattle.machine.specs.declared.Refusal.{Refusal}
use Rattle.machine.specs.declared.Refusal.TheVariants.{Short}
use Rattle.text.specs.Text.{text_of, fits, written_of, written_bytes, buffer_of}
use Rattle.text.specs.Longest.{longest_text}
use Rattle.text.proofs.Longest.{no-longer-text, text-by-first-bytes}
use Rattle.netprint.specs.Process.{failed, gave, Stopped, most_read, ReadEnough, output_by, OutputOfWhole}
use Rattle.netprint.specs.declared.Stop.{Stop}

-- ---- the buffer

module _ (s out : List ℕ) where
  -- k bytes for standard output are at the front of the buffer, and behind them it is as it was
  abbrev pub Output : Bool → ℕ → List ℕ → Type 0
  Output f k left = (k ≡ length (output_by f s)) × (left ≡ output_by f s ++ drop k out)

  pub output-none : {f : Bool} → true ≡ f → Output f 0 out
  output-none at = subst (λ f. Output f 0 out) at (refl, refl)

  module _ (room : longest_text ≤ length out) where
    has_room : fits (text_of s) out ≡ true
    has_room = le-leb (length (text_of s)) (length out) (omega (arith, no-longer-text s))

    -- every text fits, so it is written
    whole : (w : Result ℕ Refusal) (left : List ℕ) → w ≡ written_of (text_of s) out → left ≡ buffer_of (text_of s) out
        → Output false (written_bytes w) left
    unfolding written_of buffer_of
    whole w left answered stands =
        let n = length (text_of s) in
        let bytes = ap (λ b. cond b (Ok n) (Err Short)) has_room in
        let is : written_bytes w ≡ n = ap written_bytes (answered ∙ bytes) in (
          is,
          stands
              ∙ ap (λ b. cond b (text_of s ++ drop n out) out) has_room
              ∙ ap (λ k. text_of s ++ drop k out) (sym is),
        )

    pub output-text : {f : Bool} (w : Result ℕ Refusal) (left : List ℕ) → false ≡ f → w ≡ written_of (text_of s) out
        → left ≡ buffer_of (text_of s) out → Output f (written_bytes w) left
    output-text w left at answered stands =
        subst (λ f. Output f (written_bytes w) left) at (whole w left answered stands)

-- how many bytes are counted where the text was not written
pub bytes-are : (w : Result ℕ Refusal) → result_unwrap_or w 0 ≡ written_bytes w
bytes-are (Ok n) = refl
bytes-are (Err r) = refl

-- ---- the whole input

pub read-enough : ReadEnough
read-enough s = text-by-first-bytes most_read (omega arith) s

-- by what the last read answered: the input is all there, or the buffer is full, with all that a text needs
pub output-of-whole : (stop : Stop) (input : List ℕ) → Stopped stop input → length input ≡ most_read
    → OutputOfWhole stop input
output-of-whole stop input stopped places all of = by stop.last refl
  where
    by : (last : Option ℕ) → stop.last ≡ last
        → output_by (failed last) (take stop.bytes input) ≡ output_by (failed last) all
    by None is = refl
    by (Some zero) is =
        let ends = of.ended is in
        ap text_of (of.first ∙ take_all stop.bytes all (omega (arith, ends)))
    by (Some (suc n)) is =
        let full = stopped.full (ap gave is) in
        ap text_of of.first ∙ text-by-first-bytes stop.bytes (omega (arith, full, places)) all
