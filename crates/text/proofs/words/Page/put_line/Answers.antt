-- `put_line` meets its contract: before each number, what is left to write are the numbers from there on and the end of the line.
use borrow.Author.Rules.{sfits_of}
use Prim.Native.Nat.{ℕ, ◌+◌, ◌<◌, ◌≤◌}
use native.Mathlib.Numerals.{add-one}
use mathlib.Core.Path.{◌≡◌, sym, ap, ◌∙◌}
use mathlib.Core.List.{List, [], ◌∷◌, ◌++◌}
use lib.IntN.{ℤ, pos}
use lib.ListN.{length, get_or, drop, drop_of_length-le}
use lib.Seq.{drop-cons}
use Rattle.integers.proofs.Signed.{back_fits}
use Rattle.text.specs.Words.{signed_decimal}
use Rattle.text.specs.Parts.{numbers_text}
use Rattle.text.proofs.Over.{first-room, in_a_row}
use Rattle.text.proofs.Then.{wrote_as, left_as, left_after, left-last}
use Rattle.text.proofs.words.Page.put_line.Goals as goal

-- a space, number i, and then those after it
numbers-next : (xs : List ℤ) (i : ℕ) → i < length xs → numbers_text (drop i xs) ≡ 32 ∷ (signed_decimal (get_or xs i (pos 0)) ++ numbers_text (drop (i + 1) xs))
numbers-next xs i h =
    ap numbers_text (drop-cons xs i (pos 0) h) ∙ ap (λ j. 32 ∷ (signed_decimal (get_or xs i (pos 0)) ++ numbers_text (drop j xs))) (sym (add-one i))

numbers-none : (xs : List ℤ) (i : ℕ) → length xs ≤ i → numbers_text (drop i xs) ≡ 10 ∷ []
numbers-none xs i h = ap numbers_text (drop_of_length-le xs h)

pub put-requires-in-loop-number : goal.put-requires-in-loop-number
put-requires-in-loop-number c = first-room _ (left_as (numbers-next _ c.loop-number.number-index c.loop-number-test.true) c.loop-number.invariant).room

pub loop-number-preserved : goal.loop-number-preserved
loop-number-preserved c =
    left_after (wrote_as (ap signed_decimal (back_fits (sfits_of c.put_signed-arg-in-loop-number-1.given))) c.put_signed.ensures)
    (left_after c.put-in-loop-number.ensures (left_as (numbers-next _ c.loop-number.number-index c.loop-number-test.true) c.loop-number.invariant))

pub returns : goal.returns
returns c =
    in_a_row c.put.ensures
    (left-last c.put-2.ensures (left_as (numbers-none _ c.loop-number.number-index c.loop-number-test.false) c.loop-number.invariant)) c.requires
