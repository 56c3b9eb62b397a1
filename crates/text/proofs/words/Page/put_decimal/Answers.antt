-- `put_decimal` meets its contract: to write the digits of what is left would leave the whole number in the buffer, and each turn writes the last of them.
use Prim.Native.Nat.{ℕ, ◌+◌, ◌/◌, ◌<◌}
use native.Mathlib.Omega.{arith}
use mathlib.Core.Path.{◌≡◌, refl, sym, ap, ◌∙◌}
use mathlib.Core.List.{[], ◌∷◌, ◌++◌}
use lib.ListN.{length, set, length-set}
use Rattle.text.specs.Words.{decimal, over}
use Rattle.text.proofs.Over.{over_last, over-one}
use Rattle.text.proofs.Decimal.{decimal-small, decimal-large, length_some, length-large}
use Rattle.text.proofs.words.Page.put_decimal.Goals as goal

pub overflow_sub-place : goal.overflow_sub-place
overflow_sub-place c =
    let count = c.digit_count.ensures in
    let some = length_some c.args.n in
    omega (arith, count, some)

pub loop-left-init : goal.loop-left-init
loop-left-init c =
    let room = c.requires in
    let count = c.digit_count.ensures in
    let some = length_some c.args.n in
    (omega (arith, count, some), omega (arith, count, some, room), refl, refl, refl)

pub overflow_sub-place-in-loop-left : goal.overflow_sub-place-in-loop-left
overflow_sub-place-in-loop-left c =
    let l = c.loop-left in
    let place = l.invariant.0 in
    let tenth = length-large l.left c.loop-left-test.true in
    let some = length_some (l.left / 10) in
    omega (arith, place, tenth, some)

pub loop-left-preserved : goal.loop-left-preserved
loop-left-preserved c =
    let at = c.args.self.now.at in
    let l = c.loop-left in
    let byte = c.digit_of.result in
    let ten = c.loop-left-test.true in
    let tens = decimal (l.left / 10) in
    let place = l.invariant.0 in
    let room = l.invariant.1 in
    let size = l.invariant.2 in
    let tenth = length-large l.left ten in
    let some = length_some (l.left / 10) in
    let last : l.place ≡ at + length tens = omega (arith, place, tenth) in (
      omega (arith, last, some),
      omega (arith, room),
      length-set l.self.out.now l.place byte ∙ size,
      ap (λ (k : ℕ). over (set l.self.out.now k byte) at tens) last
          ∙ over_last l.self.out.now at tens byte (omega (arith, last, room, size))
          ∙ ap (λ (b : ℕ). over l.self.out.now at (tens ++ (b ∷ []))) c.digit_of.ensures
          ∙ ap (over l.self.out.now at) (sym (decimal-large l.left ten))
          ∙ l.invariant.3,
      l.invariant.4,
    )

pub returns : goal.returns
returns c =
    let at = c.args.self.now.at in
    let l = c.loop-left in
    let byte = c.digit_of-2.result in
    let over-nine = c.loop-left-test.false in
    let below : l.left < 10 = omega (arith, over-nine) in
    let place = l.invariant.0 in
    let room = l.invariant.1 in
    let size = l.invariant.2 in
    let one = ap length (decimal-small l.left below) in
    let first : l.place ≡ at = omega (arith, place, one) in
    record {
      same_buffer = l.invariant.4;
      size = length-set l.self.out.now l.place byte ∙ size;
      buffer =
          ap (λ (k : ℕ). set l.self.out.now k byte) first
          ∙ over-one l.self.out.now at byte (omega (arith, first, room, size))
          ∙ ap (λ (b : ℕ). over l.self.out.now at (b ∷ [])) c.digit_of-2.ensures
          ∙ ap (over l.self.out.now at) (sym (decimal-small l.left below))
          ∙ l.invariant.3;
      place = ap (λ (k : ℕ). at + k) c.digit_count.ensures;
    }
