-- `write_moves` meets its contract: before move k, the lines and the net that the rest of the moves leave are those that all of them leave.
use Prim.Native.Nat.{ℕ, ◌+◌, ◌/◌, ◌<◌}
use mathlib.Core.Path.{◌≡◌, sym, ap, ◌∙◌}
use mathlib.Core.List.{List, ◌++◌}
use lib.IntN.{ℤ}
use lib.ListN.{length}
use Rattle.machine.specs.Steps.{after, answers}
use Rattle.machine.specs.Nets.{step_of}
use Rattle.machine.specs.Lent.{net_at}
use Rattle.decoding.specs.Moves.{call_at}
use Rattle.text.specs.Text.{move_line, move_lines}
use Rattle.text.specs.Parts.{Answered}
use Rattle.text.proofs.Over.{first-room}
use Rattle.text.proofs.Then.{begin, left_as, left_after, left-none}
use Rattle.text.proofs.Calls.{calls_left, lines_left, calls-all, lines_next, lines_none, after_next, after_none}
use Rattle.text.proofs.moves.write_moves.Goals as goal

-- move k is made: its line, and the lines that are left after it
next : (value : List ℕ) (count k : ℕ) (lent left : List ℤ) {number : ℕ} → k < count → Answered (call_at value k) lent left number
    → lines_left (net_at lent) value count k ≡ move_line (k + 1) number ++ lines_left (net_at left) value count (k + 1)
unfolding after
next value count k lent left more made =
    lines_next (net_at lent) value count k more
    ∙ sym (λ i. move_line (k + 1) (made.numbered i) ++ lines_left (made.made.net i) value count (k + 1))

pub loop-k-init : goal.loop-k-init
loop-k-init c =
    let first = net_at c.args.net.now in
    let all = calls-all c.args.value.now in (
      left_as (ap (λ cs. move_lines 1 (answers step_of first cs)) all) (begin c.requires.1),
      sym (ap (after step_of first) all),
      c.requires.0,
    )

pub write_move-requires : goal.write_move-requires
write_move-requires c =
    let l = c.loop-k in
    first-room _ (left_as (next c.args.value.now _ l.k l.net c.make_move-answer.new.net c.loop-k-test.true c.make_move-answer.ensures) l.invariant.0).room

pub loop-k-preserved : goal.loop-k-preserved
unfolding after
loop-k-preserved c =
    let l = c.loop-k in
    let value = c.args.value.now in
    let made = c.make_move-answer.ensures in (
      left_after c.write_move.ensures (left_as (next value _ l.k l.net c.make_move-answer.new.net c.loop-k-test.true made) l.invariant.0),
      ap (λ n. after step_of n (calls_left value (length value / 8) (l.k + 1))) made.made.net
          ∙ sym (after_next (net_at l.net) value _ l.k c.loop-k-test.true)
          ∙ l.invariant.1,
      made.made.stands,
    )

pub returns : goal.returns
returns c =
    let l = c.loop-k in
    let net = net_at l.net in
    let value = c.args.value.now in
    let over = c.loop-k-test.false in
    record {
      lines = left-none (lines_none net value _ l.k over) l.invariant.0;
      net = record { net = sym (after_none net value _ l.k over) ∙ l.invariant.1; stands = l.invariant.2 };
    }
