-- `digit_count` meets its contract: what is counted and the digits of what is left are together the digits of the number, and one more.
use native.Mathlib.Omega.{arith}
use mathlib.Core.Path.{ap}
use lib.ListN.{length}
use Rattle.text.proofs.Decimal.{decimal-small, length-large, length-u64}
use Rattle.text.proofs.words.digit_count.Goals as goal

pub overflow_add-count : goal.overflow_add-count
overflow_add-count c =
    let l = c.loop-left in
    let inv = l.invariant in
    let most = length-u64 c.args.n c.ranges.n.fits in
    omega (arith, inv, most)

pub loop-left-preserved : goal.loop-left-preserved
loop-left-preserved c =
    let l = c.loop-left in
    let inv = l.invariant in
    let tenth = length-large l.left c.loop-left-test.true in
    omega (arith, inv, tenth)

pub returns : goal.returns
returns c =
    let l = c.loop-left in
    let inv = l.invariant in
    let below = c.loop-left-test.false in
    let last = ap length (decimal-small l.left (omega (arith, below))) in
    omega (arith, inv, last)
