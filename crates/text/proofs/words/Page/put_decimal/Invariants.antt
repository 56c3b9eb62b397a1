-- `put_decimal` meets its contract: to write the digits of what is left would leave the whole number in the buffer, and each turn writes the last of them.
use Prim.Native.Nat.{suc, ◌+◌, ◌≤◌}
use mathlib.Core.Path.{◌≡◌}
use lib.ListN.{length}
use Rattle.text.specs.Words.{decimal, over}
use Rattle.text.proofs.words.Page.put_decimal.Given as goal

abbrev pub invariant-loop-left : goal.invariant-loop-left
invariant-loop-left l =
    let page = l.initial.self in
    (suc l.place ≡ page.at + length (decimal l.left))
    × (suc l.place ≤ length page.out.now)
    × (length l.self.out.now ≡ length page.out.now)
    × (over l.self.out.now page.at (decimal l.left) ≡ over page.out.now page.at (decimal l.n))
    × (l.self.out.ghost_name ≡ page.out.ghost_name)

abbrev pub decreases-loop-left : goal.decreases-loop-left
decreases-loop-left l = l.left
