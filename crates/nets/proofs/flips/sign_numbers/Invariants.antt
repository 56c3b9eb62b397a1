-- `sign_numbers` meets its contract: the numbers at and past i are as they were.
use Prim.Native.Nat.{◌*◌, ◌-◌}
use mathlib.Core.Path.{◌≡◌}
use lib.IntN.{pos}
use lib.ListN.{get_or}
use Rattle.entries.specs.Entries.{signed}
use Rattle.nets.specs.Rows.{written}
use Rattle.nets.proofs.flips.sign_numbers.Given as goal

abbrev pub invariant-loop-i : goal.invariant-loop-i
invariant-loop-i l = l.xs ≡ written l.initial.xs (l.width * l.p) (l.i - l.width * l.p) (λ j. signed l.count (get_or l.initial.xs j (pos 0)))
