-- `entries_within` meets its contract: what is left to test of the list decides the whole test.
use Prim.Native.Nat.{◌*◌}
use mathlib.Core.Path.{◌≡◌}
use lib.ListN.{drop}
use Rattle.integers.specs.Test.{within, all}
use Rattle.nets.proofs.rows.entries_within.Given as goal

abbrev pub invariant-loop-entry : goal.invariant-loop-entry
invariant-loop-entry l = all (within l.limit) l.numbers ≡ all (within l.limit) (drop (4 * l.entry) l.numbers)
