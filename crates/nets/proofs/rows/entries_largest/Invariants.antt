-- `entries_largest` meets its contract: the largest so far and that of what is left are the largest of the whole.
use Prim.Native.Nat.{max, ◌*◌}
use mathlib.Core.Path.{◌≡◌}
use lib.ListN.{drop}
use Rattle.integers.specs.Largest.{largest_of}
use Rattle.nets.proofs.rows.entries_largest.Given as goal

abbrev pub invariant-loop-entry : goal.invariant-loop-entry
invariant-loop-entry l = largest_of l.numbers ≡ max l.largest (largest_of (drop (4 * l.entry) l.numbers))
