-- `copy` meets its contract: after i turns the first i numbers are copied.
use Prim.Native.Nat.{◌-◌}
use mathlib.Core.Path.{◌≡◌}
use lib.IntN.{pos}
use lib.ListN.{get_or}
use Rattle.nets.specs.Rows.{written}
use Rattle.nets.proofs.rows.copy.Given as goal

abbrev pub invariant-loop-i : goal.invariant-loop-i
invariant-loop-i l = l.to ≡ written l.initial.to 0 (l.i - 0) (λ j. get_or l.from j (pos 0))
