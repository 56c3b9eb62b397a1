-- `put_row` meets its contract: after k turns the entries before k are made, and `cur` has k copies of the third vertex fixed.
use Prim.Native.Nat.{◌*◌}
use mathlib.Core.Path.{◌≡◌}
use lib.ListN.{length}
use Rattle.nets.specs.Rows.{written, place_at}
use Rattle.nets.specs.FirstNet.{Values, Holds, value_at}
use Rattle.nets.proofs.Through.{VertexSteps}
use Rattle.nets.proofs.first.put_row.Given as goal

abbrev pub invariant-loop-k : goal.invariant-loop-k
invariant-loop-k l = VertexSteps l.width l.dimension l.i 2 l.frame l.initial.cur l.cur l.k × (length l.out ≡ length l.initial.out) × (length l.work ≡ length l.initial.work)
    × ((G : Values) → Holds l.width l.dimension l.i G l.initial.cur → l.out ≡ written l.initial.out (l.width * place_at l.dimension l.i 0) (l.width * l.k) (value_at l.width l.dimension l.i l.frame G))
