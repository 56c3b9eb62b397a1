-- `put_rows` meets its contract: before each turn the rows after row i are made, and `base` has as many copies of the first vertex fixed as row i has.
use Prim.Native.Nat.{◌+◌, ◌*◌, ◌-◌}
use mathlib.Core.Path.{◌≡◌}
use lib.ListN.{length}
use Rattle.entries.specs.Rows.{size}
use Rattle.nets.specs.Rows.{written, place_at}
use Rattle.nets.specs.FirstNet.{Values, Holds, value_at}
use Rattle.nets.proofs.Through.{VertexSteps}
use Rattle.nets.proofs.first.put_rows.Given as goal

abbrev pub invariant-loop-before : goal.invariant-loop-before
invariant-loop-before l = VertexSteps l.width l.dimension l.degree 0 l.frame l.initial.base l.base (l.degree - l.before) × (length l.out ≡ length l.initial.out) × (length l.work ≡ length l.initial.work) × (length l.cur ≡ length l.initial.cur)
    × ((G : Values) → Holds l.width l.dimension l.degree G l.initial.base
    → l.out ≡ written l.initial.out (l.width * place_at l.dimension (l.before + 1) 0) (size l.width l.dimension l.degree - l.width * place_at l.dimension (l.before + 1) 0) (value_at l.width l.dimension l.degree l.frame G))
