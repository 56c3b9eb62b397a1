-- `coordinate_numbers` meets its contract: before an entry those in front of it are put, and after the last one the whole net.
use Prim.Native.Nat.{◌*◌, ◌-◌}
use Rattle.entries.specs.Rows.{size}
use Rattle.nets.specs.Rows.{place_at}
use Rattle.nets.specs.Coordinates.{coordinate_at}
use Rattle.nets.proofs.Writes.{Going}
use Rattle.nets.proofs.coordinates.coordinate_numbers.Given as goal

abbrev pub invariant-loop-i : goal.invariant-loop-i
invariant-loop-i l = Going l.width l.dimension l.degree (coordinate_at l.width l.dimension l.degree l.coefficients) l.initial.out l.out (place_at l.dimension l.i l.k) l.i l.k

abbrev pub decreases-loop-i : goal.decreases-loop-i
decreases-loop-i l = size l.width l.dimension l.degree - l.width * place_at l.dimension l.i l.k
