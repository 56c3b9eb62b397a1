-- `flip_entries` meets its contract: before entry p the entries in front of it are signed, and the others are as they were.
use Prim.Native.Nat.{◌*◌, ◌-◌}
use Rattle.entries.specs.Rows.{size}
use Rattle.nets.specs.Flips.{signed_at}
use Rattle.nets.proofs.Writes.{Going}
use Rattle.nets.proofs.flips.flip_entries.Given as goal

abbrev pub invariant-loop-i : goal.invariant-loop-i
invariant-loop-i l = Going l.width l.dimension l.degree (signed_at l.width l.dimension l.degree l.vertex l.initial.xs) l.initial.xs l.xs l.p l.i l.k

abbrev pub decreases-loop-i : goal.decreases-loop-i
decreases-loop-i l = size l.width l.dimension l.degree - l.width * l.p
