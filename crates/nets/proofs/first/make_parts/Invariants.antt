-- `make_parts` meets its contract: after k turns the first k parts are the nets over the frame, and the rooms are as long as they were.
use mathlib.Core.Path.{◌≡◌}
use lib.ListN.{length}
use Rattle.entries.specs.Rows.{size}
use Rattle.nets.specs.FirstNet.{framed}
use Rattle.nets.specs.Parts.{in_parts}
use Rattle.nets.proofs.first.make_parts.Given as goal

abbrev pub invariant-loop-k : goal.invariant-loop-k
invariant-loop-k l = (l.out ≡ in_parts (framed 4 l.dimension l.degree l.frame) (size 4 l.dimension l.degree) l.k l.initial.out)
    × (length l.work ≡ length l.initial.work)
    × (length l.cur ≡ length l.initial.cur)
    × (length l.base ≡ length l.initial.base)
