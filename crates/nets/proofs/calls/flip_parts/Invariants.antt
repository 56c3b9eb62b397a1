-- `flip_parts` meets its contract: after k turns the first k parts are flipped.
use mathlib.Core.Path.{◌≡◌}
use Rattle.entries.specs.Rows.{size}
use Rattle.nets.specs.Flips.{flipped_list}
use Rattle.nets.specs.Parts.{in_parts}
use Rattle.nets.proofs.calls.flip_parts.Given as goal

abbrev pub invariant-loop-k : goal.invariant-loop-k
invariant-loop-k l = l.entries ≡ in_parts (flipped_list 4 l.dimension l.degree l.vertex) (size 4 l.dimension l.degree) l.k l.initial.entries
