-- `copy_row` meets its contract: after c turns the first c numbers of the row are copied.
use Prim.Native.Nat.{◌+◌, ◌*◌, ◌-◌}
use mathlib.Core.Path.{◌≡◌}
use lib.IntN.{pos}
use lib.ListN.{get_or}
use Rattle.nets.specs.Rows.{written}
use Rattle.nets.proofs.levels.copy_row.Given as goal

abbrev pub invariant-loop-c : goal.invariant-loop-c
invariant-loop-c l = l.out ≡ written l.initial.out (l.width * l.to) l.c (λ i. get_or l.xs (l.width * l.from + (i - l.width * l.to)) (pos 0))
