-- `write_moves` meets its contract: before move k, the lines and the net that the rest of the moves leave are those that all of them leave.
use mathlib.Core.Path.{◌≡◌}
use Rattle.machine.specs.Steps.{after}
use Rattle.machine.specs.Nets.{step_of}
use Rattle.machine.specs.Lent.{net_at}
use Rattle.opening.specs.Opening.{moves_of}
use Rattle.text.specs.Parts.{Stands, moves_text}
use Rattle.text.proofs.Then.{Left}
use Rattle.text.proofs.Calls.{calls_left, lines_left}
use Rattle.text.proofs.moves.write_moves.Given as goal

abbrev pub invariant-loop-k : goal.invariant-loop-k
invariant-loop-k l = Left l.initial.page (moves_text l.initial.net l.value) l.page (lines_left (net_at l.net) l.value l.count l.k)
    × (after step_of (net_at l.net) (calls_left l.value l.count l.k) ≡ after step_of (net_at l.initial.net) (moves_of l.value))
    × Stands l.net
