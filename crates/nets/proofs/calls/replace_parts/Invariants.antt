-- `replace_parts` meets its contract: after k turns the vertex is replaced in the first k parts, whose named polar values are all in range.
use mathlib.Core.Path.{◌≡◌}
use mathlib.Core.Bool.{true}
use Rattle.integers.specs.Sum.{upto}
use Rattle.integers.specs.Test.{all}
use Rattle.entries.specs.Rows.{size}
use Rattle.machine.specs.Calls.{weight_list}
use Rattle.nets.specs.Levels.{all_named_at}
use Rattle.nets.specs.Parts.{part_at, replaced_parts}
use Rattle.nets.proofs.calls.replace_parts.Given as goal

abbrev pub invariant-loop-k : goal.invariant-loop-k
invariant-loop-k l = record {
  made : l.entries ≡ replaced_parts l.degree (weight_list l.weights) l.vertex l.k l.initial.entries;
  named : all (λ j. all_named_at 4 1 l.degree (weight_list l.weights) (part_at (size 4 1 l.degree) l.initial.entries j)) (upto l.k) ≡ true;
}
