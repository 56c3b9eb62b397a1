-- `main`: each turn adds one to one of the two counts.
use Rattle.std.proofs.Common.{◌≡◌, ◌+◌}
use Rattle.vectors.proofs.main.Given as goal

abbrev pub invariant-loop : goal.invariant-loop
invariant-loop l = l.equal + l.different ≡ l.counter
