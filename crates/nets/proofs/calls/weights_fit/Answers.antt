-- `weights_fit` meets its contract: a weight that is outside, or a fourth that is not 0, settles it; then the third
-- does, by the number of vertices.
use borrow.Author.Rules.{rules}
use Prim.Native.Nat.{suc}
use native.Mathlib.Omega.{arith}
use mathlib.Core.Path.{sym, ap, ◌∙◌}
use mathlib.Core.Bool.{◌&&◌}
use mir.Syntax.{w64}
use mir.Val.{SFits}
use Rattle.integers.specs.Test.{within, all}
use Rattle.integers.proofs.All.{and_none}
use Rattle.machine.specs.Calls.{weight_list}
use Rattle.projection.proofs.Signed.{not-zero}
use Rattle.nets.proofs.Judging.{some-not}
use Rattle.nets.proofs.calls.weights_fit.Goals as goal
use Rattle.nets.proofs.calls.weights_fit.Goals.{then-not-is_within-via-then-not-is_within, then-not-is_within-via-else-not-is_within+then-not-is_within-2, then-not-is_within-via-else-not-is_within+else-not-is_within-2+then-weights-ne0}

pub returns-then-not-is_within : goal.returns-then-not-is_within
returns-then-not-is_within c =
    elim c.then-not-is_within.branch [
      | then-not-is_within-via-then-not-is_within w ↦ search rules
      | then-not-is_within-via-else-not-is_within+then-not-is_within-2 w ↦ search rules
      | then-not-is_within-via-else-not-is_within+else-not-is_within-2+then-weights-ne0 w ↦
          let few = c.requires.1 in
          let fits : SFits w64 c.args.weights.u = search rules in
          let fourth = some-not (weight_list c.args.weights) (suc c.args.dimension) 3 (omega arith) (omega arith) (not-zero _ fits w.if-weights-ne0.true) in
          sym (ap (λ b. all (within 4096) (weight_list c.args.weights) && b) fourth ∙ and_none _)
    ]
