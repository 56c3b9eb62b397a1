-- `copy` meets its contract: after i turns the first i numbers are copied.
use native.Mathlib.Omega.{arith}
use mathlib.Core.Path.{refl}
use lib.IntN.{pos}
use lib.ListN.{get_or}
use Rattle.integers.proofs.Signed.{seen}
use Rattle.nets.specs.Rows.{written}
use Rattle.nets.proofs.Lists.{write-next}
use Rattle.nets.proofs.Row.{element}
use Rattle.nets.proofs.rows.copy.Goals as goal

pub loop-i-init : goal.loop-i-init
unfolding written
loop-i-init c = refl

pub loop-i-preserved : goal.loop-i-preserved
loop-i-preserved c =
    let from = c.args.from.now in
    let i = c.loop-i.i in
    write-next c.args.to.now c.loop-i.to 0 i (seen (get_or from i (pos 0))) (λ j. get_or from j (pos 0)) (omega arith) c.loop-i.invariant (element (get_or from i (pos 0)) (omega arith))
