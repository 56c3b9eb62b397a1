-- `put_largest` meets its contract: one write at a place that is there.
use native.Mathlib.Omega.{arith}
use mathlib.Core.Path.{ap, ◌∙◌}
use mathlib.Core.List.{[], ◌∷◌}
use lib.IntN.{pos}
use lib.ListN.{set}
use Rattle.integers.proofs.Signed.{back_fits}
use Rattle.machine.proofs.Lent.{set-put}
use Rattle.nets.proofs.put_largest.Goals as goal

pub returns : goal.returns
returns c =
    let a = c.args in
    let small = c.requires.1 in
    ap (set a.net.now 192) (back_fits {z = pos a.largest} (record { sfits = omega arith })) ∙ set-put 192 (pos a.largest ∷ []) a.net.now c.requires.0
