-- `copy_row` meets its contract: after c turns the first c numbers of the row are copied.
use Prim.Native.Nat.{◌+◌, ◌*◌, ◌-◌}
use native.Mathlib.Omega.{arith}
use mathlib.Core.Path.{◌≡◌, refl, ap, ◌∙◌}
use lib.IntN.{pos}
use lib.ListN.{get_or}
use Rattle.integers.proofs.Signed.{seen}
use Rattle.nets.specs.Rows.{written}
use Rattle.nets.proofs.Row.{element}
use Rattle.nets.proofs.Lists.{write-more}
use Rattle.nets.proofs.levels.copy_row.Goals as goal

pub loop-c-init : goal.loop-c-init
unfolding written
loop-c-init c = refl

pub loop-c-preserved : goal.loop-c-preserved
loop-c-preserved c =
    let xs = c.args.xs.now in
    let p = c.args.width * c.args.to in
    let q = c.args.width * c.args.from in
    let i = c.loop-c.c in
    let place_is : q + i ≡ q + (p + i - p) = omega arith in
    write-more c.args.out.now c.loop-c.out p i (seen (get_or xs (q + i) (pos 0))) (λ j. get_or xs (q + (j - p)) (pos 0)) c.loop-c.invariant
    (element (get_or xs (q + i) (pos 0)) (omega arith) ∙ ap (λ j. get_or xs j (pos 0)) place_is)
