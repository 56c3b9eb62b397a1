-- `of_three` meets its contract: three products.
use Prim.Native.Nat.{◌+◌}
use lib.IntN.{pos}
use lib.ListN.{get_or}
use Rattle.integers.proofs.Signed.{back_fits}
use Rattle.nets.proofs.Row.{element}
use Rattle.nets.proofs.Vertices.{blend-small}
use Rattle.nets.proofs.frames.of_three.Goals as goal

pub mix-requires : goal.mix-requires
mix-requires c =
    let a = c.args in
    let xs = a.net.now in
    blend-small (back_fits c.ranges.r) (back_fits c.ranges.s) (back_fits c.ranges.t)
    (element (get_or xs a.at (pos 0)) c.mix-arg-1.given) (element (get_or xs (a.at + 3) (pos 0)) c.mix-arg-2-1.given) (element (get_or xs (a.at + 6) (pos 0)) c.mix-arg-3-1.given)
    c.requires.1 c.requires.2 c.requires.3 c.requires.4
