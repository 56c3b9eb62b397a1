-- `three_rows` meets its contract: the minors are up to 32, as the sum along the first row asks, and all is read back as it is.
use Rattle.kinds.proofs.Determinants.{three-asks}
use Rattle.kinds.proofs.three_rows.Goals as goal

pub along_row-requires : goal.along_row-requires
along_row-requires c =
    let start = c.before.before.before in
    let a = start.args in
    let x = c.two_rows-x in
    let y = c.two_rows-y in
    let z = c.two_rows-z in
    three-asks a.a a.b a.c a.d a.e a.f a.g a.h a.i start.requires
    x.result y.result z.result x.ensures y.ensures z.ensures
