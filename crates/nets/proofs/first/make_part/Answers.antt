-- `make_part` meets its contract: over the frame of the coordinates the group's net holds the polar values, so the rows made from it are those of the net over the frame.
use mathlib.Core.Path.{◌∙◌}
use Rattle.nets.specs.Coordinates.{row_polar}
use Rattle.nets.specs.FirstNet.{framed}
use Rattle.nets.proofs.FirstRows.{holds-polar, values_listed}
use Rattle.nets.proofs.first.make_part.Goals as goal

pub returns : goal.returns
unfolding framed
returns c =
    let base = c.coordinate_numbers in
    let a = c.args in
    c.put_rows.ensures (row_polar 4 a.dimension a.degree a.part.now) (holds-polar 4 a.dimension a.degree a.part.now base.new.out base.ensures.0)
    ∙ values_listed 4 a.dimension a.degree a.frame.now a.part.now (row_polar 4 a.dimension a.degree a.part.now) c.requires.0.limited.sized.some c.requires.1
