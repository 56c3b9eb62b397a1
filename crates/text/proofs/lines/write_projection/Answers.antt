-- `write_projection` meets its contract, case by case: each writer's text is the line of its case.
use mathlib.Core.Path.{sym, ap}
use Rattle.text.specs.Words.{line}
use Rattle.text.specs.Text.{projection_line}
use Rattle.text.proofs.Then.{room_as, wrote_as}
use Rattle.text.proofs.lines.write_projection.Goals as goal

pub put-requires : goal.put-requires
unfolding projection_line line
put-requires c = room_as (ap projection_line c.in-Nowhere.is) c.requires

pub write_point_refused-requires : goal.write_point_refused-requires
unfolding projection_line line
write_point_refused-requires c = room_as (ap projection_line c.in-OutOfRange.is) c.requires

pub returns-in-Nowhere : goal.returns-in-Nowhere
unfolding projection_line line
returns-in-Nowhere c = wrote_as (ap projection_line (sym c.in-Nowhere.is)) c.put.ensures

pub returns-in-OutOfRange : goal.returns-in-OutOfRange
unfolding projection_line line
returns-in-OutOfRange c = wrote_as (ap projection_line (sym c.in-OutOfRange.is)) c.write_point_refused.ensures
