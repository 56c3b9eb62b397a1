-- `write_frame` meets its contract: the kind is read out of the places, and the frame is as many numbers of them as the kind has.
use native.Mathlib.Omega.{arith}
use mathlib.Core.Path.{sym}
use Rattle.kinds.proofs.Counts.{frame-few}
use Rattle.text.proofs.Standing.{frame-there}
use Rattle.text.proofs.Then.{room_as, wrote_as}
use Rattle.text.proofs.net.write_frame.Goals as goal

pub put_line-requires : goal.put_line-requires
put_line-requires c = room_as (frame-there c.args.net.now c.requires.0 c.head_at.ensures c.frame_count-end.ensures) c.requires.1

pub returns : goal.returns
returns c = wrote_as (sym (frame-there c.args.net.now c.requires.0 c.head_at.ensures c.frame_count-end.ensures)) c.put_line.ensures

pub overflow_add-end : goal.overflow_add-end
overflow_add-end c = omega (arith, c.frame_count-end.ensures 0 0, frame-few c.head_at.result.kind 0 0)

pub slice_bounds-put_line-end-2 : goal.slice_bounds-put_line-end-2
slice_bounds-put_line-end-2 c =
    omega (arith, c.frame_count-end.ensures 0 0, frame-few c.head_at.result.kind 0 0, c.requires.0.long)
