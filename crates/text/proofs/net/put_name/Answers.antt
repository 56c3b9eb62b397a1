-- `put_name` meets its contract, by how many vertices the group has: one number, or three with spaces between them.
use mathlib.Core.Path.{sym}
use Rattle.text.proofs.InParts.{name-three}
use Rattle.text.proofs.Over.{then-room, in_a_row}
use Rattle.text.proofs.Then.{room_as, wrote_as}
use Rattle.text.proofs.net.put_name.Goals as goal

pub returns : goal.returns
returns c =
    let three = name-three c.args.counts.now c.requires.0 c.if-counts-eq2.false in
    let room = room_as three c.requires.1 in
    wrote_as (sym three)
    (in_a_row c.put_decimal-2.ensures
    (in_a_row c.put_labelled.ensures c.put_labelled-2.ensures (then-room c.put_decimal-2.ensures room))
    room)
