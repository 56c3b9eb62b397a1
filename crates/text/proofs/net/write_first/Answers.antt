-- `write_first` meets its contract: kind and degrees are read out of the places.
use mathlib.Core.Path.{sym}
use Rattle.text.proofs.Standing.{known-there, head-there}
use Rattle.text.proofs.Then.{room_as, wrote_as}
use Rattle.text.proofs.net.write_first.Goals as goal

pub write_head-requires : goal.write_head-requires
write_head-requires c =
    let n = c.args.net.now in
    record { known = known-there n c.requires.0 c.head_at.ensures; room = room_as (head-there n c.requires.0 c.head_at.ensures) c.requires.1 }

pub returns : goal.returns
returns c = wrote_as (sym (head-there c.args.net.now c.requires.0 c.head_at.ensures)) c.write_head.ensures
