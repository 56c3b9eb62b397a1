-- `make_move` meets its contract: a proper move is made on the lent places and answered by its number, and any other is refused 8 by every net that takes calls.
use Rattle.text.proofs.Calls.{improper-made, proper-made}
use Rattle.text.proofs.moves.make_move.Goals as goal

pub returns-in_default : goal.returns-in_default
returns-in_default c =
    improper-made c.args.net.now c.requires.0 c.args.value.now c.args.k c.move_at.ensures.decoded c.in_default.is

pub returns : goal.returns
returns c =
    let t = c.take_move.ensures in
    proper-made c.args.net.now c.requires.0 c.args.value.now c.args.k c.move_at.ensures.decoded c.in-Proper.is t.number t.places
