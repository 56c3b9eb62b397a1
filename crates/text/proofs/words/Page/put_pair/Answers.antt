-- `put_pair` meets its contract: two numbers after their labels, and the end of the line.
use Rattle.text.proofs.Over.{then-room, in_a_row}
use Rattle.text.proofs.words.Page.put_pair.Goals as goal

pub returns : goal.returns
returns c =
    let room = c.requires in
    in_a_row c.put_labelled.ensures
    (in_a_row c.put_labelled-2.ensures c.put.ensures (then-room c.put_labelled.ensures room))
    room
