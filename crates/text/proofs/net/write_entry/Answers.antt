-- `write_entry` meets its contract: the first group's indices, that of the group after it, then the numbers.
use Rattle.text.proofs.Over.{then-room, in_a_row}
use Rattle.text.proofs.net.write_entry.Goals as goal

pub returns : goal.returns
returns c =
    let room = c.requires.1 in
    in_a_row c.put_name.ensures
    (in_a_row c.put_later.ensures c.put_line.ensures (then-room c.put_name.ensures room))
    room
