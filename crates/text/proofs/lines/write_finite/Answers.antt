-- `write_finite` meets its contract: three bit patterns, the first after the word, and the end of the line.
use Rattle.text.specs.Words.{line}
use Rattle.text.specs.Text.{projection_line}
use Rattle.text.proofs.Over.{first-room, then-room, in_a_row}
use Rattle.text.proofs.lines.write_finite.Goals as goal

pub put_bits-requires : goal.put_bits-requires
unfolding projection_line line
put_bits-requires c = first-room _ c.requires

pub put_bits-requires-2 : goal.put_bits-requires-2
unfolding projection_line line
put_bits-requires-2 c =
    first-room _ (then-room c.put_bits.ensures c.requires)

pub put_bits-requires-3 : goal.put_bits-requires-3
unfolding projection_line line
put_bits-requires-3 c =
    first-room _ (then-room c.put_bits-2.ensures (then-room c.put_bits.ensures c.requires))

pub put-requires : goal.put-requires
unfolding projection_line line
put-requires c =
    then-room c.put_bits-3.ensures (then-room c.put_bits-2.ensures (then-room c.put_bits.ensures c.requires))

pub returns : goal.returns
unfolding projection_line line
returns c =
    let room = c.requires in
    in_a_row c.put_bits.ensures
    (in_a_row c.put_bits-2.ensures
    (in_a_row c.put_bits-3.ensures c.put.ensures (then-room c.put_bits-2.ensures (then-room c.put_bits.ensures room)))
    (then-room c.put_bits.ensures room))
    room
