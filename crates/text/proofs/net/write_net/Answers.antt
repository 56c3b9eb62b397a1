-- `write_net` meets its contract: the frame's line is written; then kind and degrees are read out of the places, and the entries are as many numbers of them as these have.
use borrow.Author.Rules.{rules}
use mathlib.Core.Path.{sym}
use Rattle.text.specs.Text.{net_lines}
use Rattle.text.proofs.Over.{first-room, then-room, in_a_row}
use Rattle.text.proofs.Standing.{known-there, entries-few, entries-long, lines-there}
use Rattle.text.proofs.Then.{room_as, wrote_as}
use Rattle.text.proofs.net.write_net.Goals as goal

pub write_frame-requires : goal.write_frame-requires
unfolding net_lines
write_frame-requires c = (c.requires.0, first-room _ c.requires.1)

pub overflow_add-end : goal.overflow_add-end
overflow_add-end c = let most = entries-few c.args.net.now c.requires.0 c.head_at-head.ensures c.number_count-end.ensures.entries in search rules

pub slice_bounds-write_entries-end : goal.slice_bounds-write_entries-end
slice_bounds-write_entries-end c =
    let most = entries-few c.args.net.now c.requires.0 c.head_at-head.ensures c.number_count-end.ensures.entries in
    let l = c.requires.0.long in
    search rules

pub write_entries-requires : goal.write_entries-requires
write_entries-requires c =
    let lent = c.args.net.now in
    let is = c.head_at-head.ensures in
    let count = c.number_count-end.ensures.entries in
    record {
      known = known-there lent c.requires.0 is;
      numbers = entries-long lent c.requires.0 is count;
      room = then-room c.write_frame.ensures (room_as (lines-there lent c.requires.0 is count) c.requires.1);
    }

pub returns : goal.returns
returns c =
    let lines = lines-there c.args.net.now c.requires.0 c.head_at-head.ensures c.number_count-end.ensures.entries in
    wrote_as (sym lines) (in_a_row c.write_frame.ensures c.write_entries.ensures (room_as lines c.requires.1))
