-- `write_under` meets its contract: before l, what is left to write are the lines from that entry on, and four numbers are there for each.
use Prim.Native.Nat.{◌*◌}
use lib.ListN.{drop}
use Rattle.kinds.specs.Kinds.{later_groups}
use Rattle.text.specs.Text.{entry_lines}
use Rattle.text.specs.Parts.{lines_under}
use Rattle.text.proofs.NetRows.{under_left}
use Rattle.text.proofs.Then.{Left}
use Rattle.text.proofs.net.write_under.Given as goal

abbrev pub invariant-loop-l : goal.invariant-loop-l
invariant-loop-l l =
    let head = l.fn.head in
    Left l.initial.page (lines_under l.counts (later_groups head.kind head.second) l.numbers) l.page
    (entry_lines (under_left l.counts head.kind head.second l.l) (drop (4 * l.l) l.numbers))
