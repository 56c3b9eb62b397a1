-- `write_row` meets its contract: before k, what is left to write are the lines from the entries with these counts on.
use Prim.Native.Nat.{◌*◌}
use lib.ListN.{drop}
use Rattle.kinds.specs.Kinds.{dimension_of}
use Rattle.text.specs.Text.{entry_lines}
use Rattle.text.specs.Parts.{row_lines}
use Rattle.text.proofs.NetRows.{row_left, entries_under}
use Rattle.text.proofs.Then.{Left}
use Rattle.text.proofs.net.write_row.Given as goal

abbrev pub invariant-loop-k : goal.invariant-loop-k
invariant-loop-k l =
    let head = l.fn.head in
    Left l.initial.page (row_lines head l.h l.numbers) l.page
    (entry_lines (entries_under (row_left (dimension_of head.kind) head.degree l.h l.k) head.kind head.second) (drop (l.k * l.width) l.numbers))
