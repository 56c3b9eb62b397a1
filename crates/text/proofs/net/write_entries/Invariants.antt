-- `write_entries` meets its contract: before row h, what is left to write are the lines from that row on, and their numbers are there for each.
use Prim.Native.Nat.{◌+◌, ◌*◌}
use mathlib.Core.Path.{◌≡◌}
use lib.ListN.{length, drop}
use Rattle.polar.specs.Groups.{counts_over}
use Rattle.entries.specs.Entries.{number_count}
use Rattle.kinds.specs.Kinds.{dimension_of, later_groups}
use Rattle.kinds.specs.Heads.{head_groups}
use Rattle.text.specs.Text.{entry_lines}
use Rattle.text.proofs.Then.{Left}
use Rattle.text.proofs.NetRows.{rows_left, entries_under}
use Rattle.text.proofs.net.write_entries.Given as goal

abbrev pub invariant-loop-h : goal.invariant-loop-h
invariant-loop-h l =
    let head = l.fn.head in
    let rows = rows_left (dimension_of head.kind) head.degree l.h in
    Left l.initial.page (entry_lines (counts_over (head_groups head)) l.numbers) l.page (entry_lines (entries_under rows head.kind head.second) (drop l.p l.numbers))
    × (l.p + number_count (later_groups head.kind head.second) * length rows ≡ length l.numbers)
