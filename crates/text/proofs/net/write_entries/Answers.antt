-- `write_entries` meets its contract: before row h, what is left to write are the lines from that row on, and their numbers are there for each.
use borrow.Author.Rules.{rules}
use native.Mathlib.Omega.{arith}
use Prim.Native.Nat.{ℕ, suc, ◌+◌, ◌*◌, ◌-◌, ◌≤◌, ◌<◌}
use native.Mathlib.Nat.{mul-add}
use mathlib.Core.Path.{◌≡◌, sym, ap, ap₂, ◌∙◌}
use mathlib.Core.List.{List, ◌++◌}
use lib.IntN.{ℤ}
use lib.ListN.{length, take, drop, length-append, length-drop}
use lib.Seq.{length-take-le}
use Rattle.entries.specs.Entries.{number_count}
use Rattle.kinds.specs.Kinds.{dimension_of, later_groups}
use Rattle.kinds.specs.declared.Head.{Head}
use Rattle.text.specs.Text.{entry_lines}
use Rattle.text.specs.Parts.{last_of, row_of, row_lines}
use Rattle.text.proofs.Over.{first-room}
use Rattle.text.proofs.Then.{begin, left_as, left_after, left-none}
use Rattle.text.proofs.NetRows.{lines_none, length-row, rows_left, rows_next, rows_none, entries_under, entries-whole, entries-long, rows-lines}
use Rattle.text.proofs.net.write_entries.Goals as goal

module _ (head : Head) (h p : ℕ) (xs : List ℤ) {r w d : ℕ} (wide : w ≡ number_count (later_groups head.kind head.second)) (is : d ≡ dimension_of head.kind) (row : r ≡ suc (last_of d h)) (more : h < suc head.degree)
    (all : p + number_count (later_groups head.kind head.second) * length (rows_left (dimension_of head.kind) head.degree h) ≡ length xs) where
  -- row h has r entries, with w numbers each
  entries-are : w * r ≡ number_count (later_groups head.kind head.second) * length (row_of (dimension_of head.kind) head.degree h)
  entries-are = ap₂ ◌*◌ wide (row ∙ ap (λ n. suc (last_of n h)) is ∙ sym (length-row (dimension_of head.kind) head.degree h))

  -- and the others are there behind it
  left-there : p + w * r + number_count (later_groups head.kind head.second) * length (rows_left (dimension_of head.kind) head.degree (h + 1)) ≡ length xs
  left-there =
      let n = dimension_of head.kind in
      let both = ap (λ es. number_count (later_groups head.kind head.second) * length es) (rows_next n head.degree h more)
      ∙ ap (λ k. number_count (later_groups head.kind head.second) * k) (length-append (row_of n head.degree h) (rows_left n head.degree (h + 1)))
      ∙ mul-add (number_count (later_groups head.kind head.second)) (length (row_of n head.degree h)) (length (rows_left n head.degree (h + 1))) in
      omega (arith, all, both, entries-are)

  row-there : p + w * r ≤ length xs
  row-there = omega (arith, left-there)

  row-long : length (take (p + w * r - p) (drop p xs)) ≡ number_count (later_groups head.kind head.second) * suc (last_of (dimension_of head.kind) h)
  row-long =
      let cut : p + w * r - p ≡ w * r = omega arith in
      length-take-le (p + w * r - p) (drop p xs) (simp length-drop (omega (arith, row-there)))
      ∙ cut
      ∙ entries-are
      ∙ ap (λ n. number_count (later_groups head.kind head.second) * n) (length-row (dimension_of head.kind) head.degree h)

  -- the lines of row h, and what is left after them
  next : entry_lines (entries_under (rows_left (dimension_of head.kind) head.degree h) head.kind head.second) (drop p xs)
      ≡ row_lines head h (take (p + w * r - p) (drop p xs)) ++ entry_lines (entries_under (rows_left (dimension_of head.kind) head.degree (h + 1)) head.kind head.second) (drop (p + w * r) xs)
  next =
      let n = dimension_of head.kind in
      let rest = rows_left n head.degree (h + 1) in
      let cut : w * r ≡ p + w * r - p = omega arith in
      ap (λ es. entry_lines (entries_under es head.kind head.second) (drop p xs)) (rows_next n head.degree h more)
      ∙ rows-lines (row_of n head.degree h) rest head.kind head.second xs p (w * r) entries-are row-there
      ∙ ap (λ v. row_lines head h (take v (drop p xs)) ++ entry_lines (entries_under rest head.kind head.second) (drop (p + w * r) xs)) cut

pub loop-h-init : goal.loop-h-init
loop-h-init c =
    let head = c.args.head in
    let many = entries-long head.kind head.degree head.second c.requires.known in
    let long = c.requires.numbers in
    (left_as (ap (λ es. entry_lines es c.args.numbers.now) (entries-whole head.kind head.degree head.second c.requires.known)) (begin c.requires.room), omega (arith, many, long))

pub overflow_mul-end : goal.overflow_mul-end
overflow_mul-end c = let room = row-there c.args.head c.loop-h.h c.loop-h.p c.args.numbers.now c.later_count-width.ensures c.dimension_of-dimension.ensures c.row_length.ensures (omega arith) c.loop-h.invariant.1 in search rules

pub overflow_add-end : goal.overflow_add-end
overflow_add-end c = let room = row-there c.args.head c.loop-h.h c.loop-h.p c.args.numbers.now c.later_count-width.ensures c.dimension_of-dimension.ensures c.row_length.ensures (omega arith) c.loop-h.invariant.1 in search rules

pub slice_bounds-write_row-end : goal.slice_bounds-write_row-end
slice_bounds-write_row-end c = let room = row-there c.args.head c.loop-h.h c.loop-h.p c.args.numbers.now c.later_count-width.ensures c.dimension_of-dimension.ensures c.row_length.ensures (omega arith) c.loop-h.invariant.1 in search rules

pub write_row-requires-clause-room : goal.write_row-requires-clause-room
write_row-requires-clause-room c =
    let l = c.loop-h in
    first-room _
    (left_as (next c.args.head l.h l.p c.args.numbers.now c.later_count-width.ensures c.dimension_of-dimension.ensures c.row_length.ensures (omega arith) l.invariant.1) l.invariant.0).room

pub write_row-requires-clause-numbers : goal.write_row-requires-clause-numbers
write_row-requires-clause-numbers c = row-long c.args.head c.loop-h.h c.loop-h.p c.args.numbers.now c.later_count-width.ensures c.dimension_of-dimension.ensures c.row_length.ensures (omega arith) c.loop-h.invariant.1

pub loop-h-preserved : goal.loop-h-preserved
loop-h-preserved c =
    let l = c.loop-h in
    let e = next c.args.head l.h l.p c.args.numbers.now c.later_count-width.ensures c.dimension_of-dimension.ensures c.row_length.ensures (omega arith) l.invariant.1 in (
      left_after c.write_row.ensures (left_as e l.invariant.0),
      left-there c.args.head l.h l.p c.args.numbers.now c.later_count-width.ensures c.dimension_of-dimension.ensures c.row_length.ensures (omega arith) l.invariant.1,
    )

pub returns : goal.returns
returns c =
    let l = c.loop-h in
    let head = c.args.head in
    let none = rows_none (dimension_of head.kind) head.degree l.h (omega arith) in
    left-none (ap (λ es. entry_lines (entries_under es head.kind head.second) (drop l.p c.args.numbers.now)) none ∙ lines_none (drop l.p c.args.numbers.now)) l.invariant.0
