-- `write_under` meets its contract: before l, what is left to write are the lines from that entry on, and four numbers are there for each.
use borrow.Author.Rules.{rules}
use Prim.Native.Nat.{ℕ, ◌+◌, ◌*◌, ◌-◌, ◌≤◌}
use native.Mathlib.Omega.{arith}
use mathlib.Core.Path.{◌≡◌, sym, ap, ap₂, ◌∙◌}
use mathlib.Core.List.{List, ◌∷◌, ◌++◌}
use lib.IntN.{ℤ}
use lib.ListN.{take, drop}
use Rattle.kinds.specs.Kinds.{later_dimension}
use Rattle.text.specs.Text.{entry_line, entry_lines}
use Rattle.text.specs.Parts.{TwoOrThree, entry_text}
use Rattle.text.proofs.InParts.{later_at, entry-text}
use Rattle.text.proofs.NetRows.{lines_next, lines_none, under_left, under_whole, under_next, under_none, later-long}
use Rattle.text.proofs.Over.{first-room}
use Rattle.text.proofs.Then.{begin, left_as, left_after, left-none}
use Rattle.text.proofs.net.write_under.Goals as goal

-- the line of entry l, and what is left after it
next : (e : List ℕ) (kind q l : ℕ) (xs : List ℤ) → TwoOrThree e → l ≤ q
    → entry_lines (under_left e kind q l) (drop (4 * l) xs)
    ≡ entry_text e (later_dimension kind) l (take (4 * l + 4 - 4 * l) (drop (4 * l) xs)) ++ entry_lines (under_left e kind q (l + 1)) (drop (4 * (l + 1)) xs)
next e kind q l xs few more =
    let d = later_dimension kind in
    let es = e ∷ later_at d q l in
    let rest = under_left e kind q (l + 1) in
    let four : 4 ≡ 4 * l + 4 - 4 * l = omega arith in
    let after : 4 * l + 4 ≡ 4 * (l + 1) = omega arith in
    ap (λ ess. entry_lines ess (drop (4 * l) xs)) (under_next e kind q l more)
    ∙ lines_next es rest xs (4 * l)
    ∙ ap₂ (λ n p. entry_line es (take n (drop (4 * l) xs)) ++ entry_lines rest (drop p xs)) four after
    ∙ ap (λ t. t ++ entry_lines rest (drop (4 * (l + 1)) xs)) (sym (entry-text d q l (take (4 * l + 4 - 4 * l) (drop (4 * l) xs)) e few))

pub loop-l-init : goal.loop-l-init
loop-l-init c =
    let head = c.args.head in
    left_as (ap (λ ess. entry_lines ess c.args.numbers.now) (under_whole c.args.counts.now head.kind head.second c.requires.second)) (begin c.requires.room)

pub overflow_mul-p : goal.overflow_mul-p
overflow_mul-p c = let all = c.requires.numbers ∙ later-long c.args.head.kind c.args.head.second c.requires.second in search rules

pub overflow_add-p : goal.overflow_add-p
overflow_add-p c = let all = c.requires.numbers ∙ later-long c.args.head.kind c.args.head.second c.requires.second in search rules

pub offset_bounds-numbers-p : goal.offset_bounds-numbers-p
offset_bounds-numbers-p c = let all = c.requires.numbers ∙ later-long c.args.head.kind c.args.head.second c.requires.second in search rules

pub slice_bounds-write_entry-end : goal.slice_bounds-write_entry-end
slice_bounds-write_entry-end c = let all = c.requires.numbers ∙ later-long c.args.head.kind c.args.head.second c.requires.second in search rules

pub write_entry-requires : goal.write_entry-requires
write_entry-requires c =
    let head = c.args.head in
    let l = c.loop-l in
    (c.requires.counts, first-room _ (left_as (next c.args.counts.now head.kind head.second l.l c.args.numbers.now c.requires.counts (omega arith)) l.invariant).room)

pub loop-l-preserved : goal.loop-l-preserved
loop-l-preserved c =
    let head = c.args.head in
    let l = c.loop-l in
    left_after c.write_entry.ensures (left_as (next c.args.counts.now head.kind head.second l.l c.args.numbers.now c.requires.counts (omega arith)) l.invariant)

pub returns : goal.returns
returns c =
    let head = c.args.head in
    let l = c.loop-l in
    let none = under_none c.args.counts.now head.kind head.second l.l (omega arith) in
    left-none (ap (λ ess. entry_lines ess (drop (4 * l.l) c.args.numbers.now)) none ∙ lines_none (drop (4 * l.l) c.args.numbers.now)) l.invariant
