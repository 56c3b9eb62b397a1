-- `write_row` meets its contract: before k, what is left to write are the lines from the entries with these counts on, and their numbers are there for each.
use borrow.Author.Rules.{rules}
use Prim.Native.Nat.{ℕ, suc, ◌+◌, ◌*◌, ◌-◌, ◌≤◌, ◌<◌}
use native.Mathlib.Nat.{zero-mul, suc-mul, mul_comm, mul-le-mul}
use native.Mathlib.Omega.{arith}
use mathlib.Core.Path.{◌≡◌, sym, ap, ◌∙◌, subst}
use mathlib.Core.Bool.{true}
use mathlib.Core.List.{List, [], ◌∷◌, ◌++◌}
use lib.IntN.{ℤ}
use lib.ListN.{length, take, drop}
use Rattle.entries.specs.Entries.{number_count}
use Rattle.kinds.specs.Kinds.{dimension_of, later_groups, known}
use Rattle.kinds.specs.declared.Head.{Head}
use Rattle.kinds.proofs.Limits.{limits}
use Rattle.text.specs.Text.{entry_lines}
use Rattle.text.specs.Parts.{TwoOrThree, counts_at, last_of, lines_under}
use Rattle.text.proofs.Over.{first-room}
use Rattle.text.proofs.Then.{begin, left_as, left_after, left-none}
use Rattle.text.proofs.NetRows.{lines_none, counts-few, row_left, row_whole, row_next, row_none, entries_under, count-lines}
use Rattle.text.proofs.net.write_row.Goals as goal

module _ (head : Head) (h k : ℕ) (xs : List ℤ) {w d n : ℕ} (wide : w ≡ number_count (later_groups head.kind head.second)) (is : d ≡ dimension_of head.kind) (count : n ≡ suc (last_of d h)) (more : k < n) where
  -- the counts that are lent
  counts-are : counts_at (dimension_of head.kind) (head.degree - h) (h - k) k ≡ take (d + 1) ((head.degree - h) ∷ (h - k) ∷ k ∷ [])
  counts-are = let one : suc (dimension_of head.kind) ≡ d + 1 = omega (arith, is) in ap (λ v. take v ((head.degree - h) ∷ (h - k) ∷ k ∷ [])) one

  few : known head.kind head.degree head.second ≡ true → TwoOrThree (take (d + 1) ((head.degree - h) ∷ (h - k) ∷ k ∷ []))
  few right =
      let l = limits head.kind head.degree head.second right in
      subst TwoOrThree counts-are (counts-few (dimension_of head.kind) (head.degree - h) (h - k) k l.dimension-low l.dimension-few)

  in-row : k < suc (last_of (dimension_of head.kind) h)
  in-row = omega (arith, more, count ∙ ap (λ v. suc (last_of v h)) is)

  module _ (long : length xs ≡ number_count (later_groups head.kind head.second) * suc (last_of (dimension_of head.kind) h)) where
    -- the numbers of entry k are there
    there : k * w + w ≤ length xs
    there =
        let last = suc (last_of (dimension_of head.kind) h) in
        let most = mul-le-mul {n₁ = suc k} {m₁ = w} {n₂ = last} {m₂ = w} in-row (omega arith) in
        omega (arith, most, suc-mul k w, mul_comm w last, long ∙ ap (λ v. v * last) (sym wide))

    -- its lines, and what is left after them
    next : entry_lines (entries_under (row_left (dimension_of head.kind) head.degree h k) head.kind head.second) (drop (k * w) xs)
        ≡ lines_under (take (d + 1) ((head.degree - h) ∷ (h - k) ∷ k ∷ [])) (later_groups head.kind head.second) (take (k * w + w - k * w) (drop (k * w) xs))
        ++ entry_lines (entries_under (row_left (dimension_of head.kind) head.degree h (k + 1)) head.kind head.second) (drop ((k + 1) * w) xs)
    next =
        let v = dimension_of head.kind in
        let rest = row_left v head.degree h (k + 1) in
        let cut : w ≡ k * w + w - k * w = omega arith in
        let one : k + 1 ≡ suc k = omega arith in
        let after : k * w + w ≡ (k + 1) * w = sym (ap (λ j. j * w) one ∙ suc-mul k w) in
        ap (λ es. entry_lines (entries_under es head.kind head.second) (drop (k * w) xs)) (row_next v head.degree h k in-row)
        ∙ count-lines (counts_at v (head.degree - h) (h - k) k) rest head.kind head.second xs (k * w) w wide there
        ∙ (λ i. lines_under (counts-are i) (later_groups head.kind head.second) (take (cut i) (drop (k * w) xs)) ++ entry_lines (entries_under rest head.kind head.second) (drop (after i) xs))

pub loop-k-init : goal.loop-k-init
loop-k-init c =
    let head = c.args.head in
    let xs = c.args.numbers.now in
    let first : 0 ≡ 0 * c.later_count-width.result = sym (zero-mul c.later_count-width.result) in
    left_as (λ i. entry_lines (entries_under (row_whole (dimension_of head.kind) head.degree c.args.h i) head.kind head.second) (drop (first i) xs)) (begin c.requires.room)

pub overflow_mul-p : goal.overflow_mul-p
overflow_mul-p c =
    let room = there c.args.head c.args.h c.loop-k.k c.args.numbers.now c.later_count-width.ensures c.dimension_of-dimension.ensures c.row_length-count.ensures c.loop-k-test.true c.requires.numbers in
    search rules

pub overflow_add-p : goal.overflow_add-p
overflow_add-p c =
    let room = there c.args.head c.args.h c.loop-k.k c.args.numbers.now c.later_count-width.ensures c.dimension_of-dimension.ensures c.row_length-count.ensures c.loop-k-test.true c.requires.numbers in
    search rules

pub offset_bounds-numbers-p : goal.offset_bounds-numbers-p
offset_bounds-numbers-p c =
    let room = there c.args.head c.args.h c.loop-k.k c.args.numbers.now c.later_count-width.ensures c.dimension_of-dimension.ensures c.row_length-count.ensures c.loop-k-test.true c.requires.numbers in
    search rules

pub write_under-requires-clause-counts : goal.write_under-requires-clause-counts
write_under-requires-clause-counts c = few c.args.head c.args.h c.loop-k.k c.args.numbers.now c.later_count-width.ensures c.dimension_of-dimension.ensures c.row_length-count.ensures c.loop-k-test.true c.requires.known

pub write_under-requires-clause-room : goal.write_under-requires-clause-room
write_under-requires-clause-room c =
    first-room _
    (left_as (next c.args.head c.args.h c.loop-k.k c.args.numbers.now c.later_count-width.ensures c.dimension_of-dimension.ensures c.row_length-count.ensures c.loop-k-test.true c.requires.numbers) c.loop-k.invariant).room

pub loop-k-preserved : goal.loop-k-preserved
loop-k-preserved c =
    left_after c.write_under.ensures
    (left_as (next c.args.head c.args.h c.loop-k.k c.args.numbers.now c.later_count-width.ensures c.dimension_of-dimension.ensures c.row_length-count.ensures c.loop-k-test.true c.requires.numbers) c.loop-k.invariant)

pub returns : goal.returns
returns c =
    let l = c.loop-k in
    let head = c.args.head in
    let last = c.row_length-count.ensures ∙ ap (λ v. suc (last_of v c.args.h)) c.dimension_of-dimension.ensures in
    let none = row_none (dimension_of head.kind) head.degree c.args.h l.k (omega (arith, last)) in
    left-none (ap (λ es. entry_lines (entries_under es head.kind head.second) (drop (l.k * c.later_count-width.result) c.args.numbers.now)) none ∙ lines_none (drop (l.k * c.later_count-width.result) c.args.numbers.now)) l.invariant
