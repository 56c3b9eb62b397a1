-- `move_largest` meets its contract: a flip leaves the number that stands there, and the largest component of a replace's entries is put.
use borrow.Author.Tests.{leb-true, eq-eqb, ne_eqb}
use Prim.Native.Nat.{ℕ, ◌+◌, ◌-◌, ◌≤◌}
use native.Mathlib.Omega.{arith}
use mathlib.Core.Path.{◌≡◌, sym, ap, ap₂, ◌∙◌, subst}
use mathlib.Core.Bool.{cond}
use mathlib.Core.List.{List, [], ◌∷◌}
use lib.IntN.{ℤ, pos}
use lib.ListN.{get_or, take, drop}
use Rattle.integers.specs.Largest.{largest_of}
use Rattle.integers.proofs.Largest.{largest-within}
use Rattle.entries.specs.Entries.{number_count}
use Rattle.kinds.specs.Heads.{head_groups}
use Rattle.kinds.specs.declared.Head.{Head}
use Rattle.machine.specs.Lent.{put_at}
use Rattle.machine.proofs.Lent.{put-here}
use Rattle.nets.proofs.move_largest.Goals as goal

-- the entries of a net in places
abbrev entries : Head → List ℤ → List ℤ
entries head lent = take (number_count (head_groups head)) (drop 12 lent)

-- the numbers that are looked at are the entries
found : (head : Head) (lent : List ℤ) (count largest : ℕ) → count ≡ number_count (head_groups head) → largest ≡ largest_of (take (12 + count - 12) (drop 12 lent)) → largest ≡ largest_of (entries head lent)
found head lent count largest counted is =
    let same : 12 + count - 12 ≡ number_count (head_groups head) = omega arith in
    is ∙ ap (λ k. largest_of (take k (drop 12 lent))) same

pub returns-then-flips : goal.returns-then-flips
returns-then-flips c =
    let a = c.args in
    sym
    (ap (λ b. put_at 192 (cond b (pos (largest_of (entries a.head a.net.now))) (get_or a.net.now 192 (pos 0)) ∷ []) a.net.now) (ne_eqb a.operation 1 c.if-flips.true)
    ∙ put-here 192 a.net.now c.requires.places)

pub slice_bounds-entries_largest-end : goal.slice_bounds-entries_largest-end
slice_bounds-entries_largest-end c = omega (arith, c.number_count-count.ensures.entries, c.requires.fit, c.requires.places)

pub put_largest-requires : goal.put_largest-requires
put_largest-requires c =
    let a = c.args in
    let is = found a.head a.net.now c.number_count-count.result c.entries_largest-largest.result c.number_count-count.ensures.entries c.entries_largest-largest.ensures in
    let small = leb-true (largest_of (entries a.head a.net.now)) 281474976710656 (sym (largest-within 281474976710656 (entries a.head a.net.now)) ∙ c.requires.range c.if-flips.false) in
    (c.requires.places, subst (λ l. l ≤ 281474976710656) (sym is) small)

pub returns : goal.returns
returns c =
    let a = c.args in
    let is = found a.head a.net.now c.number_count-count.result c.entries_largest-largest.result c.number_count-count.ensures.entries c.entries_largest-largest.ensures in
    c.put_largest.ensures
    ∙ ap₂ (λ l b. put_at 192 (cond b (pos l) (get_or a.net.now 192 (pos 0)) ∷ []) a.net.now) is (sym (eq-eqb a.operation 1 c.if-flips.false))
