-- `store` meets its contract: the largest component, the entries, the frame's numbers and the head go into their places, if the net is in range.
use borrow.Author.Tests.{le-leb, lt-leb}
use borrow.Rule.Slice.PartMut.{put_mid, same_len_mid}
use Prim.Native.Nat.{ℕ, ◌+◌, ◌≤◌}
use native.Mathlib.Omega.{arith}
use mathlib.Core.Path.{◌≡◌, refl, sym, ap, ◌∙◌}
use mathlib.Core.List.{List, [], ◌∷◌}
use lib.IntN.{ℤ, pos}
use lib.ListN.{length, get_or, take, drop}
use Rattle.kinds.proofs.Counts.{frame-few}
use Rattle.machine.specs.Refusals.{◌else◌, first_failed}
use Rattle.machine.specs.Lent.{put_at}
use Rattle.nets.specs.Rows.{written}
use Rattle.nets.proofs.FirstSteps.{part-copied, range-is, net-put}
use Rattle.nets.proofs.store.Goals as goal

-- numbers copied into a part of the places are put there
copied : (at n : ℕ) (lent xs part : List ℤ) (count own : ℕ) → at + n ≤ length lent → count ≤ n → count ≤ length xs → count ≡ own → part ≡ written (take n (drop at lent)) 0 count (λ i. get_or xs i (pos 0))
    → put_mid at n lent part ≡ put_at at (take own xs) lent
copied at n lent xs part count own room fits long counted is =
    ap (put_mid at n lent) is ∙ part-copied at n lent xs count room fits long ∙ ap (λ k. put_at at (take k xs) lent) counted

pub returns-then-beyond : goal.returns-then-beyond
returns-then-beyond c =
    let a = c.args in
    record {
      number_is = ap (λ b. first_failed (b else 7 ∷ [])) (sym (lt-leb a.largest 281474976710656 c.if-beyond.true) ∙ range-is a.head a.largest a.net.now a.frame.now a.entries.now c.requires);
      places-are = refl;
    }

pub returns : goal.returns
returns c =
    let a = c.args in
    let asked = c.requires in
    let base = c.put_largest.new.net in
    let some = put_mid 12 180 base c.copy.new.to in
    let base-long : 193 ≤ length base = omega (arith, c.put_largest.auto.net, asked.places) in
    let some-long : 193 ≤ length some = omega (arith, same_len_mid 12 180 base c.copy.new.to c.copy.auto.to) in
    let counted = c.number_count.ensures.entries in
    let numbered = c.frame_count.ensures a.head.degree a.head.second in
    let few = frame-few a.head.kind a.head.degree a.head.second in
    let with_entries = copied 12 180 base a.entries.now c.copy.new.to c.number_count.result _ (omega arith) (omega (arith, asked.fit)) (omega (arith, asked.enough)) counted c.copy.ensures in
    let with_frame = copied 3 9 some a.frame.now c.copy-2.new.to c.frame_count.result _ (omega arith) (omega arith) (omega (arith, asked.nine)) numbered c.copy-2.ensures in
    record {
      number_is = ap (λ b. first_failed (b else 7 ∷ [])) (sym (le-leb a.largest 281474976710656 (omega (arith, c.if-beyond.false))) ∙ range-is a.head a.largest a.net.now a.frame.now a.entries.now asked);
      places-are = net-put a.head a.largest a.net.now a.frame.now a.entries.now asked base some _ c.put_head.new.net c.put_largest.ensures with_entries with_frame c.put_head.ensures;
    }
