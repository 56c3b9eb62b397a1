-- `write_where_it_fits` meets its contract: the text is made whole first, so a short buffer is refused before anything is written into it.
use Prim.Native.Nat.{◌+◌}
use native.Mathlib.Omega.{arith}
use mathlib.Core.Path.{◌≡◌, sym, ap₂, ◌∙◌}
use mathlib.Core.List.{◌++◌}
use lib.ListN.{length, drop}
use lib.Seq.{length-take-le}
use Rattle.text.specs.Text.{text_of}
use Rattle.text.specs.Words.{over}
use Rattle.text.proofs.Whole.{made-front, written-short, written-whole}
use Rattle.text.proofs.write_where_it_fits.Goals as goal

pub returns-then-out-n : goal.returns-then-out-n
returns-then-out-n c =
    let whole = written-short (text_of c.args.input.now) c.args.out.now c.make_text-n.result c.make_text-n.ensures.count c.if-out-n.true in
    record { answer = whole.0; told = whole.1.0; buffer = whole.1.1 }

pub slice_bounds-text-end : goal.slice_bounds-text-end
slice_bounds-text-end c = (made-front _ _ c.make_text-n.ensures.buffer c.make_text-n.ensures.count).1

pub slice_bounds-copy_from_slice-end-3 : goal.slice_bounds-copy_from_slice-end-3
slice_bounds-copy_from_slice-end-3 c =
    let made = c.make_text-n in
    sym (length-take-le made.result made.new.out (made-front _ _ made.ensures.buffer made.ensures.count).1)

pub copy_from_slice-requires : goal.copy_from_slice-requires
copy_from_slice-requires c =
    let made = c.make_text-n in
    length-take-le made.result c.args.out.now c.if-out-n.false ∙ sym (length-take-le made.result made.new.out (made-front _ _ made.ensures.buffer made.ensures.count).1)

pub returns : goal.returns
unfolding over
returns c =
    let out = c.args.out.now in
    let made = c.make_text-n in
    let text = text_of c.args.input.now in
    let copied = c.copy_from_slice.ensures.after ∙ (made-front _ _ made.ensures.buffer made.ensures.count).0 in
    let place : made.result ≡ 0 + length text = let count = made.ensures.count in omega (arith, count) in
    let buffer = ap₂ (λ t k. t ++ drop k out) copied place in
    let whole = written-whole text out _ made.result made.ensures.count c.if-out-n.false buffer in
    record { answer = whole.0; told = whole.1.0; buffer = whole.1.1 }
