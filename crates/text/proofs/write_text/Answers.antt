-- `write_text` meets its contract: a text that is made in the buffer itself stands at its front, and has room there.
use borrow.Author.Rules.{rules}
use Prim.Native.Nat.{◌≤◌}
use mathlib.Core.Path.{◌≡◌, subst}
use lib.ListN.{length}
use Rattle.text.specs.Text.{text_of}
use Rattle.text.proofs.Whole.{made-front, written-whole}
use Rattle.text.proofs.write_text.Goals as goal

pub returns : goal.returns
returns c =
    let out = c.args.out.now in
    let made = c.make_text in
    let front = made-front _ _ made.ensures.buffer made.ensures.count in
    let same : length made.new.out ≡ length out = search rules in
    let room : made.result ≤ length out = subst (λ k. made.result ≤ k) same front.1 in
    let whole = written-whole (text_of c.args.input.now) out made.new.out made.result made.ensures.count room made.ensures.buffer in
    record { answer = whole.0; told = whole.1.0; buffer = whole.1.1 }
