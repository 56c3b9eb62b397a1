-- `answer` meets its contract where the text was written: it had room.
use mathlib.Core.Path.{◌≡◌, sym, subst, ◌∙◌}
use mathlib.Core.Bool.{false}
use borrow.Author.Rules.{rules}
use lib.ListN.{take}
use Rattle.io.specs.Counts.{IsPrefixLen}
use Rattle.netprint.specs.Process.{failed}
use Rattle.netprint.proofs.Output.{Output, bytes-are, output-text, output-of-whole}
use Rattle.netprint.proofs.answer.Goals as goal

pub returns : goal.returns
returns c =
    let a = c.args in
    let at : false ≡ failed a.stop.last = search rules in
    let wrote = c.write_text in
    let n = c.unwrap_or.ensures ∙ bytes-are wrote.result in
    let text = take a.stop.bytes a.input.now in
    let out = subst (λ k. Output text a.out.now (failed a.stop.last) k wrote.new.out) (sym n)
    (output-text text a.out.now c.requires.out wrote.result wrote.new.out at wrote.ensures.answer wrote.ensures.buffer) in
    record {
      counted = out.0;
      within = subst (λ k. IsPrefixLen k wrote.new.out) (sym n) wrote.ensures.told.within;
      buffer = out.1;
      whole = output-of-whole a.stop a.input.now c.requires.stopped c.requires.input;
    }
