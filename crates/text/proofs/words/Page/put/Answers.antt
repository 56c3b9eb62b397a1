-- `put` meets its contract: a part of the buffer that is written anew is what stands before it, the word, and what stands behind it.
use native.Mathlib.Omega.{arith}
use mathlib.Core.Path.{refl, ap, ◌∙◌}
use lib.ListN.{length}
use Rattle.std.proofs.lemmas.Slice.{put_mid-paste}
use Rattle.text.proofs.Over.{copied, length_over}
use Rattle.text.proofs.words.Page.put.Goals as goal

pub returns : goal.returns
returns c =
    let page = c.args.self.now in
    let word = c.args.word.now in
    let buffer = put_mid-paste page.at _ page.out.now _ word (length word) c.copy_from_slice.ensures.after (omega arith) refl ∙ copied page.out.now page.at word in
    record {
      same_buffer = refl;
      size = ap length buffer ∙ length_over page.out.now page.at word c.requires.fits;
      buffer = buffer;
      place = refl;
    }
