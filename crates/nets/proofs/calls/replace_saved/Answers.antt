-- `replace_saved` meets its contract: the numbers are copied, worked on in their places, and put back where one part is
-- out of range.
use borrow.Author.Rules.{rules}
use native.Mathlib.Omega.{arith}
use mathlib.Core.Path.{sym, ◌∙◌}
use lib.IntN.{pos}
use lib.ListN.{replicate}
use Rattle.nets.proofs.Lists.{put_back}
use Rattle.nets.proofs.calls.replace_saved.Goals as goal

pub whole_as_slice-copy : goal.whole_as_slice-copy
whole_as_slice-copy g c = omega arith

pub shared_whole_as_slice-copy : goal.shared_whole_as_slice-copy
shared_whole_as_slice-copy g c = omega arith

pub returns : goal.returns
returns g c =
    let left = c.replace_parts in (
      sym c.if-replace_parts.false ∙ left.ensures.named,
      c.copy-2.ensures
          ∙ put_back _ c.args.entries.now left.new.entries (replicate g.row.N (pos 0)) c.copy.new.to (rw c.numbers.ensures c.requires.0.parts.long)
          (search rules) c.copy.ensures left.auto.entries (rw c.numbers.ensures left.ensures.past),
    )
