-- `later_count` meets its contract: four numbers to an entry of the second group where there is one; the degree is a byte, so nothing wraps.
use Rattle.kinds.proofs.Counts.{later-count, no-later-count}
use Rattle.kinds.proofs.Head.later_count.Goals as goal

pub returns-in-3 : goal.returns-in-3
returns-in-3 c = let a = c.args in later-count a.self.kind a.self.second c.in-3.is

pub returns-in_default : goal.returns-in_default
returns-in_default c = let a = c.args in no-later-count a.self.kind a.self.second c.in_default.in_default-own.rest.1
