-- A write appends what it takes of the bytes that are left.
use Rattle.std.proofs.Common.{rules}
use Rattle.netprint.proofs.Known.{appends-more}
use Rattle.netprint.proofs.write_whole.Goals as goal

pub loop-done-preserved : goal.loop-done-preserved
loop-done-preserved g c = (search rules, appends-more _ _ _ c.args.bytes.now c.loop-done.done c.in-Ok.n c.loop-done.invariant.1 c.in-Ok.ensures.bytes)
