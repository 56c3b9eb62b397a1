-- `make_point` meets its contract: the room is long enough, the small one where the test says so, and the other for
-- every known kind.
use native.Mathlib.Omega.{arith}
use Rattle.kinds.proofs.Counts.{entries_fit}
use Rattle.nets.proofs.Made.{right}
use Rattle.nets.proofs.calls.make_point.Goals as goal

pub point_in-requires-2 : goal.point_in-requires-2
point_in-requires-2 c = (c.requires.0, c.requires.1, entries_fit _ _ _ (right c.requires.0), omega arith)
