-- `along_row` meets its contract: a number up to 4 times a minor up to 32 is at most 128, and three of these fit.
use native.Mathlib.Omega.{arith}
use Rattle.kinds.proofs.Determinants.{minus-fits, row_fits, row_is}
use Rattle.kinds.proofs.along_row.Goals as goal

pub overflow_sub-result : goal.overflow_sub-result
overflow_sub-result c = minus-fits c.args.a c.args.x c.args.b c.args.y 32 c.requires.0 c.requires.1 c.requires.2 c.requires.3 (omega arith)

pub overflow_add-result : goal.overflow_add-result
overflow_add-result c = row_fits c.args.a c.args.x c.args.b c.args.y 32 c.requires.0 c.requires.1 c.requires.2 c.requires.3 (omega arith) c.args.c c.args.z c.requires.4 c.requires.5

pub returns : goal.returns
returns c = row_is c.args.a c.args.x c.args.b c.args.y 32 c.requires.0 c.requires.1 c.requires.2 c.requires.3 (omega arith) c.args.c c.args.z c.requires.4 c.requires.5
