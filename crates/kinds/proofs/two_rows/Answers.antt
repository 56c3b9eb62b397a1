-- `two_rows` meets its contract: numbers up to 4 have products up to 16, which fit.
use native.Mathlib.Omega.{arith}
use Rattle.kinds.proofs.Determinants.{minus-fits, minus_is}
use Rattle.kinds.proofs.two_rows.Goals as goal

pub overflow_sub-result : goal.overflow_sub-result
overflow_sub-result c = minus-fits c.args.a c.args.d c.args.b c.args.c 4 c.requires.0 c.requires.3 c.requires.1 c.requires.2 (omega arith)

pub returns : goal.returns
returns c = minus_is c.args.a c.args.d c.args.b c.args.c 4 c.requires.0 c.requires.3 c.requires.1 c.requires.2 (omega arith)
