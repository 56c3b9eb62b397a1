-- Both numbers are in range, so they are converted exactly, and the test on the numerator picks the case of
-- the definition.
use Rattle.std.proofs.lemmas.Int.{to_z-of_z}
use lib.Ieee.{of_bits}
use mir.Syntax.{w64}
use Rattle.projection.specs.Projection.{quotient_of}
use Rattle.projection.proofs.Signed.{is-zero, not-zero}
use Rattle.projection.proofs.quotient.Goals as goal

pub returns-then-v-eq0 : goal.returns-then-v-eq0
unfolding quotient_of of_bits
returns-then-v-eq0 c = rw (is-zero c.args.v c.ranges.v c.if-v-eq0.true)

pub returns : goal.returns
unfolding quotient_of
returns c =
    rw (to_z-of_z w64 c.args.v c.ranges.v, to_z-of_z w64 c.args.w c.ranges.w, not-zero c.args.v c.ranges.v c.if-v-eq0.false)
