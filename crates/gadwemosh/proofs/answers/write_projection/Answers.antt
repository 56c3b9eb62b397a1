-- `write_projection` meets its contract: what stands in the places for bit patterns goes by the case of the
-- projection; a case without them leaves these as they were.
use mathlib.Core.Path.{sym, ap, ◌∙◌}
use Rattle.projection.specs.Projection.{coordinate_bits}
use Rattle.machine.specs.Lent.{put_at}
use Rattle.gadwemosh.proofs.answers.write_projection.Goals as goal

pub returns-in-Finite-clause-patterns : goal.returns-in-Finite-clause-patterns
unfolding coordinate_bits
returns-in-Finite-clause-patterns c =
    c.put_bits.ensures ∙ sym (ap (λ p. put_at 0 (coordinate_bits p) c.args.patterns.now) c.in-Finite.is)

pub returns-in-Direction-clause-patterns : goal.returns-in-Direction-clause-patterns
unfolding coordinate_bits
returns-in-Direction-clause-patterns c = sym (ap (λ p. put_at 0 (coordinate_bits p) c.args.patterns.now) c.in-Direction.is)

pub returns-in-Nowhere-clause-patterns : goal.returns-in-Nowhere-clause-patterns
unfolding coordinate_bits
returns-in-Nowhere-clause-patterns c = sym (ap (λ p. put_at 0 (coordinate_bits p) c.args.patterns.now) c.in-Nowhere.is)

pub returns-in-OutOfRange-clause-patterns : goal.returns-in-OutOfRange-clause-patterns
unfolding coordinate_bits
returns-in-OutOfRange-clause-patterns c = sym (ap (λ p. put_at 0 (coordinate_bits p) c.args.patterns.now) c.in-OutOfRange.is)
