-- `gadwemosh_project_found` meets its contract: the numbers are counted first; then what comes back is that
-- of the projection of the eight numbers.
use mathlib.Core.Path.{ap, ◌∙◌}
use Rattle.machine.specs.Carried.{four_at}
use Rattle.gadwemosh.specs.Projections.{projection_returned}
use Rattle.gadwemosh.proofs.Places.{found-short, found-enough, never, returned-accurate, bound-of}
use Rattle.gadwemosh.proofs.gadwemosh_project_found.Goals as goal

pub returns-then-few : goal.returns-then-few
returns-then-few c =
    let a = c.args in
    let e = found-short a.found.now a.bits.now a.direction.now c.if-few.true in
    record {
      number = c.from.ensures ∙ ap (λ r. r.number) e;
      outcome = ap (λ r. r.outcome) e;
      bits = ap (λ r. r.bits) e;
      direction = ap (λ r. r.direction) e;
      accurate = never;
    }

pub returns : goal.returns
returns c =
    let a = c.args in
    let found = a.found.now in
    let at = c.project_point-projection in
    let back = c.return_projection.ensures in
    let e = ap (λ p. projection_returned p a.bits.now a.direction.now) at.ensures.answer ∙ found-enough found a.bits.now a.direction.now c.if-few.false in
    record {
      number = c.answered.ensures ∙ back.number ∙ ap (λ r. r.number) e;
      outcome = back.outcome ∙ ap (λ r. r.outcome) e;
      bits = back.patterns ∙ ap (λ r. r.bits) e;
      direction = back.direction ∙ ap (λ r. r.direction) e;
      accurate = bound-of (four_at 4 found) (projection_returned at.result a.bits.now a.direction.now) (returned-accurate (four_at 4 found) at.result a.bits.now a.direction.now at.ensures.accurate) back.outcome back.patterns;
    }
