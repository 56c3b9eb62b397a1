-- `return_projection` meets its contract: both buffers are counted first; then all that comes back goes by
-- the projection.
use mathlib.Core.Path.{◌≡◌, ap, ◌∙◌}
use Rattle.gadwemosh.specs.Projections.{projection_without_room, projection_returned}
use Rattle.gadwemosh.proofs.Places.{bits-short, direction-short, with-room}
use Rattle.gadwemosh.proofs.answers.return_projection.Goals.{then-patterns-lt3-via-then-patterns-lt3, then-patterns-lt3-via-else-patterns-lt3+then-few}
use Rattle.gadwemosh.proofs.answers.return_projection.Goals as goal

pub returns-then-patterns-lt3 : goal.returns-then-patterns-lt3
returns-then-patterns-lt3 c =
    let a = c.args in
    let e : projection_without_room a.patterns.now a.direction.now ≡ projection_returned a.projection a.patterns.now a.direction.now
    = elim c.then-patterns-lt3.branch [
      | then-patterns-lt3-via-then-patterns-lt3 w ↦ bits-short a.projection a.patterns.now a.direction.now w.if-patterns-lt3.true
      | then-patterns-lt3-via-else-patterns-lt3+then-few w ↦ direction-short a.projection a.patterns.now a.direction.now w.if-patterns-lt3.false w.if-few.true
    ] in
    record { number = ap (λ r. r.number) e; outcome = ap (λ r. r.outcome) e; patterns = ap (λ r. r.bits) e; direction = ap (λ r. r.direction) e }

pub returns : goal.returns
returns c =
    let e = with-room c.args.projection c.args.patterns.now c.args.direction.now c.if-patterns-lt3.false c.if-few.false in
    let made = c.write_projection.ensures in
    record { number = made.number ∙ ap (λ r. r.number) e; outcome = made.outcome ∙ ap (λ r. r.outcome) e; patterns = made.patterns ∙ ap (λ r. r.bits) e; direction = made.direction ∙ ap (λ r. r.direction) e }
