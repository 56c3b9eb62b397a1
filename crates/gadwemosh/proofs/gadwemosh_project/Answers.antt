-- `gadwemosh_project` meets its contract: the bound is that of the projection, whose patterns come back.
use borrow.Author.Rules.{rules}
use mathlib.Core.Path.{◌≡◌, sym, subst}
use Rattle.projection.specs.Projection.{four, projection_of}
use Rattle.projection.specs.Accuracy.{AccuratePoint}
use Rattle.projection.proofs.Bound.{accurate-projections}
use Rattle.gadwemosh.specs.Projections.{projection_returned}
use Rattle.gadwemosh.proofs.Places.{returned-accurate, bound-of}
use Rattle.gadwemosh.proofs.gadwemosh_project.Goals as goal

pub returns-clause-accurate : goal.returns-clause-accurate
returns-clause-accurate c =
    let a = c.args in
    let p = four a.x a.y a.z a.w in
    let at = c.project-projection.result in
    let is : at ≡ projection_of a.x a.y a.z a.w = search rules in
    bound-of p (projection_returned at a.bits.now a.direction.now)
    (returned-accurate p at a.bits.now a.direction.now (subst (AccuratePoint p) (sym is) (accurate-projections p)))
    c.return_projection.ensures.outcome c.return_projection.ensures.patterns
