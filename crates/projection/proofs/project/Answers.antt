-- Each return is in the case that the tests before it have settled, so it is the definition's answer; what is
-- told of that answer, and its bound, follow (`projected`).
use Rattle.std.proofs.Common.{arith, rules}
use Rattle.std.proofs.lemmas.Grind.{common_steps}
use Rattle.projection.specs.declared.Projection.TheVariants.{Finite, Direction, Nowhere, OutOfRange}
use Rattle.projection.specs.Projection.{projection_by, projection_of}
use Rattle.projection.proofs.Cases.{projected}
use Rattle.projection.proofs.project.Goals as goal

pub returns-then-not-is_in_range : goal.returns-then-not-is_in_range
unfolding projection_of projection_by
returns-then-not-is_in_range c =
    let p = projected c.args.point OutOfRange (search rules) in
    record { answer = p.0; told = p.1; accurate = p.2 }

pub returns-then-point-ne0 : goal.returns-then-point-ne0
unfolding projection_of projection_by
returns-then-point-ne0 c =
    let p = projected c.args.point (Finite c.coords.result) (grind (arith, common_steps)) in
    record { answer = p.0; told = p.1; accurate = p.2 }

pub returns-then-all_zero : goal.returns-then-all_zero
unfolding projection_of projection_by
returns-then-all_zero c =
    let p = projected c.args.point Nowhere (search rules) in
    record { answer = p.0; told = p.1; accurate = p.2 }

pub returns : goal.returns
unfolding projection_of projection_by
returns c =
    let p = projected c.args.point (Direction c.direction.result) (search rules) in
    record { answer = p.0; told = p.1; accurate = p.2 }
