-- `write_point` meets its contract: no bytes, no point; otherwise the eight places hold the point that the
-- net answers, and its projection is the line, or the number of its refusal is.
use borrow.Author.Rules.{rules}
use mathlib.Core.Path.{◌≡◌, refl, sym, ap, ◌∙◌}
use lib.IntN.{pos}
use lib.ListN.{length, replicate}
use Rattle.machine.specs.Lent.{net_at}
use Rattle.machine.proofs.Numbers.{never_zero}
use Rattle.text.specs.Text.{projection_line}
use Rattle.text.proofs.Over.{nothing_written}
use Rattle.text.proofs.Calls.{point-none, point-one, point-refused, point-found}
use Rattle.text.proofs.Then.{room_as, wrote_as}
use Rattle.text.proofs.moves.write_point.Goals as goal

pub returns-then-is_empty : goal.returns-then-is_empty
returns-then-is_empty c =
    let none : length c.args.value.now ≡ 0 = search rules in
    wrote_as (sym (point-none (net_at c.args.net.now) c.args.value.now none)) (nothing_written c.args.page.now)

pub write_point_refused-requires : goal.write_point_refused-requires
write_point_refused-requires c =
    let some : length c.args.value.now ≡ 0 → ⊥ = search rules in
    room_as
    (point-one (net_at c.args.net.now) c.args.value.now some c.point_weights.ensures
    ∙ point-refused c.args.net.now c.requires.0 c.point_weights.result (replicate 8 (pos 0)) refl c.in-Err.ensures.number (never_zero c.in-Err.refusal)) c.requires.1

pub returns-in-Err : goal.returns-in-Err
returns-in-Err c =
    let some : length c.args.value.now ≡ 0 → ⊥ = search rules in
    wrote_as
    (sym
    (point-one (net_at c.args.net.now) c.args.value.now some c.point_weights.ensures
    ∙ point-refused c.args.net.now c.requires.0 c.point_weights.result (replicate 8 (pos 0)) refl c.in-Err.ensures.number (never_zero c.in-Err.refusal))) c.write_point_refused.ensures

pub write_projection-requires : goal.write_projection-requires
write_projection-requires c =
    let some : length c.args.value.now ≡ 0 → ⊥ = search rules in
    room_as
    (point-one (net_at c.args.net.now) c.args.value.now some c.point_weights.ensures
    ∙ point-found c.args.net.now c.requires.0 c.point_weights.result (replicate 8 (pos 0)) refl c.in_default.ensures.number refl c.in_default.ensures.found
    ∙ ap projection_line (sym c.project_point.ensures.answer)) c.requires.1

pub returns : goal.returns
returns c =
    let some : length c.args.value.now ≡ 0 → ⊥ = search rules in
    wrote_as
    (sym
    (point-one (net_at c.args.net.now) c.args.value.now some c.point_weights.ensures
    ∙ point-found c.args.net.now c.requires.0 c.point_weights.result (replicate 8 (pos 0)) refl c.in_default.ensures.number refl c.in_default.ensures.found
    ∙ ap projection_line (sym c.project_point.ensures.answer))) c.write_projection.ensures
