-- A kind with its degrees has the product of its groups' numbers in their rows, and no other numbers have a
-- scale.
use Rattle.std.proofs.Common.{◌*◌, sym, ap, ap₂, ◌∙◌}
use Rattle.kinds.specs.Scales.{scale_row, at_degree}
use Rattle.kinds.proofs.Scales.{one-read, two-read, unknown-scale}
use Rattle.kinds.proofs.Head.scale.Goals as goal

pub returns-then-not-is_known : goal.returns-then-not-is_known
returns-then-not-is_known c =
    let h = c.args.self in
    sym (unknown-scale h.kind h.degree h.second (sym c.is_known.ensures ∙ c.if-not-is_known.true))

pub returns-then-later-eq0 : goal.returns-then-later-eq0
returns-then-later-eq0 c =
    let h = c.args.self in
    let first = c.group_scale-first.ensures ∙ ap (λ n. at_degree (scale_row n) h.degree) c.dimension_of.ensures in
    first ∙ one-read h.kind h.degree h.second (sym c.is_known.ensures ∙ c.if-not-is_known.false) (sym c.later_dimension-later.ensures ∙ c.if-later-eq0.true)

pub returns : goal.returns
returns c =
    let h = c.args.self in
    let first = c.group_scale-first.ensures ∙ ap (λ n. at_degree (scale_row n) h.degree) c.dimension_of.ensures in
    let other = c.group_scale.ensures ∙ ap (λ n. at_degree (scale_row n) h.second) c.later_dimension-later.ensures in
    ap₂ ◌*◌ first other
    ∙ two-read h.kind h.degree h.second (sym c.is_known.ensures ∙ c.if-not-is_known.false) (λ none. c.if-later-eq0.false (c.later_dimension-later.ensures ∙ none))
