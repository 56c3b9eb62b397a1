-- `take_move` meets its contract: the tests are those of the table, in its order, and a move that passes them is made.
use borrow.Author.Rules.{rules}
use native.Mathlib.Omega.{arith}
use mathlib.Core.Path.{◌≡◌, refl, sym, ◌∙◌}
use mathlib.Core.List.{[]}
use Rattle.machine.specs.Numbers.{number_of, answered}
use Rattle.machine.proofs.Numbers.{never_zero}
use Rattle.machine.specs.declared.Call.TheVariants.{Move}
use Rattle.nets.proofs.InPlaces.{places-short, Stood, for-the-net, for-the-arguments, for-the-frame, places-kept, dimension-some, move-made}
use Rattle.nets.proofs.take_move.Goals as goal

pub returns-then-net-lt-NET : goal.returns-then-net-lt-NET
returns-then-net-lt-NET c =
    let a = c.args in
    let whole = places-short (Move a.operation a.vertex a.weights) a.net.now [] c.if-net-lt-NET.true in
    record { number = whole.0; places = whole.1 }

pub returns-in_err-judge_net : goal.returns-in_err-judge_net
returns-in_err-judge_net c =
    let a = c.args in
    let move = Move a.operation a.vertex a.weights in
    let stood : Stood a.net.now c.head_at-head.result = record { long = c.if-net-lt-NET.false; head_is = c.head_at-head.ensures } in
    let e = c.in_err-judge_net in
    let said : answered c.from_residual.result ≡ number_of e.field-0.0 = search rules in
    let refused = never_zero e.field-0.0 in
    let whole = places-kept stood move [] refl refused (for-the-net stood move [] refl refused e.ensures) in
    record { number = said ∙ whole.0; places = whole.1 }

pub returns-in_err-judge_vertex : goal.returns-in_err-judge_vertex
returns-in_err-judge_vertex c =
    let a = c.args in
    let h = c.head_at-head.result in
    let move = Move a.operation a.vertex a.weights in
    let stood : Stood a.net.now h = record { long = c.if-net-lt-NET.false; head_is = c.head_at-head.ensures } in
    let e = c.in_err-judge_vertex in
    let said : answered c.from_residual-in_err-judge_vertex.result ≡ number_of e.field-0.0 = search rules in
    let refused = never_zero e.field-0.0 in
    let whole = places-kept stood move [] refl refused (for-the-arguments stood move [] refl (sym c.in_ok-judge_net.ensures) refused (e.ensures h.degree h.second)) in
    record { number = said ∙ whole.0; places = whole.1 }

pub returns-then-not-frame_within : goal.returns-then-not-frame_within
returns-then-not-frame_within c =
    let a = c.args in
    let h = c.head_at-head.result in
    let move = Move a.operation a.vertex a.weights in
    let stood : Stood a.net.now h = record { long = c.if-net-lt-NET.false; head_is = c.head_at-head.ensures } in
    let whole =
    places-kept stood move [] refl {k = 12} (λ none. omega arith)
    (for-the-frame stood move [] refl (sym c.in_ok-judge_net.ensures) (sym (c.in_ok-judge_vertex.ensures h.degree h.second)) (sym (c.frame_within.ensures h.degree h.second) ∙ c.if-not-frame_within.true)) in
    record { number = whole.0; places = whole.1 }

pub returns : goal.returns
returns c =
    let a = c.args in
    let h = c.head_at-head.result in
    let m = c.make_moved in
    let stood : Stood a.net.now h = record { long = c.if-net-lt-NET.false; head_is = c.head_at-head.ensures } in
    let whole =
    move-made stood (sym c.in_ok-judge_net.ensures) (sym (c.frame_within.ensures h.degree h.second) ∙ c.if-not-frame_within.false) a.operation a.vertex a.weights
    (answered m.result) m.new.net (sym (c.in_ok-judge_vertex.ensures h.degree h.second)) m.ensures in
    record { number = whole.0; places = whole.1 }

pub judge_vertex-requires : goal.judge_vertex-requires
judge_vertex-requires c =
    let stood : Stood c.args.net.now c.head_at-head.result = record { long = c.if-net-lt-NET.false; head_is = c.head_at-head.ensures } in
    dimension-some stood (sym c.in_ok-judge_net.ensures)

pub frame_within-requires : goal.frame_within-requires
frame_within-requires c =
    let stood : Stood c.args.net.now c.head_at-head.result = record { long = c.if-net-lt-NET.false; head_is = c.head_at-head.ensures } in
    (omega arith, dimension-some stood (sym c.in_ok-judge_net.ensures))
