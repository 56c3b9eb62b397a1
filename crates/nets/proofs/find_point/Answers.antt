-- `find_point` meets its contract: the tests are those of the table, in its order, and a point that passes them is found from the part that holds the entries.
use borrow.Author.Rules.{rules}
use borrow.Author.Tests.{le-leb, lt-leb}
use native.Mathlib.Omega.{arith}
use mathlib.Core.Path.{◌≡◌, sym, ◌∙◌}
use mathlib.Core.Logic.{inl, inr}
use lib.ListN.{length}
use Rattle.machine.specs.Numbers.{number_of, answered}
use Rattle.machine.proofs.Numbers.{never_zero}
use Rattle.machine.specs.declared.Call.TheVariants.{Point}
use Rattle.nets.proofs.InPlaces.{found-short, found-narrow, Stood, for-the-net, for-the-arguments, for-the-frame, found-kept, dimension-some, found-made}
use Rattle.nets.proofs.find_point.Goals as goal

pub returns-then-net-lt-NET : goal.returns-then-net-lt-NET
returns-then-net-lt-NET c =
    let a = c.args in
    elim c.then-net-lt-NET.either [
      | inl h ↦ let whole = found-short (Point a.weights) a.net.now a.found.now h in record { number = whole.0; found = whole.1 }
      | inr h ↦ let whole = found-narrow (Point a.weights) a.net.now a.found.now h.0 (lt-leb 8 (length a.found.now) h.1) in record { number = whole.0; found = whole.1 }
    ]

pub returns-in_err-judge_net : goal.returns-in_err-judge_net
returns-in_err-judge_net c =
    let a = c.args in
    let roomy = le-leb 8 (length a.found.now) (omega arith) in
    let stood : Stood a.net.now c.head_at-head.result = record { long = c.if-net-lt-NET.false; head_is = c.head_at-head.ensures } in
    let e = c.in_err-judge_net in
    let said : answered c.from_residual.result ≡ number_of e.field-0.0 = search rules in
    let refused = never_zero e.field-0.0 in
    let whole = found-kept stood (Point a.weights) a.found.now roomy refused (for-the-net stood (Point a.weights) a.found.now roomy refused e.ensures) in
    record { number = said ∙ whole.0; found = whole.1 }

pub returns-in_err-judge_weights : goal.returns-in_err-judge_weights
returns-in_err-judge_weights c =
    let a = c.args in
    let h = c.head_at-head.result in
    let roomy = le-leb 8 (length a.found.now) (omega arith) in
    let stood : Stood a.net.now h = record { long = c.if-net-lt-NET.false; head_is = c.head_at-head.ensures } in
    let e = c.in_err-judge_weights in
    let said : answered c.from_residual-in_err-judge_weights.result ≡ number_of e.field-0.0 = search rules in
    let refused = never_zero e.field-0.0 in
    let whole =
    found-kept stood (Point a.weights) a.found.now roomy refused
    (for-the-arguments stood (Point a.weights) a.found.now roomy (sym c.in_ok-judge_net.ensures) refused (e.ensures h.degree h.second)) in
    record { number = said ∙ whole.0; found = whole.1 }

pub returns-then-not-frame_within : goal.returns-then-not-frame_within
returns-then-not-frame_within c =
    let a = c.args in
    let h = c.head_at-head.result in
    let roomy = le-leb 8 (length a.found.now) (omega arith) in
    let stood : Stood a.net.now h = record { long = c.if-net-lt-NET.false; head_is = c.head_at-head.ensures } in
    let whole =
    found-kept stood (Point a.weights) a.found.now roomy {k = 12} (λ none. omega arith)
    (for-the-frame stood (Point a.weights) a.found.now roomy (sym c.in_ok-judge_net.ensures) (sym (c.in_ok-judge_weights.ensures h.degree h.second)) (sym (c.frame_within.ensures h.degree h.second) ∙ c.if-not-frame_within.true)) in
    record { number = whole.0; found = whole.1 }

pub returns : goal.returns
returns c =
    let a = c.args in
    let h = c.head_at-head.result in
    let m = c.make_point in
    let stood : Stood a.net.now h = record { long = c.if-net-lt-NET.false; head_is = c.head_at-head.ensures } in
    let whole =
    found-made stood (sym c.in_ok-judge_net.ensures) (sym (c.frame_within.ensures h.degree h.second) ∙ c.if-not-frame_within.false) a.weights a.found.now (le-leb 8 (length a.found.now) (omega arith))
    (answered m.result) m.new.found (sym (c.in_ok-judge_weights.ensures h.degree h.second)) m.ensures in
    record { number = whole.0; found = whole.1 }

pub judge_weights-requires : goal.judge_weights-requires
judge_weights-requires c =
    let stood : Stood c.args.net.now c.head_at-head.result = record { long = c.if-net-lt-NET.false; head_is = c.head_at-head.ensures } in
    dimension-some stood (sym c.in_ok-judge_net.ensures)

pub frame_within-requires : goal.frame_within-requires
frame_within-requires c =
    let stood : Stood c.args.net.now c.head_at-head.result = record { long = c.if-net-lt-NET.false; head_is = c.head_at-head.ensures } in
    (omega arith, dimension-some stood (sym c.in_ok-judge_net.ensures))
