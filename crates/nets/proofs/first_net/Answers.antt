-- `first_net` meets its contract: the tests are the definition's, in its order, and only the last answer follows a write.
use borrow.Author.Rules.{rules}
use mathlib.Core.Path.{◌≡◌, sym, ap, ◌∙◌, subst}
use mathlib.Core.Logic.{inl, inr}
use Rattle.machine.specs.Numbers.{number_of, answered}
use Rattle.machine.proofs.Numbers.{never_zero}
use Rattle.machine.specs.Refusals.{first_failed}
use Rattle.machine.specs.Lent.{polynomials_from}
use Rattle.nets.specs.Calls.{before_first, FirstStored}
use Rattle.nets.proofs.FirstSteps.{frame-short, coefficients-short, places-short, judged-refused, net-stored}
use Rattle.nets.proofs.first_net.Goals as goal

pub returns-in_default : goal.returns-in_default
returns-in_default c =
    let a = c.args in
    let whole = frame-short a.head.kind a.head.degree a.head.second a.frame.now a.coefficients.now a.net.now c.in_default.ensures.cases in
    record { number = whole.0; places = whole.1 }

pub returns-then-coefficients-lt-PLACES : goal.returns-then-coefficients-lt-PLACES
returns-then-coefficients-lt-PLACES c =
    let a = c.args in
    let framed = c.in-Some.ensures.cases.enough in
    elim c.then-coefficients-lt-PLACES.either [
      | inl h ↦ let whole = coefficients-short a.head.kind a.head.degree a.head.second a.frame.now a.coefficients.now a.net.now framed h in record { number = whole.0; places = whole.1 }
      | inr h ↦ let whole = places-short a.head.kind a.head.degree a.head.second a.frame.now a.coefficients.now a.net.now framed h.0 h.1 in record { number = whole.0; places = whole.1 }
    ]

pub returns-in_err-judge_first : goal.returns-in_err-judge_first
returns-in_err-judge_first c =
    let a = c.args in
    let f = polynomials_from a.head.kind a.head.degree a.head.second a.coefficients.now in
    let first = c.in-Some.ensures.cases in
    let e = c.in_err-judge_first in
    let said : answered c.from_residual.result ≡ number_of e.field-0.0 = search rules in
    let whole =
    judged-refused a.head.kind a.head.degree a.head.second a.frame.now a.coefficients.now a.net.now first.enough c.if-coefficients-lt-PLACES.false c.if-net-lt-NET.false
    (number_of e.field-0.0) (e.ensures ∙ ap (λ l. first_failed (before_first f l)) first.same) (never_zero e.field-0.0) in
    record { number = said ∙ whole.0; places = whole.1 }

pub returns : goal.returns
returns c =
    let a = c.args in
    let f = polynomials_from a.head.kind a.head.degree a.head.second a.coefficients.now in
    let first = c.in-Some.ensures.cases in
    let m = c.make_first in
    let whole =
    net-stored a.head.kind a.head.degree a.head.second a.frame.now a.coefficients.now a.net.now first.enough c.if-coefficients-lt-PLACES.false c.if-net-lt-NET.false
    (sym (c.in_ok-judge_first.ensures ∙ ap (λ l. first_failed (before_first f l)) first.same)) (answered m.result) m.new.net
    (subst (λ l. FirstStored f l a.net.now (answered m.result) m.new.net) first.same m.ensures) in
    record { number = whole.0; places = whole.1 }
