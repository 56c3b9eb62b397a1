-- `judge_first` meets its contract: the tests are the table's, in its order.
use Prim.Native.Nat.{ℕ, ◌≤◌}
use native.Mathlib.Omega.{arith}
use mathlib.Core.Path.{◌≡◌, refl, sym, ap, ◌∙◌}
use mathlib.Core.Bool.{true}
use lib.ListN.{take}
use lib.Seq.{length-take-le}
use Rattle.integers.specs.Test.{within, all}
use Rattle.kinds.specs.Kinds.{known}
use Rattle.kinds.specs.Heads.{head_groups}
use Rattle.kinds.specs.Counts.{NumberCount}
use Rattle.kinds.specs.declared.Head.{Head}
use Rattle.kinds.proofs.Counts.{entries_fit}
use Rattle.machine.specs.Lent.{polynomials_from}
use Rattle.nets.proofs.FirstSteps.{judged-by}
use Rattle.nets.proofs.first.judge_first.Goals as goal

pub returns-then-not-is_known : goal.returns-then-not-is_known
returns-then-not-is_known c =
    let a = c.args in
    judged-by (polynomials_from a.head.kind a.head.degree a.head.second a.coefficients.now) a.frame.now (sym c.is_known.ensures ∙ c.if-not-is_known.true) refl refl

pub returns-then-not-frame_allowed : goal.returns-then-not-frame_allowed
returns-then-not-frame_allowed c =
    let a = c.args in
    judged-by (polynomials_from a.head.kind a.head.degree a.head.second a.coefficients.now) a.frame.now (sym c.is_known.ensures ∙ c.if-not-is_known.false)
    (sym (c.frame_allowed.ensures a.head.degree a.head.second) ∙ c.if-not-frame_allowed.true) refl

-- the coefficients are there
few : (head : Head) (count : ℕ) → known head.kind head.degree head.second ≡ true → NumberCount (head_groups head) count → count ≤ 180
few head count right counted = let fit = entries_fit head.kind head.degree head.second right in omega (arith, counted.entries)

pub slice_bounds-entries_within-end : goal.slice_bounds-entries_within-end
slice_bounds-entries_within-end c =
    let count = c.number_count in
    let fit = few c.args.head count.result (sym c.is_known.ensures ∙ c.if-not-is_known.false) count.ensures in
    sym (length-take-le count.result c.args.coefficients.now (omega arith))

pub entries_within-requires : goal.entries_within-requires
entries_within-requires c =
    let count = c.number_count in
    let fit = few c.args.head count.result (sym c.is_known.ensures ∙ c.if-not-is_known.false) count.ensures in
    record { entries = _; four = length-take-le count.result c.args.coefficients.now (omega arith) ∙ count.ensures.coefficients }

pub returns-then-not-entries_within : goal.returns-then-not-entries_within
returns-then-not-entries_within c =
    let a = c.args in
    let count = c.number_count in
    judged-by (polynomials_from a.head.kind a.head.degree a.head.second a.coefficients.now) a.frame.now (sym c.is_known.ensures ∙ c.if-not-is_known.false)
    (sym (c.frame_allowed.ensures a.head.degree a.head.second) ∙ c.if-not-frame_allowed.false)
    (sym (c.entries_within.ensures ∙ ap (λ k. all (within 1048576) (take k a.coefficients.now)) count.ensures.coefficients) ∙ c.if-not-entries_within.true)

pub returns : goal.returns
returns c =
    let a = c.args in
    let count = c.number_count in
    judged-by (polynomials_from a.head.kind a.head.degree a.head.second a.coefficients.now) a.frame.now (sym c.is_known.ensures ∙ c.if-not-is_known.false)
    (sym (c.frame_allowed.ensures a.head.degree a.head.second) ∙ c.if-not-frame_allowed.false)
    (sym (c.entries_within.ensures ∙ ap (λ k. all (within 1048576) (take k a.coefficients.now)) count.ensures.coefficients) ∙ c.if-not-entries_within.false)
