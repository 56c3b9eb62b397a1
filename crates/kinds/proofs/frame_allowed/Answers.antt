-- The frame of each group is judged, and there are one, two or none of them.
use Rattle.std.proofs.Common.{◌≡◌, ℕ, suc, ◌*◌, Bool, List, ℤ, length, take, drop, sym, ap, ap₂, ◌∙◌, arith, rules}
use lib.ListN.{length-drop}
use lib.Seq.{take_all}
use borrow.Author.Tests.{eq-eqb}
use Rattle.kinds.specs.Kinds.{later_dimension}
use Rattle.kinds.specs.Frames.{frame_allowed}
use Rattle.kinds.proofs.Limits.{pairs-only}
use Rattle.kinds.proofs.Determinants.{no-frame, first_out, no_other, other-by}
use Rattle.kinds.proofs.frame_allowed.Goals as goal

-- what the test of the first frame found, at the dimension that is used
first-is : (numbers : List ℤ) {n d : ℕ} {r b : Bool} → n ≡ d → r ≡ frame_allowed (suc n) numbers → r ≡ b → frame_allowed (suc d) numbers ≡ b
first-is numbers e is found = ap (λ n. frame_allowed (suc n) numbers) (sym e) ∙ sym is ∙ found

pub returns-then-n-eq0 : goal.returns-then-n-eq0
returns-then-n-eq0 c p q = no-frame c.args.kind p q c.args.numbers.now (sym c.dimension_of-n.ensures ∙ c.if-n-eq0.true)

pub returns-else-group_allowed : goal.returns-else-group_allowed
returns-else-group_allowed c p q =
    let a = c.args in
    c.if-group_allowed.false
    ∙ first_out a.kind p q a.numbers.now (λ e. c.if-n-eq0.false (c.dimension_of-n.ensures ∙ e))
    (first-is a.numbers.now c.dimension_of-n.ensures c.group_allowed.ensures c.if-group_allowed.false)

pub returns-then-later-eq0 : goal.returns-then-later-eq0
returns-then-later-eq0 c p q =
    let a = c.args in
    eq-eqb c.later_dimension-later.result 0 c.if-later-eq0.true
    ∙ no_other a.kind p q a.numbers.now (λ e. c.if-n-eq0.false (c.dimension_of-n.ensures ∙ e))
    (first-is a.numbers.now c.dimension_of-n.ensures c.group_allowed.ensures c.if-group_allowed.true)
    (sym c.later_dimension-later.ensures ∙ c.if-later-eq0.true)

-- The second group has two vertices, and so has the first: the first pair's numbers are four of the nine.
pub returns-else-later-eq0 : goal.returns-else-later-eq0
returns-else-later-eq0 c p q =
    let a = c.args in
    let more : later_dimension a.kind ≡ 0 → ⊥ = λ e. c.if-later-eq0.false (c.later_dimension-later.ensures ∙ e) in
    let long : length a.numbers.now ≡ 9 = search rules in
    let last_five : take 5 (drop 4 a.numbers.now) ≡ drop 4 a.numbers.now =
    take_all 5 (drop 4 a.numbers.now) (simp length-drop (omega arith)) in
    let rest = last_five ∙ ap (λ n. drop (suc n * suc n) a.numbers.now) (sym (pairs-only a.kind more).1) in
    c.group_allowed-else-later-eq0.ensures
    ∙ ap₂ (λ n xs. frame_allowed (suc n) xs) c.later_dimension-later.ensures rest
    ∙ other-by a.kind p q a.numbers.now (λ e. c.if-n-eq0.false (c.dimension_of-n.ensures ∙ e))
    (first-is a.numbers.now c.dimension_of-n.ensures c.group_allowed.ensures c.if-group_allowed.true)
    more
