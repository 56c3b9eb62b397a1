-- Demand 3: along the list, the net is always the net over the comparison machine's frames, by the agreement at each single call.
use Prim.Native.Nat.{ℕ}
use native.Mathlib.Omega.{arith}
use mathlib.Core.Path.{◌≡◌, refl, sym, ap, ap₂, ◌∙◌}
use mathlib.Core.Logic.{◌↔◌}
use mathlib.Core.Bool.{Bool, true, false}
use mathlib.Core.List.{List, [], ◌∷◌}
use lib.IntN.{ℤ, nat_abs}
use borrow.Author.Tests.{leb-true, leb-false}
use Rattle.integers.specs.Sum.{upto}
use Rattle.integers.proofs.Sums.{upto-below}
use Rattle.projection.specs.Projection.{limit, in_range}
use Rattle.machine.specs.Refusals.{◌else◌, first_failed, all_pass}
use Rattle.integers.specs.Test.{all}
use Rattle.integers.proofs.All.{all-fails}
use Rattle.kinds.specs.Frames.{Frames, frames_of}
use Rattle.kinds.proofs.Frames.{framed-numbers}
use Rattle.machine.specs.Sizes.{named_by, all_named, call_tests}
use Rattle.machine.specs.Steps.{Refused, refusal_number, found_at, step_by, after, answers}
use Rattle.machine.specs.Nets.{step_of}
use Rattle.machine.specs.Comparison.{Polynomials, groups, machine_polar, machine_before, machine_tests, machine_accepted, machine_step, net_over}
use Rattle.machine.specs.First.{first_tests, first_refusal}
use Rattle.machine.specs.Demand3.{Beyond, frames_reached, Demand3}
use Rattle.machine.specs.declared.Call.{Call}
use Rattle.machine.specs.declared.Call.TheVariants as call
use Rattle.machine.proofs.Refusals.{none-failed, passed_first, row-passes}
use Rattle.machine.proofs.Frames.{in-range-start}
use Rattle.machine.proofs.Over.{Reached, named-at, call-agrees}

-- ---- along a list

pub record Along (f : Polynomials) (frames : Frames) (calls : List Call) : Type 0 where
  pub nets : after step_of (net_over f frames) calls ≡ net_over f (after (machine_step f) frames calls)
  pub answered : answers step_of (net_over f frames) calls ≡ answers (machine_step f) frames calls
  pub reached : Reached f (after (machine_step f) frames calls)

pub along : (f : Polynomials) (frames : Frames) → Reached f frames → (calls : List Call) → Along f frames calls
unfolding after answers
along f frames at [] = record { nets = refl; answered = refl; reached = at }
along f frames at (c ∷ cs) =
    let one = call-agrees f frames at c in
    let rest = along f (machine_step f frames c).left one.reached cs in
    record {
      nets = ap (λ n. after step_of n cs) one.nets ∙ rest.nets;
      answered = ap₂ ◌∷◌ one.answers (ap (λ n. answers step_of n cs) one.nets ∙ rest.answered);
      reached = rest.reached;
    }

-- ---- the start

pub start-reached : (f : Polynomials) (numbers : List ℤ) → first_refusal f numbers ≡ 0 → Reached f (frames_of (groups f) numbers)
unfolding first_refusal first_tests
start-reached f numbers ok =
    let passed = (none-failed (first_tests f numbers) refl).0 ok in
    record {
      long = framed-numbers (groups f) numbers;
      right = row-passes (first_tests f numbers) passed 0;
      fits = row-passes (first_tests f numbers) passed 3;
      near = in-range-start (groups f) numbers (row-passes (first_tests f numbers) passed 1);
    }

-- ---- sizes

-- an accepted call is not answered by a number of the table
accepted-number : (f : Polynomials) (frames : Frames) (c : Call) → refusal_number (machine_accepted f frames c).answer ≡ 0
unfolding machine_accepted found_at
accepted-number f frames (call.Move operation vertex weights) = refl
accepted-number f frames (call.Point weights) = refl

-- by whether all named values are in range
sized-by : (f : Polynomials) (frames : Frames) (c : Call) (b : Bool) → all_named (named_by (groups f) c) (machine_polar f frames c) ≡ b
    → ((step_by (first_failed (b else 10 ∷ [])) frames (machine_accepted f frames c)).answer ≡ Refused 10) ↔ Beyond f frames c
unfolding step_by all_named
sized-by f frames c true e = (
  λ r. absurd (never (sym (accepted-number f frames c) ∙ ap refusal_number r)),
  λ (es, i, m, k, beyond).
      let h = leb-true (nat_abs (machine_polar f frames c i es)) limit (named-at (named_by (groups f) c) (machine_polar f frames c) e i es k m) in
      absurd (omega arith),
)
  where
    never : ◌≡◌ {A = ℕ} 0 10 → ⊥
    never w = omega arith
sized-by f frames c false e = (
  λ r.
      let name = all-fails (λ es. all (λ i. in_range (machine_polar f frames c i es)) (upto 4)) (named_by (groups f) c) e in
      let component = all-fails (λ i. in_range (machine_polar f frames c i name.0)) (upto 4) name.2 in
      (name.0, component.0, name.1, upto-below 4 component.0 component.1, leb-false (nat_abs (machine_polar f frames c component.0 name.0)) limit component.2),
  λ beyond. refl,
)

pub sized : (f : Polynomials) (frames : Frames) → Reached f frames → (c : Call) → all_pass (machine_before f frames c) ≡ true
    → ((step_of (net_over f frames) c).answer ≡ Refused 10) ↔ Beyond f frames c
unfolding machine_step machine_tests machine_before call_tests
sized f frames at c ok =
    let b = all_named (named_by (groups f) c) (machine_polar f frames c) in
    let step : (step_of (net_over f frames) c).answer ≡ (step_by (first_failed (b else 10 ∷ [])) frames (machine_accepted f frames c)).answer =
    (call-agrees f frames at c).answers ∙ ap (λ k. (step_by k frames (machine_accepted f frames c)).answer) (passed_first (machine_before f frames c) (b else 10 ∷ []) ok) in
    let both = sized-by f frames c b refl in
    (λ r. both.0 (sym step ∙ r), λ beyond. step ∙ both.1 beyond)

-- ---- the theorem

pub demand-3 : Demand3
demand-3 f numbers ok calls =
    let start = start-reached f numbers ok in
    let here = along f (frames_of (groups f) numbers) start calls in
    record {
      net = here.nets;
      answered = here.answered;
      sized = λ c order.
          let both = sized f (frames_reached f numbers calls) here.reached c order in
          (λ r. both.0 (sym (ap (λ n. (step_of n c).answer) here.nets) ∙ r), λ beyond. ap (λ n. (step_of n c).answer) here.nets ∙ both.1 beyond);
      same = λ other reached.
          let equal = (along f (frames_of (groups f) numbers) start other).nets ∙ ap (net_over f) reached ∙ sym here.nets in
          (equal, λ more. ap (λ n. answers step_of n more) equal);
    }
