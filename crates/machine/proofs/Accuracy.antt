-- Every finite point that a call answers is within the bound: an answer to a point holds the projection of
-- its numbers projected (`found-at`), whichever machine gives it, and the rest follows along the list
-- (`each`).
use Prim.Native.Nat.{ℕ, zero, suc}
use mathlib.Core.Path.{sym, subst}
use mathlib.Core.List.Memᴰ
use mathlib.Core.List.{List, [], ◌∷◌, Memᴰ}
use lib.IntN.{ℤ}
use Rattle.projection.specs.Projection.{Four, four_zeros, first_not_zeros}
use Rattle.projection.specs.declared.Projection.{Projection}
use Rattle.projection.specs.declared.Projection.TheVariants.{Finite}
use Rattle.projection.proofs.Bound.{accurate-found}
use Rattle.projection.proofs.AllSamples.{fifths, right, wrong, wrong-x}
use Rattle.kinds.specs.Frames.{Frames}
use Rattle.machine.specs.Refusals.{first_failed}
use Rattle.machine.specs.Steps.{Answer, Found, found_at, Step, step_by, answers}
use Rattle.machine.specs.Nets.{Net, net_tests, accepted, step_of}
use Rattle.machine.specs.Comparison.{Polynomials, machine_tests, machine_accepted, machine_step}
use Rattle.machine.specs.Accuracy.{AccurateAnswer, AccurateAnswers}
use Rattle.machine.specs.Lent.{call_number, call_found}
use Rattle.machine.specs.Carried.{four_at, answer_by, lent_step}
use Rattle.machine.specs.declared.Call.{Call}
use Rattle.machine.specs.declared.Call.TheVariants as call

-- an answer of which one coordinate is not near is not accurate, though its point is four zeros
abbrev wrong_at : Projection
wrong_at = Finite (record { x = wrong; y = right; z = right })

pub wrong_answer : AccurateAnswer (Found four_zeros fifths wrong_at) → ⊥
wrong_answer = wrong-x

-- ---- along a list

-- what holds of each answer that a step gives holds of each answer to a list
each : {C A S : Type 0} (P : A → Type 0) (step : S → C → Step A S) → ((s : S) (c : C) → P (step s c).answer)
    → (s : S) (calls : List C) (a : A) → Memᴰ a (answers step s calls) → P a
unfolding answers
each P step one s [] a m = absurd (Memᴰ.not-nil m)
each P step one s (c ∷ cs) a (Memᴰ.head e) = subst P (sym e) (one s c)
each P step one s (c ∷ cs) a (Memᴰ.tail m) = each P step one (step s c).left cs a m

-- ---- one call

found-at : (point : Four) (at_zero : List Four) → AccurateAnswer (found_at point at_zero)
unfolding found_at
found-at point at_zero = accurate-found point (first_not_zeros (point ∷ at_zero))

step_by-accurate : {S : Type 0} (k : ℕ) (state : S) (step : Step Answer S) → AccurateAnswer step.answer
    → AccurateAnswer (step_by k state step).answer
unfolding step_by
step_by-accurate zero state step h = h
step_by-accurate (suc k) state step h = tt

net-accurate : (net : Net) (c : Call) → AccurateAnswer (accepted net c).answer
unfolding accepted
net-accurate net (call.Move operation vertex weights) = tt
net-accurate net (call.Point weights) = found-at _ _

machine-accurate : (f : Polynomials) (frames : Frames) (c : Call) → AccurateAnswer (machine_accepted f frames c).answer
unfolding machine_accepted
machine-accurate f frames (call.Move operation vertex weights) = tt
machine-accurate f frames (call.Point weights) = found-at _ _

returned-accurate : (number : ℕ) (c : Call) (found : List ℤ) → AccurateAnswer (answer_by number c found)
unfolding answer_by
returned-accurate (suc k) c found = tt
returned-accurate zero (call.Move operation vertex weights) found = tt
returned-accurate zero (call.Point weights) found = accurate-found (four_at 0 found) (four_at 4 found)

-- ---- lists of calls

pub accurate-answers : AccurateAnswers
unfolding step_of lent_step machine_step
accurate-answers =
    record {
      handed = each AccurateAnswer step_of
          (λ net c. step_by-accurate (first_failed (net_tests net c)) net (accepted net c) (net-accurate net c));
      lent = each (λ r. AccurateAnswer r.answer) lent_step
          (λ lent c.
          returned-accurate (call_number c.call lent c.found) c.call (call_found c.call lent c.found));
      compared = λ f.
          each AccurateAnswer (machine_step f)
          (λ frames c.
          step_by-accurate (first_failed (machine_tests f frames c)) frames (machine_accepted f frames c) (machine-accurate f frames c));
    }
