-- How far the coordinates of an answer may be off (request E13): those of every finite point that a call
-- answers are within the bound of Accuracy.antt in projection, of the numbers projected, which at a common
-- zero of a curve are those of Projected.antt. 'The bound covers curves and all kinds of patch'.
use mathlib.Core.List.{List, Memᴰ}
use Rattle.std.specs.Prelude.{ℤ}
use Rattle.projection.specs.Accuracy.{AccuratePoint}
use Rattle.kinds.specs.Frames.{Frames}
use Rattle.machine.specs.Steps.{Answer, Taken, Found, Refused, answers}
use Rattle.machine.specs.Nets.{Net, step_of}
use Rattle.machine.specs.Comparison.{Polynomials, machine_step}
use Rattle.machine.specs.Carried.{LentCall, Returned, lent_step}
use Rattle.machine.specs.declared.Call.{Call}

-- only an answer to a point has coordinates
abbrev pub AccurateAnswer : Answer → Type 0
AccurateAnswer Taken = Unit {0}
AccurateAnswer (Found point projected at) = AccuratePoint projected at
AccurateAnswer (Refused k) = Unit {0}

-- each answer to every list of calls: those of demand 3 are on a first net, and these on any net that is
-- handed over, whatever its numbers are
pub record AccurateAnswers : Type 0 where
  pub handed : (net : Net) (calls : List Call) (a : Answer) → Memᴰ a (answers step_of net calls)
      → AccurateAnswer a
  -- on any lent places
  pub lent : (places : List ℤ) (calls : List LentCall) (r : Returned)
      → Memᴰ r (answers lent_step places calls) → AccurateAnswer r.answer
  -- and by the comparison machine, over any frames
  pub compared : (f : Polynomials) (frames : Frames) (calls : List Call) (a : Answer)
      → Memᴰ a (answers (machine_step f) frames calls) → AccurateAnswer a
