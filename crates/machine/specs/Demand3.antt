-- Demand 3 (docs/SPECIFICATION.md, 'The three demands'), as one statement about every list of calls, for all kinds together.
--
-- f are a record's polynomials and `numbers` those of its frame; they are accepted when `first_refusal` is 0. `calls` is any list of replaces, flips, points and
-- broken calls of every sort, the empty list among them. `step_of` is what the library's functions are proved to do; `machine_step` is the comparison machine, which
-- keeps the polynomials and an exact frame and sees no net.
use Rattle.std.specs.Prelude.{ℕ, ◌<◌, ◌≡◌, true, ◌↔◌, ℤ, nat_abs}
use mathlib.Core.List.{List, Memᴰ}
use Rattle.projection.specs.Projection.{limit}
use Rattle.machine.specs.Refusals.{all_pass}
use Rattle.kinds.specs.Frames.{Frames, frames_of}
use Rattle.machine.specs.Sizes.{named_by}
use Rattle.machine.specs.Steps.{Refused, after, answers}
use Rattle.machine.specs.Nets.{Net, step_of}
use Rattle.machine.specs.Comparison.{Polynomials, groups, net_over, machine_polar, machine_before, machine_step}
use Rattle.machine.specs.First.{first_net, first_refusal}
use Rattle.machine.specs.declared.Call.{Call}

-- one of the polar values that a call names has a component beyond 2 to the 48th in absolute value
abbrev pub Beyond : Polynomials → Frames → Call → Type 0
Beyond f frames call = (es : List (List ℕ)) × (c : ℕ) × Memᴰ es (named_by (groups f) call) × (c < 4) × (limit < nat_abs (machine_polar f frames call c es))

module _ (f : Polynomials) (numbers : List ℤ) where
  -- the net after a list of calls, and the comparison machine's frames
  abbrev pub net_reached : List Call → Net
  net_reached calls = after step_of (first_net f numbers) calls

  abbrev pub frames_reached : List Call → Frames
  frames_reached calls = after (machine_step f) (frames_of (groups f) numbers) calls

  pub record Guaranteed (calls : List Call) : Type 0 where
    -- the net carries the frames that the accepted moves give, its entries are the scaled polar values over them, and it stores the largest component of these
    pub net : net_reached calls ≡ net_over f (frames_reached calls)
    -- every call got the answer of the comparison machine
    pub answered : answers step_of (first_net f numbers) calls ≡ answers (machine_step f) (frames_of (groups f) numbers) calls
    -- a further move or point that is otherwise in order is refused for size exactly when one of its named polar values is beyond the limit
    pub sized : (call : Call) → all_pass (machine_before f (frames_reached calls) call) ≡ true → ((step_of (net_reached calls) call).answer ≡ Refused 10) ↔ Beyond f (frames_reached calls) call
    -- another list that reaches the same frames leaves the same net, and every further list gets the same answers after the one as after the other
    pub same : (other : List Call) → frames_reached other ≡ frames_reached calls
        → (net_reached other ≡ net_reached calls) × ((more : List Call) → answers step_of (net_reached other) more ≡ answers step_of (net_reached calls) more)

abbrev pub Demand3 : Type 0
Demand3 = (f : Polynomials) (numbers : List ℤ) → first_refusal f numbers ≡ 0 → (calls : List Call) → Guaranteed f numbers calls
