-- What a call finds is in range (docs/SPECIFICATION.md, 'Moves and points', 'Projection'): the point is one of the polar values that the call names, so it has passed the size rule,
-- and its projection is a finite point, a direction or nowhere. A caller who projects what was found never meets the projection's refusal 10.
use Rattle.std.specs.Prelude.{◌≡◌}
use Rattle.projection.specs.Projection.{FourInRange, refusal}
use Rattle.machine.specs.Steps.{Answer, Taken, Found, Refused}
use Rattle.machine.specs.Nets.{Net, step_of}
use Rattle.machine.specs.declared.Call.{Call}

-- the four components of a found point and the four numbers projected are in range, and the projection is not
-- refused; the other answers have no components
abbrev pub AnswerInRange : Answer → Type 0
AnswerInRange Taken = Unit {0}
AnswerInRange (Found point projected at) = FourInRange point × FourInRange projected × (refusal at ≡ 0)
AnswerInRange (Refused k) = Unit {0}

-- on any handed net, whatever its numbers are
abbrev pub FoundInRange : Type 0
FoundInRange = (net : Net) (call : Call) → AnswerInRange (step_of net call).answer
