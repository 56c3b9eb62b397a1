-- The numbers of the table of refusals (docs/RECORDS.md, 'Refusals') by the cases that the code has for them,
-- and the number of an answer, which is 0 where nothing is refused.
use Rattle.std.specs.Prelude.{ℕ, Result, Ok, Err}
use Rattle.machine.specs.declared.Refusal.{Refusal}
use Rattle.machine.specs.declared.Refusal.TheVariants as refusal

abbrev pub number_of : Refusal → ℕ
number_of refusal.CutShort = 1
number_of refusal.Tag = 2
number_of refusal.Length = 3
number_of refusal.Kind = 4
number_of refusal.Frame = 5
number_of refusal.Coefficient = 6
number_of refusal.FirstNet = 7
number_of refusal.Argument = 8
number_of refusal.NoWeight = 9
number_of refusal.Range = 10
number_of refusal.Short = 11
number_of refusal.FrameRange = 12

-- the number of an answer
abbrev pub answered : {A : Type 0} → Result A Refusal → ℕ
answered (Ok value) = 0
answered (Err r) = number_of r
