-- No refusal has the number 0, which stands for the answer that nothing is refused: one case for each.
use Rattle.std.proofs.Common.{◌≡◌}
use Rattle.machine.specs.Numbers.{number_of}
use Rattle.machine.specs.declared.Refusal.{Refusal}
use Rattle.machine.specs.declared.Refusal.TheVariants.{
  CutShort,
  Tag,
  Length,
  Kind,
  Frame,
  Coefficient,
  FirstNet,
  Argument,
  NoWeight,
  Range,
  Short,
  FrameRange,
}

pub never_zero : (r : Refusal) → number_of r ≡ 0 → ⊥
never_zero CutShort h = cc
never_zero Tag h = cc
never_zero Length h = cc
never_zero Kind h = cc
never_zero Frame h = cc
never_zero Coefficient h = cc
never_zero FirstNet h = cc
never_zero Argument h = cc
never_zero NoWeight h = cc
never_zero Range h = cc
never_zero Short h = cc
never_zero FrameRange h = cc
