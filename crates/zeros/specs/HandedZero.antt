-- Common zeros of a curve's net that is handed over, whatever its entries and its frame are, a frame of
-- determinant 0 included: it is nowhere exactly where it is the zero net (docs/SPECIFICATION.md, 'Common
-- zeros').
use Rattle.std.specs.Prelude.{ℕ, ◌+◌, ◌*◌, ◌<◌, ◌≤◌, ◌≡◌, ◌↔◌, pos, get_or}
use Rattle.projection.specs.Projection.{Four}
use Rattle.projection.specs.declared.Projection.{Projection}
use Rattle.projection.specs.declared.Projection.TheVariants.{Nowhere}
use Rattle.machine.specs.Steps.{Found}
use Rattle.machine.specs.Nets.{Net, step_of}
use Rattle.machine.specs.declared.Weights.{Weights}
use Rattle.machine.specs.declared.Call.TheVariants.{Point}

-- every component of every entry is 0
abbrev pub ZeroNet : Net → Type 0
ZeroNet net = (k c : ℕ) → k ≤ net.degree → c < 4 → get_or net.entries (4 * k + c) (pos 0) ≡ pos 0

abbrev pub HandedZeros : Type 0
HandedZeros =
    (net : Net) → net.kind ≡ 1 → (w : Weights) (point projected : Four) (at : Projection)
    → (step_of net (Point w)).answer ≡ Found point projected at → (at ≡ Nowhere) ↔ ZeroNet net
