-- The calls that the exported functions make, by their arguments: four weights each, of which kind and call leave some unused.
use Rattle.std.specs.Prelude.{ℕ, ℤ}
use Rattle.machine.specs.declared.Weights.{Weights}
use Rattle.machine.specs.declared.Call.{Call}
use Rattle.machine.specs.declared.Call.TheVariants.{Move, Point}

abbrev pub four_weights : ℤ → ℤ → ℤ → ℤ → Weights
four_weights r s t u = record { r = r; s = s; t = t; u = u }

abbrev pub move_call : ℕ → ℕ → ℤ → ℤ → ℤ → ℤ → Call
move_call operation vertex r s t u = Move operation vertex (four_weights r s t u)

abbrev pub point_call : ℤ → ℤ → ℤ → ℤ → Call
point_call r s t u = Point (four_weights r s t u)
