-- After k turns each place below k holds its number, and the places are as many as before.
use Rattle.std.proofs.Common.{◌≡◌, ℕ, ◌<◌, length, get_or, pos}
use Rattle.decoding.specs.Numbers.{number_at}
use Rattle.decoding.proofs.read_coefficients.Given as goal

abbrev pub invariant-loop-k : goal.invariant-loop-k
invariant-loop-k l = (length l.out ≡ length l.initial.out) × ((j : ℕ) → j < l.k → get_or l.out j (pos 0) ≡ number_at 4 l.part j)
