-- Factorials up to 10!: the step from one to the next, and how large they are, by one computed test.
use Prim.Native.Nat.{ℕ, suc, ◌+◌, ◌*◌, ◌≤◌, ◌<◌}
use native.Mathlib.Nat.{mul_comm}
use native.Mathlib.Numerals.{add-one}
use mathlib.Core.Path.{◌≡◌, refl, ap, ◌∙◌}
use Rattle.polar.specs.Scale.{factorial}
use Rattle.kinds.proofs.Scales.{up-to}

pub factorial-next : (i p : ℕ) → p ≡ factorial i → p * (i + 1) ≡ factorial (i + 1)
factorial-next i p is = rw add-one (ap (λ q. q * suc i) is ∙ mul_comm (factorial i) (suc i))

pub factorial-up : (k : ℕ) → k < 11 → factorial k ≤ 3628800
factorial-up = up-to 3628800 factorial 11 refl
