-- A number as a byte, by the two tests of the code: below 0, and at most 255.
use Prim.Native.Nat.{◌≤◌, ◌<◌}
use native.Mathlib.Omega.{arith}
use mathlib.Core.Path.{◌≡◌, refl, sym, ap}
use mathlib.Core.Bool.{true, false, cond}
use borrow.Author.Tests.{ltb-true, leb-true}
use lib.Dec.{T}
use lib.IntN.{ℤ, pos, negsuc, nat_abs}
use lib.Signed.{lt_z, le_z, non_neg}
use mir.Syntax.{w8}
use mir.Val.{Fits}
use Rattle.integers.proofs.All.{clash}
use Rattle.machine.specs.Lent.{byte_of}

pub below : (v : ℤ) → lt_z v (pos 0) ≡ true → 255 ≡ byte_of v
below (pos n) h = let l : n < 0 = ltb-true n 0 h in absurd (omega arith)
below (negsuc n) h = refl

pub above : (v : ℤ) → le_z v (pos 255) ≡ false → 255 ≡ byte_of v
above (pos n) h = sym (ap (λ t. cond t n 255) h)
above (negsuc n) h = refl

pub within : (v : ℤ) → lt_z v (pos 0) ≡ false → le_z v (pos 255) ≡ true → nat_abs v ≡ byte_of v
within (pos n) h k = sym (ap (λ t. cond t n 255) k)
within (negsuc n) h k = absurd (clash refl h)

pub fits : (v : ℤ) → lt_z v (pos 0) ≡ false → le_z v (pos 255) ≡ true → T (non_neg v) × Fits w8 (nat_abs v)
fits (pos n) h k = (tt, record { fits = let l : n ≤ 255 = leb-true n 255 k in omega arith })
fits (negsuc n) h k = absurd (clash refl h)
