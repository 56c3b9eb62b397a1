-- `scaled` meets its contract: the product of the two bounds fits.
use Prim.Native.Nat.{◌*◌, ◌≤◌, ◌<◌, ◌^◌}
use native.Mathlib.Omega.{arith}
use mathlib.Core.Path.{ap, ap₂, ◌∙◌}
use lib.IntN.{ℤ, nat_abs, ◌*ℤ◌}
use Rattle.integers.proofs.Signed.{seen, back, back_fits, abs-*-le}
use Rattle.nets.proofs.coordinates.scaled.Goals as goal

small : (a f : ℤ) → nat_abs a ≤ 281474976710656 → nat_abs f ≤ 2520 → nat_abs (a *ℤ f) < 2 ^ 63
small a f h k = let up : nat_abs (a *ℤ f) ≤ 281474976710656 * 2520 = abs-*-le a f h k in omega arith

pub returns : goal.returns
returns c =
    ap seen (ap₂ ◌*ℤ◌ (back_fits c.ranges.a) (back_fits c.ranges.factor)) ∙ back (c.args.a *ℤ c.args.factor) (small c.args.a c.args.factor c.requires.0 c.requires.1)
