-- The constant is the pattern of a NaN, and no other float is one.
use Rattle.std.proofs.Common.{◌≡◌, true, refl, sym, ◌∙◌}
use lib.Ieee.{Float, nan, inf, fin, binary64, is_nan, to_bits}
use Rattle.projection.proofs.bits.Goals as goal

nan-bits : (x : Float) → is_nan x ≡ true → 9221120237041090560 ≡ to_bits binary64 x
unfolding is_nan to_bits
nan-bits nan h = refl
nan-bits (inf s) h = cc
nan-bits (fin s m e) h = cc

pub returns-then-nan : goal.returns-then-nan
returns-then-nan c = nan-bits c.args.x (sym c.is_nan-nan.ensures.value ∙ c.if-nan.true)
