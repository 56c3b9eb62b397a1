-- `put_signed` meets its contract: by the sign the text is the digits alone, or a minus sign before them.
use Prim.Native.Nat.{ℕ}
use mathlib.Core.Path.{◌≡◌, sym, ap, ◌∙◌}
use mathlib.Core.Bool.{true, false}
use mathlib.Core.List.{◌∷◌}
use lib.IntN.{ℤ, pos, nat_abs}
use lib.Signed.{lt_z}
use Rattle.integers.proofs.Signed.{seen, back_fits}
use Rattle.text.specs.Words.{decimal, signed_decimal}
use Rattle.text.proofs.Decimal.{with-sign, without_sign}
use Rattle.text.proofs.Then.{room_as, wrote_as}
use Rattle.text.proofs.words.Page.put_signed.Goals as goal

-- the text by the sign, n being the absolute value that the code computes
module _ {v : ℤ} {n : ℕ} (whole : seen v ≡ v) (is : n ≡ nat_abs (seen v)) where
  negative : lt_z (seen v) (pos 0) ≡ true → signed_decimal v ≡ 45 ∷ decimal n
  negative below = ap signed_decimal (sym whole) ∙ with-sign (seen v) below ∙ ap (λ k. 45 ∷ decimal k) (sym is)

  positive : lt_z (seen v) (pos 0) ≡ false → signed_decimal v ≡ decimal n
  positive above = ap signed_decimal (sym whole) ∙ without_sign (seen v) above ∙ ap decimal (sym is)

pub put_labelled-requires : goal.put_labelled-requires
put_labelled-requires c = room_as (negative (back_fits c.ranges.v) c.magnitude.ensures c.if-v-lt0.true) c.requires

pub returns-then-v-lt0 : goal.returns-then-v-lt0
returns-then-v-lt0 c = wrote_as (sym (negative (back_fits c.ranges.v) c.magnitude.ensures c.if-v-lt0.true)) c.put_labelled.ensures

pub put_decimal-requires : goal.put_decimal-requires
put_decimal-requires c = room_as (positive (back_fits c.ranges.v) c.magnitude-2.ensures c.if-v-lt0.false) c.requires

pub returns : goal.returns
returns c = wrote_as (sym (positive (back_fits c.ranges.v) c.magnitude-2.ensures c.if-v-lt0.false)) c.put_decimal.ensures
