-- `mix` meets its contract: every product and sum on the way is at most the bound that the caller gives.
use Prim.Native.Nat.{◌+◌, ◌*◌, ◌<◌, ◌^◌}
use native.Mathlib.Omega.{arith}
use mathlib.Core.Path.{◌≡◌, sym, ap, ap₂, ◌∙◌, subst}
use lib.IntN.{ℤ, nat_abs, ◌+ℤ◌, ◌*ℤ◌}
use mir.Syntax.{w64}
use mir.Val.{SFits}
use Rattle.integers.proofs.Laws.{nat_abs-*, nat_abs-+}
use Rattle.integers.proofs.Signed.{seen, fits-abs, back, back_fits}
use Rattle.nets.proofs.rows.mix.Goals as goal

module _ (a x b y c z : ℤ) (fa : SFits w64 a) (fx : SFits w64 x) (fb : SFits w64 b) (fy : SFits w64 y) (fc : SFits w64 c) (fz : SFits w64 z)
    (small : nat_abs a * nat_abs x + nat_abs b * nat_abs y + nat_abs c * nat_abs z < 2 ^ 63) where
  product : (k v : ℤ) → SFits w64 k → SFits w64 v → seen k *ℤ seen v ≡ k *ℤ v
  product k v fk fv = ap₂ ◌*ℤ◌ (back_fits fk) (back_fits fv)

  first_small : nat_abs (a *ℤ x) < 2 ^ 63
  first_small = rw nat_abs-* (omega arith)

  second-small : nat_abs (b *ℤ y) < 2 ^ 63
  second-small = rw nat_abs-* (omega arith)

  third-small : nat_abs (c *ℤ z) < 2 ^ 63
  third-small = rw nat_abs-* (omega arith)

  rest-small : nat_abs (b *ℤ y +ℤ c *ℤ z) < 2 ^ 63
  rest-small = omega (arith, nat_abs-+ (b *ℤ y) (c *ℤ z), nat_abs-* b y, nat_abs-* c z)

  all_small : nat_abs (a *ℤ x +ℤ (b *ℤ y +ℤ c *ℤ z)) < 2 ^ 63
  all_small = omega (arith, nat_abs-+ (a *ℤ x) (b *ℤ y +ℤ c *ℤ z), nat_abs-+ (b *ℤ y) (c *ℤ z), nat_abs-* a x, nat_abs-* b y, nat_abs-* c z)

  -- the products and the inner sum as they are read back
  first-is : seen (seen a *ℤ seen x) ≡ a *ℤ x
  first-is = ap seen (product a x fa fx) ∙ back (a *ℤ x) first_small

  second_is : seen (seen b *ℤ seen y) ≡ b *ℤ y
  second_is = ap seen (product b y fb fy) ∙ back (b *ℤ y) second-small

  third-is : seen (seen c *ℤ seen z) ≡ c *ℤ z
  third-is = ap seen (product c z fc fz) ∙ back (c *ℤ z) third-small

  rest-is : seen (seen (seen b *ℤ seen y) +ℤ seen (seen c *ℤ seen z)) ≡ b *ℤ y +ℤ c *ℤ z
  rest-is = ap seen (ap₂ ◌+ℤ◌ second_is third-is) ∙ back (b *ℤ y +ℤ c *ℤ z) rest-small

  first_fits : SFits w64 (seen a *ℤ seen x)
  first_fits = subst (SFits w64) (sym (product a x fa fx)) (fits-abs (a *ℤ x) first_small)

  second_fits : SFits w64 (seen b *ℤ seen y)
  second_fits = subst (SFits w64) (sym (product b y fb fy)) (fits-abs (b *ℤ y) second-small)

  third-fits : SFits w64 (seen c *ℤ seen z)
  third-fits = subst (SFits w64) (sym (product c z fc fz)) (fits-abs (c *ℤ z) third-small)

  rest-fits : SFits w64 (seen (seen b *ℤ seen y) +ℤ seen (seen c *ℤ seen z))
  rest-fits = subst (SFits w64) (sym (ap₂ ◌+ℤ◌ second_is third-is)) (fits-abs (b *ℤ y +ℤ c *ℤ z) rest-small)

  all-fits : SFits w64 (seen (seen a *ℤ seen x) +ℤ seen (seen (seen b *ℤ seen y) +ℤ seen (seen c *ℤ seen z)))
  all-fits = subst (SFits w64) (sym (ap₂ ◌+ℤ◌ first-is rest-is)) (fits-abs (a *ℤ x +ℤ (b *ℤ y +ℤ c *ℤ z)) all_small)

  all-is : seen (seen (seen a *ℤ seen x) +ℤ seen (seen (seen b *ℤ seen y) +ℤ seen (seen c *ℤ seen z))) ≡ a *ℤ x +ℤ (b *ℤ y +ℤ c *ℤ z)
  all-is = ap seen (ap₂ ◌+ℤ◌ first-is rest-is) ∙ back (a *ℤ x +ℤ (b *ℤ y +ℤ c *ℤ z)) all_small

pub overflow_add-result : goal.overflow_add-result
overflow_add-result c = rest-fits c.args.a c.args.x c.args.b c.args.y c.args.c c.args.z c.ranges.a c.ranges.x c.ranges.b c.ranges.y c.ranges.c c.ranges.z c.requires

pub overflow_add-result-2 : goal.overflow_add-result-2
overflow_add-result-2 c = all-fits c.args.a c.args.x c.args.b c.args.y c.args.c c.args.z c.ranges.a c.ranges.x c.ranges.b c.ranges.y c.ranges.c c.ranges.z c.requires

pub returns : goal.returns
returns c = all-is c.args.a c.args.x c.args.b c.args.y c.args.c c.args.z c.ranges.a c.ranges.x c.ranges.b c.ranges.y c.ranges.c c.ranges.z c.requires
