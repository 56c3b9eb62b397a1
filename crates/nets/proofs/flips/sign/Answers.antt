-- `sign` meets its contract: the negative of a number in range fits, and the remainder by 2 tells odd from even.
use Prim.Native.Nat.{◌%◌, ◌≤◌, ◌<◌, ◌^◌}
use native.Mathlib.Omega.{arith}
use mathlib.Core.Path.{◌≡◌, sym, ap, ◌∙◌}
use mathlib.Core.Bool.{cond}
use lib.IntN.{ℤ, pos, neg_ℤ, nat_abs, ◌-ℤ◌, +ℤ_idl}
use mir.Syntax.{w64}
use mir.Val.{SFits}
use Rattle.integers.proofs.Laws.{nat_abs-neg}
use Rattle.integers.proofs.Signed.{seen, back, back_fits}
use Rattle.nets.proofs.Signs.{even_odd}
use Rattle.nets.proofs.flips.sign.Goals as goal

-- nought less a number in range
less : (x : ℤ) → SFits w64 x → pos 0 -ℤ seen x ≡ neg_ℤ x
less x f = ap (λ z. pos 0 -ℤ z) (back_fits f) ∙ +ℤ_idl (neg_ℤ x)

small : (x : ℤ) → nat_abs x ≤ 281474976710656 → nat_abs (neg_ℤ x) < 2 ^ 63
small x h = omega (arith, nat_abs-neg x)

pub returns-then-count-eq0 : goal.returns-then-count-eq0
returns-then-count-eq0 c =
    back_fits c.ranges.x ∙ sym (ap (λ b. cond b (neg_ℤ c.args.x) c.args.x) ((even_odd c.args.count).0 c.if-count-eq0.true))

pub returns : goal.returns
returns c =
    let left : c.args.count % 2 ≡ 1 = omega (arith, c.if-count-eq0.false) in
    ap seen (less c.args.x c.ranges.x) ∙ back (neg_ℤ c.args.x) (small c.args.x c.requires)
    ∙ sym (ap (λ b. cond b (neg_ℤ c.args.x) c.args.x) ((even_odd c.args.count).1 left))
