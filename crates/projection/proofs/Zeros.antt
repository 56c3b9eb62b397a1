-- Four zeros, by each of the numbers: a number whose absolute value is 0 is 0.
use mathlib.Core.Path.{◌≡◌}
use mathlib.Core.Bool.{true, ◌&&◌}
use borrow.Author.Tests.{eqb-true}
use lib.IntN.{ℤ, pos, nat_abs}
use Rattle.integers.proofs.All.{and_parts}
use Rattle.integers.proofs.Laws.{nat_abs-zero}
use Rattle.projection.specs.Projection.{is_zero, Four, four, four_zeros, is_four_zeros}

pub zero_is : (x : ℤ) → is_zero x ≡ true → x ≡ pos 0
zero_is x h = nat_abs-zero x (eqb-true (nat_abs x) 0 h)

pub zeros-are : (p : Four) → is_four_zeros p ≡ true → p ≡ four_zeros
zeros-are p h =
    let both = and_parts (is_zero p.x && is_zero p.y && is_zero p.z) (is_zero p.w) h in
    let three = and_parts (is_zero p.x && is_zero p.y) (is_zero p.z) both.0 in
    let two = and_parts (is_zero p.x) (is_zero p.y) three.0 in
    λ i. four (zero_is p.x two.0 i) (zero_is p.y two.1 i) (zero_is p.z three.1 i) (zero_is p.w both.1 i)
