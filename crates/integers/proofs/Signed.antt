-- What code on `i64` needs of the integers: a number of small size fits and is read back from its bits. Every bound is on the size, `nat_abs z ≤ N`, so that `omega`
-- can go on with it.
use mathlib.Core.Path.{◌≡◌, sym, ap, subst}
use mathlib.Core.Bool.{true}
use Prim.Native.Nat.{ℕ, ◌+◌, ◌*◌, ◌^◌, ◌≤◌, ◌<◌, suc-le-suc}
use native.Mathlib.Nat.{le_trans, le_of_eq, mul-le-mul}
use native.Mathlib.Omega.{arith}
use lib.Dec.{T, eqb→eq}
use lib.IntN.{ℤ, pos, negsuc, nat_abs, ◌+ℤ◌, ◌*ℤ◌}
use lib.Signed.{mag}
use mir.Syntax.{w64}
use mir.Val.{SFits, to_z, of_z}
use mir.Facts.{to_z-of_z}
use Rattle.integers.specs.Test.{eq_z}
use Rattle.integers.proofs.Laws.{nat_abs-*, nat_abs-+}

-- ---- sizes that fit

mag-le : (z : ℤ) → mag z ≤ nat_abs z
mag-le (pos n) = omega arith
mag-le (negsuc n) = omega arith

pub fits-abs : (z : ℤ) → nat_abs z < 2 ^ 63 → SFits w64 z
fits-abs z h = record { sfits = le_trans (suc-le-suc (mag-le z)) h }

-- a number as the machine reads it back from its bits
abbrev pub seen : ℤ → ℤ
seen v = to_z w64 (of_z w64 v)

-- where it fits that is the number
pub back_fits : {z : ℤ} → SFits w64 z → seen z ≡ z
back_fits f = to_z-of_z f

pub back : (z : ℤ) → nat_abs z < 2 ^ 63 → seen z ≡ z
back z h = back_fits (fits-abs z h)

pub abs-*-le : (a x : ℤ) {A X : ℕ} → nat_abs a ≤ A → nat_abs x ≤ X → nat_abs (a *ℤ x) ≤ A * X
abs-*-le a x h k = le_trans (le_of_eq (nat_abs-* a x)) (mul-le-mul h k)

pub abs-+-le : (x y : ℤ) {X Y : ℕ} → nat_abs x ≤ X → nat_abs y ≤ Y → nat_abs (x +ℤ y) ≤ X + Y
abs-+-le x y h k = let s : nat_abs (x +ℤ y) ≤ nat_abs x + nat_abs y = nat_abs-+ x y in omega arith

-- ---- the tests of `specs.Test`

eq_z-at : (a b : ℤ) → T (eq_z a b) → a ≡ b
eq_z-at (pos m) (pos n) t = ap pos (eqb→eq m n t)
eq_z-at (pos m) (negsuc n) t = absurd t
eq_z-at (negsuc m) (pos n) t = absurd t
eq_z-at (negsuc m) (negsuc n) t = ap negsuc (eqb→eq m n t)

pub eq_z→eq : (a b : ℤ) → eq_z a b ≡ true → a ≡ b
eq_z→eq a b h = eq_z-at a b (subst T (sym h) tt)
