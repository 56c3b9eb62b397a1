-- `factorial_of` meets its contract: after i turns the product is i!, which is small enough up to 10.
use Prim.Native.Nat.{◌+◌}
use native.Mathlib.Omega.{arith}
use Rattle.nets.proofs.Factorials.{factorial-next, factorial-up}
use Rattle.nets.proofs.coordinates.factorial_of.Goals as goal

pub overflow_mul-product : goal.overflow_mul-product
overflow_mul-product c =
    let next = factorial-next c.loop-i.i c.loop-i.product c.loop-i.invariant in
    let small = factorial-up (c.loop-i.i + 1) (omega (arith, c.loop-i-test.true)) in
    omega (arith, next, small)
