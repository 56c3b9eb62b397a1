-- `blend` meets its contract: with two vertices the net is one row, with three a row for each number of copies of the second and third together.
use borrow.Author.Rules.{rules}
use Prim.Native.Nat.{◌+◌, ◌*◌}
use native.Mathlib.Omega.{arith}
use mathlib.Core.Path.{ap, ◌∙◌}
use lib.IntN.{nat_abs}
use Rattle.integers.proofs.Signed.{seen}
use Rattle.entries.specs.Rows.{size}
use Rattle.nets.specs.Rows.{weight_sum}
use Rattle.nets.proofs.Row.{read_as}
use Rattle.nets.proofs.Ranks.{size-curve}
use Rattle.nets.proofs.Blended.{bounded-less, curve-made, patch-made}
use Rattle.nets.proofs.rows.blend.Goals as goal

pub overflow_mul-width : goal.overflow_mul-width
overflow_mul-width c =
    let whole = ap (λ n. size c.args.width n c.args.degree) c.if-dimension-eq1.true ∙ size-curve c.args.width c.args.degree in
    omega (arith, whole, c.requires.0.room)

pub blend_row-requires : goal.blend_row-requires
blend_row-requires c =
    let a = c.args in
    let whole = ap (λ n. size a.width n a.degree) c.if-dimension-eq1.true ∙ size-curve a.width a.degree in
    let read = read_as a.weights (omega arith) (omega arith) (omega arith) in (
      c.requires.0.some,
      search rules,
      omega (arith, whole, c.requires.2),
      bounded-less a.xs.now (size a.width a.dimension a.degree) 0 (0 + a.width * a.degree + a.width) (weight_sum a.weights)
          (nat_abs (seen a.weights.r) + nat_abs (seen a.weights.s) + 0) (omega (arith, whole)) (omega (arith, ap nat_abs read.r, ap nat_abs read.s)) c.requires.3,
    )

pub returns-then-dimension-eq1 : goal.returns-then-dimension-eq1
returns-then-dimension-eq1 c =
    let a = c.args in
    let read = read_as a.weights (omega arith) (omega arith) (omega arith) in
    curve-made a.limit a.width a.dimension c.requires.0.some a.xs.now a.weights c.blend_row.result c.blend_row.new.xs a.degree c.if-dimension-eq1.true c.requires.1 c.requires.2
    (seen a.weights.r) (seen a.weights.s) read.r read.s c.blend_row.ensures.0 c.blend_row.ensures.1

pub returns : goal.returns
returns c =
    let a = c.args in
    patch-made a.limit a.width a.dimension c.requires.0.some a.xs.now a.weights c.blend_rows.result c.blend_rows.new.xs a.degree (omega (arith, c.requires.0, c.if-dimension-eq1.false)) c.requires.1 c.requires.2 c.blend_rows.ensures
