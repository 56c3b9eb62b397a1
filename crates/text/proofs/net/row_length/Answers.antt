-- `row_length` meets its contract: two vertices leave no third.
use Prim.Native.Nat.{suc, ◌+◌}
use native.Mathlib.Omega.{arith}
use mathlib.Core.Path.{◌≡◌, ◌∙◌}
use Rattle.text.proofs.NetRows.{row-low, row-high}
use Rattle.text.proofs.net.row_length.Goals as goal

pub returns-then-dimension-lt2 : goal.returns-then-dimension-lt2
returns-then-dimension-lt2 c = row-low c.args.dimension c.args.h c.if-dimension-lt2.true

pub returns : goal.returns
returns c = let one : c.args.h + 1 ≡ suc c.args.h = omega arith in one ∙ row-high c.args.dimension c.args.h c.if-dimension-lt2.false
