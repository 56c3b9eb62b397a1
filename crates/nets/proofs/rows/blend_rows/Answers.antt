-- `blend_rows` meets its contract: after i turns the first i rows are blended, `from` is where row i begins, and the numbers before it are within the limit.
use native.Mathlib.Nat.{mul-le-mul_left}
use native.Mathlib.Omega.{arith}
use mathlib.Core.Path.{refl, sym}
use Rattle.integers.proofs.All.{clash}
use Rattle.nets.proofs.Row.{read_as}
use Rattle.nets.proofs.PatchRows.{rows_first, turn_room, turn-bounded, turn_next, turn-fails, rows_last}
use Rattle.nets.proofs.rows.blend_rows.Goals as goal

pub loop-i-init : goal.loop-i-init
loop-i-init c = rows_first c.args.width c.args.weights c.args.limit c.args.xs.now

pub overflow_mul-count : goal.overflow_mul-count
overflow_mul-count c = let room = turn_room c.loop-i.invariant c.loop-i-test.true in omega (arith, room, c.requires.0.room)

pub overflow_add-next : goal.overflow_add-next
overflow_add-next c = let room = turn_room c.loop-i.invariant c.loop-i-test.true in omega (arith, room, c.requires.0.room)

pub blend_row-requires : goal.blend_row-requires
blend_row-requires c =
    let read = read_as c.args.weights (omega arith) (omega arith) (omega arith) in
    let room = turn_room c.loop-i.invariant c.loop-i-test.true in
    let some = mul-le-mul_left c.args.width c.loop-i-test.true in
    (omega (arith, c.requires.0.some), omega arith, omega (arith, room, c.requires.1, c.loop-i.auto.xs), turn-bounded read c.loop-i.invariant c.loop-i-test.true c.requires.2)

pub returns-then-not-blend_row : goal.returns-then-not-blend_row
returns-then-not-blend_row c =
    let read = read_as c.args.weights (omega arith) (omega arith) (omega arith) in
    (sym (turn-fails read c.loop-i.invariant c.loop-i-test.true c.requires.1 c.blend_row.ensures c.if-not-blend_row.true), λ b. absurd (clash b refl))

pub overflow_add-from : goal.overflow_add-from
overflow_add-from c = let room = turn_room c.loop-i.invariant c.loop-i-test.true in omega (arith, room, c.requires.0.room)

pub loop-i-preserved : goal.loop-i-preserved
loop-i-preserved c =
    let read = read_as c.args.weights (omega arith) (omega arith) (omega arith) in
    turn_next read c.loop-i.invariant c.loop-i-test.true c.requires.1 c.blend_row.ensures c.if-not-blend_row.false

pub returns : goal.returns
returns c = rows_last c.loop-i.invariant c.args.degree (omega arith) c.requires.1
