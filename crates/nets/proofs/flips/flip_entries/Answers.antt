-- `flip_entries` meets its contract: before entry p the entries in front of it are signed, and the others are as they were.
use Prim.Native.Nat.{◌≤◌, zero-le}
use native.Mathlib.Omega.{arith}
use mathlib.Core.Path.{sym, subst}
use lib.IntN.{nat_abs}
use Rattle.nets.specs.Flips.{signed_at}
use Rattle.nets.proofs.Writes.{going-first, going-inside, going-small, going-asks, going_less, going_next, going_done}
use Rattle.nets.proofs.Signs.{still, signed-entry, flipped-all}
use Rattle.nets.proofs.flips.flip_entries.Goals as goal

pub loop-i-init : goal.loop-i-init
loop-i-init c = let a = c.args in going-first a.width a.dimension a.degree (signed_at a.width a.dimension a.degree a.vertex a.xs.now) a.xs.now c.requires.sized.low c.requires.sized.high

pub sign_row-requires : goal.sign_row-requires
sign_row-requires c =
    let at = c.loop-i.invariant in
    let room = going-inside c.requires.sized at (omega (arith, c.loop-i-test.true)) in (
      omega (arith, room, c.requires.long, at.kept),
      λ j low up. subst (λ v. nat_abs v ≤ 281474976710656) (sym (still c.args.vertex c.requires.sized at j low)) (c.requires.range j zero-le (omega (arith, room, up))),
    )

pub overflow_add-p : goal.overflow_add-p
overflow_add-p c = let few = going-small c.requires.sized c.loop-i.invariant (omega (arith, c.loop-i-test.true)) in omega (arith, few)

pub next_row-row-requires : goal.next_row-row-requires
next_row-row-requires c = going-asks c.requires.sized c.loop-i.invariant

pub loop-i-smaller : goal.loop-i-smaller
loop-i-smaller c = going_less c.requires.sized c.loop-i.invariant (omega (arith, c.loop-i-test.true))

pub loop-i-preserved : goal.loop-i-preserved
loop-i-preserved c =
    let at = c.loop-i.invariant in
    let here : c.loop-i.i ≤ c.args.degree = omega (arith, c.loop-i-test.true) in
    let turned = signed-entry c.args.vertex c.requires.sized at c.copies-count.result here c.copies-count.ensures c.sign_row.ensures in
    going_next c.requires.sized at here turned c.sign_row.auto.xs c.next_row-row.result c.next_third-k.result c.next_row-row.ensures c.next_third-k.ensures

pub returns : goal.returns
returns c =
    let a = c.args in
    let all = going_done c.requires.sized c.loop-i.invariant (omega (arith, c.loop-i-test.false)) in
    flipped-all a.width a.dimension a.degree a.vertex a.xs.now c.loop-i.xs c.requires.sized.some c.requires.long all
