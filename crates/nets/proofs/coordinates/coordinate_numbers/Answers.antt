-- `coordinate_numbers` meets its contract: before an entry those in front of it are put, and after the last one the whole net.
use Prim.Native.Nat.{◌*◌, ◌-◌, ◌≤◌, ◌<◌}
use native.Mathlib.Omega.{arith}
use mathlib.Core.Path.{subst}
use Rattle.entries.specs.Rows.{size}
use Rattle.nets.specs.Rows.{place_at}
use Rattle.nets.specs.Coordinates.{coordinate_at}
use Rattle.nets.proofs.Scaled.{coordinates-made}
use Rattle.nets.proofs.Writes.{at_place, going-first, going_less, going_next, going_done}
use Rattle.nets.proofs.coordinates.coordinate_numbers.Goals as goal

pub loop-i-init : goal.loop-i-init
loop-i-init c =
    let a = c.args in
    at_place (going-first a.width a.dimension a.degree (coordinate_at a.width a.dimension a.degree a.coefficients.now) a.out.now c.requires.0.sized.low c.requires.0.sized.high)

pub loop-i-smaller : goal.loop-i-smaller
loop-i-smaller c =
    let a = c.args in
    let l = c.loop-i in
    let sized = c.requires.0.sized in
    let here : l.i ≤ a.degree = omega (arith, c.loop-i-test.true) in
    let next = going_next sized l.invariant here c.put_entry.ensures c.put_entry.auto.out c.next_row-row.result c.next_third-k.result c.next_row-row.ensures c.next_third-k.ensures in
    subst (λ q. size a.width a.dimension a.degree - a.width * q < size a.width a.dimension a.degree - a.width * place_at a.dimension l.i l.k) next.place (going_less sized l.invariant here)

pub loop-i-preserved : goal.loop-i-preserved
loop-i-preserved c =
    let here : c.loop-i.i ≤ c.args.degree = omega (arith, c.loop-i-test.true) in
    at_place
    (going_next c.requires.0.sized c.loop-i.invariant here c.put_entry.ensures c.put_entry.auto.out c.next_row-row.result c.next_third-k.result c.next_row-row.ensures c.next_third-k.ensures)

pub returns : goal.returns
returns c =
    let a = c.args in
    let l = c.loop-i in
    let all = going_done c.requires.0.sized l.invariant (omega (arith, c.loop-i-test.false)) in
    (coordinates-made a.width a.dimension a.degree a.coefficients.now c.requires.0 a.out.now l.out c.requires.2 all, l.invariant.kept)
