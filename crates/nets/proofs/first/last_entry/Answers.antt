-- `last_entry` meets its contract: after the steps the entry's value is at the front of `cur`.
use Prim.Native.Nat.{◌-◌, ◌*◌, zero-le}
use native.Mathlib.Nat.{le_refl, le_trans}
use native.Mathlib.Omega.{arith}
use mathlib.Core.Path.{ap, ◌∙◌}
use lib.IntN.{pos}
use lib.ListN.{get_or, replicate}
use Rattle.nets.specs.Rows.{place_at}
use Rattle.nets.specs.Levels.{copied_row}
use Rattle.nets.specs.FirstNet.{vertex_of}
use Rattle.nets.proofs.Places.{degree-below, spread-most, place_inside}
use Rattle.nets.proofs.Through.{level-front}
use Rattle.nets.proofs.FirstRows.{copied-written}
use Rattle.nets.proofs.first.last_entry.Goals as goal

pub place-p-requires : goal.place-p-requires
place-p-requires c =
    let few = degree-below c.args.width c.args.dimension c.args.i c.requires.0 in
    (c.requires.0.low, c.requires.0.high, omega (arith, few), le_trans c.requires.1 (spread-most c.args.dimension c.args.i c.requires.0.low c.requires.0.high))

pub put_front-requires : goal.put_front-requires
put_front-requires c =
    let a = c.args in
    let y = c.blend_second in
    let inside = place_inside a.dimension a.i a.i a.k c.requires.0.low c.requires.0.high (le_refl a.i) c.requires.1 a.width in
    let first = place_inside a.dimension (a.i - a.k) 0 0 c.requires.0.low c.requires.0.high zero-le zero-le a.width in (
      omega (arith, inside, c.requires.2, ap (λ p. a.width * p) c.place-p.ensures),
      omega (arith, first, c.requires.3.long, y.auto.cur),
    )

pub returns : goal.returns
returns c G holds =
    let a = c.args in
    let left = a.i - a.k in
    let y = c.blend_second in
    c.put_front.ensures
    ∙ ap (λ p. copied_row a.width a.out.now p y.new.cur 0) c.place-p.ensures
    ∙ copied-written a.width (place_at a.dimension a.i a.k) a.out.now y.new.cur (λ j. G j (replicate left (vertex_of a.dimension a.frame.now 1)))
    (λ j b.
    ap (λ l. get_or l j (pos 0)) y.ensures
    ∙ level-front a.width a.dimension left 1 a.frame.now a.cur.now c.requires.3.sized c.requires.0.low c.requires.3.long G holds j b)
