-- `write_accepted` meets its contract: the first line, the moves, the net and the point are written one after the other, and what is left of the whole text has room each time.
use mathlib.Core.Path.{sym, ap}
use mathlib.Core.List.{List, ◌++◌}
use Prim.Native.Nat.{ℕ}
use Rattle.polar.specs.Order.{joined}
use Rattle.machine.specs.Steps.{answers}
use Rattle.machine.specs.Nets.{Net, step_of}
use Rattle.opening.specs.Opening.{point_of}
use Rattle.text.specs.Text.{net_lines, point_line}
use Rattle.text.specs.Parts.{net_text}
use Rattle.text.proofs.Over.{first-room, then-room, in_a_row}
use Rattle.text.proofs.Then.{room_as, wrote_as}
use Rattle.text.proofs.write_accepted.Goals as goal

-- the lines of a net and of the point on it
abbrev net_part : List ℕ → Net → List ℕ
net_part point n = net_lines n ++ joined point_line (answers step_of n (point_of point))

pub write_first-requires : goal.write_first-requires
unfolding net_text
write_first-requires c = (c.requires.0, first-room _ c.requires.1)

pub write_moves-requires : goal.write_moves-requires
unfolding net_text
write_moves-requires c = (c.requires.0, first-room _ (then-room c.write_first.ensures c.requires.1))

-- the net that the moves reach is the one in the places
pub write_net-requires : goal.write_net-requires
unfolding net_text
write_net-requires c =
    let made = c.write_moves.ensures.net in
    let reached = ap (net_part c.args.point.now) (sym made.net) in
    (made.stands, first-room _ (room_as reached (then-room c.write_moves.ensures.lines (then-room c.write_first.ensures c.requires.1))))

pub write_point-requires : goal.write_point-requires
unfolding net_text
write_point-requires c =
    let made = c.write_moves.ensures.net in
    let reached = ap (net_part c.args.point.now) (sym made.net) in
    (made.stands, then-room c.write_net.ensures (room_as reached (then-room c.write_moves.ensures.lines (then-room c.write_first.ensures c.requires.1))))

pub returns : goal.returns
unfolding net_text
returns c =
    let reached = ap (net_part c.args.point.now) (sym c.write_moves.ensures.net.net) in
    let after-first = then-room c.write_first.ensures c.requires.1 in
    let after-moves = then-room c.write_moves.ensures.lines after-first in
    in_a_row c.write_first.ensures
    (in_a_row c.write_moves.ensures.lines
    (wrote_as (sym reached) (in_a_row c.write_net.ensures c.write_point.ensures (room_as reached after-moves)))
    after-first)
    c.requires.1
