-- `write_point_refused` meets its contract: the words with the number, and the end of the line.
use mathlib.Core.Path.{◌≡◌, sym, ap}
use Prim.Native.Nat.{ℕ}
use mathlib.Core.List.{[], ◌∷◌, ◌++◌}
use Rattle.text.specs.Words.{decimal, line}
use Rattle.text.specs.Text.{word, point_refused_line}
use Rattle.text.proofs.Over.{first-room, then-room, in_a_row}
use Rattle.text.proofs.Then.{room_as, wrote_as}
use Rattle.text.proofs.lines.write_point_refused.Goals as goal

text : {n number : ℕ} → n ≡ number → point_refused_line number ≡ (word "point refused " ++ decimal n) ++ (10 ∷ [])
unfolding point_refused_line line
text e = ap point_refused_line (sym e)

pub put_labelled-requires : goal.put_labelled-requires
put_labelled-requires c = first-room _ (room_as (text c.from-number.ensures) c.requires)

pub put-requires : goal.put-requires
put-requires c = then-room c.put_labelled.ensures (room_as (text c.from-number.ensures) c.requires)

pub returns : goal.returns
returns c =
    let e = text c.from-number.ensures in
    wrote_as (sym e) (in_a_row c.put_labelled.ensures c.put.ensures (room_as e c.requires))
