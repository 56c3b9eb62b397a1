-- `write_refusal` meets its contract: a number of a byte and an offset of 64 bits make a line that has room.
use Prim.Native.Nat.{ℕ}
use native.Mathlib.Omega.{arith}
use mathlib.Core.Path.{◌≡◌, sym, ap, ◌∙◌}
use Rattle.text.specs.Text.{word, refused_line}
use Rattle.text.specs.Parts.{pair_text}
use Rattle.text.proofs.InParts.{refused-line}
use Rattle.text.proofs.Room.{refused-room}
use Rattle.text.proofs.Then.{room_as, wrote_as}
use Rattle.text.proofs.write_refusal.Goals as goal

line : {n number : ℕ} (offset : ℕ) → n ≡ number → refused_line number offset ≡ pair_text (word "refused ") n (word " at ") offset
line {n} offset e = ap (λ k. refused_line k offset) (sym e) ∙ refused-line n offset

pub put_pair-requires : goal.put_pair-requires
put_pair-requires c =
    let r = c.args.refused in
    let room = refused-room c.from-number.result r.offset (omega arith) (omega arith) in
    let long = c.requires in
    room_as (refused-line c.from-number.result r.offset) (record { fits = omega (arith, long, room) })

pub returns : goal.returns
returns c = wrote_as (sym (line c.args.refused.offset c.from-number.ensures)) c.put_pair.ensures
