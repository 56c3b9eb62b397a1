-- `put_bits` meets its contract: a pattern of 64 bits has at most 16 digits, so `io` spells 16, and they are written after the label.
use mathlib.Core.Path.{sym, ap, ◌∙◌}
use Rattle.text.specs.Words.{hex_bits}
use Rattle.text.proofs.Decimal.{hex-digits}
use Rattle.text.proofs.Over.{then-room, in_a_row}
use Rattle.text.proofs.Then.{room_as, wrote_as}
use Rattle.text.proofs.words.Page.put_bits.Goals as goal

pub put-requires-2 : goal.put-requires-2
put-requires-2 c =
    let digits = hex-digits c.bits.result c.hex.result c.hex.new.out c.bits.type_inv c.hex.ensures.len c.hex.ensures.digits ∙ ap hex_bits c.bits.ensures in
    room_as (sym digits) (then-room c.put.ensures c.requires)

pub returns : goal.returns
returns c =
    let digits = hex-digits c.bits.result c.hex.result c.hex.new.out c.bits.type_inv c.hex.ensures.len c.hex.ensures.digits ∙ ap hex_bits c.bits.ensures in
    in_a_row c.put.ensures (wrote_as digits c.put-2.ensures) c.requires
