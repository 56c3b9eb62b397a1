-- `write_record` meets its contract: a refused record has one line, and an accepted one has the text of its first net, its moves and its point, which has room.
use native.Mathlib.Omega.{arith}
use Prim.Native.Nat.{ℕ, ◌≤◌}
use mathlib.Core.Path.{◌≡◌, refl, sym, ◌∙◌, subst}
use mathlib.Core.List.{List}
use lib.IntN.{ℤ, pos}
use lib.ListN.{length, replicate}
use Rattle.machine.specs.Lent.{net_at}
use Rattle.machine.proofs.Numbers.{never_zero}
use Rattle.opening.specs.Opening.{opened_told, moves_of, point_of, opened_in, places_in}
use Rattle.records.specs.Reading.{bytes_of}
use Rattle.records.specs.declared.Layout.{Layout}
use Rattle.std.specs.Prelude.{Ok}
use Rattle.text.specs.Text.{text_of}
use Rattle.text.specs.Longest.{longest_text}
use Rattle.text.specs.Parts.{net_text}
use Rattle.text.proofs.Whole.{opened-stands, opened-text, opened-room, refused-text}
use Rattle.text.proofs.Then.{wrote_as}
use Rattle.text.proofs.write_record.Goals as goal

-- the places that are lent
abbrev zeros : List ℤ
zeros = replicate 193 (pos 0)

-- the text of the net, of the moves and of the point as they were taken out of an accepted record
made : (s : List ℕ) {net : List ℤ} {l : Layout} {moves point : List ℕ} → opened_told s (Ok l) ≡ opened_in s zeros → net ≡ places_in s zeros → moves ≡ bytes_of l.moves s → point ≡ bytes_of l.point s
    → net_text (net_at net) (moves_of moves) (point_of point) ≡ text_of s
made s {net} opened places moves point =
    (λ i. net_text (net_at net) (moves_of (moves i)) (point_of (point i))) ∙ opened-text s zeros refl (opened, places) refl

pub write_accepted-requires : goal.write_accepted-requires
write_accepted-requires c =
    let s = c.args.input.now in
    let accepted = c.in-Ok.ensures in
    let size = c.requires in
    let fits = opened-room s zeros refl (accepted.opened, accepted.places) refl in
    let room = subst (λ t. length t ≤ longest_text) (sym (made s accepted.opened accepted.places c.value-moves.ensures.bytes c.value-point.ensures.bytes)) fits in
    (opened-stands s zeros refl (accepted.opened, accepted.places) refl, record { fits = omega (arith, size, room) })

pub returns-in-Ok : goal.returns-in-Ok
returns-in-Ok c =
    let accepted = c.in-Ok.ensures in
    wrote_as (made c.args.input.now accepted.opened accepted.places c.value-moves.ensures.bytes c.value-point.ensures.bytes) c.write_accepted.ensures

pub returns-in-Err : goal.returns-in-Err
returns-in-Err c =
    let refused = c.in-Err.ensures in
    wrote_as (refused-text c.args.input.now zeros refl (refused.opened, refused.places) (never_zero c.in-Err.refused.refusal)) c.write_refusal.ensures
