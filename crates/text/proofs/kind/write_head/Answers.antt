-- `write_head` meets its contract: the word, the degree of each group and the scale are written one after the other.
use mathlib.Core.Path.{sym}
use Rattle.text.proofs.InParts.{head-line}
use Rattle.text.proofs.Over.{first-room, then-room, in_a_row}
use Rattle.text.proofs.Then.{room_as, wrote_as}
use Rattle.text.proofs.kind.write_head.Goals as goal

pub put_word-requires : goal.put_word-requires
put_word-requires c = first-room _ (room_as (head-line c.args.head c.requires.known c.scale-scale.ensures) c.requires.room)

pub put_labelled-requires : goal.put_labelled-requires
put_labelled-requires c =
    first-room _ (then-room c.put_word.ensures (room_as (head-line c.args.head c.requires.known c.scale-scale.ensures) c.requires.room))

pub put_later-requires : goal.put_later-requires
put_later-requires c =
    first-room _
    (then-room c.put_labelled.ensures
    (then-room c.put_word.ensures (room_as (head-line c.args.head c.requires.known c.scale-scale.ensures) c.requires.room)))

pub put_labelled-requires-2 : goal.put_labelled-requires-2
put_labelled-requires-2 c =
    first-room _
    (then-room c.put_later.ensures
    (then-room c.put_labelled.ensures
    (then-room c.put_word.ensures (room_as (head-line c.args.head c.requires.known c.scale-scale.ensures) c.requires.room))))

pub put-requires : goal.put-requires
put-requires c =
    then-room c.put_labelled-2.ensures
    (then-room c.put_later.ensures
    (then-room c.put_labelled.ensures
    (then-room c.put_word.ensures (room_as (head-line c.args.head c.requires.known c.scale-scale.ensures) c.requires.room))))

pub returns : goal.returns
returns c =
    let line = head-line c.args.head c.requires.known c.scale-scale.ensures in
    let room = room_as line c.requires.room in
    let after-word = then-room c.put_word.ensures room in
    let after-degree = then-room c.put_labelled.ensures after-word in
    let after-second = then-room c.put_later.ensures after-degree in
    wrote_as (sym line)
    (in_a_row c.put_word.ensures
    (in_a_row c.put_labelled.ensures
    (in_a_row c.put_later.ensures (in_a_row c.put_labelled-2.ensures c.put.ensures after-second) after-degree)
    after-word)
    room)
