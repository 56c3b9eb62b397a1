-- Where the part has the chunk, std reads the number that its item is; where it has not, the number is 0.
use Rattle.std.proofs.Common.{sym, ap, ◌∙◌, get_or, [], arith}
use Rattle.std.proofs.lemmas.Int.{to_z-of_z}
use mir.Syntax.{w16, w64}
use Rattle.decoding.proofs.Chunks.{chunk, two-read, read-there}
use Rattle.decoding.proofs.Numbers.{number-lacking}
use Rattle.decoding.proofs.short_at.Goals as goal

pub returns-in-Some : goal.returns-in-Some
returns-in-Some c =
    let l = c.in-Some.ensures.lookup in
    let is = l.3.1 [] ∙ ap (λ x. get_or x c.args.k []) c.as_chunks.ensures.front in
    let got = chunk 2 c.args.part.now c.args.k (omega arith) is (omega (arith, l.3.0, c.as_chunks.ensures.front_len)) c.type_inv.part in
    to_z-of_z w64 _ (record { sfits = c.from.type_inv })
    ∙ c.from.ensures
    ∙ to_z-of_z w16 _ (record { sfits = c.from_be_bytes.type_inv })
    ∙ read-there got (c.from_be_bytes.ensures ∙ two-read _ got.long got.fits)

pub returns-in-None : goal.returns-in-None
returns-in-None c =
    let l = c.in-None.ensures.lookup in
    sym (number-lacking 2 c.args.part.now c.args.k (omega (arith, c.as_chunks.ensures.front_len)))
