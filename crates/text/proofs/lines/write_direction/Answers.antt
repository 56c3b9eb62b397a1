-- `write_direction` meets its contract: the word and the four numbers, as they are handed on.
use borrow.Author.Rules.{sfits_of}
use mathlib.Core.Path.{◌≡◌, sym}
use mathlib.Core.List.{[], ◌∷◌, ◌++◌}
use Rattle.integers.proofs.Signed.{seen, back_fits}
use Rattle.projection.specs.declared.Projection.TheVariants.{Direction}
use Rattle.projection.specs.declared.ReducedVector.{ReducedVector}
use Rattle.text.specs.Words.{line}
use Rattle.text.specs.Text.{word, projection_line}
use Rattle.text.specs.Parts.{numbers_text}
use Rattle.text.proofs.Then.{room_as, wrote_as}
use Rattle.text.proofs.lines.write_direction.Goals as goal

text : (d : ReducedVector) → seen d.x ≡ d.x → seen d.y ≡ d.y → seen d.z ≡ d.z → seen d.length ≡ d.length
    → projection_line (Direction d) ≡ word "far" ++ numbers_text (seen d.x ∷ seen d.y ∷ seen d.z ∷ seen d.length ∷ [])
unfolding projection_line line
text d x y z length = sym (λ i. word "far" ++ numbers_text (x i ∷ y i ∷ z i ∷ length i ∷ []))

pub put_line-requires : goal.put_line-requires
put_line-requires c =
    let t = c.struct_told-1.given in
    room_as (text c.args.d (back_fits (sfits_of t.0.1)) (back_fits (sfits_of t.1.0.1)) (back_fits (sfits_of t.1.1.0.1)) (back_fits (sfits_of t.1.1.1.0.1))) c.requires

pub returns : goal.returns
returns c =
    let t = c.struct_told-1.given in
    wrote_as (sym (text c.args.d (back_fits (sfits_of t.0.1)) (back_fits (sfits_of t.1.0.1)) (back_fits (sfits_of t.1.1.0.1)) (back_fits (sfits_of t.1.1.1.0.1)))) c.put_line.ensures
