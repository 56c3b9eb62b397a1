-- `blend_vertex` meets its contract: the numbers read are the weights of the vertex.
use borrow.Author.Rules.{sfits_of}
use Prim.Native.Nat.{pred, ◌+◌, ◌*◌}
use native.Mathlib.Omega.{arith}
use mathlib.Core.Path.{◌≡◌, refl, ap, ◌∙◌}
use mathlib.Core.Bool.{cond}
use mathlib.Core.List.{[], ◌∷◌}
use lib.Dec.{eqb}
use lib.IntN.{pos}
use lib.ListN.{get_or, take}
use Rattle.integers.specs.Test.{within, all}
use Rattle.integers.proofs.Signed.{seen, back_fits}
use Rattle.entries.specs.Rows.{size}
use Rattle.nets.specs.Rows.{blended}
use Rattle.nets.specs.FirstNet.{vertex_weights}
use Rattle.nets.proofs.Row.{element}
use Rattle.nets.proofs.Through.{weights-read, vertex-bounded, vertex-fits}
use Rattle.nets.proofs.first.blend_vertex.Goals as goal
use Rattle.nets.proofs.first.blend_vertex.Goals.{After-second_number}

-- the numbers read, as they are handed on
second_is : (c : After-second_number) → let a = c.args in seen c.second_number.result ≡ cond (eqb a.dimension 1) (pos 0) (get_or a.frame.now ((a.dimension + 1) * a.v + 1) (pos 0))
second_is c = back_fits (sfits_of c.second_number.type_inv) ∙ c.second_number.ensures

weights-are : (c : After-second_number)
    → let a = c.args in
    seen (get_or a.frame.now ((a.dimension + 1) * a.v + a.dimension) (pos 0)) ∷ seen (get_or a.frame.now ((a.dimension + 1) * a.v) (pos 0)) ∷ seen c.second_number.result ∷ pos 0 ∷ []
    ≡ vertex_weights a.dimension a.frame.now a.v
weights-are c =
    let a = c.args in
    weights-read a.dimension a.v a.frame.now (seen (get_or a.frame.now ((a.dimension + 1) * a.v + a.dimension) (pos 0))) (seen (get_or a.frame.now ((a.dimension + 1) * a.v) (pos 0))) (seen c.second_number.result) (pos 0)
    c.requires.sized.low c.requires.sized.high
    (element (get_or a.frame.now ((a.dimension + 1) * a.v + a.dimension) (pos 0)) (omega arith)) (element (get_or a.frame.now ((a.dimension + 1) * a.v) (pos 0)) (omega arith)) (second_is c) refl

pub blend-requires : goal.blend-requires
blend-requires c =
    let a = c.args in (
      c.requires.sized,
      c.requires.some,
      c.requires.long,
      vertex-bounded a.dimension a.v (size a.width a.dimension a.degree) a.frame.now a.cur.now (seen (get_or a.frame.now ((a.dimension + 1) * a.v + a.dimension) (pos 0)))
          (seen (get_or a.frame.now ((a.dimension + 1) * a.v) (pos 0))) (seen c.second_number.result) (pos 0) c.requires.sized.low c.requires.sized.high c.requires.corners c.requires.vertex c.requires.bounded (weights-are (goal.at.blend-requires c).After-second_number)
          (λ one. second_is (goal.at.blend-requires c).After-second_number ∙ ap (λ i. cond (eqb i 1) (pos 0) (get_or a.frame.now ((a.dimension + 1) * a.v + 1) (pos 0))) one),
    )

pub returns : goal.returns
returns c =
    let a = c.args in
    let is = weights-are (goal.at.returns c).After-second_number in
    -- a step with the weights of the vertex is made to its end
    let whole =
    c.blend.ensures.0 ∙ ap (λ l. all (within 9223372036854775807) (take (size a.width a.dimension (pred a.degree)) (blended a.width a.dimension (pred a.degree) l a.cur.now))) is
    ∙ vertex-fits a.width a.dimension a.degree a.v a.frame.now a.cur.now c.requires.sized c.requires.some c.requires.corners c.requires.vertex c.requires.long c.requires.bounded in
    c.blend.ensures.1 whole ∙ ap (λ ws. blended a.width a.dimension (pred a.degree) ws a.cur.now) is
