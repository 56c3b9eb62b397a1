-- `put_at_zero` meets its contract: in a copy of the entries one vertex is replaced by q, and the first of
-- its entries that is not four zeros is put.
use Prim.Native.Nat.{ℕ, suc, ◌+◌, ◌-◌, ◌≤◌}
use native.Mathlib.Nat.{le_trans}
use native.Mathlib.Omega.{arith}
use mathlib.Core.Path.{◌≡◌, ap, ap₂, ◌∙◌}
use mathlib.Core.List.{List, ◌++◌}
use lib.IntN.{ℤ, pos}
use lib.ListN.{length, take, drop}
use lib.Seq.{drop-cons, drop-drop}
use Rattle.projection.specs.Projection.{four_numbers}
use Rattle.machine.specs.Carried.{four_at}
use Rattle.nets.proofs.ProjectedMade.{line-fits, room-asked, room-left}
use Rattle.nets.proofs.zeros.put_at_zero.Goals as goal

-- four numbers that stand one after the other
four-taken : (at : ℕ) (ys : List ℤ) → at + 4 ≤ length ys → take (at + 4 - at) (drop at ys) ≡ four_numbers (four_at at ys)
four-taken at ys there =
    let four : at + 4 - at ≡ 4 = omega arith in
    let first = drop-cons ys at (pos 0) (omega arith) in
    let second = drop-cons ys (suc at) (pos 0) (omega arith) in
    let third = drop-cons ys (suc (suc at)) (pos 0) (omega arith) in
    let fourth = drop-cons ys (suc (suc (suc at))) (pos 0) (omega arith) in
    let one : suc at ≡ 1 + at = omega arith in
    let two : suc (suc at) ≡ 2 + at = omega arith in
    let three : suc (suc (suc at)) ≡ 3 + at = omega arith in
    rw (four, first, second, third, fourth) (cc)

pub copy-requires : goal.copy-requires
copy-requires c = line-fits c.requires.0

pub descend_line-requires : goal.descend_line-requires
descend_line-requires c = room-asked c.requires.0 c.copy.ensures c.replaced_vertex-vertex.ensures

pub first_place-at-requires : goal.first_place-at-requires
first_place-at-requires c =
    let left = room-left c.requires.0 c.copy.ensures c.replaced_vertex-vertex.ensures c.descend_line.ensures in
    (c.requires.0.low, c.requires.0.high, left.0)

pub slice_bounds-copy_from_slice-end-2 : goal.slice_bounds-copy_from_slice-end-2
slice_bounds-copy_from_slice-end-2 c =
    let left = room-left c.requires.0 c.copy.ensures c.replaced_vertex-vertex.ensures c.descend_line.ensures in
    le_trans c.first_place-at.ensures.0 left.0

pub returns : goal.returns
returns c =
    let left = room-left c.requires.0 c.copy.ensures c.replaced_vertex-vertex.ensures c.descend_line.ensures in
    let found = c.args.found.now in
    ap₂ (λ xs ys. take 4 found ++ (xs ++ ys))
    (c.copy_from_slice.ensures.after
    ∙ four-taken c.first_place-at.result c.descend_line.new.xs (le_trans c.first_place-at.ensures.0 left.0)
    ∙ ap four_numbers (c.first_place-at.ensures.1 ∙ left.1))
    (drop-drop 4 4 found)
