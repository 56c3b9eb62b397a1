-- The entries of a line's net, by the number of copies of its second vertex: they stand in this order, and
-- the only group's counts are those of the entry.
use Prim.Native.Nat.{ℕ, ◌+◌, ◌*◌}
use native.Mathlib.Nat as NatL
use mathlib.Core.Path.{◌≡◌, refl, ap, ◌∙◌}
use mathlib.Core.List.{List, [], ◌∷◌}
use lib.IntN.{ℤ, pos}
use lib.ListN.{get_or}
use Rattle.polar.specs.Order.{total, counts}
use Rattle.polar.specs.Groups.{Group, counts_over}
use Rattle.entries.specs.Entries.{place_of, entry_over}
use Rattle.entries.specs.Rows.{entry_at}
use Rattle.entries.proofs.Places.{place-rank}
use Rattle.entries.proofs.Lengths.{offset-zero}

-- a line of degree m
abbrev line : ℕ → List Group
line m = record { dimension = 1; degree = m } ∷ []

-- an entry of the only group
pub one-group : (m : ℕ) (xs : List ℤ) (c : ℕ) (e : List ℕ) → entry_over (line m) xs c (e ∷ []) ≡ entry_at 4 1 m xs c e
unfolding entry_over entry_at counts_over
one-group m xs c e = ap (λ k. get_or xs (4 * k + c) (pos 0)) (NatL.add-zero (place_of e (counts 1 m) * 1) ∙ NatL.mul-one (place_of e (counts 1 m)))

-- its place
pub line-place : (m i j : ℕ) → i + j ≡ m → place_of (i ∷ j ∷ []) (counts 1 m) ≡ j
line-place m i j t =
    let whole : total (i ∷ j ∷ []) ≡ m = ap (λ k. i + k) (NatL.add-zero j) ∙ t in
    place-rank 1 m (i ∷ j ∷ []) refl whole ∙ NatL.add-zero _ ∙ offset-zero (j + 0) ∙ NatL.add-zero j

pub line-entry : (m : ℕ) (xs : List ℤ) (c i j : ℕ) → i + j ≡ m → entry_over (line m) xs c ((i ∷ j ∷ []) ∷ []) ≡ get_or xs (4 * j + c) (pos 0)
unfolding entry_at
line-entry m xs c i j t = one-group m xs c (i ∷ j ∷ []) ∙ ap (λ k. get_or xs (4 * k + c) (pos 0)) (line-place m i j t)
