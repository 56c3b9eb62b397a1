-- Lists of whole numbers that one nonzero fraction takes into each other, and what that means for
-- projections.
use Rattle.std.specs.Prelude.{◌≡◌, List, map, ℤ, pos, ◌*ℤ◌}
use Rattle.projection.specs.Projection.{Four, four_numbers, FourInRange, without_length, projection_of_four}

-- the fraction over ÷ under, neither 0, takes each number of xs to the one of ys in its place:
-- cross-multiplied, so the lists are equally long
pub record Alike (xs ys : List ℤ) : Type 0 where
  pub over : ℤ
  pub under : ℤ
  pub over_nonzero : over ≡ pos 0 → ⊥
  pub under_nonzero : under ≡ pos 0 → ⊥
  pub takes : map (λ x. over *ℤ x) xs ≡ map (λ y. under *ℤ y) ys

-- ---- projections

-- 'Any nonzero multiple reads alike' (request E7): where one nonzero fraction takes four numbers to four
-- others, all in range, both have the same projection, but for the length of a direction
abbrev pub ReadsAlike : Type 0
ReadsAlike = (p q : Four) → FourInRange p → FourInRange q → Alike (four_numbers p) (four_numbers q) → without_length (projection_of_four p) ≡ without_length (projection_of_four q)
