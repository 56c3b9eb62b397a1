-- What the private functions that replace a vertex in place do to a list. A vertex is replaced level by level: with each level every entry that has more copies of it than there
-- were levels gets one more copy of q, in place of one of the vertex.
use Rattle.std.specs.Prelude.{ℕ, suc, pred, ◌+◌, ◌-◌, ◌<◌, ◌≤◌, ◌≡◌, Bool, true, false, cond, List, ltb, ℤ, pos, ◌+ℤ◌, ◌*ℤ◌, length, get_or, set}
use Rattle.polar.specs.Order.{total}
use Rattle.entries.specs.Entries.{fixed}
use Rattle.entries.specs.Rows.{entry_at, size}
use Rattle.projection.specs.Projection.{in_range}
use Rattle.machine.specs.declared.Weights.{Weights}
use Rattle.nets.specs.Rows.{KeptFrom, Sized, Bounded, weight_sum}

-- the blend of the number at i with the one d places before and the one e places further on
abbrev pub mixed_across : List ℤ → ℕ → ℕ → ℤ → ℤ → ℤ → ℕ → ℤ
mixed_across xs d e a b c i = a *ℤ get_or xs i (pos 0) +ℤ (b *ℤ get_or xs (i - d) (pos 0) +ℤ c *ℤ get_or xs (i + e) (pos 0))

-- the blend of the number at i with those d and e places before
abbrev pub mixed_down : List ℤ → ℕ → ℕ → ℤ → ℤ → ℤ → ℕ → ℤ
mixed_down xs d e a b c i = a *ℤ get_or xs i (pos 0) +ℤ (b *ℤ get_or xs (i - d) (pos 0) +ℤ c *ℤ get_or xs (i - e) (pos 0))

-- ---- one level

-- number c of the row of an entry with counts e, of w numbers to a row, 1 + n vertices and degree m
pub record Stands (w n m c : ℕ) (e : List ℕ) : Type 0 where
  pub own : c < w
  pub long : length e ≡ suc n
  pub whole : total e ≡ m

-- that number after level 1 + h, of the numbers xs after h levels
abbrev pub stepped_at : ℕ → ℕ → ℕ → List ℤ → ℕ → ℕ → List ℤ → ℕ → List ℕ → ℤ
stepped_at w n m ws v h xs c e =
    cond (ltb h (get_or e v 0)) (fixed (suc n) ws (entry_at w n m xs c) 1 (set e v (pred (get_or e v 0)))) (entry_at w n m xs c e)

-- a new number that is out of range
pub record Beyond (w n m : ℕ) (ws : List ℤ) (v h : ℕ) (xs : List ℤ) : Type 0 where
  pub number : ℕ
  pub entry : List ℕ
  pub stands : Stands w n m number entry
  pub more : h < get_or entry v 0
  pub out : in_range (stepped_at w n m ws v h xs number entry) ≡ false

-- what level 1 + h of vertex v asks for in a triangle of rows of four numbers
pub record LevelAsked (m h : ℕ) (weights : Weights) (xs : List ℤ) : Type 0 where
  pub sized : Sized 4 2 m
  pub below : h ≤ m
  pub long : size 4 2 m ≤ length xs
  pub bounded : Bounded xs 0 (size 4 2 m) (weight_sum weights)

-- what it answers and leaves: whether the new numbers are in range, and then the level
pub record Levelled (w n m : ℕ) (ws : List ℤ) (v h : ℕ) (xs : List ℤ) (b : Bool) (ys : List ℤ) : Type 0 where
  pub kept : length ys ≡ length xs
  pub past : b ≡ true → KeptFrom (size w n m) xs ys
  pub each : b ≡ true → (c : ℕ) (e : List ℕ) → Stands w n m c e → entry_at w n m ys c e ≡ stepped_at w n m ws v h xs c e
  pub small : b ≡ true → (c : ℕ) (e : List ℕ) → Stands w n m c e → h < get_or e v 0 → in_range (stepped_at w n m ws v h xs c e) ≡ true
  pub large : b ≡ false → Beyond w n m ws v h xs
