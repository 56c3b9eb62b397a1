-- Instances of definitions as the rows of a table: what the definitions give, and what that must be. A
-- definition that both sides of a theorem share is held by such rows.
use Rattle.std.specs.Prelude.{◌≡◌}
use mathlib.Core.List.{List, Memᴰ}

infix 70 ◌is◌
pub data Instance (A : Type 0) : Type 0 where
  ◌is◌ : List A → List A → Instance A

abbrev pub Right : {A : Type 0} → Instance A → Type 0
Right (given is must) = given ≡ must

-- every row of a table is right
abbrev pub AllRight : {A : Type 0} → List (Instance A) → Type 0
AllRight {A} rows = (i : Instance A) → Memᴰ i rows → Right i
