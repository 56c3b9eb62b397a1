-- Parts of a slice: a part is no copy, and lies where the slice does.
use Rattle.std.specs.Prelude.{ℕ, ◌+◌, ◌*◌, ◌/◌, ◌≡◌, cond, List, length, ltb}

-- the places are of one block, and the first is k bytes after the other
pub record Lies (place whole : ℕ × ℕ) (k : ℕ) : Type 0 where
  pub block : place.0 ≡ whole.0
  pub offset : place.1 ≡ whole.1 + k

-- an offset, or the end where it is past the end
abbrev pub to_end : List ℕ → ℕ → ℕ
to_end s at = cond (ltb (length s) at) (length s) at

-- where item k of n bytes lies; the end where the part does not have all its bytes
abbrev pub item_place : ℕ → List ℕ → ℕ → ℕ
item_place n part k = cond (ltb k (length part / n)) (n * k) (length part)
