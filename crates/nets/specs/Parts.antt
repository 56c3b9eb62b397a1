-- What the private functions that work on the groups after the first do to a list. Each entry of the first group has a part of the numbers, a net over the groups after it;
-- the parts follow each other, and each is worked on by itself.
use Rattle.std.specs.Prelude.{ℕ, ◌*◌, ◌≤◌, ◌≡◌, Bool, true, cond, List, ◌++◌, map, ℤ, length, take, drop}
use Rattle.integers.specs.Sum.{upto}
use Rattle.integers.specs.Test.{all}
use Rattle.polar.specs.Order.{joined}
use Rattle.entries.specs.Rows.{size}
use Rattle.projection.specs.Projection.{in_range}
use Rattle.machine.specs.declared.Weights.{Weights}
use Rattle.nets.specs.Rows.{Sized, KeptFrom, weight_sum}
use Rattle.nets.specs.Levels.{all_named_at, replaced_list}

-- part k of parts of l numbers each
abbrev pub part_at : ℕ → List ℤ → ℕ → List ℤ
part_at l xs k = take l (drop (l * k) xs)

-- the first k parts
abbrev pub parts_of : ℕ → ℕ → List ℤ → List (List ℤ)
parts_of l k xs = map (part_at l xs) (upto k)

-- f of each of the first k parts, in front of what stood past them
unfoldable pub in_parts : (List ℤ → List ℤ) → ℕ → ℕ → List ℤ → List ℤ
in_parts f l k xs = joined (λ j. f (part_at l xs j)) (upto k) ++ drop (l * k) xs

-- parts that are nets of one group of degree m: places for k of them, and numbers in range
pub record Parts (n m k : ℕ) (xs : List ℤ) : Type 0 where
  pub sized : Sized 4 n m
  pub room : size 4 n m * k ≤ 180
  pub long : size 4 n m * k ≤ length xs
  pub range : all in_range (take (size 4 n m * k) xs) ≡ true

-- what replacing vertex v in k parts asks for, which are nets of two vertices, and what flipping it does
pub record PartsReplaced (m v k : ℕ) (weights : Weights) (xs : List ℤ) : Type 0 where
  pub parts : Parts 1 m k xs
  pub vertex : v ≤ 1
  pub light : weight_sum weights ≤ 12288

-- whether all polar values that the parts' replaces name are in range
abbrev pub all_parts : ℕ → List ℤ → ℕ → List ℤ → Bool
all_parts m ws k xs = all (all_named_at 4 1 m ws) (parts_of (size 4 1 m) k xs)

-- the numbers with vertex v replaced in k parts
abbrev pub replaced_parts : ℕ → List ℤ → ℕ → ℕ → List ℤ → List ℤ
replaced_parts m ws v k xs = in_parts (replaced_list 4 1 m ws v) (size 4 1 m) k xs

-- what replacing it part by part answers and leaves: where a value is out of range, some parts may be replaced, but nothing past them changes
pub record ReplacesParts (m : ℕ) (ws : List ℤ) (v k : ℕ) (xs : List ℤ) (b : Bool) (ys : List ℤ) : Type 0 where
  pub named : b ≡ all_parts m ws k xs
  pub made : b ≡ true → ys ≡ replaced_parts m ws v k xs
  pub past : KeptFrom (size 4 1 m * k) xs ys

-- and what is promised of all of them together: the new net, or the old one
abbrev pub AllOrNone : ℕ → List ℤ → ℕ → ℕ → List ℤ → Bool → List ℤ → Type 0
AllOrNone m ws v k xs b ys = (b ≡ all_parts m ws k xs) × (ys ≡ cond b (replaced_parts m ws v k xs) xs)

pub record PartsFlipped (n m v k : ℕ) (xs : List ℤ) : Type 0 where
  pub parts : Parts n m k xs
  pub vertex : v ≤ n
