-- Field 1, by its bytes and by its groups: a record too short for a field says nothing, and a kind with its degrees has one group or, where there is a second one, two.
use mathlib.Core.Path.{◌≡◌, refl, sym, ◌∙◌, ap}
use mathlib.Core.Bool.{true, false, ◌&&◌}
use mathlib.Core.List.{List, [], ◌∷◌}
use Prim.Native.Nat.{ℕ, ◌<◌}
use native.Mathlib.Omega.{arith}
use lib.ListN.{length, take, drop, drop_of_length-le}
use lib.Seq.{take-nil}
use lib.Dec.{eqb}
use Rattle.kinds.specs.Kinds.{group, groups_of, dimension_of, later_dimension, known}
use Rattle.kinds.proofs.Limits.{groups-of, later-none, later-one}
use Rattle.kinds.specs.Heads.{head_groups}
use Rattle.records.specs.Table.{head_in, head_length, head_allowed}
use Rattle.records.specs.Reading.{length_at, head_of}
use Rattle.kinds.specs.declared.Head.{Head}

-- nothing is left where the value would begin
pub head-short : (s : List ℕ) → length s < 3 → head_in (drop 3 s) ≡ head_of s
unfolding head_of
head-short s short =
    let none : drop 3 s ≡ [] = drop_of_length-le s {i = 3} (omega arith) in
    ap head_in (none ∙ sym (ap (take (length_at s 0)) none ∙ take-nil (length_at s 0)))

-- a byte for the kind, and one for each group
module _ (kind p q : ℕ) (is : known kind p q ≡ true) where
  one-degree : later_dimension kind ≡ 0 → head_length (groups_of kind p q) ≡ 2
  one-degree none = ap head_length (groups-of kind p q is ∙ ap (λ gs. group (dimension_of kind) p ∷ gs) (later-none kind q none))

  two-degrees : (later_dimension kind ≡ 0 → ⊥) → head_length (groups_of kind p q) ≡ 3
  two-degrees some = ap head_length (groups-of kind p q is ∙ ap (λ gs. group (dimension_of kind) p ∷ gs) (later-one kind q some))

-- the test of the value, by what it says
module _ (value : List ℕ) (h : Head) (is : h ≡ head_in value) where
  said : head_allowed value ≡ (known h.kind h.degree h.second && eqb (length value) (head_length (head_groups h)))
  said = ap (λ (h : Head). known h.kind h.degree h.second && eqb (length value) (head_length (head_groups h))) (sym is)

  pub not_known : known h.kind h.degree h.second ≡ false → head_allowed value ≡ false
  not_known none = said ∙ rw none refl

  module _ (right : known h.kind h.degree h.second ≡ true) where
    pub one-allowed : later_dimension h.kind ≡ 0 → head_allowed value ≡ eqb (length value) 2
    one-allowed none = said ∙ rw (right, one-degree h.kind h.degree h.second right none) refl

    pub two-allowed : (later_dimension h.kind ≡ 0 → ⊥) → head_allowed value ≡ eqb (length value) 3
    two-allowed some = said ∙ rw (right, two-degrees h.kind h.degree h.second right some) refl
