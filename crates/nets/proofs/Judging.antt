-- Refusals of a call for its own arguments, as the code goes through them. The tests with number 8 may be made in any order, since whichever fails first the number is 8.
use Prim.Native.Nat.{ℕ, zero, suc, pred, ◌+◌, ◌-◌, ◌≤◌, ◌<◌, zero-le}
use native.Mathlib.Nat.{add-zero, le_of_suc-le-suc, not-suc-le-zero}
use native.Mathlib.Omega.{arith}
use native.Mathlib.Decide.{dec_le}
use mathlib.Core.Path.{◌≡◌, refl, sym, ap, ap₂, ◌∙◌}
use mathlib.Core.Bool.{Bool, true, false, ◌&&◌, ◌||◌, not, cond}
use mathlib.Core.List.{List, [], ◌∷◌, ◌++◌, map}
use lib.Dec.{leb, eqb}
use borrow.Author.Tests.{le-leb, lt-leb, ne_eqb}
use lib.IntN.{ℤ, pos}
use lib.ListN.{length, get_or, take, drop, take-append-drop}
use Rattle.integers.specs.Test.{within, all}
use Rattle.integers.proofs.All.{clash, and_parts, and_one, and_none, all_append}
use Rattle.polar.specs.Groups.{Group}
use Rattle.projection.specs.Projection.{is_zero}
use Rattle.kinds.specs.Kinds.{group}
use Rattle.kinds.specs.Frames.{vertex_count}
use Rattle.machine.specs.Refusals.{Test, ◌else◌, first_failed}
use Rattle.machine.specs.Calls.{weight_list, group_at, own_at, vertices_at, shares, unused, weight_at, own_tests}
use Rattle.machine.specs.declared.Weights.{Weights}
use Rattle.machine.specs.declared.Call.TheVariants.{Move, Point}
use Rattle.nets.specs.Calls.{weights_fit}

-- ---- rows with one number

abbrev numbered : ℕ → List Bool → List Test
numbered k tests = map (λ t. t else k) tests

-- where one of them fails the number is theirs
one-fails : (k : ℕ) (tests : List Bool) (rest : List Test) (i : ℕ) → get_or tests i true ≡ false → first_failed (numbered k tests ++ rest) ≡ k
one-fails k [] rest i h = absurd (clash refl h)
one-fails k (true ∷ tests) rest zero h = absurd (clash refl h)
one-fails k (true ∷ tests) rest (suc i) h = one-fails k tests rest i h
one-fails k (false ∷ tests) rest i h = refl

-- where all pass the rest decides
all-passed : (k : ℕ) (tests : List Bool) (rest : List Test) → all (λ t. t) tests ≡ true → first_failed (numbered k tests ++ rest) ≡ first_failed rest
all-passed k [] rest h = refl
all-passed k (true ∷ tests) rest h = all-passed k tests rest h
all-passed k (false ∷ tests) rest h = absurd (clash h refl)

-- ---- weights

-- a member from number d on that is not 0
pub some-not : (xs : List ℤ) (d i : ℕ) → d ≤ i → i < length xs → is_zero (get_or xs i (pos 0)) ≡ false → all is_zero (drop d xs) ≡ false
some-not [] d i h l e = absurd (not-suc-le-zero l)
some-not (x ∷ xs) zero zero h l e = ap (λ b. b && all is_zero xs) e
some-not (x ∷ xs) zero (suc i) h l e = ap (λ b. is_zero x && b) (some-not xs zero i zero-le (le_of_suc-le-suc l) e) ∙ and_none (is_zero x)
some-not (x ∷ xs) (suc d) zero h l e = absurd (not-suc-le-zero h)
some-not (x ∷ xs) (suc d) (suc i) h l e = some-not xs d i (le_of_suc-le-suc h) (le_of_suc-le-suc l) e

-- all members are 0 exactly where the first d and the others are
split : (d : ℕ) (xs : List ℤ) → all is_zero xs ≡ (all is_zero (take d xs) && all is_zero (drop d xs))
split d xs = ap (all is_zero) (sym (take-append-drop d xs)) ∙ all_append is_zero (take d xs) (drop d xs)

-- a vertex of the only group, counted from 1: its own number, and how many vertices its group has
first_group : (n m vertex : ℕ) → vertex ≤ suc n → leb (pred vertex) n ≡ true
first_group n m vertex high = le-leb (pred vertex) n (omega arith)

-- ---- a move

module _ (n operation vertex : ℕ) (weights : Weights) where
  abbrev pub JudgedMove : ℕ → Type 0
  JudgedMove k = (m : ℕ) → k ≡ first_failed (own_tests (group n m ∷ []) (Move operation vertex weights))

  abbrev ws : List ℤ
  ws = weight_list weights

  -- the tests with number 8, and the one with number 9
  abbrev move-tests : List Group → List Bool
  move-tests gs =
      (eqb operation 1 || eqb operation 2)
      ∷ (leb 1 vertex && leb vertex (vertex_count gs))
      ∷ all (within 4096) ws
      ∷ all is_zero (unused gs operation vertex ws)
      ∷ []

  abbrev move-last : List Group → Bool
  move-last gs = eqb operation 2 || not (is_zero (weight_at gs vertex ws))

  move-refused : (i : ℕ) → ((m : ℕ) → get_or (move-tests (group n m ∷ [])) i true ≡ false) → JudgedMove 8
  unfolding own_tests
  move-refused i h m = sym (one-fails 8 (move-tests (group n m ∷ [])) (move-last (group n m ∷ []) else 9 ∷ []) i (h m))

  pub no-vertex : vertex ≡ 0 → JudgedMove 8
  no-vertex e = move-refused 1 (λ m. ap (λ v. leb 1 v && leb v (vertex_count (group n m ∷ []))) e)

  pub past-vertices : suc n < vertex → JudgedMove 8
  past-vertices past = move-refused 1 (λ m. ap₂ ◌&&◌ (le-leb 1 vertex (omega arith)) (lt-leb vertex (suc n + 0) (omega arith)))

  pub unknown-operation : (operation ≡ 1 → ⊥) → (operation ≡ 2 → ⊥) → JudgedMove 8
  unknown-operation a b = move-refused 0 (λ m. ap₂ ◌||◌ (ne_eqb operation 1 a) (ne_eqb operation 2 b))

  -- a flip's weights are all unused
  flip-unused : operation ≡ 2 → (gs : List Group) → unused gs operation vertex ws ≡ ws
  flip-unused two gs = ap (λ o. cond (eqb o 2) ws (drop (vertices_at gs (group_at gs (pred vertex))) ws)) two

  pub flip-weighted : operation ≡ 2 → all is_zero ws ≡ false → JudgedMove 8
  flip-weighted two h = move-refused 3 (λ m. ap (all is_zero) (flip-unused two (group n m ∷ [])) ∙ h)

  -- a vertex that there is
  module _ (low : 1 ≤ vertex) (high : vertex ≤ suc n) where
    -- its unused weights, by whether the move is a flip
    unused-is : (m : ℕ) → unused (group n m ∷ []) operation vertex ws ≡ cond (eqb operation 2) ws (drop (suc n) ws)
    unused-is m = ap (λ b. cond (eqb operation 2) ws (drop (vertices_at (group n m ∷ []) (cond b 0 1)) ws)) (first_group n m vertex high)

    -- weights that do not fit: one is outside, or one that no vertex has is not 0
    pub move-unfit : weights_fit n ws ≡ false → JudgedMove 8
    move-unfit h = by (all (within 4096) ws) refl
      where
        zeros : all is_zero (drop (suc n) ws) ≡ false → (b : Bool) → all is_zero (cond b ws (drop (suc n) ws)) ≡ false
        zeros e true = split (suc n) ws ∙ ap (λ z. all is_zero (take (suc n) ws) && z) e ∙ and_none (all is_zero (take (suc n) ws))
        zeros e false = e

        by : (b : Bool) → all (within 4096) ws ≡ b → JudgedMove 8
        by false e = move-refused 2 (λ m. e)
        by true e =
            move-refused 3
            (λ m. ap (all is_zero) (unused-is m) ∙ zeros (sym (ap (λ b. b && all is_zero (drop (suc n) ws)) e) ∙ h) (eqb operation 2))

    -- weights that fit
    module _ (fit : weights_fit n ws ≡ true) where
      in_order : (m : ℕ) → (eqb operation 1 || eqb operation 2) ≡ true → all is_zero (unused (group n m ∷ []) operation vertex ws) ≡ true
          → first_failed (own_tests (group n m ∷ []) (Move operation vertex weights)) ≡ first_failed (move-last (group n m ∷ []) else 9 ∷ [])
      unfolding own_tests
      in_order m operated zeros =
          let least = le-leb 1 vertex low in
          let most : leb vertex (suc n + 0) ≡ true = le-leb vertex (suc n + 0) (omega arith) in
          let small = (and_parts (all (within 4096) ws) (all is_zero (drop (suc n) ws)) fit).0 in
          all-passed 8 (move-tests (group n m ∷ [])) (move-last (group n m ∷ []) else 9 ∷ []) (λ i. operated i && ((least i && most i) && (small i && (zeros i && true))))

      pub flip-taken : operation ≡ 2 → all is_zero ws ≡ true → JudgedMove 0
      flip-taken two zeros m =
          sym
          (in_order m (ap (λ o. eqb o 1 || eqb o 2) two) (ap (all is_zero) (flip-unused two (group n m ∷ [])) ∙ zeros)
          ∙ ap (λ o. first_failed ((eqb o 2 || not (is_zero (weight_at (group n m ∷ []) vertex ws))) else 9 ∷ [])) two)

      -- a replace is judged by the vertex's own weight
      pub replace-judged : operation ≡ 1 → (z : Bool) → is_zero (get_or ws (vertex - 1) (pos 0)) ≡ z → JudgedMove (first_failed (not z else 9 ∷ []))
      replace-judged one z h m =
          let gs = group n m ∷ [] in
          let before-one : pred vertex ≡ vertex - 1 = omega arith in
          let zeros : all is_zero (unused gs operation vertex ws) ≡ true =
          ap (all is_zero) (unused-is m ∙ ap (λ o. cond (eqb o 2) ws (drop (suc n) ws)) one) ∙ (and_parts (all (within 4096) ws) (all is_zero (drop (suc n) ws)) fit).1 in
          let own : is_zero (weight_at gs vertex ws) ≡ z =
          ap (λ b. is_zero (get_or ws (cond b (pred vertex) (own_at [] (pred vertex - suc n))) (pos 0))) (first_group n m vertex high) ∙ ap (λ v. is_zero (get_or ws v (pos 0))) before-one ∙ h in
          sym
          (in_order m (ap (λ o. eqb o 1 || eqb o 2) one) zeros
          ∙ ap₂ (λ o b. first_failed ((eqb o 2 || not b) else 9 ∷ [])) one own)

-- ---- a point

module _ (n : ℕ) (weights : Weights) where
  abbrev pub JudgedPoint : ℕ → Type 0
  JudgedPoint k = (m : ℕ) → k ≡ first_failed (own_tests (group n m ∷ []) (Point weights))

  abbrev pws : List ℤ
  pws = weight_list weights

  abbrev past : Bool
  past = all is_zero (drop (suc n + 0) pws)

  past_is : past ≡ all is_zero (drop (suc n) pws)
  past_is = ap (λ k. all is_zero (drop k pws)) (add-zero (suc n))

  abbrev point-tests : List Bool
  point-tests = all (within 4096) pws ∷ past ∷ []

  abbrev point-last : ℕ → Bool
  point-last m = all (λ us. not (all is_zero us)) (shares (group n m ∷ []) pws)

  pub point-unfit : weights_fit n pws ≡ false → JudgedPoint 8
  unfolding own_tests
  point-unfit h m = sym (by (all (within 4096) pws) refl)
    where
      by : (b : Bool) → all (within 4096) pws ≡ b → first_failed (numbered 8 point-tests ++ (point-last m else 9 ∷ [])) ≡ 8
      by false e = one-fails 8 point-tests (point-last m else 9 ∷ []) 0 e
      by true e = one-fails 8 point-tests (point-last m else 9 ∷ []) 1 (past_is ∙ sym (ap (λ b. b && all is_zero (drop (suc n) pws)) e) ∙ h)

  -- weights that fit are refused where all of them are 0
  pub point-judged : weights_fit n pws ≡ true → (z : Bool) → all is_zero pws ≡ z → JudgedPoint (first_failed (not z else 9 ∷ []))
  unfolding own_tests
  point-judged fit z h m =
      let parts = and_parts (all (within 4096) pws) (all is_zero (drop (suc n) pws)) fit in
      let small = parts.0 in
      let none = past_is ∙ parts.1 in
      let own : all is_zero (take (suc n) pws) ≡ z =
      sym (and_one (all is_zero (take (suc n) pws))) ∙ ap (λ b. all is_zero (take (suc n) pws) && b) (sym parts.1) ∙ sym (split (suc n) pws) ∙ h in
      sym
      (all-passed 8 point-tests (point-last m else 9 ∷ []) (λ i. small i && (none i && true))
      ∙ ap (λ b. first_failed ((not b && true) else 9 ∷ [])) own
      ∙ ap (λ b. first_failed (b else 9 ∷ [])) (and_one (not z)))

-- ---- several groups

-- a move of a vertex of the first group is judged as if there were no other
pub first-vertex : (n m : ℕ) (gs : List Group) (operation vertex : ℕ) (weights : Weights) → vertex ≤ suc n
    → first_failed (own_tests (group n m ∷ []) (Move operation vertex weights)) ≡ first_failed (own_tests (group n m ∷ gs) (Move operation vertex weights))
unfolding own_tests
first-vertex n m gs operation vertex weights high =
    λ i.
    first_failed
    ((eqb operation 1 || eqb operation 2) else 8
    ∷ (leb 1 vertex && known-vertex i) else 8
    ∷ all (within 4096) (weight_list weights) else 8
    ∷ all is_zero (cond (eqb operation 2) (weight_list weights) (drop (vertices i) (weight_list weights))) else 8
    ∷ (eqb operation 2 || not (is_zero (get_or (weight_list weights) (own i) (pos 0)))) else 9
    ∷ [])
  where
    known-vertex : leb vertex (suc n + 0) ≡ leb vertex (suc n + vertex_count gs)
    known-vertex = le-leb vertex (suc n + 0) (omega arith) ∙ sym (le-leb vertex (suc n + vertex_count gs) (omega arith))

    vertices : vertices_at (group n m ∷ []) (group_at (group n m ∷ []) (pred vertex)) ≡ vertices_at (group n m ∷ gs) (group_at (group n m ∷ gs) (pred vertex))
    vertices =
        ap (λ b. vertices_at (group n m ∷ []) (cond b 0 (suc (group_at [] (pred vertex - suc n))))) (first_group n m vertex high)
        ∙ sym (ap (λ b. vertices_at (group n m ∷ gs) (cond b 0 (suc (group_at gs (pred vertex - suc n))))) (first_group n m vertex high))

    own : own_at (group n m ∷ []) (pred vertex) ≡ own_at (group n m ∷ gs) (pred vertex)
    own =
        ap (λ b. cond b (pred vertex) (own_at [] (pred vertex - suc n))) (first_group n m vertex high)
        ∙ sym (ap (λ b. cond b (pred vertex) (own_at gs (pred vertex - suc n))) (first_group n m vertex high))

-- and one of a vertex past them as if there were no first group
pub later-vertex : (n m : ℕ) (gs : List Group) (operation vertex : ℕ) (weights : Weights) → suc n < vertex
    → first_failed (own_tests gs (Move operation (vertex - suc n) weights)) ≡ first_failed (own_tests (group n m ∷ gs) (Move operation vertex weights))
unfolding own_tests
later-vertex n m gs operation vertex weights past =
    λ i.
    first_failed
    ((eqb operation 1 || eqb operation 2) else 8
    ∷ (low i && known-vertex i) else 8
    ∷ all (within 4096) (weight_list weights) else 8
    ∷ all is_zero (cond (eqb operation 2) (weight_list weights) (drop (vertices i) (weight_list weights))) else 8
    ∷ (eqb operation 2 || not (is_zero (get_or (weight_list weights) (own i) (pos 0)))) else 9
    ∷ [])
  where
    far : n < pred vertex
    far = omega arith

    before : pred (vertex - suc n) ≡ pred vertex - suc n
    before = omega arith

    low : leb 1 (vertex - suc n) ≡ leb 1 vertex
    low = le-leb 1 (vertex - suc n) (omega arith) ∙ sym (le-leb 1 vertex (omega arith))

    known-vertex : leb (vertex - suc n) (vertex_count gs) ≡ leb vertex (suc n + vertex_count gs)
    known-vertex = by (dec_le (vertex - suc n) (vertex_count gs))
      where
        by : Dec (vertex - suc n ≤ vertex_count gs) → leb (vertex - suc n) (vertex_count gs) ≡ leb vertex (suc n + vertex_count gs)
        by (yes p) = le-leb (vertex - suc n) (vertex_count gs) p ∙ sym (le-leb vertex (suc n + vertex_count gs) (omega arith))
        by (no p) = lt-leb (vertex - suc n) (vertex_count gs) (omega arith) ∙ sym (lt-leb vertex (suc n + vertex_count gs) (omega arith))

    vertices : vertices_at gs (group_at gs (pred (vertex - suc n))) ≡ vertices_at (group n m ∷ gs) (group_at (group n m ∷ gs) (pred vertex))
    vertices = ap (λ u. vertices_at gs (group_at gs u)) before ∙ sym (ap (λ b. vertices_at (group n m ∷ gs) (cond b 0 (suc (group_at gs (pred vertex - suc n))))) (lt-leb (pred vertex) n far))

    own : own_at gs (pred (vertex - suc n)) ≡ own_at (group n m ∷ gs) (pred vertex)
    own = ap (own_at gs) before ∙ sym (ap (λ b. cond b (pred vertex) (own_at gs (pred vertex - suc n))) (lt-leb (pred vertex) n far))

-- a point of two pairs: its tests with number 8, and the one with number 9
module _ (weights : Weights) where
  abbrev pub JudgedPairs : ℕ → Type 0
  JudgedPairs k = (p q : ℕ) → k ≡ first_failed (own_tests (group 1 p ∷ group 1 q ∷ []) (Point weights))

  -- by the results of the code's tests
  pub pairs-judged : {a e f : Bool} → all (within 4096) (weight_list weights) ≡ a
      → all is_zero (weights.r ∷ weights.s ∷ []) ≡ e → all is_zero (weights.t ∷ weights.u ∷ []) ≡ f
      → JudgedPairs (first_failed (a else 8 ∷ true else 8 ∷ (not e && (not f && true)) else 9 ∷ []))
  unfolding own_tests
  pairs-judged a e f p q = sym (λ i. first_failed (a i else 8 ∷ true else 8 ∷ (not (e i) && (not (f i) && true)) else 9 ∷ []))
