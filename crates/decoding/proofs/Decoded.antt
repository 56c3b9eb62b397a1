-- A decoded move keeps the numbers of its bytes; and one that is improper is refused 8 as a call, whatever the kind: its vertex or its operation is none.
use mathlib.Core.Path.{◌≡◌, refl, sym, ◌∙◌}
use mathlib.Core.Bool.{Bool, true, false, ◌&&◌, ◌||◌, cond}
use mathlib.Core.List.{List}
use Prim.Native.Nat.{ℕ}
use native.Mathlib.Omega.{arith}
use borrow.Author.Tests.{leb-true, le-leb}
use lib.ListN.{get_or, drop}
use lib.Dec.{eqb, leb}
use Rattle.integers.proofs.All.{clash, and_parts, and-true}
use Rattle.kinds.specs.Kinds.{groups_of, most_vertices}
use Rattle.kinds.specs.Frames.{vertex_count}
use Rattle.kinds.proofs.Counts.{vertices-few}
use Rattle.machine.specs.Refusals.{first_failed}
use Rattle.machine.specs.Calls.{own_tests}
use Rattle.machine.specs.declared.Weights.{Weights}
use Rattle.machine.specs.declared.Call.TheVariants as call
use Rattle.decoding.specs.Numbers.{item}
use Rattle.decoding.specs.Moves.{weights_of, proper, move_at, call_of, call_at, operation_of, vertex_of, move_weights}
use Rattle.decoding.specs.declared.Move.{Move}
use Rattle.decoding.specs.declared.Move.TheVariants.{Proper, Improper}

-- ---- the numbers of a move

-- the operation, vertex and weights of a move
pub record Keeps (m : Move) (o v : ℕ) (w : Weights) : Type 0 where
  pub operation : operation_of m ≡ o
  pub vertex : vertex_of m ≡ v
  pub weights : move_weights m ≡ w

keeps : (t : Bool) (o v : ℕ) (w : Weights) → Keeps (cond t (Proper o v w) (Improper o v w)) o v w
keeps true o v w = record { operation = refl; vertex = refl; weights = refl }
keeps false o v w = record { operation = refl; vertex = refl; weights = refl }

pub move-keeps : (value : List ℕ) (k : ℕ) → let bytes = item 8 value k in Keeps (move_at value k) (get_or bytes 0 0) (get_or bytes 1 0) (weights_of (drop 2 bytes))
unfolding move_at
move-keeps value k =
    let bytes = item 8 value k in
    keeps (proper (get_or bytes 0 0) (get_or bytes 1 0)) (get_or bytes 0 0) (get_or bytes 1 0) (weights_of (drop 2 bytes))

-- a move is the call of its bytes
pub move-call : (value : List ℕ) (k : ℕ) → call_of (move_at value k) ≡ call_at value k
unfolding call_at
move-call value k =
    let same = move-keeps value k in
    λ i. call.Move (same.operation i) (same.vertex i) (same.weights i)

-- ---- improper moves

-- the first two tests of a move are of its operation and its vertex: one of them fails
no_call : (kind p q o v : ℕ) (w : Weights) → proper o v ≡ false → first_failed (own_tests (groups_of kind p q) (call.Move o v w)) ≡ 8
unfolding own_tests
no_call kind p q o v w improper = by-operation (eqb o 1 || eqb o 2) refl
  where
    count : ℕ
    count = vertex_count (groups_of kind p q)

    vertex-some : (leb 1 v && leb v count) ≡ true → (leb 1 v && leb v most_vertices) ≡ true
    vertex-some h =
        let parts = and_parts (leb 1 v) (leb v count) h in
        let top = leb-true v count parts.1 in
        let few = vertices-few kind p q in
        and-true parts.0 (le-leb v most_vertices (omega arith))

    by-vertex : (t : Bool) → (leb 1 v && leb v count) ≡ t → (eqb o 1 || eqb o 2) ≡ true → first_failed (own_tests (groups_of kind p q) (call.Move o v w)) ≡ 8
    by-vertex true h e = absurd (clash (and-true (vertex-some h) e) improper)
    by-vertex false h e = rw (e, h) refl

    by-operation : (t : Bool) → (eqb o 1 || eqb o 2) ≡ t → first_failed (own_tests (groups_of kind p q) (call.Move o v w)) ≡ 8
    by-operation true e = by-vertex (leb 1 v && leb v count) refl e
    by-operation false e = rw e refl

-- what an improper move is
improper-is : (t : Bool) (o v : ℕ) (w : Weights) {o' v' : ℕ} {w' : Weights} → proper o v ≡ t → cond t (Proper o v w) (Improper o v w) ≡ Improper o' v' w'
    → (o ≡ o') × (v ≡ v') × (t ≡ false)
improper-is true o v w e h = let z : ◌≡◌ {A = ℕ} 0 1 = cc in absurd (omega arith)
improper-is false o v w e h = ((cc), (cc), refl)

-- Where a record's move is improper, its call is refused 8 by every kind.
pub improper-refused : (value : List ℕ) (k : ℕ) {o v : ℕ} {w : Weights} (kind p q : ℕ) → move_at value k ≡ Improper o v w
    → first_failed (own_tests (groups_of kind p q) (call.Move o v w)) ≡ 8
unfolding move_at
improper-refused value k {o} {v} {w} kind p q e =
    let bytes = item 8 value k in
    let o₀ = get_or bytes 0 0 in
    let v₀ = get_or bytes 1 0 in
    let same = improper-is (proper o₀ v₀) o₀ v₀ (weights_of (drop 2 bytes)) refl e in
    no_call kind p q o v w ((λ i. proper (sym same.0 i) (sym same.1 i)) ∙ same.2)
