-- What comes back from a projection in each case of the code's tests of room, and the bound on its bit patterns.
use Prim.Native.Nat.{ℕ, ◌≤◌, ◌<◌}
use mathlib.Core.Path.{◌≡◌, refl, sym, ap, ap₂, subst}
use mathlib.Core.Bool.{Bool, true, false, cond, ◌&&◌}
use mathlib.Core.List.{List, [], ◌∷◌}
use native.Mathlib.Nat as NatL
use native.Mathlib.Omega.{arith}
use borrow.Author.Tests.{le-leb, lt-leb}
use lib.Dec.{leb, lit<}
use lib.IntN.{ℤ, pos}
use lib.ListN.{length}
use Rattle.projection.specs.Projection.{Four, found_projection, coordinate_bits}
use Rattle.projection.specs.Accuracy.{AccuratePoint, AccurateBits}
use Rattle.projection.specs.declared.Projection.{Projection}
use Rattle.projection.specs.declared.Projection.TheVariants.{Finite, Direction, Nowhere, OutOfRange}
use Rattle.projection.proofs.Bound.{accurate-bits}
use Rattle.projection.proofs.AllSamples.{fifths}
use Rattle.machine.specs.Carried.{four_at}
use Rattle.gadwemosh.specs.Projections.{ProjectionReturned, projection_with_room, projection_without_room, projection_returned, found_returned, AccuratePatterns}

-- ---- what comes back from a projection

module _ (p : Projection) (bits : List ℕ) (direction : List ℤ) where
  by-room : (t : Bool) → (leb 3 (length bits) && leb 4 (length direction)) ≡ t → cond t (projection_with_room p bits direction) (projection_without_room bits direction) ≡ projection_returned p bits direction
  unfolding projection_returned
  by-room t is = sym (ap (λ b. cond b (projection_with_room p bits direction) (projection_without_room bits direction)) is)

  pub bits-short : length bits < 3 → projection_without_room bits direction ≡ projection_returned p bits direction
  bits-short few = by-room false (ap (λ b. b && leb 4 (length direction)) (lt-leb 3 (length bits) few))

  pub direction-short : 3 ≤ length bits → length direction < 4 → projection_without_room bits direction ≡ projection_returned p bits direction
  direction-short enough few = by-room false (ap₂ ◌&&◌ (le-leb 3 (length bits) enough) (lt-leb 4 (length direction) few))

  pub with-room : 3 ≤ length bits → 4 ≤ length direction → projection_with_room p bits direction ≡ projection_returned p bits direction
  with-room enough more = by-room true (ap₂ ◌&&◌ (le-leb 3 (length bits) enough) (le-leb 4 (length direction) more))

-- of a found point, by its eight numbers
module _ (found : List ℤ) (bits : List ℕ) (direction : List ℤ) where
  by-eight : (t : Bool) → leb 8 (length found) ≡ t
      → cond t (projection_returned (found_projection (four_at 0 found) (four_at 4 found)) bits direction) (projection_without_room bits direction) ≡ found_returned found bits direction
  unfolding found_returned
  by-eight t is = sym (ap (λ b. cond b (projection_returned (found_projection (four_at 0 found) (four_at 4 found)) bits direction) (projection_without_room bits direction)) is)

  pub found-short : length found < 8 → projection_without_room bits direction ≡ found_returned found bits direction
  found-short few = by-eight false (lt-leb 8 (length found) few)

  pub found-enough : 8 ≤ length found → projection_returned (found_projection (four_at 0 found) (four_at 4 found)) bits direction ≡ found_returned found bits direction
  found-enough enough = by-eight true (le-leb 8 (length found) enough)

-- ---- how near the bit patterns are

pub never : {A : Type 0} → ◌≡◌ {A = ℕ} 0 1 → A
never e = absurd (omega arith)

room-accurate : (p : Four) (at : Projection) (bits : List ℕ) (direction : List ℤ) → AccuratePoint p at
    → let r = projection_with_room at bits direction in AccuratePatterns p r.outcome r.bits
unfolding coordinate_bits
room-accurate p (Finite q) bits direction (x, y, z) is =
    (accurate-bits p.x p.w q.x x, accurate-bits p.y p.w q.y y, accurate-bits p.z p.w q.z z)
room-accurate p (Direction d) bits direction h is = absurd (omega arith)
room-accurate p Nowhere bits direction h is = absurd (omega arith)
room-accurate p OutOfRange bits direction h is = never is

pub returned-accurate : (p : Four) (at : Projection) (bits : List ℕ) (direction : List ℤ) → AccuratePoint p at
    → let r = projection_returned at bits direction in AccuratePatterns p r.outcome r.bits
unfolding projection_returned
returned-accurate p at bits direction h = by (leb 3 (length bits) && leb 4 (length direction))
  where
    by : (t : Bool) → let r = cond t (projection_with_room at bits direction) (projection_without_room bits direction) in AccuratePatterns p r.outcome r.bits
    by true = room-accurate p at bits direction h
    by false = never

-- the bound on what comes back is one on what equals it
pub bound-of : {outcome : ℕ} {bits : List ℕ} (p : Four) (r : ProjectionReturned)
    → AccuratePatterns p r.outcome r.bits → outcome ≡ r.outcome → bits ≡ r.bits → AccuratePatterns p outcome bits
bound-of {outcome = outcome} p r h b c =
    subst (λ z. AccuratePatterns p outcome z) (sym c) (subst (λ z. AccuratePatterns p z r.bits) (sym b) h)

-- patterns of which one is not near are not accurate, whichever it is: that of 3 ÷ 5, and its neighbour
abbrev right : ℕ
right = 0x3fe3333333333333

abbrev wrong : ℕ
wrong = 0x3fe3333333333334

far : AccurateBits (pos 3) (pos 5) wrong → ⊥
far a = NatL.not-le_of_lt (lit< tt) a.near

pub wrong_first : AccuratePatterns fifths 1 (wrong ∷ right ∷ right ∷ []) → ⊥
wrong_first h = far (h refl).0

pub wrong_second : AccuratePatterns fifths 1 (right ∷ wrong ∷ right ∷ []) → ⊥
wrong_second h = far (h refl).1

pub wrong-third : AccuratePatterns fifths 1 (right ∷ right ∷ wrong ∷ []) → ⊥
wrong-third h = far (h refl).2
