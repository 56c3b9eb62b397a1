-- Frames with a vertex flipped, over any list of groups. Each law goes down to the frame of the vertex's group, where it is one of lists with a member put in;
-- the points that weights name are sums over the vertices, in which the member of the flipped one takes its sign from the weight.
use Prim.Native.Nat.{ℕ, zero, suc, ◌<◌}
use native.Mathlib.Nat.{not-suc-le-zero}
use native.Mathlib.Decide.{ℕ_discrete}
use mathlib.Core.Path.{◌≡◌, refl, sym, ap, ap₂, ◌∙◌, fun_ext}
use mathlib.Core.Logic.{◌≢◌}
use mathlib.Core.List.{List, [], ◌∷◌, map}
use lib.IntN.{ℤ, pos, neg_ℤ, neg_ℤ-neg_ℤ, ◌*ℤ◌}
use lib.ListN.{length, get_or, set}
use lib.Seq.{get_or-set_same, get_or-set_other, set-set, set_comm, set-get_or}
use Rattle.integers.specs.Sum.{upto}
use Rattle.integers.proofs.Sums.{sum-cong}
use Rattle.integers.proofs.Laws.{*ℤ-negl, *ℤ-negr}
use Rattle.polar.specs.Sigma.{Point}
use Rattle.polar.specs.Groups.{Group, head, tail}
use Rattle.polar.proofs.Sigma.{at-neg}
use Rattle.entries.specs.Frame.{combination, vertex_at, points_over, put_over}
use Rattle.entries.proofs.Flips.{negated_at, negated-there, negated_over, SameIn}

-- ---- points put in

-- two points put into one place: the second stays
pub put-again : (frames : List (List Point)) (i v : ℕ) (p q : Point) → put_over i v q (put_over i v p frames) ≡ put_over i v q frames
put-again [] i v p q = refl
put-again (frame ∷ frames) zero v p q = ap (λ fr. fr ∷ frames) (set-set frame v p q)
put-again (frame ∷ frames) (suc i) v p q = ap (λ r. frame ∷ r) (put-again frames i v p q)

-- into two places, in either order
put-swap : (frames : List (List Point)) (i u j v : ℕ) (p q : Point) → (i ≡ j → u ≢ v) → put_over i u p (put_over j v q frames) ≡ put_over j v q (put_over i u p frames)
put-swap [] i u j v p q n = refl
put-swap (frame ∷ frames) zero u zero v p q n = ap (λ fr. fr ∷ frames) (sym (set_comm frame u v p q (n refl)))
put-swap (frame ∷ frames) zero u (suc j) v p q n = refl
put-swap (frame ∷ frames) (suc i) u zero v p q n = refl
put-swap (frame ∷ frames) (suc i) u (suc j) v p q n = ap (λ r. frame ∷ r) (put-swap frames i u j v p q (λ e. n (ap suc e)))

-- a vertex put where it stands
put_back : (frames : List (List Point)) (i v : ℕ) → put_over i v (vertex_at (get_or frames i []) v) frames ≡ frames
put_back [] i v = refl
put_back (frame ∷ frames) zero v = ap (λ fr. fr ∷ frames) (set-get_or frame v [])
put_back (frame ∷ frames) (suc i) v = ap (λ r. frame ∷ r) (put_back frames i v)

-- the vertex in that place is the point, and another vertex is what it was
vertex-put : (frames : List (List Point)) (i v : ℕ) (p : Point) → v < length (get_or frames i []) → vertex_at (get_or (put_over i v p frames) i []) v ≡ p
vertex-put [] i v p h = absurd (not-suc-le-zero h)
vertex-put (frame ∷ frames) zero v p h = get_or-set_same frame v p [] h
vertex-put (frame ∷ frames) (suc i) v p h = vertex-put frames i v p h

vertex-other : (frames : List (List Point)) (i u j v : ℕ) (p : Point) → (i ≡ j → u ≢ v) → vertex_at (get_or (put_over i u p frames) j []) v ≡ vertex_at (get_or frames j []) v
vertex-other [] i u j v p n = refl
vertex-other (frame ∷ frames) zero u zero v p n = get_or-set_other frame u v p [] (λ e. n refl (sym e))
vertex-other (frame ∷ frames) zero u (suc j) v p n = refl
vertex-other (frame ∷ frames) (suc i) u zero v p n = refl
vertex-other (frame ∷ frames) (suc i) u (suc j) v p n = vertex-other frames i u j v p (λ e. n (ap suc e))

-- ---- flips

-- the frames with −v in the place of vertex v of group j
abbrev pub flipped_frames : ℕ → ℕ → List (List Point) → List (List Point)
flipped_frames j v frames = put_over j v (map neg_ℤ (vertex_at (get_or frames j []) v)) frames

-- a flip and another vertex's new point, in either order
pub put-flip : (frames : List (List Point)) (i u j v : ℕ) (p : Point) → (i ≡ j → u ≢ v) → put_over i u p (flipped_frames j v frames) ≡ flipped_frames j v (put_over i u p frames)
put-flip frames i u j v p n =
    put-swap frames i u j v p (map neg_ℤ (vertex_at (get_or frames j []) v)) n
    ∙ ap (λ x. put_over j v (map neg_ℤ x) (put_over i u p frames)) (sym (vertex-other frames i u j v p n))

-- two flips, in either order
pub flip-flip : (frames : List (List Point)) (i u j v : ℕ) → (i ≡ j → u ≢ v) → flipped_frames i u (flipped_frames j v frames) ≡ flipped_frames j v (flipped_frames i u frames)
flip-flip frames i u j v n =
    ap (λ x. put_over i u (map neg_ℤ x) (flipped_frames j v frames)) (vertex-other frames j v i u (map neg_ℤ (vertex_at (get_or frames j []) v)) (λ e f. n (sym e) (sym f)))
    ∙ put-flip frames i u j v (map neg_ℤ (vertex_at (get_or frames i []) u)) n

-- the same flip twice
negative-twice : (p : Point) → map neg_ℤ (map neg_ℤ p) ≡ p
negative-twice [] = refl
negative-twice (x ∷ p) = ap₂ ◌∷◌ (neg_ℤ-neg_ℤ x) (negative-twice p)

pub flip-back : (frames : List (List Point)) (j v : ℕ) → v < length (get_or frames j []) → flipped_frames j v (flipped_frames j v frames) ≡ frames
flip-back frames j v h =
    let x = vertex_at (get_or frames j []) v in
    ap (λ y. put_over j v (map neg_ℤ y) (flipped_frames j v frames)) (vertex-put frames j v (map neg_ℤ x) h)
    ∙ put-again frames j v (map neg_ℤ x) (map neg_ℤ (map neg_ℤ x))
    ∙ ap (λ y. put_over j v y frames) (negative-twice x)
    ∙ put_back frames j v

-- ---- the points that weights name over flipped frames: those that the weights with v's negated name over the frames before

module _ (d v : ℕ) (ws : List ℤ) (frame : List Point) (below : v < length frame) where
  abbrev flipped_frame : List Point
  flipped_frame = set frame v (map neg_ℤ (vertex_at frame v))

  -- one member of the sum for coordinate c
  turned : (c u : ℕ) → Dec (u ≡ v) → get_or ws u (pos 0) *ℤ get_or (vertex_at flipped_frame u) c (pos 0) ≡ get_or (negated_at v ws) u (pos 0) *ℤ get_or (vertex_at frame u) c (pos 0)
  turned c u (yes p) =
      let w = get_or ws v (pos 0) in
      let x = get_or (vertex_at frame v) c (pos 0) in
      ap (λ i. get_or ws i (pos 0) *ℤ get_or (vertex_at flipped_frame i) c (pos 0)) p
      ∙ ap (λ q. w *ℤ get_or q c (pos 0)) (get_or-set_same frame v (map neg_ℤ (vertex_at frame v)) [] below)
      ∙ ap (λ z. w *ℤ z) (at-neg (vertex_at frame v) c)
      ∙ *ℤ-negr w x
      ∙ sym (*ℤ-negl w x)
      ∙ ap (λ z. z *ℤ x) (sym (negated-there v ws))
      ∙ ap (λ i. get_or (negated_at v ws) i (pos 0) *ℤ get_or (vertex_at frame i) c (pos 0)) (sym p)
  turned c u (no p) =
      ap₂ (λ w q. w *ℤ get_or q c (pos 0)) (sym (get_or-set_other ws v u (neg_ℤ (get_or ws v (pos 0))) (pos 0) p)) (get_or-set_other frame v u (map neg_ℤ (vertex_at frame v)) [] p)

  combination-flipped : combination d ws (vertex_at flipped_frame) ≡ combination d (negated_at v ws) (vertex_at frame)
  combination-flipped = ap (λ g. map g (upto d)) (fun_ext (λ c. sum-cong (λ u. turned c u (ℕ_discrete u v)) (upto d)))

pub points-flipped : (gs : List Group) (weights : List (List ℤ)) (j v : ℕ) (frames : List (List Point)) → v < length (get_or frames j [])
    → points_over gs weights (flipped_frames j v frames) ≡ points_over gs (negated_over j v weights) frames
points-flipped [] weights j v frames h = refl
points-flipped (g ∷ gs) weights j v [] h = absurd (not-suc-le-zero h)
points-flipped (g ∷ gs) weights zero v (frame ∷ frames) h = ap (λ q. q ∷ points_over gs (tail weights) frames) (combination-flipped (suc g.dimension) v (head weights) frame h)
points-flipped (g ∷ gs) weights (suc j) v (frame ∷ frames) h =
    ap (λ qs. combination (suc g.dimension) (head weights) (vertex_at frame) ∷ qs) (points-flipped gs (tail weights) j v frames h)

-- the point of a group goes by the weights of that group
pub point-same-in : (gs : List Group) (i : ℕ) (weights others : List (List ℤ)) → SameIn gs i weights others → (frames : List (List Point))
    → get_or (points_over gs weights frames) i [] ≡ get_or (points_over gs others frames) i []
point-same-in [] i weights others same frames = refl
point-same-in (g ∷ gs) zero weights others same frames = ap (λ ws. combination (suc g.dimension) ws (vertex_at (head frames))) same
point-same-in (g ∷ gs) (suc i) weights others same frames = point-same-in gs i (tail weights) (tail others) same (tail frames)
