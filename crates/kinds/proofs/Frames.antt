-- Frames with all their vertices and numbers: a new vertex keeps them so, and their numbers make them again. A vertex's negative is a point that weights name.
use Prim.Native.Nat.{ℕ, zero, suc, ◌+◌, ◌*◌, ◌<◌, ◌≤◌}
use native.Mathlib.Nat.{le_of_suc-le-suc, not-suc-le-zero, mul-zero, mul-suc, zero-mul, suc-mul, add_comm, add_assoc, zero-add}
use native.Mathlib.Omega.{arith}
use mathlib.Core.Path.{◌≡◌, refl, sym, ap, ap₂, ◌∙◌, fun_ext, subst}
use mathlib.Core.List.{List, [], ◌∷◌, ◌++◌, map, map-map, append_assoc}
use lib.IntN.{ℤ, pos, neg_ℤ, ◌*ℤ◌}
use lib.ListN.{length, get_or, set, take, drop, length-append, length-map, length-set, length-drop, get_or-append}
use lib.Seq.{get_or-append-add, get_or-drop, drop_at, take-add}
use Rattle.integers.specs.Sum.{sum, upto}
use Rattle.integers.proofs.Laws.{*ℤ-negl}
use Rattle.integers.proofs.Sums.{sum-neg, sum-upto-cong, length-upto, get_d_map, upto-at}
use Rattle.polar.specs.Sigma.{Point}
use Rattle.polar.specs.Order.{joined}
use Rattle.polar.specs.Groups.{Group, tail}
use Rattle.entries.specs.Frame.{combination, unit_point, vertex_at, points_over, put_over}
use Rattle.entries.proofs.Places.{joined-map}
use Rattle.entries.proofs.Listed.{map-upto}
use Rattle.entries.proofs.Standard.{one_at, pick}
use Rattle.entries.proofs.Groups.{Wide, Framed}
use Rattle.kinds.specs.Frames.{Frames, frame_of, frame_count, frames_of, numbers_of}

-- ---- a new vertex

wide-set : (d : ℕ) (ps : List Point) (v : ℕ) (q : Point) → Wide d ps → (v < length ps → length q ≡ d) → Wide d (set ps v q)
wide-set d [] v q wide l = tt
wide-set d (p ∷ ps) zero q wide l = (l (omega arith), wide.1)
wide-set d (p ∷ ps) (suc v) q wide l = (wide.0, wide-set d ps v q wide.1 (λ h. l (omega arith)))

wide_at : (d : ℕ) (ps : List Point) (v : ℕ) → Wide d ps → v < length ps → length (vertex_at ps v) ≡ d
wide_at d [] v wide h = absurd (not-suc-le-zero h)
wide_at d (p ∷ ps) zero wide h = wide.0
wide_at d (p ∷ ps) (suc v) wide h = wide_at d ps v wide.1 (le_of_suc-le-suc h)

-- a point put among the vertices has as many numbers as they are
pub framed-put : (gs : List Group) (frames : Frames) (i v : ℕ) (q : Point) → Framed gs frames → (v < length (get_or frames i []) → length q ≡ length (get_or frames i []))
    → Framed gs (put_over i v q frames)
framed-put [] [] i v q framed l = tt
framed-put [] (frame ∷ frames) i v q framed l = absurd framed
framed-put (g ∷ gs) [] i v q framed l = absurd framed
framed-put (g ∷ gs) (frame ∷ frames) zero v q framed l =
    (length-set frame v q ∙ framed.0, wide-set (suc g.dimension) frame v q framed.1 (λ h. l h ∙ framed.0), framed.2)
framed-put (g ∷ gs) (frame ∷ frames) (suc i) v q framed l = (framed.0, framed.1, framed-put gs frames i v q framed.2 l)

-- so have the point that weights name
pub point-wide : (gs : List Group) (weights : List (List ℤ)) (frames : Frames) (i : ℕ) → Framed gs frames → length (get_or (points_over gs weights frames) i []) ≡ length (get_or frames i [])
point-wide [] weights [] i framed = refl
point-wide [] weights (frame ∷ frames) i framed = absurd framed
point-wide (g ∷ gs) weights [] i framed = absurd framed
point-wide (g ∷ gs) weights (frame ∷ frames) zero framed = length-map (upto (suc g.dimension)) _ ∙ length-upto (suc g.dimension) ∙ sym framed.0
point-wide (g ∷ gs) weights (frame ∷ frames) (suc i) framed = point-wide gs (tail weights) frames i framed.2

-- and a vertex's negative
pub negative-wide : (gs : List Group) (frames : Frames) (i v : ℕ) → Framed gs frames → v < length (get_or frames i [])
    → length (map neg_ℤ (vertex_at (get_or frames i []) v)) ≡ length (get_or frames i [])
negative-wide gs [] i v framed h = absurd (not-suc-le-zero h)
negative-wide [] (frame ∷ frames) i v framed h = absurd framed
negative-wide (g ∷ gs) (frame ∷ frames) zero v framed h =
    length-map (vertex_at frame v) neg_ℤ ∙ wide_at (suc g.dimension) frame v framed.1 h ∙ sym framed.0
negative-wide (g ∷ gs) (frame ∷ frames) (suc i) v framed h = negative-wide gs frames i v framed.2 h

-- ---- the frames of numbers have all

wide-map : (d : ℕ) (f : ℕ → Point) (vs : List ℕ) → ((v : ℕ) → length (f v) ≡ d) → Wide d (map f vs)
wide-map d f [] h = tt
wide-map d f (v ∷ vs) h = (h v, wide-map d f vs h)

pub framed-numbers : (gs : List Group) (numbers : List ℤ) → Framed gs (frames_of gs numbers)
unfolding frames_of frame_of
framed-numbers [] numbers = tt
framed-numbers (g ∷ gs) numbers =
    let d = suc g.dimension in (
      length-map (upto d) _ ∙ length-upto d,
      wide-map d (λ v. map (λ c. get_or numbers (d * v + c) (pos 0)) (upto d)) (upto d) (λ v. length-map (upto d) _ ∙ length-upto d),
      framed-numbers gs (drop (d * d) numbers),
    )

-- ---- the numbers of frames

abbrev pub flat : List Point → List ℤ
flat ps = joined (λ p. p) ps

pub length-flat : (d : ℕ) (ps : List Point) → Wide d ps → length (flat ps) ≡ length ps * d
length-flat d [] wide = sym (zero-mul d)
length-flat d (p ∷ ps) wide = length-append p (flat ps) ∙ ap₂ ◌+◌ wide.0 (length-flat d ps wide.1) ∙ add_comm d (length ps * d) ∙ sym (suc-mul (length ps) d)

pub square : (d : ℕ) (frame : List Point) → length frame ≡ d → Wide d frame → length (flat frame) ≡ d * d
square d frame l wide = length-flat d frame wide ∙ ap (λ k. k * d) l

pub length-numbers : (gs : List Group) (frames : Frames) → Framed gs frames → length (numbers_of frames) ≡ frame_count gs
length-numbers [] [] framed = refl
length-numbers [] (frame ∷ frames) framed = absurd framed
length-numbers (g ∷ gs) [] framed = absurd framed
length-numbers (g ∷ gs) (frame ∷ frames) framed =
    length-append (flat frame) (numbers_of frames) ∙ ap₂ ◌+◌ (square (suc g.dimension) frame framed.0 framed.1) (length-numbers gs frames framed.2)

-- number c of vertex v
flat-at : (d : ℕ) (ps : List Point) (rest : List ℤ) (v c : ℕ) → Wide d ps → v < length ps → c < d → get_or (flat ps ++ rest) (d * v + c) (pos 0) ≡ get_or (vertex_at ps v) c (pos 0)
flat-at d [] rest v c wide h k = absurd (not-suc-le-zero h)
flat-at d (p ∷ ps) rest zero c wide h k =
    ap₂ (λ l i. get_or l (i + c) (pos 0)) (append_assoc p (flat ps) rest) (mul-zero d)
    ∙ ap (λ i. get_or (p ++ (flat ps ++ rest)) i (pos 0)) (zero-add c)
    ∙ get_or-append p (flat ps ++ rest) (pos 0) c (subst (λ i. c < i) (sym wide.0) k)
flat-at d (p ∷ ps) rest (suc v) c wide h k =
    ap₂ (λ l i. get_or l i (pos 0)) (append_assoc p (flat ps) rest)
    (ap (λ i. i + c) (mul-suc d v ∙ add_comm (d * v) d) ∙ add_assoc d (d * v) c ∙ ap (λ i. i + (d * v + c)) (sym wide.0))
    ∙ get_or-append-add p (flat ps ++ rest) (d * v + c) (pos 0)
    ∙ flat-at d ps rest v c wide.1 (le_of_suc-le-suc h) k

-- a list is its members in order
members : {A : Type 0} (a : A) (xs : List A) → map (λ i. get_or xs i a) (upto (length xs)) ≡ xs
members a [] = refl
members a (x ∷ xs) = ap (λ l. x ∷ l) (map-map (λ i. get_or (x ∷ xs) i a) suc (upto (length xs)) ∙ members a xs)

frame_back : (d : ℕ) (ps : List Point) (rest : List ℤ) → length ps ≡ d → Wide d ps → frame_of d (flat ps ++ rest) ≡ ps
unfolding frame_of
frame_back d ps rest l wide =
    map-upto d (λ v. map (λ c. get_or (flat ps ++ rest) (d * v + c) (pos 0)) (upto d)) (vertex_at ps)
    (λ v h.
    let below : v < length ps = subst (λ k. v < k) (sym l) h in
    map-upto d (λ c. get_or (flat ps ++ rest) (d * v + c) (pos 0)) (λ c. get_or (vertex_at ps v) c (pos 0)) (λ c k. flat-at d ps rest v c wide below k)
    ∙ ap (λ k. map (λ c. get_or (vertex_at ps v) c (pos 0)) (upto k)) (sym (wide_at d ps v wide below))
    ∙ members (pos 0) (vertex_at ps v))
    ∙ ap (λ k. map (vertex_at ps) (upto k)) (sym l)
    ∙ members [] ps

-- they make the frames again, whatever stands behind them
pub frames-back : (gs : List Group) (frames : Frames) (rest : List ℤ) → Framed gs frames → frames_of gs (numbers_of frames ++ rest) ≡ frames
unfolding frames_of
frames-back [] [] rest framed = refl
frames-back [] (frame ∷ frames) rest framed = absurd framed
frames-back (g ∷ gs) [] rest framed = absurd framed
frames-back (g ∷ gs) (frame ∷ frames) rest framed =
    let d = suc g.dimension in
    ap (λ l. frame_of d l ∷ frames_of gs (drop (d * d) l)) (append_assoc (flat frame) (numbers_of frames) rest)
    ∙ ap₂ (λ a b. a ∷ frames_of gs b) (frame_back d frame (numbers_of frames ++ rest) framed.0 framed.1)
    (drop_at (flat frame) (numbers_of frames ++ rest) (d * d) (square d frame framed.0 framed.1))
    ∙ ap (λ b. frame ∷ b) (frames-back gs frames rest framed.2)

-- ---- numbers that make frames are the frames' numbers

taken-members : {A : Type 0} (a : A) (n : ℕ) (xs : List A) → n ≤ length xs → map (λ i. get_or xs i a) (upto n) ≡ take n xs
taken-members a zero xs h = refl
taken-members a (suc n) [] h = absurd (not-suc-le-zero h)
taken-members a (suc n) (x ∷ xs) h = ap (λ l. x ∷ l) (map-map (λ i. get_or (x ∷ xs) i a) suc (upto n) ∙ taken-members a n xs (le_of_suc-le-suc h))

-- k rows of d numbers
taken-rows : (d k : ℕ) (numbers : List ℤ) → k * d ≤ length numbers → joined (λ v. map (λ c. get_or numbers (d * v + c) (pos 0)) (upto d)) (upto k) ≡ take (k * d) numbers
taken-rows d zero numbers h = ap (λ i. take i numbers) (sym (zero-mul d))
taken-rows d (suc k) numbers h =
    let s = suc-mul k d in
    ap₂ ◌++◌
    (ap (λ f. map f (upto d)) (fun_ext (λ c. ap (λ i. get_or numbers i (pos 0)) (ap (λ i. i + c) (mul-zero d) ∙ zero-add c))) ∙ taken-members (pos 0) d numbers (omega (arith, s)))
    (joined-map (λ v. map (λ c. get_or numbers (d * v + c) (pos 0)) (upto d)) suc (upto k)
    ∙ ap (λ f. joined f (upto k)) (fun_ext (λ v. ap (λ f. map f (upto d)) (fun_ext (λ c. next v c))))
    ∙ taken-rows d k (drop d numbers) (subst (λ i. k * d ≤ i) (sym (length-drop d numbers)) (omega (arith, s))))
    ∙ sym (take-add d (k * d) numbers)
    ∙ ap (λ i. take i numbers) (add_comm d (k * d) ∙ sym (suc-mul k d))
  where
    next : (v c : ℕ) → get_or numbers (d * suc v + c) (pos 0) ≡ get_or (drop d numbers) (d * v + c) (pos 0)
    next v c = ap (λ i. get_or numbers i (pos 0)) (ap (λ i. i + c) (mul-suc d v ∙ add_comm (d * v) d) ∙ add_assoc d (d * v) c) ∙ sym (get_or-drop d numbers (d * v + c) (pos 0))

pub numbers-back : (gs : List Group) (numbers : List ℤ) → frame_count gs ≤ length numbers → numbers_of (frames_of gs numbers) ≡ take (frame_count gs) numbers
unfolding frames_of frame_of
numbers-back [] numbers h = refl
numbers-back (g ∷ gs) numbers h =
    let d = suc g.dimension in
    let l = length-drop (d * d) numbers in
    ap₂ ◌++◌ (joined-map (λ p. p) (λ v. map (λ c. get_or numbers (d * v + c) (pos 0)) (upto d)) (upto d) ∙ taken-rows d d numbers (omega arith))
    (numbers-back gs (drop (d * d) numbers) (omega arith))
    ∙ sym (take-add (d * d) (frame_count gs) numbers)

-- ---- a vertex's negative

-- the weight -1 of vertex v alone names it
pub negative-named : (k d v : ℕ) (fr : ℕ → Point) → d ≤ k → v < d → length (fr v) ≡ d → combination d (map neg_ℤ (unit_point k v)) fr ≡ map neg_ℤ (fr v)
negative-named k d v fr fits below l =
    map-upto d (λ c. sum (λ u. get_or (map neg_ℤ (unit_point k v)) u (pos 0) *ℤ get_or (fr u) c (pos 0)) (upto d)) (λ c. neg_ℤ (get_or (fr v) c (pos 0)))
    (λ c h.
    sum-upto-cong d (λ u i. ap (λ w. w *ℤ get_or (fr u) c (pos 0)) (weight u i) ∙ *ℤ-negl (one_at v u) (get_or (fr u) c (pos 0)))
    ∙ sum-neg (λ u. one_at v u *ℤ get_or (fr u) c (pos 0)) (upto d)
    ∙ ap neg_ℤ (pick d v (λ u. get_or (fr u) c (pos 0)) below))
    ∙ sym (map-map neg_ℤ (λ c. get_or (fr v) c (pos 0)) (upto d))
    ∙ ap (map neg_ℤ) (ap (λ n. map (λ c. get_or (fr v) c (pos 0)) (upto n)) (sym l) ∙ members (pos 0) (fr v))
  where
    weight : (u : ℕ) → u < d → get_or (map neg_ℤ (unit_point k v)) u (pos 0) ≡ neg_ℤ (one_at v u)
    weight u i =
        get_d_map neg_ℤ (unit_point k v) u (pos 0) (pos 0) (subst (λ n. u < n) (sym (length-map (upto k) (one_at v) ∙ length-upto k)) (omega arith))
        ∙ ap neg_ℤ
        (get_d_map (one_at v) (upto k) u 0 (pos 0) (subst (λ n. u < n) (sym (length-upto k)) (omega arith))
        ∙ ap (one_at v) (upto-at k u (omega arith)))
