-- The numbers of a frame in lent places. A vertex stands behind the frames of the groups before its own and behind the vertices before it, so to put a new vertex into the frames is to put
-- its numbers there; and what the code works out for it is the point that its weights name, number by number.
use Prim.Native.Nat.{ℕ, zero, suc, pred, ◌+◌, ◌*◌, ◌-◌, ◌≤◌, ◌<◌, ◌^◌}
use native.Mathlib.Nat.{le_of_suc-le-suc, not-suc-le-zero, mul-zero, mul-suc, mul-le-mul_left}
use native.Mathlib.Omega.{arith}
use mathlib.Core.Path.{◌≡◌, refl, sym, ap, ap₂, ◌∙◌, subst}
use mathlib.Core.Bool.{Bool, true, false, cond}
use mathlib.Core.List.{List, [], ◌∷◌, ◌++◌, map}
use lib.Dec.{eqb, lit≤}
use lib.IntN.{ℤ, pos, neg_ℤ, nat_abs, ◌+ℤ◌, ◌*ℤ◌, +ℤ_idr}
use lib.ListN.{length, get_or, set, take, drop}
use lib.Seq.{drop_at, get_or-drop, drop-drop}
use borrow.Author.Tests.{le-leb, lt-leb}
use Rattle.integers.specs.Test.{all}
use Rattle.polar.specs.Sigma.{Point}
use Rattle.polar.specs.Groups.{Group}
use Rattle.entries.specs.Frame.{combination, unit_point, vertex_at, points_over, put_over}
use Rattle.entries.proofs.Groups.{Wide, Framed}
use Rattle.projection.specs.Projection.{in_range}
use Rattle.kinds.specs.Kinds.{group, groups_of, known}
use Rattle.kinds.specs.Frames.{Frames, frame_of, frame_count, frames_of, numbers_of}
use Rattle.kinds.proofs.Limits.{by-known}
use Rattle.kinds.proofs.Frames.{flat, square}
use Rattle.machine.specs.Calls.{weight_list, group_at, own_at, vertices_at}
use Rattle.machine.specs.Lent.{put_at}
use Rattle.machine.proofs.Lent.{put_first, put_second}
use Rattle.machine.specs.declared.Weights.{Weights}
use Rattle.nets.proofs.Row.{three-small}
use Rattle.nets.specs.Rows.{weight_sum}
use Rattle.nets.specs.Frames.{frame_start, OwnVertex, of_two, of_three, point_at, new_weights, padded}

-- ---- the groups of a kind

-- a group has two or three vertices
pub vertices-few : (kind p q : ℕ) → known kind p q ≡ true → (i : ℕ) → i < length (groups_of kind p q) → (2 ≤ vertices_at (groups_of kind p q) i) × (vertices_at (groups_of kind p q) i ≤ 3)
vertices-few kind p q h =
    by-known (λ k p q. (i : ℕ) → i < length (groups_of k p q) → (2 ≤ vertices_at (groups_of k p q) i) × (vertices_at (groups_of k p q) i ≤ 3))
    (λ p m. one 1 p (lit≤ tt) (lit≤ tt)) (λ p m. one 2 p (lit≤ tt) (lit≤ tt)) (λ p q m n. two p q) kind p q h
  where
    one : (n p : ℕ) → 1 ≤ n → n ≤ 2 → (i : ℕ) → i < 1 → (2 ≤ vertices_at (group n p ∷ []) i) × (vertices_at (group n p ∷ []) i ≤ 3)
    one n p low high zero b = (omega arith, omega arith)
    one n p low high (suc i) b = absurd (not-suc-le-zero (le_of_suc-le-suc b))

    two : (p q i : ℕ) → i < 2 → (2 ≤ vertices_at (group 1 p ∷ group 1 q ∷ []) i) × (vertices_at (group 1 p ∷ group 1 q ∷ []) i ≤ 3)
    two p q zero b = (lit≤ tt, lit≤ tt)
    two p q (suc zero) b = (lit≤ tt, lit≤ tt)
    two p q (suc (suc i)) b = absurd (not-suc-le-zero (le_of_suc-le-suc (le_of_suc-le-suc b)))

-- a vertex of the first group
pub own_first : (n p : ℕ) (gs : List Group) (vertex : ℕ) → pred vertex ≤ n → OwnVertex (group n p ∷ gs) vertex 3 (suc n) (pred vertex)
own_first n p gs vertex low =
    let is = sym (le-leb (pred vertex) n low) in
    let i = suc (group_at gs (pred vertex - suc n)) in
    record {
      start_is = ap (λ b. 3 + frame_start (group n p ∷ gs) (cond b 0 i)) is;
      count-is = ap (λ b. vertices_at (group n p ∷ gs) (cond b 0 i)) is;
      index_is = ap (λ b. cond b (pred vertex) (own_at gs (pred vertex - suc n))) is;
    }

-- one of the second group
pub own-second : (n p l q vertex : ℕ) → n < pred vertex → pred vertex - suc n ≤ l
    → OwnVertex (group n p ∷ group l q ∷ []) vertex (3 + suc n * suc n) (suc l) (pred vertex - suc n)
own-second n p l q vertex past low =
    let out = sym (lt-leb (pred vertex) n past) in
    let is = sym (le-leb (pred vertex - suc n) l low) in
    let gs = group n p ∷ group l q ∷ [] in
    let k = pred vertex - suc n in
    let whole : 3 + suc n * suc n ≡ 3 + (suc n * suc n + 0) = omega arith in
    record {
      start_is = whole ∙ ap₂ (λ a b. 3 + frame_start gs (cond a 0 (suc (cond b 0 (suc 0))))) out is;
      count-is = ap₂ (λ a b. vertices_at gs (cond a 0 (suc (cond b 0 (suc 0))))) out is;
      index_is = ap₂ (λ a b. cond a (pred vertex) (cond b k (k - suc l))) out is;
    }

-- ---- the frame of a group

-- it stands among the numbers of all
pub start_fits : (gs : List Group) (i : ℕ) → i < length gs → frame_start gs i + vertices_at gs i * vertices_at gs i ≤ frame_count gs
start_fits [] i h = absurd (not-suc-le-zero h)
start_fits (g ∷ gs) zero h = omega arith
start_fits (g ∷ gs) (suc i) h = omega (arith, start_fits gs i (le_of_suc-le-suc h))

pub frame_at : (gs : List Group) (i : ℕ) (numbers : List ℤ) → i < length gs → get_or (frames_of gs numbers) i [] ≡ frame_of (vertices_at gs i) (drop (frame_start gs i) numbers)
unfolding frames_of
frame_at [] i numbers h = absurd (not-suc-le-zero h)
frame_at (g ∷ gs) zero numbers h = refl
frame_at (g ∷ gs) (suc i) numbers h =
    frame_at gs i (drop (suc g.dimension * suc g.dimension) numbers) (le_of_suc-le-suc h)
    ∙ ap (frame_of (vertices_at gs i)) (drop-drop (frame_start gs i) (suc g.dimension * suc g.dimension) numbers)

-- its length
pub framed_at : (gs : List Group) (frames : Frames) (i : ℕ) → Framed gs frames → i < length gs → length (get_or frames i []) ≡ vertices_at gs i
framed_at [] frames i framed h = absurd (not-suc-le-zero h)
framed_at (g ∷ gs) [] i framed h = absurd framed
framed_at (g ∷ gs) (frame ∷ frames) zero framed h = framed.0
framed_at (g ∷ gs) (frame ∷ frames) (suc i) framed h = framed_at gs frames i framed.2 (le_of_suc-le-suc h)

-- its q, where every group has the same weights
pub point_at-of : (gs : List Group) (ws : List ℤ) (frames : Frames) (i : ℕ) → i < length gs
    → get_or (points_over gs (map (λ g. ws) gs) frames) i [] ≡ combination (vertices_at gs i) ws (vertex_at (get_or frames i []))
point_at-of [] ws frames i h = absurd (not-suc-le-zero h)
point_at-of (g ∷ gs) ws [] zero h = refl
point_at-of (g ∷ gs) ws (frame ∷ frames) zero h = refl
point_at-of (g ∷ gs) ws [] (suc i) h = point_at-of gs ws [] i (le_of_suc-le-suc h)
point_at-of (g ∷ gs) ws (frame ∷ frames) (suc i) h = point_at-of gs ws frames i (le_of_suc-le-suc h)

-- ---- a new vertex

flat-set : (d : ℕ) (ps : List Point) (v : ℕ) (q : Point) → Wide d ps → v < length ps → length q ≡ d → flat (set ps v q) ≡ put_at (d * v) q (flat ps)
flat-set d [] v q wide h l = absurd (not-suc-le-zero h)
flat-set d (p ∷ ps) zero q wide h l =
    let same : length q ≡ 0 + length q = omega arith in
    ap (λ r. q ++ r) (sym (drop_at p (flat ps) (0 + length q) (sym (sym same ∙ l ∙ sym wide.0))))
    ∙ ap (λ k. put_at k q (p ++ flat ps)) (sym (mul-zero d))
flat-set d (p ∷ ps) (suc v) q wide h l =
    let next : length p + d * v ≡ d * suc v = omega (arith, mul-suc d v, wide.0) in
    ap (λ r. p ++ r) (flat-set d ps v q wide.1 (le_of_suc-le-suc h) l)
    ∙ sym (put_second (d * v) q p (flat ps))
    ∙ ap (λ k. put_at k q (p ++ flat ps)) next

-- its numbers among those of the frames
pub numbers-put : (gs : List Group) (frames : Frames) (i v : ℕ) (q : Point) → Framed gs frames → i < length gs → v < vertices_at gs i → length q ≡ vertices_at gs i
    → numbers_of (put_over i v q frames) ≡ put_at (frame_start gs i + vertices_at gs i * v) q (numbers_of frames)
numbers-put [] frames i v q framed h k l = absurd (not-suc-le-zero h)
numbers-put (g ∷ gs) [] i v q framed h k l = absurd framed
numbers-put (g ∷ gs) (frame ∷ frames) zero v q framed h k l =
    let d = suc g.dimension in
    let here : d * v ≡ 0 + d * v = omega arith in
    let inside : d * v + length q ≤ length (flat frame) =
    subst (λ j. d * v + length q ≤ j) (sym (square d frame framed.0 framed.1)) (omega (arith, l, mul-suc d v, mul-le-mul_left d k)) in
    ap (λ r. r ++ numbers_of frames) (flat-set d frame v q framed.1 (subst (λ j. v < j) (sym framed.0) k) l)
    ∙ sym (put_first (d * v) q (flat frame) (numbers_of frames) inside)
    ∙ ap (λ j. put_at j q (flat frame ++ numbers_of frames)) here
numbers-put (g ∷ gs) (frame ∷ frames) (suc i) v q framed h k l =
    let d = suc g.dimension in
    let at = frame_start gs i + vertices_at gs i * v in
    let there : length (flat frame) + at ≡ d * d + frame_start gs i + vertices_at gs i * v = omega (arith, square d frame framed.0 framed.1) in
    ap (λ r. flat frame ++ r) (numbers-put gs frames i v q framed.2 (le_of_suc-le-suc h) k l)
    ∙ sym (put_second at q (flat frame) (numbers_of frames))
    ∙ ap (λ j. put_at j q (flat frame ++ numbers_of frames)) there

-- ---- its numbers, as the code works them out

-- number k past a place
past : (xs : List ℤ) (start k : ℕ) → get_or (drop start xs) k (pos 0) ≡ get_or xs (start + k) (pos 0)
past xs start k = get_or-drop start xs k (pos 0)

module _ (xs : List ℤ) (start : ℕ) (w : Weights) where
  abbrev two : ℕ → ℤ
  two = of_two xs w.r w.s

  abbrev three : ℕ → ℤ
  three = of_three xs w.r w.s w.t

  two_at : (c : ℕ) → w.r *ℤ get_or (drop start xs) c (pos 0) +ℤ (w.s *ℤ get_or (drop start xs) (2 + c) (pos 0) +ℤ pos 0) ≡ two (start + c)
  two_at c =
      let further : start + (2 + c) ≡ start + c + 2 = omega arith in
      ap₂ (λ x y. w.r *ℤ x +ℤ (w.s *ℤ y +ℤ pos 0)) (past xs start c) (past xs start (2 + c) ∙ ap (λ k. get_or xs k (pos 0)) further)

  three-at : (c : ℕ) → w.r *ℤ get_or (drop start xs) c (pos 0) +ℤ (w.s *ℤ get_or (drop start xs) (3 + c) (pos 0) +ℤ (w.t *ℤ get_or (drop start xs) (6 + c) (pos 0) +ℤ pos 0)) ≡ three (start + c)
  three-at c =
      let further : start + (3 + c) ≡ start + c + 3 = omega arith in
      let last : start + (6 + c) ≡ start + c + 6 = omega arith in
      ap₂ (λ x r. w.r *ℤ x +ℤ r) (past xs start c)
      (ap₂ (λ y z. w.s *ℤ y +ℤ z) (past xs start (3 + c) ∙ ap (λ k. get_or xs k (pos 0)) further)
      (+ℤ_idr (w.t *ℤ get_or (drop start xs) (6 + c) (pos 0)) ∙ ap (λ z. w.t *ℤ z) (past xs start (6 + c) ∙ ap (λ k. get_or xs k (pos 0)) last)))

  first : (f : ℕ → ℤ) → f (start + 0) ≡ f start
  first f = let none : start + 0 ≡ start = omega arith in ap f none

  pub point-two : (count : ℕ) → count ≡ 2 → padded (point_at start count (weight_list w) xs) ≡ two start ∷ two (start + 1) ∷ pos 0 ∷ []
  unfolding frame_of
  point-two count is = ap (λ d. padded (point_at start d (weight_list w) xs)) is ∙ (λ i. (two_at 0 ∙ first two) i ∷ two_at 1 i ∷ pos 0 ∷ [])

  pub point-three : (count : ℕ) → count ≡ 3 → padded (point_at start count (weight_list w) xs) ≡ three start ∷ three (start + 1) ∷ three (start + 2) ∷ []
  unfolding frame_of
  point-three count is = ap (λ d. padded (point_at start d (weight_list w) xs)) is ∙ (λ i. (three-at 0 ∙ first three) i ∷ three-at 1 i ∷ three-at 2 i ∷ [])

-- two or three numbers among three
padded-by : (P : Point → Type 0) → ((a b : ℤ) → P (a ∷ b ∷ [])) → ((a b c : ℤ) → P (a ∷ b ∷ c ∷ [])) → (p : Point) → 2 ≤ length p → length p ≤ 3 → P p
padded-by P two three [] low high = absurd (not-suc-le-zero low)
padded-by P two three (a ∷ []) low high = absurd (not-suc-le-zero (le_of_suc-le-suc low))
padded-by P two three (a ∷ b ∷ []) low high = two a b
padded-by P two three (a ∷ b ∷ c ∷ []) low high = three a b c
padded-by P two three (a ∷ b ∷ c ∷ d ∷ p) low high = absurd (not-suc-le-zero (le_of_suc-le-suc (le_of_suc-le-suc (le_of_suc-le-suc high))))

pub padded-range : (p : Point) → 2 ≤ length p → length p ≤ 3 → all in_range (padded p) ≡ all in_range p
padded-range = padded-by (λ p. all in_range (padded p) ≡ all in_range p) (λ a b. refl) (λ a b c. refl)

pub padded-taken : (p : Point) → 2 ≤ length p → length p ≤ 3 → take (length p) (padded p) ≡ p
padded-taken = padded-by (λ p. take (length p) (padded p) ≡ p) (λ a b. refl) (λ a b c. refl)

-- ---- sizes

-- the weights that name a new vertex
pub new-light : (operation index : ℕ) (w : Weights) → index ≤ 2 → weight_sum w ≤ 12288
    → nat_abs (get_or (new_weights operation index w) 0 (pos 0)) + nat_abs (get_or (new_weights operation index w) 1 (pos 0)) + nat_abs (get_or (new_weights operation index w) 2 (pos 0)) ≤ 12288
new-light operation index w low light = by (eqb operation 1) index low
  where
    weights : Bool → ℕ → List ℤ
    weights b i = cond b (weight_list w) (map neg_ℤ (unit_point 4 i))

    by : (b : Bool) (i : ℕ) → i ≤ 2 → nat_abs (get_or (weights b i) 0 (pos 0)) + nat_abs (get_or (weights b i) 1 (pos 0)) + nat_abs (get_or (weights b i) 2 (pos 0)) ≤ 12288
    by true i h = light
    by false zero h = lit≤ tt
    by false (suc zero) h = lit≤ tt
    by false (suc (suc zero)) h = lit≤ tt
    by false (suc (suc (suc i))) h = absurd (not-suc-le-zero (le_of_suc-le-suc (le_of_suc-le-suc h)))

-- three products of weights within their limit and numbers of a frame that is not refused, as the code reads them
pub blend-small : {a x b y c z a' x' b' y' c' z' : ℤ} → a' ≡ a → b' ≡ b → c' ≡ c → x' ≡ x → y' ≡ y → z' ≡ z → nat_abs a + nat_abs b + nat_abs c ≤ 12288
    → nat_abs x ≤ 281474976710656 → nat_abs y ≤ 281474976710656 → nat_abs z ≤ 281474976710656
    → nat_abs a' * nat_abs x' + nat_abs b' * nat_abs y' + nat_abs c' * nat_abs z' < 2 ^ 63
blend-small {a} {x} {b} {y} {c} {z} a-is b-is c-is x-is y-is z-is light hx hy hz =
    subst (λ n. n < 2 ^ 63) (sym (λ i. nat_abs (a-is i) * nat_abs (x-is i) + nat_abs (b-is i) * nat_abs (y-is i) + nat_abs (c-is i) * nat_abs (z-is i)))
    (three-small a x b y c z 281474976710656 hx hy hz (omega arith))
