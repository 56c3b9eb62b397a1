-- Steps with a vertex of the frame. Each step makes the numbers at most 4 (1 + n) times as large, n being the dimension, and after h steps on a net that holds the values
-- of a form the net holds those with h copies of the vertex fixed.
use Prim.Native.Nat.{ℕ, zero, suc, pred, ◌+◌, ◌*◌, ◌-◌, ◌/◌, ◌%◌, ◌^◌, ◌≤◌, ◌<◌, zero-le}
use native.Mathlib.Nat.{not-suc-le-zero, le_of_suc-le-suc, le_refl, le_trans, sub-zero, add-zero, mul-le-mul_right, mul_assoc, mul_comm, pow-suc, one-le-pow, mod-lt, div-add-mod, div-lt_iff_lt-mul}
use native.Mathlib.Numerals.{add-one}
use native.Mathlib.Omega.{arith}
use mathlib.Core.Path.{◌≡◌, refl, sym, ap, ◌∙◌, subst}
use mathlib.Core.Bool.{true, cond}
use mathlib.Core.List.{List, [], ◌∷◌, ◌++◌, append-nil}
use lib.Dec.{eqb}
use lib.IntN.{ℤ, pos, nat_abs, ◌*ℤ◌}
use lib.ListN.{length, get_or, take, replicate}
use Rattle.integers.specs.Sum.{sum, upto}
use Rattle.integers.specs.Test.{within, all}
use Rattle.integers.proofs.Sums.{sum-upto-snoc}
use Rattle.integers.proofs.Signed.{abs-*-le, abs-+-le}
use Rattle.polar.specs.Sigma.{Point}
use Rattle.polar.specs.Order.{total, counts}
use Rattle.entries.specs.Frame.{entry_points, combination, units, vertex_at}
use Rattle.entries.specs.Entries.{fixed, raise}
use Rattle.entries.specs.Rows.{entry_at, size, rank}
use Rattle.entries.proofs.Form.{fixing, fixes, total-raise, length-raise}
use Rattle.entries.proofs.Places.{counts-at, rank-at}
use Rattle.entries.proofs.Listed.{entry-rank, rank_below, digits-below}
use Rattle.entries.proofs.Standard.{units-curve, units-patch}
use Rattle.entries.proofs.Groups.{total-zeros, length-zeros}
use Rattle.kinds.specs.Frames.{frame_of}
use Rattle.nets.specs.Rows.{Sized, Bounded, blended, level}
use Rattle.nets.specs.FirstNet.{Small, FrameWithin, Stepping, VertexStep, vertex_of, vertex_weights, Values, Holds}
use Rattle.nets.proofs.Lists.{ranged-each}
use Rattle.nets.proofs.Ranks.{size_mono}
use Rattle.nets.proofs.Places.{by-dimension, smaller}
use Rattle.nets.proofs.Blended.{bounded-less}
use Rattle.nets.proofs.LevelValues.{entry-blended, length-blended, level-entry, level-last}

-- ---- the vertices as weights

-- the weights of a vertex name the vertex
pub vertex-named : (n : ℕ) → 1 ≤ n → n ≤ 2 → (frame : List ℤ) (v : ℕ) → v ≤ n → combination (suc n) (vertex_weights n frame v) (units n) ≡ vertex_of n frame v
unfolding frame_of
vertex-named n low high frame v = by-dimension (λ d. v ≤ d → combination (suc d) (vertex_weights d frame v) (units d) ≡ vertex_of d frame v) n low high (curve v) (patch v)
  where
    curve : (v : ℕ) → v ≤ 1 → combination 2 (vertex_weights 1 frame v) (units 1) ≡ vertex_at (frame_of 2 frame) v
    curve zero h = units-curve (get_or frame 1 (pos 0)) (get_or frame 0 (pos 0)) (pos 0)
    curve (suc zero) h = units-curve (get_or frame 3 (pos 0)) (get_or frame 2 (pos 0)) (pos 0)
    curve (suc (suc v)) h = absurd (not-suc-le-zero (le_of_suc-le-suc h))

    patch : (v : ℕ) → v ≤ 2 → combination 3 (vertex_weights 2 frame v) (units 2) ≡ vertex_at (frame_of 3 frame) v
    patch zero h = units-patch (get_or frame 2 (pos 0)) (get_or frame 0 (pos 0)) (get_or frame 1 (pos 0))
    patch (suc zero) h = units-patch (get_or frame 5 (pos 0)) (get_or frame 3 (pos 0)) (get_or frame 4 (pos 0))
    patch (suc (suc zero)) h = units-patch (get_or frame 8 (pos 0)) (get_or frame 6 (pos 0)) (get_or frame 7 (pos 0))
    patch (suc (suc (suc v))) h = absurd (not-suc-le-zero (le_of_suc-le-suc (le_of_suc-le-suc h)))

-- ---- how large the numbers grow

pub abs-sum : (f : ℕ → ℤ) (k B : ℕ) → ((v : ℕ) → v < k → nat_abs (f v) ≤ B) → nat_abs (sum f (upto k)) ≤ k * B
abs-sum f zero B h = zero-le
abs-sum f (suc k) B h =
    subst (λ z. nat_abs z ≤ suc k * B) (sym (sum-upto-snoc f k))
    (let r = abs-+-le (sum f (upto k)) (f k) (abs-sum f k B (λ v p. h v (omega arith))) (h k (le_refl (suc k))) in omega arith)

-- a vertex's weights are the frame's numbers
pub weights-within : (n : ℕ) (frame : List ℤ) (v u : ℕ) → 1 ≤ n → n ≤ 2 → FrameWithin n frame → v ≤ n → nat_abs (get_or (vertex_weights n frame v) u (pos 0)) ≤ 4
weights-within n frame v u low high =
    by-dimension (λ d. FrameWithin d frame → v ≤ d → nat_abs (get_or (vertex_weights d frame v) u (pos 0)) ≤ 4) n low high
    (λ f b. four u (get_or frame (2 * v + 1) (pos 0)) (get_or frame (2 * v) (pos 0)) (pos 0) (f.each (2 * v + 1) (omega arith)) (f.each (2 * v) (omega arith)) zero-le)
    (λ f b.
    four u (get_or frame (3 * v + 2) (pos 0)) (get_or frame (3 * v) (pos 0)) (get_or frame (3 * v + 1) (pos 0)) (f.each (3 * v + 2) (omega arith)) (f.each (3 * v) (omega arith))
    (f.each (3 * v + 1) (omega arith)))
  where
    four : (u : ℕ) (a b c : ℤ) → nat_abs a ≤ 4 → nat_abs b ≤ 4 → nat_abs c ≤ 4 → nat_abs (get_or (a ∷ b ∷ c ∷ pos 0 ∷ []) u (pos 0)) ≤ 4
    four zero a b c x y z = x
    four (suc zero) a b c x y z = y
    four (suc (suc zero)) a b c x y z = z
    four (suc (suc (suc zero))) a b c x y z = zero-le
    four (suc (suc (suc (suc u)))) a b c x y z = zero-le

-- one step with a vertex
blended-small : (w n d v B : ℕ) (frame ys : List ℤ) → 1 ≤ w → 1 ≤ n → n ≤ 2 → FrameWithin n frame → v ≤ n
    → ((i : ℕ) → i < size w n (suc d) → nat_abs (get_or ys i (pos 0)) ≤ B)
    → (i : ℕ) → i < size w n d → nat_abs (get_or (blended w n d (vertex_weights n frame v) ys) i (pos 0)) ≤ 4 * suc n * B
unfolding fixed
blended-small w n d v B frame ys some low high f b small i inside =
    let ws = vertex_weights n frame v in
    let place : i / w < length (counts n d) = (div-lt_iff_lt-mul some).1 (subst (λ k. i < k) (mul_comm w (length (counts n d))) inside) in
    let e = get_or (counts n d) (i / w) [] in
    let r = counts-at n d (i / w) place in
    let c : i % w < w = mod-lt i some in
    let number_is : get_or (blended w n d ws ys) i (pos 0) ≡ sum (λ u. get_or ws u (pos 0) *ℤ entry_at w n (suc d) ys (i % w) (raise u e)) (upto (suc n)) =
    ap (λ j. get_or (blended w n d ws ys) j (pos 0)) (sym (div-add-mod i w) ∙ ap (λ j. w * j + i % w) (sym (rank-at n d (i / w) place)))
    ∙ sym (entry-rank w n d (blended w n d ws ys) (i % w) e r.0 r.1)
    ∙ entry-blended w n d ws ys (i % w) e c r.0 r.1 in
    subst (λ z. nat_abs z ≤ 4 * suc n * B) (sym number_is)
    (let bound = abs-sum (λ u. get_or ws u (pos 0) *ℤ entry_at w n (suc d) ys (i % w) (raise u e)) (suc n) (4 * B)
    (λ u p.
    abs-*-le (get_or ws u (pos 0)) (entry_at w n (suc d) ys (i % w) (raise u e)) (weights-within n frame v u low high f b)
    (each u e r.0 r.1 p (i % w) c)) in
    subst (λ k. nat_abs (sum (λ u. get_or ws u (pos 0) *ℤ entry_at w n (suc d) ys (i % w) (raise u e)) (upto (suc n))) ≤ k) times bound)
  where
    times : suc n * (4 * B) ≡ 4 * suc n * B
    times = sym (mul_assoc (suc n) 4 B) ∙ ap (λ k. k * B) (mul_comm (suc n) 4)

    each : (u : ℕ) (e : List ℕ) → length e ≡ suc n → total e ≡ d → u < suc n → (c : ℕ) → c < w → nat_abs (entry_at w n (suc d) ys c (raise u e)) ≤ B
    each u e l t p c k =
        let lr : length (raise u e) ≡ suc n = length-raise u e (subst (λ z. u < z) (sym l) p) ∙ l in
        let tr : total (raise u e) ≡ suc d = total-raise u e ∙ ap suc t in
        subst (λ z. nat_abs z ≤ B) (sym (entry-rank w n (suc d) ys c (raise u e) lr tr))
        (small (w * rank n (raise u e) + c) (digits-below w (rank n (raise u e)) c (length (counts n (suc d))) (rank_below w n (suc d) (raise u e) lr tr) k))

-- ---- as the code reads the frame

-- a vertex's numbers are within the frame
pub vertex-place : (n v : ℕ) → 1 ≤ n → n ≤ 2 → v ≤ n → ((n + 1) * v + n < suc n * suc n) × ((n + 1) * v + 2 ≤ suc n * suc n)
vertex-place n v low high =
    by-dimension (λ d. v ≤ d → ((d + 1) * v + d < suc d * suc d) × ((d + 1) * v + 2 ≤ suc d * suc d)) n low high (λ h. (omega arith, omega arith)) (λ h. (omega arith, omega arith))

pub weights-read : (n v : ℕ) (frame : List ℤ) (z a b u : ℤ) → 1 ≤ n → n ≤ 2 → z ≡ get_or frame ((n + 1) * v + n) (pos 0) → a ≡ get_or frame ((n + 1) * v) (pos 0)
    → b ≡ cond (eqb n 1) (pos 0) (get_or frame ((n + 1) * v + 1) (pos 0)) → u ≡ pos 0 → z ∷ a ∷ b ∷ u ∷ [] ≡ vertex_weights n frame v
weights-read n v frame z a b u low high =
    by-dimension
    (λ d.
    z ≡ get_or frame ((d + 1) * v + d) (pos 0) → a ≡ get_or frame ((d + 1) * v) (pos 0) → b ≡ cond (eqb d 1) (pos 0) (get_or frame ((d + 1) * v + 1) (pos 0)) → u ≡ pos 0
    → z ∷ a ∷ b ∷ u ∷ [] ≡ vertex_weights d frame v) n low high
    (λ p q r t j. p j ∷ q j ∷ r j ∷ t j ∷ []) (λ p q r t j. p j ∷ q j ∷ r j ∷ t j ∷ [])

-- the step fits
pub vertex-bounded : (n v hi : ℕ) (frame cur : List ℤ) (z a b u : ℤ) → 1 ≤ n → n ≤ 2 → FrameWithin n frame → v ≤ n → Bounded cur 0 hi (4 * suc n)
    → z ∷ a ∷ b ∷ u ∷ [] ≡ vertex_weights n frame v → (n ≡ 1 → b ≡ pos 0) → Bounded cur 0 hi (nat_abs z + nat_abs a + nat_abs b)
vertex-bounded n v hi frame cur z a b u low high f top bounded is none =
    bounded-less cur hi 0 hi (4 * suc n) (nat_abs z + nat_abs a + nat_abs b) (le_refl hi)
    (by-dimension (λ d. (d ≡ 1 → b ≡ pos 0) → nat_abs z + nat_abs a + nat_abs b ≤ 4 * suc d) n low high
    (λ h. let zero-b = ap nat_abs (h refl) in omega (arith, zero-b, at 0, at 1)) (λ h. omega (arith, at 0, at 1, at 2)) none)
    bounded
  where
    at : (j : ℕ) → nat_abs (get_or (z ∷ a ∷ b ∷ u ∷ []) j (pos 0)) ≤ 4
    at j = subst (λ l. nat_abs (get_or l j (pos 0)) ≤ 4) (sym is) (weights-within n frame v j low high f top)

-- small enough for the next step
small-bounded : (w n m : ℕ) (cur : List ℤ) → 1 ≤ m → Small w n m cur → Bounded cur 0 (size w n m) (4 * suc n)
small-bounded w n zero cur one s = absurd (not-suc-le-zero one)
small-bounded w n (suc m) cur one s = record { bound = s.bound; each = λ i lo up. s.each i up; fits = less }
  where
    G : ℕ
    G = 4 * suc n

    less : G * s.bound < 2 ^ 63
    less =
        let once = mul-le-mul_right (G * s.bound) (one-le-pow m G (omega arith)) in
        let all = s.fits in
        let turned : G ^ suc m * s.bound ≡ G ^ m * (G * s.bound) = ap (λ p. p * s.bound) (pow-suc G m) ∙ mul_assoc (G ^ m) G s.bound in
        omega (arith, once, all, turned)

pub vertex-step : (w n m v : ℕ) (frame cur : List ℤ) → Stepping w n m frame cur → 1 ≤ m → v ≤ n → VertexStep w n m v frame cur
vertex-step w n m v frame cur s one b =
    record { sized = s.sized; some = one; vertex = b; long = s.long; corners = s.corners; bounded = small-bounded w n m cur one s.small }

-- after a step with a vertex the numbers are small for the degree below
small-next : (w n d v : ℕ) (frame cur : List ℤ) → 1 ≤ w → 1 ≤ n → n ≤ 2 → FrameWithin n frame → v ≤ n → Small w n (suc d) cur
    → Small w n d (blended w n d (vertex_weights n frame v) cur)
small-next w n d v frame cur some low high f b small =
    record {
      bound = 4 * suc n * small.bound;
      each = blended-small w n d v small.bound frame cur some low high f b small.each;
      fits = subst (λ p. p < 2 ^ 63) (ap (λ p. p * small.bound) (pow-suc (4 * suc n) d) ∙ mul_assoc ((4 * suc n) ^ d) (4 * suc n) small.bound) small.fits;
    }

-- no step with a vertex is beyond 64 bits, so none is refused
pub vertex-fits : (w n degree v : ℕ) (frame cur : List ℤ) → Sized w n degree → 1 ≤ degree → FrameWithin n frame → v ≤ n → size w n degree ≤ length cur → Bounded cur 0 (size w n degree) (4 * suc n)
    → all (within 9223372036854775807) (take (size w n (pred degree)) (blended w n (pred degree) (vertex_weights n frame v) cur)) ≡ true
vertex-fits w n zero v frame cur s one f b long small = absurd (not-suc-le-zero one)
vertex-fits w n (suc d) v frame cur s one f b long small =
    ranged-each 9223372036854775807 (blended w n d (vertex_weights n frame v) cur) (size w n d)
    (subst (λ k. size w n d ≤ k) (sym (length-blended w n s.some d (vertex_weights n frame v) cur room)) room)
    (λ i inside. let each = blended-small w n d v small.bound frame cur s.some s.low s.high f b (λ j q. small.each j zero-le q) i inside in let top = small.fits in omega arith)
  where
    room : size w n d ≤ length cur
    room = le_trans (size_mono w n d (suc d) (omega arith)) long

-- ---- a room that has the first numbers of another

pub small_same : (w n m : ℕ) (xs ys : List ℤ) → ((i : ℕ) → i < size w n m → get_or ys i (pos 0) ≡ get_or xs i (pos 0)) → Small w n m xs → Small w n m ys
small_same w n m xs ys same small =
    record { bound = small.bound; each = λ i b. subst (λ z. nat_abs z ≤ small.bound) (sym (same i b)) (small.each i b); fits = small.fits }

pub holds_same : (w n m : ℕ) (G : Values) (xs ys : List ℤ) → ((i : ℕ) → i < size w n m → get_or ys i (pos 0) ≡ get_or xs i (pos 0)) → Holds w n m G xs → Holds w n m G ys
holds_same w n m G xs ys same holds =
    record {
      form = holds.form;
      entries =
          λ c e k l t.
          entry-rank w n m ys c e l t
          ∙ same (w * rank n e + c) (digits-below w (rank n e) c (length (counts n m)) (rank_below w n m e l t) k)
          ∙ sym (entry-rank w n m xs c e l t)
          ∙ holds.entries c e k l t;
    }

-- ---- the loops

-- where the numbers cur stand after h steps with vertex v
pub record VertexSteps (w n m v : ℕ) (frame xs cur : List ℤ) (h : ℕ) : Type 0 where
  pub below : h ≤ m
  pub reached : cur ≡ level w n m (vertex_weights n frame v) h xs
  pub kept : length cur ≡ length xs
  pub small : Small w n (m - h) cur

module _ (w n m v : ℕ) (frame xs : List ℤ) (stepping : Stepping w n m frame xs) where
  pub steps_first : VertexSteps w n m v frame xs xs 0
  unfolding level
  steps_first = record { below = zero-le; reached = refl; kept = refl; small = subst (λ k. Small w n k xs) (sym (sub-zero m)) stepping.small }

  pub steps_next : (cur ys : List ℤ) (h : ℕ) → h < m → v ≤ n → VertexSteps w n m v frame xs cur h
      → ys ≡ blended w n (pred (m - h)) (vertex_weights n frame v) cur → length ys ≡ length cur → VertexSteps w n m v frame xs ys (h + 1)
  unfolding level
  steps_next cur ys h more b p is kept =
      subst (λ k. VertexSteps w n m v frame xs ys k) (sym (add-one h))
      (record {
        below = more;
        reached = is-next ∙ ap (blended w n (m - suc h) (vertex_weights n frame v)) p.reached;
        kept = kept ∙ p.kept;
        small =
            subst (λ l. Small w n (m - suc h) l) (sym is-next)
            (small-next w n (m - suc h) v frame cur stepping.sized.some stepping.sized.low stepping.sized.high stepping.corners b (subst (λ k. Small w n k cur) again p.small));
      })
    where
      less : pred (m - h) ≡ m - suc h
      less = omega arith

      again : m - h ≡ suc (m - suc h)
      again = omega arith

      is-next : ys ≡ blended w n (m - suc h) (vertex_weights n frame v) cur
      is-next = is ∙ ap (λ d. blended w n d (vertex_weights n frame v) cur) less

  -- there is room for what is left
  steps-room : (cur : List ℤ) (h : ℕ) → VertexSteps w n m v frame xs cur h → size w n (m - h) ≤ length cur
  steps-room cur h p = subst (λ k. size w n (m - h) ≤ k) (sym p.kept) (le_trans (size_mono w n (m - h) m (omega arith)) stepping.long)

  -- so the steps with any vertex may go on from there
  pub steps-left : (cur : List ℤ) (h : ℕ) → VertexSteps w n m v frame xs cur h → Stepping w n (m - h) frame cur
  steps-left cur h p = record { sized = smaller stepping.sized (omega arith); long = steps-room cur h p; corners = stepping.corners; small = p.small }

-- ---- the values that a net holds

module _ (w n m v : ℕ) (frame xs : List ℤ) (sized : Sized w n m) (b : v ≤ n) (room : size w n m ≤ length xs) (G : Values) (holds : Holds w n m G xs) where
  abbrev ws : List ℤ
  ws = vertex_weights n frame v

  -- what the entries fix with h copies of the vertex
  fixed-is : (c h : ℕ) (e : List ℕ) → c < w → length e ≡ suc n → h + total e ≡ m
      → fixed (suc n) ws (entry_at w n m xs c) h e ≡ G c (replicate h (vertex_of n frame v) ++ entry_points (units n) e)
  fixed-is c h e k l t =
      fixes (holds.form c) (units n) ws (entry_at w n m xs c) (λ x lx tx. holds.entries c x k lx tx) h e l t
      ∙ ap (λ q. G c (replicate h q ++ entry_points (units n) e)) (vertex-named n sized.low sized.high frame v b)

  -- after h steps: the values with h copies of the vertex
  pub holds-level : (h : ℕ) → h ≤ m → Holds w n (m - h) (λ c ps. G c (replicate h (vertex_of n frame v) ++ ps)) (level w n m ws h xs)
  holds-level h below =
      record {
        form = λ c. fixing (holds.form c) (replicate h (vertex_of n frame v));
        entries =
            λ c e k l t.
            let all : h + total e ≡ m = omega arith in
            level-entry w n sized.some m ws xs room h c e below k l all ∙ fixed-is c h e k l all;
      }

  -- after all steps: the one value of as many copies, at the front
  pub level-front : (c : ℕ) → c < w → get_or (level w n m ws m xs) c (pos 0) ≡ G c (replicate m (vertex_of n frame v))
  level-front c k =
      level-last w n sized.some m ws xs room c k
      ∙ fixed-is c m (replicate (suc n) 0) k (length-zeros (suc n)) (ap (λ z. m + z) (total-zeros (suc n)) ∙ add-zero m)
      ∙ ap (G c) (ap (λ l. replicate m (vertex_of n frame v) ++ l) (no-points (suc n) (units n)) ∙ append-nil (replicate m (vertex_of n frame v)))
    where
      no-points : (d : ℕ) (us : ℕ → Point) → entry_points us (replicate d 0) ≡ []
      no-points zero us = refl
      no-points (suc d) us = no-points d (λ u. us (suc u))
