-- Along every list of calls the frame of a curve keeps a determinant that is not 0: a replace multiplies it
-- by the weight of the vertex, a flip by -1. So at every point that is found, what is projected is what is
-- left there.
use Prim.Native.Nat.{ℕ, zero, suc, pred, ◌-◌, ◌<◌}
use native.Mathlib.Nat as NatL
use native.Mathlib.Omega.{arith}
use mathlib.Core.Path.{◌≡◌, refl, sym, ap, ap₂, ◌∙◌, subst, transport}
use mathlib.Core.Bool.{Bool, true, false, not, ◌&&◌, ◌||◌, cond}
use mathlib.Core.List.{List, [], ◌∷◌, map}
use borrow.Author.Tests.{eqb-true, leb-true, le-leb}
use lib.Dec.{eqb, leb}
use lib.IntN.{ℤ, pos, neg_ℤ, ◌+ℤ◌, ◌-ℤ◌, ◌*ℤ◌}
use lib.ListN.{get_or, take}
use Rattle.integers.specs.Test.{within, all}
use Rattle.integers.proofs.All.{clash, and_parts}
use Rattle.integers.proofs.Ring.{ring, ring-rules, product-nonzero}
use Rattle.entries.specs.Frame.{combination, vertex_at, put_over}
use Rattle.projection.specs.Projection.{is_zero, Four, FourInRange, projection_of_four, without_length, found_projection}
use Rattle.projection.specs.declared.Projection.{Projection}
use Rattle.kinds.specs.Frames.{Frames, frame_of, frame_allowed, frames_of, frames_allowed, determinant}
use Rattle.machine.specs.Refusals.{Test, first_failed, all_pass}
use Rattle.machine.specs.Calls.{own_tests, weight_list}
use Rattle.machine.specs.Frames.{points_of, frames_after, new_numbers}
use Rattle.machine.specs.Steps.{Found, step_by, after}
use Rattle.machine.specs.Nets.{step_of}
use Rattle.machine.specs.Found.{AnswerInRange}
use Rattle.machine.specs.Demand3.{net_reached, frames_reached}
use Rattle.machine.specs.Comparison.{groups, machine_polar, machine_tests, machine_accepted, machine_step}
use Rattle.machine.specs.First.{first_tests, first_refusal}
use Rattle.zeros.specs.CommonZero.{curve, WhatIsLeft, ContinuousProjection, CommonZeros}
use Rattle.machine.specs.declared.Weights.{Weights}
use Rattle.machine.specs.declared.Call.{Call}
use Rattle.machine.specs.declared.Call.TheVariants as call
use Rattle.machine.proofs.Refusals.{none-failed, row-passes}
use Rattle.machine.proofs.Over.{call-passed, call-agrees}
use Rattle.machine.proofs.Demand3.{along, start-reached}
use Rattle.machine.proofs.Found.{found-in-range}
use Rattle.projection.proofs.Zeros.{zeros-are}
use Rattle.alike.proofs.Lists.{alike_both}
use Rattle.alike.proofs.Multiples.{reads-alike}
use Rattle.zeros.proofs.FirstNotZeros.{least, nowhere-zeros, found-parts, not_found}
use Rattle.zeros.proofs.CommonZero.{line_frame, first, answer-is, point, q-somewhere, Left, left_by, can-be, first-zero}

-- a curve's frames with a determinant that is not 0
record Line (frames : Frames) : Type 0 where
  r_t : ℤ
  r_z : ℤ
  s_t : ℤ
  s_z : ℤ
  is : frames ≡ line_frame r_t r_z s_t s_z ∷ []
  apart : r_t *ℤ s_z -ℤ r_z *ℤ s_t ≡ pos 0 → ⊥

not-zero : (x : ℤ) → not (is_zero x) ≡ true → x ≡ pos 0 → ⊥
not-zero x h e = clash h (ap (λ z. not (is_zero z)) e)

-- ---- the start

start-line : (m : ℕ) (f numbers : List ℤ) → first_refusal (curve m f) numbers ≡ 0 → Line (frames_of (groups (curve m f)) numbers)
unfolding first_refusal first_tests frames_of frames_allowed frame_allowed frame_of
start-line m f numbers ok =
    let passed = (none-failed (first_tests (curve m f) numbers) refl).0 ok in
    let allowed = row-passes (first_tests (curve m f) numbers) passed 1 in
    let own = (and_parts (frame_allowed 2 numbers) true allowed).0 in
    let det = (and_parts (all (within 4) (take 4 numbers)) (not (is_zero (determinant 2 (frame_of 2 numbers)))) own).1 in
    record {
      r_t = n 0;
      r_z = n 1;
      s_t = n 2;
      s_z = n 3;
      is = refl;
      apart = λ z. not-zero (determinant 2 (frame_of 2 numbers)) det (same ∙ z);
    }
  where
    n : ℕ → ℤ
    n i = get_or numbers i (pos 0)

    same : determinant 2 ((n 0 ∷ n 1 ∷ []) ∷ (n 2 ∷ n 3 ∷ []) ∷ []) ≡ n 0 *ℤ n 3 -ℤ n 1 *ℤ n 2
    same = ring (n 0 ∷ n 1 ∷ n 2 ∷ n 3 ∷ []) (search ring-rules depth 60 fits 9000) tt

-- ---- a move

module _ (m : ℕ) (f : List ℤ) (r_t r_z s_t s_z : ℤ) (apart : r_t *ℤ s_z -ℤ r_z *ℤ s_t ≡ pos 0 → ⊥) where
  abbrev frames : Frames
  frames = line_frame r_t r_z s_t s_z ∷ []

  det : ℤ
  det = r_t *ℤ s_z -ℤ r_z *ℤ s_t

  -- by whether the move is a replace, and by its vertex
  moved : (b : Bool) (v : ℕ) (weights : Weights) → v < 2 → (b ≡ true → get_or (weight_list weights) v (pos 0) ≡ pos 0 → ⊥)
      → Line
      (put_over 0 v
      (cond b (combination 2 (weight_list weights) (vertex_at (line_frame r_t r_z s_t s_z))) (map neg_ℤ (vertex_at (line_frame r_t r_z s_t s_z) v))) frames)
  moved true zero w h some =
      record {
        r_t = w.r *ℤ r_t +ℤ (w.s *ℤ s_t +ℤ pos 0);
        r_z = w.r *ℤ r_z +ℤ (w.s *ℤ s_z +ℤ pos 0);
        s_t = s_t;
        s_z = s_z;
        is = refl;
        apart = λ z. product-nonzero w.r (r_t *ℤ s_z -ℤ r_z *ℤ s_t) (some refl) apart (ring (w.r ∷ w.s ∷ r_t ∷ r_z ∷ s_t ∷ s_z ∷ []) (search ring-rules depth 60 fits 9000) tt ∙ z);
      }
  moved true (suc zero) w h some =
      record {
        r_t = r_t;
        r_z = r_z;
        s_t = w.r *ℤ r_t +ℤ (w.s *ℤ s_t +ℤ pos 0);
        s_z = w.r *ℤ r_z +ℤ (w.s *ℤ s_z +ℤ pos 0);
        is = refl;
        apart = λ z. product-nonzero w.s (r_t *ℤ s_z -ℤ r_z *ℤ s_t) (some refl) apart (ring (w.r ∷ w.s ∷ r_t ∷ r_z ∷ s_t ∷ s_z ∷ []) (search ring-rules depth 60 fits 9000) tt ∙ z);
      }
  moved false zero w h some =
      record {
        r_t = neg_ℤ r_t;
        r_z = neg_ℤ r_z;
        s_t = s_t;
        s_z = s_z;
        is = refl;
        apart = λ z. apart (ring (r_t ∷ r_z ∷ s_t ∷ s_z ∷ []) (search ring-rules depth 60) tt ∙ ap neg_ℤ z);
      }
  moved false (suc zero) w h some =
      record {
        r_t = r_t;
        r_z = r_z;
        s_t = neg_ℤ s_t;
        s_z = neg_ℤ s_z;
        is = refl;
        apart = λ z. apart (ring (r_t ∷ r_z ∷ s_t ∷ s_z ∷ []) (search ring-rules depth 60) tt ∙ ap neg_ℤ z);
      }
  moved b (suc (suc v)) w h some = absurd (NatL.not-suc-le-zero (NatL.le_of_suc-le-suc (NatL.le_of_suc-le-suc h)))

  -- the vertex of a move that is not refused, and its weight
  vertex-two : (vertex : ℕ) → (leb 1 vertex && leb vertex 2) ≡ true → pred vertex < 2
  vertex-two vertex h =
      let both = and_parts (leb 1 vertex) (leb vertex 2) h in
      let low = leb-true 1 vertex both.0 in
      let high = leb-true vertex 2 both.1 in
      omega arith

  accepted-line : (c : Call) → first_failed (machine_tests (curve m f) frames c) ≡ 0 → Line (machine_accepted (curve m f) frames c).left
  unfolding machine_accepted machine_tests frames_after points_of own_tests
  accepted-line (call.Point weights) none = record { r_t = r_t; r_z = r_z; s_t = s_t; s_z = s_z; is = refl; apart = apart }
  accepted-line (call.Move operation vertex weights) none =
      subst
      (λ bit.
      Line
      (put_over (cond bit 0 1) (cond bit (pred vertex) (pred vertex - 2))
      (cond (eqb operation 1) (get_or (combination 2 (weight_list weights) (vertex_at (line_frame r_t r_z s_t s_z)) ∷ []) (cond bit 0 1) [])
      (map neg_ℤ (vertex_at (get_or frames (cond bit 0 1) []) (cond bit (pred vertex) (pred vertex - 2))))) frames))
      (sym near) (moved (eqb operation 1) (pred vertex) weights low weighed)
    where
      move : Call
      move = call.Move operation vertex weights

      own : List Test
      own = own_tests (groups (curve m f)) move

      passed : all_pass own ≡ true
      passed = (call-passed (groups (curve m f)) move (new_numbers (groups (curve m f)) frames move) (machine_polar (curve m f) frames move) none).0

      low : pred vertex < 2
      low = vertex-two vertex (row-passes own passed 1)

      near : leb (pred vertex) 1 ≡ true
      near = le-leb (pred vertex) 1 (NatL.le_of_suc-le-suc low)

      weighed : eqb operation 1 ≡ true → get_or (weight_list weights) (pred vertex) (pos 0) ≡ pos 0 → ⊥
      weighed one z =
          clash (ap₂ (λ n bit. eqb n 2 || not (is_zero (get_or (weight_list weights) (cond bit (pred vertex) (pred vertex - 2)) (pos 0)))) (sym (eqb-true operation 1 one)) (sym near) ∙ row-passes own passed 4)
          (ap (λ x. not (is_zero x)) z)

step_line : (m : ℕ) (f : List ℤ) (frames : Frames) → Line frames → (c : Call) → Line (machine_step (curve m f) frames c).left
unfolding machine_step step_by
step_line m f frames line c =
    subst (λ fr. Line (machine_step (curve m f) fr c).left) (sym line.is)
    (by (first_failed (machine_tests (curve m f) here c)) refl)
  where
    here : Frames
    here = line_frame line.r_t line.r_z line.s_t line.s_z ∷ []

    by : (k : ℕ) → first_failed (machine_tests (curve m f) here c) ≡ k → Line (step_by k here (machine_accepted (curve m f) here c)).left
    by zero none = accepted-line m f line.r_t line.r_z line.s_t line.s_z line.apart c none
    by (suc k) some = record { r_t = line.r_t; r_z = line.r_z; s_t = line.s_t; s_z = line.s_z; is = refl; apart = line.apart }

along-line : (m : ℕ) (f : List ℤ) (frames : Frames) → Line frames → (calls : List Call) → Line (after (machine_step (curve m f)) frames calls)
unfolding after
along-line m f frames line [] = line
along-line m f frames line (c ∷ cs) = along-line m f (machine_step (curve m f) frames c).left (step_line m f frames line c) cs

-- ---- what is found there

-- not both weights of a point that is not refused are 0
weighed : (m : ℕ) (f : List ℤ) (frames : Frames) (w : Weights) → first_failed (machine_tests (curve m f) frames (call.Point w)) ≡ 0 → w.r ≡ pos 0 → w.s ≡ pos 0 → ⊥
unfolding machine_tests own_tests
weighed m f frames w none r s =
    let c = call.Point w in
    let own = own_tests (groups (curve m f)) c in
    let passed = (call-passed (groups (curve m f)) c (new_numbers (groups (curve m f)) frames c) (machine_polar (curve m f) frames c) none).0 in
    clash (row-passes own passed 2) (λ i. not (is_zero (r i) && (is_zero (s i) && true)) && true)

module _ (m : ℕ) (f : List ℤ) (r_t r_z s_t s_z : ℤ) (apart : r_t *ℤ s_z -ℤ r_z *ℤ s_t ≡ pos 0 → ⊥) (w : Weights) (some : w.r ≡ pos 0 → w.s ≡ pos 0 → ⊥)
    (inside : FourInRange (first m f r_t r_z s_t s_z apart w some)) where
  abbrev p : Four
  p = point m f r_t r_z s_t s_z apart w some

  abbrev v : Four
  v = first m f r_t r_z s_t s_z apart w some

  abbrev reads : Projection
  reads = found_projection p v

  what-is-left : (d n : ℕ) (g : List ℤ) → Left m f r_t r_z s_t s_z apart w some d n g → WhatIsLeft m f (line_frame r_t r_z s_t s_z ∷ []) w p v reads d n g
  unfolding found_projection
  what-is-left d n g l =
      record {
        numbers = l.numbers;
        inside = inside;
        multiple = l.multiple;
        at_zero = λ out. (
          zeros-are p (l.zero-there out),
          λ x in-range alike.
              ap (λ b. cond b (without_length (projection_of_four v)) (projection_of_four v)) (l.zero-there out)
              ∙ reads-alike v x inside in-range (alike_both l.multiple alike),
        );
        elsewhere = λ none. let e = l.elsewhere none in (
          e.1,
          ap (λ b. cond b (without_length (projection_of_four v)) (projection_of_four v)) e.0 ∙ ap projection_of_four e.1,
        );
      }

  continuous : ContinuousProjection m f (line_frame r_t r_z s_t s_z ∷ []) w p v reads
  continuous =
      let v-least = least _ (suc m) in
      let only = nowhere-zeros p v in
      let zeros = first-zero m f r_t r_z s_t s_z apart w some in
      record {
        found = refl;
        somewhere = q-somewhere m f r_t r_z s_t s_z apart w some;
        left = λ d n g out. what-is-left d n g (left_by m f r_t r_z s_t s_z apart w some d n g out v-least);
        taken = λ not-zero. can-be m f r_t r_z s_t s_z apart w some v-least (λ e. not-zero (zeros.0 e));
        nowhere = (λ e. zeros.0 (only.0 e), λ z. only.1 (zeros.1 z));
      }

-- on a curve's frame, by the number of the point's refusal
by_number : (m : ℕ) (f : List ℤ) (r_t r_z s_t s_z : ℤ) → (r_t *ℤ s_z -ℤ r_z *ℤ s_t ≡ pos 0 → ⊥) → (w : Weights) (point projected : Four) (at : Projection) → FourInRange projected
    → (k : ℕ) → first_failed (machine_tests (curve m f) (line_frame r_t r_z s_t s_z ∷ []) (call.Point w)) ≡ k
    → (step_by k (line_frame r_t r_z s_t s_z ∷ []) (machine_accepted (curve m f) (line_frame r_t r_z s_t s_z ∷ []) (call.Point w))).answer ≡ Found point projected at
    → ContinuousProjection m f (line_frame r_t r_z s_t s_z ∷ []) w point projected at
unfolding step_by
by_number m f r_t r_z s_t s_z apart w point projected at inside (suc k) is e = absurd (not_found e)
by_number m f r_t r_z s_t s_z apart w point projected at inside zero is e =
    let some = weighed m f (line_frame r_t r_z s_t s_z ∷ []) w is in
    let same = found-parts (sym (answer-is m f r_t r_z s_t s_z apart w some) ∙ e) in
    let here = continuous m f r_t r_z s_t s_z apart w some (subst FourInRange (sym same.1) inside) in
    other same.0 same.1 same.2 here
  where
    other : {p v : Four} {reads : Projection} → p ≡ point → v ≡ projected → reads ≡ at
        → ContinuousProjection m f (line_frame r_t r_z s_t s_z ∷ []) w p v reads → ContinuousProjection m f (line_frame r_t r_z s_t s_z ∷ []) w point projected at
    other a b c x = transport (λ i. ContinuousProjection m f (line_frame r_t r_z s_t s_z ∷ []) w (a i) (b i) (c i)) x

on_line : (m : ℕ) (f : List ℤ) (frames : Frames) → Line frames → (w : Weights) (point projected : Four) (at : Projection) → FourInRange projected
    → (machine_step (curve m f) frames (call.Point w)).answer ≡ Found point projected at → ContinuousProjection m f frames w point projected at
unfolding machine_step
on_line m f frames line w point projected at inside =
    subst
    (λ fr. (machine_step (curve m f) fr (call.Point w)).answer ≡ Found point projected at → ContinuousProjection m f fr w point projected at)
    (sym line.is) (by_number m f line.r_t line.r_z line.s_t line.s_z line.apart w point projected at inside _ refl)

pub common-zeros : CommonZeros
common-zeros m f numbers ok calls w point projected at e =
    let start = frames_of (groups (curve m f)) numbers in
    let here = along (curve m f) start (start-reached (curve m f) numbers ok) calls in
    let reached = frames_reached (curve m f) numbers calls in
    on_line m f reached (along-line m f start (start-line m f numbers ok) calls) w point projected at
    (subst AnswerInRange e (found-in-range (net_reached (curve m f) numbers calls) (call.Point w))).1
    (sym (call-agrees (curve m f) reached here.reached (call.Point w)).answers ∙ sym (ap (λ n. (step_of n (call.Point w)).answer) here.nets) ∙ e)
