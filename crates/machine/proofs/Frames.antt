-- The frames that calls reach: they keep all their vertices and numbers, and where refusal 12 has been passed their numbers are in range.
use Prim.Native.Nat.{ℕ, suc, pred, ◌+◌, ◌*◌, ◌<◌}
use native.Mathlib.Nat.{mul-le-mul_left, mul-suc}
use native.Mathlib.Omega.{arith}
use mathlib.Core.Path.{◌≡◌, refl, sym, ap, ◌∙◌}
use mathlib.Core.Bool.{Bool, true, false, not, cond}
use mathlib.Core.List.{List, [], ◌∷◌, map}
use lib.Dec.{leb, eqb}
use lib.IntN.{ℤ, pos, neg_ℤ, nat_abs}
use lib.ListN.{length, get_or, set, take, drop}
use lib.Seq.{get_or-take}
use borrow.Author.Tests.{leb-true, le-leb}
use Rattle.integers.specs.Sum.{upto}
use Rattle.integers.specs.Test.{within, all}
use Rattle.integers.proofs.All.{and-true, and_parts, all-passes, all_get_d, all_set, all-cong, all_map}
use Rattle.integers.proofs.Laws.{nat_abs-neg}
use Rattle.integers.proofs.Sums.{upto-below}
use Rattle.polar.specs.Sigma.{Point}
use Rattle.polar.specs.Order.{joined}
use Rattle.polar.specs.Groups.{Group}
use Rattle.polar.proofs.Order.{all-joined}
use Rattle.entries.specs.Frame.{vertex_at, put_over}
use Rattle.entries.proofs.Groups.{Framed}
use Rattle.projection.specs.Projection.{in_range, is_zero}
use Rattle.kinds.specs.Frames.{Frames, determinant, frame_of, frame_allowed, frames_of, frames_allowed, numbers_of}
use Rattle.kinds.proofs.Frames.{framed-put, point-wide, negative-wide}
use Rattle.machine.specs.Calls.{group_at, own_at, weights_for}
use Rattle.machine.specs.Frames.{points_of, frames_after, new_numbers}
use Rattle.machine.specs.declared.Call.{Call}
use Rattle.machine.specs.declared.Call.TheVariants as call

-- a call leaves frames with all their vertices and numbers
pub framed-after : (gs : List Group) (frames : Frames) (c : Call) → Framed gs frames → Framed gs (frames_after gs frames c)
unfolding frames_after points_of
framed-after gs frames (call.Move operation vertex weights) framed = framed-put gs frames i v (cond (eqb operation 1) q (map neg_ℤ (vertex_at (get_or frames i []) v))) framed (by (eqb operation 1))
  where
    i : ℕ
    i = group_at gs (pred vertex)

    v : ℕ
    v = own_at gs (pred vertex)

    q : Point
    q = get_or (points_of gs frames (call.Move operation vertex weights)) i []

    by : (b : Bool) → v < length (get_or frames i []) → length (cond b q (map neg_ℤ (vertex_at (get_or frames i []) v))) ≡ length (get_or frames i [])
    by true h = point-wide gs (weights_for gs (call.Move operation vertex weights)) frames i framed
    by false h = negative-wide gs frames i v framed h
framed-after gs frames (call.Point weights) framed = framed

-- ---- numbers in range

-- the numbers of all vertices
pub in-range-numbers : (frames : Frames) → all in_range (numbers_of frames) ≡ all (all (all in_range)) frames
in-range-numbers frames =
    all-joined in_range (joined (λ p. p)) frames
    ∙ all-cong (λ frame. all in_range (joined (λ p. p) frame)) (all (all in_range)) frames (λ frame m. all-joined in_range (λ p. p) frame)

in-range-put : (frames : Frames) (i v : ℕ) (q : Point) → all (all (all in_range)) frames ≡ true → all in_range q ≡ true → all (all (all in_range)) (put_over i v q frames) ≡ true
in-range-put frames i v q h k =
    all_set (all (all in_range)) frames i (set (get_or frames i []) v q) h (all_set (all in_range) (get_or frames i []) v q (all_get_d (all (all in_range)) frames i [] h refl) k)

pub in-range-neg : (x : ℤ) → in_range (neg_ℤ x) ≡ in_range x
in-range-neg x = ap (λ a. leb a 281474976710656) (nat_abs-neg x)

pub in-range-negative : (frames : Frames) (i v : ℕ) → all (all (all in_range)) frames ≡ true → all in_range (map neg_ℤ (vertex_at (get_or frames i []) v)) ≡ true
in-range-negative frames i v h =
    all_map in_range neg_ℤ (vertex_at (get_or frames i []) v)
    ∙ all-cong (λ x. in_range (neg_ℤ x)) in_range (vertex_at (get_or frames i []) v) (λ x m. in-range-neg x)
    ∙ all_get_d (all in_range) (get_or frames i []) v [] (all_get_d (all (all in_range)) frames i [] h refl) refl

-- frames in range stay so where the numbers of a replace's q are in range
pub in-range-after : (gs : List Group) (frames : Frames) (c : Call) → all in_range (numbers_of frames) ≡ true → all in_range (new_numbers gs frames c) ≡ true
    → all in_range (numbers_of (frames_after gs frames c)) ≡ true
unfolding frames_after new_numbers
in-range-after gs frames (call.Move operation vertex weights) h new =
    let i = group_at gs (pred vertex) in
    let v = own_at gs (pred vertex) in
    let inside = sym (in-range-numbers frames) ∙ h in
    in-range-numbers (frames_after gs frames (call.Move operation vertex weights)) ∙ in-range-put frames i v _ inside (by i v inside (eqb operation 1) new)
  where
    by : (i v : ℕ) → all (all (all in_range)) frames ≡ true → (b : Bool) → all in_range (cond b (get_or (points_of gs frames (call.Move operation vertex weights)) i []) []) ≡ true
        → all in_range (cond b (get_or (points_of gs frames (call.Move operation vertex weights)) i []) (map neg_ℤ (vertex_at (get_or frames i []) v))) ≡ true
    by i v inside true n = n
    by i v inside false n = in-range-negative frames i v inside
in-range-after gs frames (call.Point weights) h new = h

-- ---- a record's frames are in range

-- numbers within 4 are
in-range-four : (x : ℤ) → within 4 x ≡ true → in_range x ≡ true
in-range-four x h = let low = leb-true (nat_abs x) 4 h in le-leb (nat_abs x) 281474976710656 (omega arith)

within-square : (d v c : ℕ) → v < d → c < d → d * v + c < d * d
within-square d v c h k = let up = mul-le-mul_left d h in omega (arith, up, mul-suc d v)

in-range-frame : (d : ℕ) (numbers : List ℤ) → all (within 4) (take (d * d) numbers) ≡ true → all (all in_range) (frame_of d numbers) ≡ true
unfolding frame_of
in-range-frame d numbers ok =
    all_map (all in_range) (λ v. map (λ c. get_or numbers (d * v + c) (pos 0)) (upto d)) (upto d)
    ∙ all-passes (λ v. all in_range (map (λ c. get_or numbers (d * v + c) (pos 0)) (upto d))) (upto d)
    (λ v i.
    all_map in_range (λ c. get_or numbers (d * v + c) (pos 0)) (upto d)
    ∙ all-passes (λ c. in_range (get_or numbers (d * v + c) (pos 0))) (upto d)
    (λ c j.
    ap in_range (sym (get_or-take (d * d) numbers (d * v + c) (pos 0) (within-square d v c (upto-below d v i) (upto-below d c j))))
    ∙ in-range-four (get_or (take (d * d) numbers) (d * v + c) (pos 0)) (all_get_d (within 4) (take (d * d) numbers) (d * v + c) (pos 0) ok refl)))

in-range-frames : (gs : List Group) (numbers : List ℤ) → frames_allowed gs numbers ≡ true → all (all (all in_range)) (frames_of gs numbers) ≡ true
unfolding frames_allowed frames_of frame_allowed
in-range-frames [] numbers ok = refl
in-range-frames (g ∷ gs) numbers ok =
    let d = suc g.dimension in
    let both = and_parts (frame_allowed d numbers) (frames_allowed gs (drop (d * d) numbers)) ok in
    let own = and_parts (all (within 4) (take (d * d) numbers)) (not (is_zero (determinant d (frame_of d numbers)))) both.0 in
    and-true (in-range-frame d numbers own.0) (in-range-frames gs (drop (d * d) numbers) both.1)

pub in-range-start : (gs : List Group) (numbers : List ℤ) → frames_allowed gs numbers ≡ true → all in_range (numbers_of (frames_of gs numbers)) ≡ true
in-range-start gs numbers ok = in-range-numbers (frames_of gs numbers) ∙ in-range-frames gs numbers ok
