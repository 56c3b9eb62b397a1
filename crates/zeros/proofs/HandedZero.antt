-- A handed curve's net is nowhere exactly where all its entries are 0. The values with copies of q and of the
-- other vertex alone are all 0; as q's weight of the vertex itself is not 0, the values with one more copy of
-- that vertex are 0 too, and so on down to the entries.
use Prim.Native.Nat.{ℕ, zero, suc, ◌+◌, ◌-◌, ◌*◌, ◌<◌}
use native.Mathlib.Nat as NatL
use native.Mathlib.Omega.{arith}
use mathlib.Core.Path.{◌≡◌, refl, sym, ap, ap₂, ◌∙◌, subst}
use mathlib.Core.Logic.{◌↔◌}
use mathlib.Core.Bool.{Bool, true, false, not, ◌&&◌, cond}
use mathlib.Core.List.{List, [], ◌∷◌, map, map-map}
use lib.IntN.{ℤ, pos, ◌+ℤ◌, ◌*ℤ◌, *ℤ-zero}
use lib.ListN.{get_or}
use Rattle.integers.specs.Sum.{upto}
use Rattle.integers.proofs.All.{clash}
use Rattle.integers.proofs.Ring.{ring, ring-rules, cancelled}
use Rattle.projection.proofs.Zeros.{zero_is}
use Rattle.entries.specs.Entries.{entry_over, fixed, fixed_over, only_q}
use Rattle.entries.proofs.Lines.{line-entry}
use Rattle.projection.specs.Projection.{is_zero, Four, four_zeros, is_four_zeros, first_not_zeros, found_projection}
use Rattle.projection.specs.declared.Projection.{Projection}
use Rattle.projection.specs.declared.Projection.TheVariants.{Nowhere}
use Rattle.kinds.specs.Kinds.{group, known}
use Rattle.kinds.specs.Frames.{Frames}
use Rattle.machine.specs.Refusals.{first_failed}
use Rattle.machine.specs.Calls.{own_tests}
use Rattle.machine.specs.Sizes.{call_tests}
use Rattle.machine.specs.Projected.{other_counts, line_named_at_zero, named_at_zero}
use Rattle.machine.specs.Steps.{Found, four_of, found_at, step_by}
use Rattle.machine.specs.Nets.{Net, net_groups, net_polar, net_four, net_in_range, handed_tests, judged_numbers, net_tests, accepted, step_of}
use Rattle.machine.specs.declared.Weights.{Weights}
use Rattle.machine.specs.declared.Call.TheVariants.{Point}
use Rattle.machine.proofs.Refusals.{row-passes}
use Rattle.machine.proofs.Over.{call-passed}
use Rattle.machine.proofs.Found.{handed-first}
use Rattle.zeros.specs.HandedZero.{ZeroNet, HandedZeros}
use Rattle.zeros.proofs.FirstNotZeros.{all-zeros, zeros-each, each-zeros, nowhere-zeros, found-parts, not_found}

-- ---- from the values with one vertex to all

-- f h a b has h copies of q = xu + yv, a of u and b of v; where those without v are 0, all are
module _ (f : ℕ → ℕ → ℕ → ℤ) (x y : ℤ) (apart : y ≡ pos 0 → ⊥) (m : ℕ)
    (blend : (h a b : ℕ) → f (suc h) a b ≡ x *ℤ f h (suc a) b +ℤ y *ℤ f h a (suc b)) (none : (h a : ℕ) → h + a ≡ m → f h a 0 ≡ pos 0) where
  pub further : (b h a : ℕ) → h + a + b ≡ m → f h a b ≡ pos 0
  further zero h a t = none h a (omega arith)
  further (suc b) h a t =
      cancelled y (f h a (suc b)) (pos 0) apart
      (ring (x ∷ y ∷ f h a (suc b) ∷ []) (search ring-rules depth 60) tt
      ∙ ap (λ n. x *ℤ n +ℤ y *ℤ f h a (suc b)) (sym (further b h (suc a) (omega arith)))
      ∙ sym (blend h a b)
      ∙ further b (suc h) a (omega arith)
      ∙ sym (*ℤ-zero y))

-- ---- a curve's net

module _ (m second : ℕ) (frames : Frames) (xs : List ℤ) (largest : ℤ) (w : Weights) (some : w.r ≡ pos 0 → w.s ≡ pos 0 → ⊥) where
  abbrev net : Net
  net = record { kind = 1; degree = m; second = second; frames = frames; entries = xs; largest = largest }

  -- component c with h copies of q, a of r and b of s
  abbrev value : ℕ → ℕ → ℕ → ℕ → ℤ
  value c h a b = fixed 2 (w.r ∷ w.s ∷ []) (λ e. entry_over (group 1 m ∷ []) xs c (e ∷ [])) h (a ∷ b ∷ [])

  blended : (c h a b : ℕ) → value c (suc h) a b ≡ w.r *ℤ value c h (suc a) b +ℤ w.s *ℤ value c h a (suc b)
  unfolding fixed
  blended c h a b = ap (λ n. w.r *ℤ value c h (suc a) b +ℤ n) (lib.IntN.+ℤ_idr (w.s *ℤ value c h a (suc b)))

  entry-is : (c i j : ℕ) → i + j ≡ m → value c 0 i j ≡ get_or xs (4 * j + c) (pos 0)
  unfolding fixed
  entry-is c i j t = line-entry m xs c i j t

  -- a value with d copies of the other vertex
  abbrev other : Bool → ℕ → ℕ → ℕ → ℤ
  other b c h d = cond b (value c h 0 d) (value c h d 0)

  abbrev v : ℕ → Four
  v d = four_of (λ c. other (is_zero w.s) c (m - d) d)

  four_is : (h d : ℕ) → net_four net (Point w) (other_counts w.s h d ∷ []) ≡ four_of (λ c. other (is_zero w.s) c h d)
  unfolding net_four net_polar fixed_over
  four_is h d = by (is_zero w.s)
    where
      by : (b : Bool) → four_of (λ c. fixed_over (group 1 m ∷ []) ((w.r ∷ w.s ∷ []) ∷ []) (entry_over (group 1 m ∷ []) xs c) (cond b (h ∷ 0 ∷ d ∷ []) (h ∷ d ∷ 0 ∷ []) ∷ []))
          ≡ four_of (λ c. other b c h d)
      by true = refl
      by false = refl

  list-is : net_four net (Point w) (only_q (net_groups net)) ∷ map (net_four net (Point w)) (line_named_at_zero m w.s) ≡ map v (upto (suc m))
  list-is =
      ap₂ ◌∷◌ first
      (map-map (net_four net (Point w)) (λ d. other_counts w.s (m - suc d) (suc d) ∷ []) (upto m)
      ∙ ap (λ f. map f (upto m)) (λ i d. four_is (m - suc d) (suc d) i)
      ∙ sym (map-map v suc (upto m)))
    where
      first : net_four net (Point w) (only_q (net_groups net)) ≡ v 0
      first = by (is_zero w.s) refl ∙ four_is m 0 ∙ ap (λ h. four_of (λ c. other (is_zero w.s) c h 0)) (sym (NatL.sub-zero m))
        where
          by : (b : Bool) → is_zero w.s ≡ b → net_four net (Point w) (only_q (net_groups net)) ≡ net_four net (Point w) (other_counts w.s m 0 ∷ [])
          by true e = ap (λ b. net_four net (Point w) (cond b (m ∷ 0 ∷ 0 ∷ []) (m ∷ 0 ∷ 0 ∷ []) ∷ [])) (sym e)
          by false e = ap (λ b. net_four net (Point w) (cond b (m ∷ 0 ∷ 0 ∷ []) (m ∷ 0 ∷ 0 ∷ []) ∷ [])) (sym e)

  -- all values with the other vertex are 0: so are the entries
  entries-zero : ((j : ℕ) → j < suc m → is_four_zeros (v j) ≡ true) → ZeroNet net
  entries-zero all k c low h = by (is_zero w.s) refl (λ j fits. zeros-each (λ i. other (is_zero w.s) i (m - j) j) (all j fits) c h)
    where
      at_last : (b : Bool) → value c 0 (m - k) k ≡ pos 0 → get_or xs (4 * k + c) (pos 0) ≡ pos 0
      at_last b e = sym (entry-is c (m - k) k (omega arith)) ∙ e

      by : (b : Bool) → is_zero w.s ≡ b → ((j : ℕ) → j < suc m → other (is_zero w.s) c (m - j) j ≡ pos 0) → get_or xs (4 * k + c) (pos 0) ≡ pos 0
      by true e zeros =
          at_last true
          (further (λ h a b. value c h b a) w.s w.r (λ r. some r (zero_is w.s e)) m
          (λ h a b. blended c h b a ∙ ring (w.r ∷ w.s ∷ value c h (suc b) a ∷ value c h b (suc a) ∷ []) (search ring-rules depth 60) tt)
          (λ h a t. let is : h ≡ m - a = omega arith in ap (λ n. value c n 0 a) is ∙ ap (λ b. cond b (value c (m - a) 0 a) (value c (m - a) a 0)) (sym e) ∙ zeros a (omega arith))
          (m - k) 0 k (omega arith))
      by false e zeros =
          at_last false
          (further (value c) w.r w.s (λ s. clash (ap is_zero s) e) m (blended c)
          (λ h a t. let is : h ≡ m - a = omega arith in ap (λ n. value c n a 0) is ∙ ap (λ b. cond b (value c (m - a) 0 a) (value c (m - a) a 0)) (sym e) ∙ zeros a (omega arith))
          k 0 (m - k) (omega arith))

  -- and back: all values are
  values-zero : ZeroNet net → (c : ℕ) → c < 4 → (h a b : ℕ) → h + a + b ≡ m → value c h a b ≡ pos 0
  values-zero zeros c k zero a b t = entry-is c a b (omega arith) ∙ zeros b c (omega arith) k
  values-zero zeros c k (suc h) a b t =
      blended c h a b
      ∙ ap₂ (λ x y. w.r *ℤ x +ℤ w.s *ℤ y) (values-zero zeros c k h (suc a) b (omega arith)) (values-zero zeros c k h a (suc b) (omega arith))
      ∙ ring (w.r ∷ w.s ∷ []) (search ring-rules depth 60) tt

  zeros-there : ZeroNet net → (j : ℕ) → j < suc m → is_four_zeros (v j) ≡ true
  zeros-there zeros j low = each-zeros (λ c. other (is_zero w.s) c (m - j) j) (λ c k. by c k (is_zero w.s))
    where
      by : (c : ℕ) → c < 4 → (b : Bool) → other b c (m - j) j ≡ pos 0
      by c k true = values-zero zeros c k (m - j) 0 j (omega arith)
      by c k false = values-zero zeros c k (m - j) j 0 (omega arith)

  abbrev first : Four
  first = first_not_zeros (map v (upto (suc m)))

  pub answer-is : (accepted net (Point w)).answer ≡ Found (net_four net (Point w) (only_q (net_groups net))) first (found_projection (net_four net (Point w) (only_q (net_groups net))) first)
  unfolding accepted found_at named_at_zero
  answer-is = ap (λ l. Found (net_four net (Point w) (only_q (net_groups net))) (first_not_zeros l) (found_projection (net_four net (Point w) (only_q (net_groups net))) (first_not_zeros l))) list-is

  pub first-zero : (first ≡ four_zeros) ↔ ZeroNet net
  first-zero = let both = all-zeros v (suc m) in (λ e. entries-zero (both.0 e), λ zeros. both.1 (zeros-there zeros))

-- ---- by the number of the refusal

abbrev of_kind : Net → ℕ → Net
of_kind net k = record { kind = k; degree = net.degree; second = net.second; frames = net.frames; entries = net.entries; largest = net.largest }

-- not both weights of a point that is not refused are 0
weighed : (net : Net) (w : Weights) → first_failed (net_tests (of_kind net 1) (Point w)) ≡ 0 → w.r ≡ pos 0 → w.s ≡ pos 0 → ⊥
unfolding net_tests handed_tests own_tests
weighed net w none r s =
    let n = of_kind net 1 in
    let c = Point w in
    let rest = (handed-first (known 1 n.degree n.second) (net_in_range n) (call_tests (net_groups n) c (judged_numbers n c) (net_polar n c)) none).1 in
    let passed = (call-passed (net_groups n) c (judged_numbers n c) (net_polar n c) rest).0 in
    clash (row-passes (own_tests (net_groups n) c) passed 2) (λ i. not (is_zero (r i) && (is_zero (s i) && true)) && true)

by_number : (net : Net) (w : Weights) (point projected : Four) (at : Projection) (k : ℕ) → first_failed (net_tests (of_kind net 1) (Point w)) ≡ k
    → (step_by k (of_kind net 1) (accepted (of_kind net 1) (Point w))).answer ≡ Found point projected at → (at ≡ Nowhere) ↔ ZeroNet (of_kind net 1)
unfolding step_by
by_number net w point projected at (suc k) is e = absurd (not_found e)
by_number net w point projected at zero is e =
    let some = weighed net w is in
    let same = found-parts (sym (answer-is net.degree net.second net.frames net.entries net.largest w some) ∙ e) in
    let only = nowhere-zeros (net_four (of_kind net 1) (Point w) (only_q (net_groups (of_kind net 1)))) (first net.degree net.second net.frames net.entries net.largest w some) in
    let zeros = first-zero net.degree net.second net.frames net.entries net.largest w some in
    (λ h. zeros.0 (only.0 (same.2 ∙ h)), λ z. sym same.2 ∙ only.1 (zeros.1 z))

pub handed-zeros : HandedZeros
unfolding step_of
handed-zeros net one w point projected at =
    subst (λ k. (step_of (of_kind net k) (Point w)).answer ≡ Found point projected at → (at ≡ Nowhere) ↔ ZeroNet (of_kind net k)) (sym one) (by_number net w point projected at _ refl)
