-- What is left of a line at a common zero, as a point names it and as it stands in the net of which one
-- vertex was replaced by q.
use Prim.Native.Nat.{ℕ, zero, suc, ◌+◌, ◌*◌, ◌-◌, ◌≤◌, ◌<◌}
use native.Mathlib.Nat as NatL
use native.Mathlib.Omega.{arith}
use mathlib.Core.Path.{◌≡◌, refl, sym, ap, ◌∙◌}
use mathlib.Core.Bool.{Bool, true, false, ◌&&◌, cond}
use mathlib.Core.List.{List, [], ◌∷◌, map, map-map}
use borrow.Author.Tests.{ne_eqb}
use lib.IntN.{ℤ, pos}
use lib.ListN.{length, get_or, take, drop}
use Rattle.integers.specs.Sum.{upto}
use Rattle.integers.proofs.Sums.{upto-below}
use Rattle.polar.specs.Order.{total, counts}
use Rattle.polar.specs.Groups.{counts_over}
use Rattle.entries.specs.Entries.{place_of, number_count, fixed, fixed_over, entry_over}
use Rattle.entries.specs.Rows.{entry_at, size, replaced}
use Rattle.entries.proofs.Lines.{one-group, line-place}
use Rattle.entries.proofs.Fixed.{fixed-cong}
use Rattle.projection.specs.Projection.{is_zero, Four, four_zeros, is_four_zeros, first_not_zeros}
use Rattle.kinds.specs.Kinds.{groups_of}
use Rattle.kinds.proofs.Counts.{row-size}
use Rattle.machine.specs.Calls.{weight_list}
use Rattle.machine.specs.Projected.{other_counts, line_named_at_zero, named_at_zero}
use Rattle.machine.specs.Steps.{Answer, four_of, found_at, found_of, projected_of}
use Rattle.machine.specs.Nets.{net_polar, net_four, accepted}
use Rattle.machine.specs.Carried.{four_at}
use Rattle.machine.specs.declared.Weights.{Weights}
use Rattle.machine.specs.declared.Call.TheVariants.{Point}
use Rattle.machine.proofs.Over.{map-among, four-cong}
use Rattle.nets.specs.Calls.{net_from}
use Rattle.nets.specs.Zeros.{replaced_vertex, value_place, places_projected, line_projected, point_projected}
use Rattle.nets.proofs.GroupPoint.{entry-used}
use Rattle.nets.proofs.ZeroPlaces.{zeros-or}

-- ---- as a point names it

module _ (m second : ℕ) (xs : List ℤ) (w : Weights) where
  abbrev answer : ℕ → Answer
  answer kind = (accepted (net_from (record { kind = kind; degree = m; second = second }) xs) (Point w)).answer

  -- a patch names no values at a common zero
  patch : (kind : ℕ) → (kind ≡ 1 → ⊥) → (p : Four) → cond (is_four_zeros p) four_zeros p ≡ point_projected kind m w xs p
  patch kind other p = zeros-or p (is_four_zeros p) refl ∙ ap (λ b. cond (b && is_four_zeros p) (line_projected m w xs) p) (sym (ne_eqb kind 1 other))

  pub net-projected : (kind : ℕ) → projected_of (answer kind) ≡ point_projected kind m w xs (found_of (answer kind))
  unfolding accepted found_at first_not_zeros named_at_zero net_four net_polar line_projected
  net-projected zero = patch 0 (λ e. omega arith) (found_of (answer 0))
  net-projected (suc zero) = refl
  net-projected (suc (suc zero)) = patch 2 (λ e. omega arith) (found_of (answer 2))
  net-projected (suc (suc (suc zero))) = patch 3 (λ e. omega arith) (found_of (answer 3))
  net-projected (suc (suc (suc (suc k)))) = patch (suc (suc (suc (suc k)))) (λ e. omega arith) (found_of (answer (suc (suc (suc (suc k))))))

-- numbers past the entries are not seen
pub line_same : (m : ℕ) (w : Weights) (xs ys : List ℤ) → take (size 4 1 m) xs ≡ take (size 4 1 m) ys → line_projected m w xs ≡ line_projected m w ys
unfolding line_projected counts_over
line_same m w xs ys same =
    ap (λ own. first_not_zeros (map (net_four (record { kind = 1; degree = m; second = 0; frames = []; entries = own; largest = pos 0 }) (Point w)) (line_named_at_zero m w.s)))
    (ap (λ k. take k xs) (row-size 1 m []) ∙ same ∙ ap (λ k. take k ys) (sym (row-size 1 m [])))

-- ---- as it stands

four-there : (m : ℕ) (ys : List ℤ) (i j : ℕ) → i + j ≡ m → four_at (4 * j) ys ≡ four_of (λ c. entry_at 4 1 m ys c (i ∷ j ∷ []))
unfolding entry_at
four-there m ys i j t =
    ap (λ k. record { x = get_or ys k (pos 0); y = get_or ys (1 + 4 * j) (pos 0); z = get_or ys (2 + 4 * j) (pos 0); w = get_or ys (3 + 4 * j) (pos 0) }) (sym (NatL.zero-add (4 * j)))
    ∙ four-cong (λ c. get_or ys (c + 4 * j) (pos 0)) (λ c. get_or ys (4 * place_of (i ∷ j ∷ []) (counts 1 m) + c) (pos 0))
    (λ c k. ap (λ n. get_or ys n (pos 0)) (NatL.add_comm c (4 * j) ∙ ap (λ n. 4 * n + c) (sym (line-place m i j t))))

-- in ys one vertex of the line xs is replaced
module _ (m : ℕ) (w : Weights) (xs ys : List ℤ)
    (each : (c : ℕ) (e : List ℕ) → c < 4 → length e ≡ 2 → total e ≡ m → entry_at 4 1 m ys c e ≡ replaced 2 (weight_list w) (replaced_vertex w) (entry_at 4 1 m xs c) e) where
  -- an entry as the only group has it, and the weights that it has
  abbrev own : ℕ → List ℕ → ℤ
  own c e = entry_over (groups_of 1 m 0) (take (number_count (groups_of 1 m 0)) xs) c (e ∷ [])

  own_is : (c : ℕ) (e : List ℕ) → c < 4 → length e ≡ 2 → total e ≡ m → entry_at 4 1 m xs c e ≡ own c e
  unfolding counts_over
  own_is c e k l t =
      sym
      (one-group m (take (number_count (groups_of 1 m 0)) xs) c e
      ∙ ap (λ n. entry_at 4 1 m (take n xs) c e) (row-size 1 m [])
      ∙ entry-used 4 1 m xs c e k l t)

  two-weights : (v : ℕ) → v < 2 → get_or (weight_list w) v (pos 0) ≡ get_or (take 2 (weight_list w)) v (pos 0)
  two-weights zero h = refl
  two-weights (suc zero) h = refl
  two-weights (suc (suc v)) h = absurd (NatL.not-suc-le-zero (NatL.le_of_suc-le-suc (NatL.le_of_suc-le-suc h)))

  there-four : (d : ℕ) → d ≤ m → four_at (value_place (replaced_vertex w) m d) ys ≡ net_four (net_from (record { kind = 1; degree = m; second = 0 }) xs) (Point w) (other_counts w.s (m - d) d ∷ [])
  unfolding net_four net_polar fixed_over
  there-four d h = by (is_zero w.s) refl
    where
      value : (c h : ℕ) (e : List ℕ) → c < 4 → length e ≡ 2 → h + total e ≡ m → fixed 2 (weight_list w) (entry_at 4 1 m xs c) h e ≡ fixed 2 (take 2 (weight_list w)) (own c) h e
      value c h e k = fixed-cong 2 m (weight_list w) (take 2 (weight_list w)) two-weights (entry_at 4 1 m xs c) (own c) (λ r l t. own_is c r k l t) h e

      -- by the vertex that is replaced
      stands : (v i j : ℕ) → i + j ≡ m → replaced_vertex w ≡ v → four_at (4 * j) ys ≡ four_of (λ c. replaced 2 (weight_list w) v (entry_at 4 1 m xs c) (i ∷ j ∷ []))
      stands v i j t e =
          four-there m ys i j t
          ∙ four-cong _ _ (λ c k. each c (i ∷ j ∷ []) k refl (ap (λ n. i + n) (NatL.add-zero j) ∙ t) ∙ ap (λ u. replaced 2 (weight_list w) u (entry_at 4 1 m xs c) (i ∷ j ∷ [])) e)

      by : (b : Bool) → is_zero w.s ≡ b → let e = cond b ((m - d) ∷ 0 ∷ d ∷ []) ((m - d) ∷ d ∷ 0 ∷ []) in
          four_at (value_place (cond b 0 1) m d) ys ≡ four_of (λ c. fixed 2 (take 2 (weight_list w)) (own c) (get_or e 0 0) (drop 1 e))
      by true z = stands 0 (m - d) d (omega arith) (ap (λ b. cond b 0 1) z) ∙ four-cong _ _ (λ c k. value c (m - d) (0 ∷ d ∷ []) k refl (omega arith))
      by false z = stands 1 d (m - d) (omega arith) (ap (λ b. cond b 0 1) z) ∙ four-cong _ _ (λ c k. value c (m - d) (d ∷ 0 ∷ []) k refl (omega arith))

  pub places-line : places_projected (replaced_vertex w) m ys ≡ line_projected m w xs
  unfolding places_projected line_projected
  places-line =
      let named = net_four (net_from (record { kind = 1; degree = m; second = 0 }) xs) (Point w) in
      ap first_not_zeros (map-among _ (λ d. named (other_counts w.s (m - suc d) (suc d) ∷ [])) (upto m) (λ d k. there-four (suc d) (upto-below m d k)) ∙ sym (map-map named (λ d. other_counts w.s (m - suc d) (suc d) ∷ []) (upto m)))
