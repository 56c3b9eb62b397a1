-- The size rule of a point over groups is the code's: the first group's levels, and then the rule of the groups after it on the one row that the last level leaves.
-- Numbers past the entries and weights past the vertices fix nothing (entries/proofs/Fixed.antt).
use Prim.Native.Nat.{ℕ, suc, ◌+◌, ◌*◌, ◌-◌, ◌<◌}
use native.Mathlib.Omega.{arith}
use mathlib.Core.Path.{◌≡◌, refl, sym, ap, ap₂, ◌∙◌, fun_ext}
use mathlib.Core.Bool.{◌&&◌}
use mathlib.Core.List.{List, [], ◌∷◌, map}
use lib.IntN.{ℤ, pos}
use lib.ListN.{length, get_or, take, replicate}
use lib.Seq.{get_or-take}
use Rattle.integers.specs.Sum.{upto}
use Rattle.integers.specs.Test.{all}
use Rattle.integers.proofs.Sums.{upto-below}
use Rattle.integers.proofs.All.{all_append, all_map, all-cong, and_one}
use Rattle.polar.specs.Order.{total, counts}
use Rattle.polar.specs.Groups.{Group, pairs}
use Rattle.polar.proofs.Order.{counts-total}
use Rattle.projection.specs.Projection.{in_range}
use Rattle.entries.specs.Entries.{place_of, fixed, number_count, place_over, entry_over, fixed_over}
use Rattle.entries.specs.Rows.{entry_at, size}
use Rattle.entries.proofs.Groups.{Counted, Named}
use Rattle.entries.proofs.Fixed.{fixed-cong, fixed-over-cong}
use Rattle.entries.proofs.Places.{placed, member-counts}
use Rattle.entries.proofs.Listed.{digits-below}
use Rattle.entries.proofs.ListedOver.{place-over}
use Rattle.machine.specs.Sizes.{named_by_replace, named_by_point, all_named}
use Rattle.machine.proofs.Names.{by-point}
use Rattle.nets.specs.Levels.{values_of, named_at, all_named_at}
use Rattle.nets.proofs.GroupRows.{row-entry, named-rows}

-- the numbers past the entries are no entries
pub entry-used : (w n m : ℕ) (xs : List ℤ) (c : ℕ) (e : List ℕ) → c < w → length e ≡ suc n → total e ≡ m → entry_at w n m (take (size w n m) xs) c e ≡ entry_at w n m xs c e
unfolding entry_at
entry-used w n m xs c e k l t =
    get_or-take (size w n m) xs (w * place_of e (counts n m) + c) (pos 0) (digits-below w (place_of e (counts n m)) c (length (counts n m)) (placed e (counts n m) (member-counts n m e l t)).0 k)

-- ---- the part of the places and of the weights that is used

-- us is ws, or as much of it as there are vertices
module _ (w n m : ℕ) (us ws xs : List ℤ) (same : (v : ℕ) → v < suc n → get_or us v (pos 0) ≡ get_or ws v (pos 0)) where
  -- the numbers past the entries, and the weights past the vertices, fix nothing
  pub values-used : (c h : ℕ) (e : List ℕ) → c < w → length e ≡ suc n → h + total e ≡ m → values_of w n m us (take (size w n m) xs) c h e ≡ values_of w n m ws xs c h e
  values-used c h e k =
      fixed-cong (suc n) m us ws same (entry_at w n m (take (size w n m) xs) c) (entry_at w n m xs c) (λ r l t. entry-used w n m xs c r k l t) h e

  pub named-used : all_named_at w n m us (take (size w n m) xs) ≡ all_named_at w n m ws xs
  unfolding all_named_at
  named-used =
      all-cong (named_at w n m us (take (size w n m) xs)) (named_at w n m ws xs) (upto (suc m))
      (λ h i.
      all-cong (λ e. all (λ c. in_range (values_of w n m us (take (size w n m) xs) c h e)) (upto w)) (λ e. all (λ c. in_range (values_of w n m ws xs c h e)) (upto w)) (counts n (m - h))
      (λ e j.
      let r = counts-total n (m - h) e j in
      let below = upto-below (suc m) h i in
      all-cong (λ c. in_range (values_of w n m us (take (size w n m) xs) c h e)) (λ c. in_range (values_of w n m ws xs c h e)) (upto w)
      (λ c k. ap in_range (values-used c h e (upto-below w c k) r.0 (omega (arith, r.1))))))

-- so nets with the same entries have the same values in range
pub named-front : (w n m : ℕ) (ws xs ys : List ℤ) → take (size w n m) xs ≡ take (size w n m) ys → all_named_at w n m ws xs ≡ all_named_at w n m ws ys
named-front w n m ws xs ys same =
    sym (named-used w n m ws ws xs (λ v h. refl))
    ∙ ap (all_named_at w n m ws) same
    ∙ named-used w n m ws ws ys (λ v h. refl)

-- ---- the size rule of a point

-- `left` begins with what the first group's levels leave: its one row, the numbers of a net over the groups after it
module _ (g : Group) (gs : List Group) (ws : List ℤ) (weights : List (List ℤ)) (xs left : List ℤ)
    (last : (i : ℕ) → i < number_count gs → get_or left i (pos 0) ≡ values_of (number_count gs) g.dimension g.degree ws xs i g.degree (replicate (suc g.dimension) 0)) where
  row-left : (c : ℕ) (es : List (List ℕ)) → c < 4 → Counted gs es
      → fixed (suc g.dimension) ws (λ e. entry_over (g ∷ gs) xs c (e ∷ es)) g.degree (replicate (suc g.dimension) 0) ≡ entry_over gs left c es
  unfolding entry_over
  row-left c es k counted =
      let place = (place-over gs es counted).0 in
      ap (λ F. fixed (suc g.dimension) ws F g.degree (replicate (suc g.dimension) 0)) (fun_ext (λ e. row-entry g gs xs c e es))
      ∙ sym (last (4 * place_over gs es + c) (omega arith))

  abbrev all-q : List ℕ
  all-q = g.degree ∷ replicate (suc g.dimension) 0

  abbrev P : ℕ → List (List ℕ) → ℤ
  P c es = fixed_over (g ∷ gs) (ws ∷ weights) (entry_over (g ∷ gs) xs c) es

  -- with the first group's points all q, the values are those of the row that is left
  pub values-left : (c : ℕ) (es : List (List ℕ)) → c < 4 → Named gs es → P c (all-q ∷ es) ≡ fixed_over gs weights (entry_over gs left c) es
  unfolding fixed_over
  values-left c es k named =
      fixed-over-cong gs weights (λ rest. fixed (suc g.dimension) ws (λ e. entry_over (g ∷ gs) xs c (e ∷ rest)) g.degree (replicate (suc g.dimension) 0)) (entry_over gs left c)
      (λ rest p. row-left c rest k p) es named

  pub named-point : all_named (named_by_point (g ∷ gs)) P
      ≡ (all_named_at (number_count gs) g.dimension g.degree ws xs && all_named (named_by_point gs) (λ c es. fixed_over gs weights (entry_over gs left c) es))
  unfolding all_named named_by_point
  named-point =
      all_append (λ es. all (λ c. in_range (P c es)) (upto 4)) (named_by_replace (g ∷ gs) 0) (pairs (all-q ∷ []) (named_by_point gs))
      ∙ ap₂ ◌&&◌ (named-rows g gs ws weights xs)
      (all_append (λ es. all (λ c. in_range (P c es)) (upto 4)) (map (λ ys. all-q ∷ ys) (named_by_point gs)) []
      ∙ and_one (all (λ es. all (λ c. in_range (P c es)) (upto 4)) (map (λ ys. all-q ∷ ys) (named_by_point gs)))
      ∙ all_map (λ es. all (λ c. in_range (P c es)) (upto 4)) (λ ys. all-q ∷ ys) (named_by_point gs)
      ∙ all-cong (λ es. all (λ c. in_range (P c (all-q ∷ es))) (upto 4)) (λ es. all (λ c. in_range (fixed_over gs weights (entry_over gs left c) es)) (upto 4)) (named_by_point gs)
      (λ es m.
      all-cong (λ c. in_range (P c (all-q ∷ es))) (λ c. in_range (fixed_over gs weights (entry_over gs left c) es)) (upto 4)
      (λ c k. ap in_range (values-left c es (upto-below 4 c k) (by-point gs es m)))))
