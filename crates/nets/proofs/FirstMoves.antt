-- A move in the first group, and the first group's part of a point: the net is one of rows, each with the numbers of the groups after the first, and its size rule, the entries that
-- a move leaves and the row that a point leaves are those of its rows. The net's entries are the first numbers of some places; the numbers past them, and a point's weights past the
-- group's vertices, fix nothing.
use Prim.Native.Nat.{ℕ, zero, suc, pred, ◌+◌, ◌*◌, ◌-◌, ◌≤◌, ◌<◌}
use native.Mathlib.Nat.{add-zero, mul-pos}
use native.Mathlib.Omega.{arith}
use mathlib.Core.Path.{◌≡◌, refl, sym, ap, ap₂, ◌∙◌, subst}
use mathlib.Core.Bool.{Bool, true, ◌&&◌, cond}
use mathlib.Core.List.{List, [], ◌∷◌, map}
use lib.Dec.{eqb, lit≤}
use borrow.Author.Tests.{le-leb, eq-eqb, ne_eqb}
use lib.IntN.{ℤ, pos}
use lib.ListN.{length, get_or, set, take, replicate, length-set}
use lib.Seq.{get_or-take}
use Rattle.polar.specs.Order.{counts}
use Rattle.polar.specs.Groups.{Group, counts_over}
use Rattle.entries.specs.Entries.{signed, number_count, place_over, entry_over, listed_over, fixed_over, as_q, only_q, flipped_over}
use Rattle.entries.specs.Rows.{entry_at, listed, size, replaced, flipped}
use Rattle.entries.proofs.Groups.{Counted, counted-long, total-set, total-zeros, length-zeros, named-only}
use Rattle.entries.proofs.Places.{length-counts}
use Rattle.entries.proofs.Listed.{digits-below}
use Rattle.entries.proofs.ListedOver.{place-over}
use Rattle.kinds.specs.Kinds.{group, dimension_of, later_groups, known}
use Rattle.kinds.proofs.Limits.{limits}
use Rattle.kinds.proofs.Counts.{row-size, size_fits}
use Rattle.machine.specs.Calls.{weight_list, group_at, own_at, weights_for}
use Rattle.machine.specs.Sizes.{named_by, named_by_replace, named_by_point, all_named}
use Rattle.machine.specs.declared.Weights.{Weights}
use Rattle.machine.specs.declared.Call.{Call}
use Rattle.machine.specs.declared.Call.TheVariants.{Move}
use Rattle.nets.specs.Rows.{Sized}
use Rattle.nets.specs.Levels.{values_of, all_named_at}
use Rattle.nets.proofs.GroupRows.{row-entry, row-fixed, named-rows, row_listed}
use Rattle.nets.proofs.GroupPoint.{entry-used, values-used, named-used, values-left, named-point}

-- a group has an entry, and so have some groups
pub counts_some : (n m : ℕ) → 0 < length (counts n m)
unfolding counts
counts_some zero m = lit≤ tt
counts_some (suc n) m = subst (λ k. 0 < k) (sym (length-counts n m)) (let first = counts_some n 0 in omega (arith, first))

pub count-some : (gs : List Group) → 1 ≤ number_count gs
unfolding counts_over
count-some [] = lit≤ tt
count-some (g ∷ gs) = subst (λ k. 1 ≤ k) (sym (row-size g.dimension g.degree gs)) (mul-pos (count-some gs) (counts_some g.dimension g.degree))

-- the rows of a known kind, seen from its first group
pub known-sized : (kind p q : ℕ) → known kind p q ≡ true → Sized (number_count (later_groups kind q)) (dimension_of kind) p
known-sized kind p q right =
    let l = limits kind p q right in
    record { some = count-some (later_groups kind q); low = l.dimension-low; high = l.dimension-few; room = size_fits kind p q right }

-- ---- what a call comes to over groups, the entries being numbers

-- component c of a polar value
abbrev pub polar_by : List Group → Call → List ℤ → ℕ → List (List ℕ) → ℤ
polar_by gs call numbers c es = fixed_over gs (weights_for gs call) (entry_over gs numbers c) es

-- whether the polar values that the call names are in range
abbrev pub size_by : List Group → Call → List ℤ → Bool
size_by gs call numbers = all_named (named_by gs call) (polar_by gs call numbers)

-- the entries that a move leaves
abbrev pub moved_by : List Group → ℕ → ℕ → Weights → List ℤ → List ℤ
moved_by gs operation vertex weights numbers =
    let i = group_at gs (pred vertex) in
    let v = own_at gs (pred vertex) in
    listed_over gs
    (λ c es. cond (eqb operation 1) (polar_by gs (Move operation vertex weights) numbers c (as_q i v es)) (flipped_over i v (entry_over gs numbers c) es))

-- ---- a net of a first group and others

module _ (n m : ℕ) (later : List Group) where
  abbrev gs : List Group
  gs = group n m ∷ later

  -- how many numbers a row has
  abbrev w : ℕ
  w = number_count later

  number-below : (c : ℕ) (es : List (List ℕ)) → c < 4 → Counted later es → 4 * place_over later es + c < w
  number-below c es k counted = digits-below 4 (place_over later es) c (length (counts_over later)) (place-over later es counted).0 k

  -- ---- a move of vertex 1 + v

  module _ (operation vertex : ℕ) (weights : Weights) (xs : List ℤ) (low : pred vertex ≤ n) where
    abbrev used : List ℤ
    used = take (size w n m) xs

    abbrev v : ℕ
    v = pred vertex

    -- what a move makes of an entry, by its operation and its vertex
    abbrev left : Bool → ℕ → ℕ → ℕ → List (List ℕ) → ℤ
    left b i u c es = cond b (polar_by gs (Move operation vertex weights) used c (as_q i u es)) (flipped_over i u (entry_over gs used c) es)

    first_group : group_at gs (pred vertex) ≡ 0
    first_group = ap (λ b. cond b 0 (suc (group_at later (pred vertex - suc n)))) (le-leb (pred vertex) n low)

    own-number : own_at gs (pred vertex) ≡ pred vertex
    own-number = ap (λ b. cond b (pred vertex) (own_at later (pred vertex - suc n))) (le-leb (pred vertex) n low)

    -- a replace
    module _ (one : operation ≡ 1) where
      pub replace-size : size_by gs (Move operation vertex weights) used ≡ all_named_at w n m (weight_list weights) xs
      unfolding named_by
      replace-size =
          ap₂ (λ b i. all_named (cond b (named_by_replace gs i) []) (polar_by gs (Move operation vertex weights) used)) (eq-eqb operation 1 one) first_group
          ∙ named-rows (group n m) later (weight_list weights) (map (λ g. weight_list weights) later) used
          ∙ named-used w n m (weight_list weights) (weight_list weights) xs (λ u p. refl)

      pub replace-moved : moved_by gs operation vertex weights used ≡ listed w n m (λ c. replaced (suc n) (weight_list weights) v (entry_at w n m xs c))
      replace-moved =
          row_listed (group n m) later (left (eqb operation 1) (group_at gs v) (own_at gs v)) (λ c. replaced (suc n) (weight_list weights) v (entry_at w n m xs c))
          (λ c e es k l t counted.
          (λ i. left (eq-eqb operation 1 one i) (first_group i) (own-number i) c (e ∷ es))
          ∙ row-fixed (group n m) later (weight_list weights) (map (λ g. weight_list weights) later) used c (get_or e v 0) (set e v 0) es (counted-long later es counted)
          ∙ values-used w n m (weight_list weights) (weight_list weights) xs (λ u p. refl) (4 * place_over later es + c) (get_or e v 0) (set e v 0) (number-below c es k counted)
          (length-set e v 0 ∙ l) (total-set e v ∙ t))

    -- a flip
    module _ (two : operation ≡ 1 → ⊥) where
      pub flip-moved : moved_by gs operation vertex weights used ≡ listed w n m (λ c. flipped v (entry_at w n m xs c))
      flip-moved =
          row_listed (group n m) later (left (eqb operation 1) (group_at gs v) (own_at gs v)) (λ c. flipped v (entry_at w n m xs c))
          (λ c e es k l t counted.
          (λ i. left (ne_eqb operation 1 two i) (first_group i) (own-number i) c (e ∷ es))
          ∙ ap (signed (get_or e v 0))
          (row-entry (group n m) later used c e es ∙ entry-used w n m xs (4 * place_over later es + c) e (number-below c es k counted) l t))

  -- ---- a point

  -- `left` begins with the row that the first group's last level leaves
  module _ (ws : List ℤ) (weights : List (List ℤ)) (xs left : List ℤ)
      (last : (c : ℕ) → c < w → get_or left c (pos 0) ≡ values_of w n m ws xs c m (replicate (suc n) 0)) where
    abbrev share : List ℤ
    share = take (suc n) ws

    share-same : (u : ℕ) → u < suc n → get_or share u (pos 0) ≡ get_or ws u (pos 0)
    share-same u p = get_or-take (suc n) ws u (pos 0) p

    last-used : (c : ℕ) → c < w → get_or left c (pos 0) ≡ values_of w n m share (take (size w n m) xs) c m (replicate (suc n) 0)
    last-used c k =
        last c k
        ∙ sym (values-used w n m share ws xs share-same c m (replicate (suc n) 0) k (length-zeros (suc n)) (ap (λ z. m + z) (total-zeros (suc n)) ∙ add-zero m))

    -- the size rule: the first group's levels, and then the rule of the groups after it on the row that is left
    pub point-size : all_named (named_by_point gs) (λ c es. fixed_over gs (share ∷ weights) (entry_over gs (take (size w n m) xs) c) es)
        ≡ (all_named_at w n m ws xs && all_named (named_by_point later) (λ c es. fixed_over later weights (entry_over later left c) es))
    point-size =
        named-point (group n m) later share weights (take (size w n m) xs) left last-used
        ∙ ap (λ b. b && all_named (named_by_point later) (λ c es. fixed_over later weights (entry_over later left c) es)) (named-used w n m share ws xs share-same)

    -- and the point is that of the row that is left
    pub point-value : (c : ℕ) → c < 4
        → fixed_over gs (share ∷ weights) (entry_over gs (take (size w n m) xs) c) (only_q gs) ≡ fixed_over later weights (entry_over later left c) (only_q later)
    point-value c k = values-left (group n m) later share weights (take (size w n m) xs) left last-used c (only_q later) k (named-only later)

-- a flip names no polar value
pub flip-size : (gs : List Group) (operation vertex : ℕ) (weights : Weights) (xs : List ℤ) → (operation ≡ 1 → ⊥) → size_by gs (Move operation vertex weights) xs ≡ true
unfolding named_by all_named
flip-size gs operation vertex weights xs two =
    ap (λ b. all_named (cond b (named_by_replace gs (group_at gs (pred vertex))) []) (polar_by gs (Move operation vertex weights) xs)) (ne_eqb operation 1 two)
