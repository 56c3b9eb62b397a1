-- A move in a group after the first is the same move on each part: the part of the numbers that one entry of the first group has is a net over the groups after it. The parts stand in
-- the order of the first group's entries.
use Prim.Native.Nat.{ℕ, suc, pred, ◌+◌, ◌*◌, ◌-◌, ◌<◌}
use native.Mathlib.Omega.{arith}
use mathlib.Core.Path.{◌≡◌, refl, sym, ap, ap₂, ◌∙◌, subst}
use mathlib.Core.Bool.{Bool, true, false, cond}
use mathlib.Core.List.{List, [], ◌∷◌, ◌++◌, map}
use lib.Dec.{eqb}
use borrow.Author.Tests.{lt-leb, eq-eqb}
use lib.IntN.{ℤ, pos}
use lib.ListN.{length, get_or, drop, length-map}
use lib.Seq.{get_or-take, get_or-drop, ext_get_or}
use Rattle.integers.specs.Sum.{upto}
use Rattle.integers.specs.Test.{all}
use Rattle.integers.proofs.Sums.{upto-below, length-upto, get_d_map, upto-at}
use Rattle.integers.proofs.All.{clash, all_map, all-cong}
use Rattle.polar.specs.Order.{joined, counts}
use Rattle.polar.specs.Groups.{Group}
use Rattle.polar.proofs.Order.{all-joined}
use Rattle.projection.specs.Projection.{in_range}
use Rattle.entries.specs.Entries.{place_of, signed, fixed, number_count, place_over, entry_over, listed_over, fixed_over, none_of_q, as_q, flipped_over}
use Rattle.entries.specs.Rows.{entry_at}
use Rattle.entries.proofs.Places.{joined-map, counts-at, place-rank, rank-at}
use Rattle.entries.proofs.Fixed.{fixed-over-cong}
use Rattle.entries.proofs.Groups.{Counted, Named, named-as}
use Rattle.entries.proofs.ListedOver.{place-over, listed-over-cong}
use Rattle.kinds.specs.Kinds.{group}
use Rattle.machine.specs.Calls.{weight_list, group_at, own_at}
use Rattle.machine.specs.Sizes.{named_by, named_by_replace, all_named}
use Rattle.machine.proofs.Names.{by-replace}
use Rattle.machine.specs.declared.Weights.{Weights}
use Rattle.machine.specs.declared.Call.TheVariants.{Move}
use Rattle.nets.specs.Parts.{part_at}
use Rattle.nets.proofs.GroupRows.{row-entry, first-listed}
use Rattle.nets.proofs.FirstMoves.{polar_by, size_by, moved_by}

-- ---- the entries of one group by their places

-- the places of the entries, in their order, are the numbers from 0 on
places-are : (n m : ℕ) → map (λ e. place_of e (counts n m)) (counts n m) ≡ upto (length (counts n m))
places-are n m =
    ext_get_or 0 (map place es) (upto (length es)) (length-map es place ∙ sym (length-upto (length es)))
    (λ p h. at p (subst (λ k. p < k) (length-map es place) h))
  where
    es : List (List ℕ)
    es = counts n m

    place : List ℕ → ℕ
    place e = place_of e es

    at : (p : ℕ) → p < length es → get_or (map place es) p 0 ≡ get_or (upto (length es)) p 0
    at p h =
        let c = counts-at n m p h in
        get_d_map place es p [] 0 h ∙ place-rank n m (get_or es p []) c.0 c.1 ∙ rank-at n m p h ∙ sym (upto-at (length es) p h)

pub joined-places : {A : Type 0} (n m : ℕ) (f : ℕ → List A) → joined (λ e. f (place_of e (counts n m))) (counts n m) ≡ joined f (upto (length (counts n m)))
joined-places n m f = sym (joined-map f (λ e. place_of e (counts n m)) (counts n m)) ∙ ap (joined f) (places-are n m)

pub all-places : (n m : ℕ) (test : ℕ → Bool) → all (λ e. test (place_of e (counts n m))) (counts n m) ≡ all test (upto (length (counts n m)))
all-places n m test = sym (all_map test (λ e. place_of e (counts n m)) (counts n m)) ∙ ap (all test) (places-are n m)

-- ---- a net of a first group and others

module _ (n m : ℕ) (gs : List Group) (xs : List ℤ) where
  abbrev g : Group
  g = group n m

  -- the part of the entry with counts e of the first group
  abbrev part : List ℕ → List ℤ
  part e = part_at (number_count gs) xs (place_of e (counts n m))

  part-entry : (c : ℕ) (e : List ℕ) (es : List (List ℕ)) → c < 4 → Counted gs es → entry_over (g ∷ gs) xs c (e ∷ es) ≡ entry_over gs (part e) c es
  unfolding entry_over entry_at
  part-entry c e es k counted =
      let place = (place-over gs es counted).0 in
      let from = number_count gs * place_of e (counts n m) in
      row-entry g gs xs c e es
      ∙ sym (get_or-take (number_count gs) (drop from xs) (4 * place_over gs es + c) (pos 0) (omega arith) ∙ get_or-drop from xs (4 * place_over gs es + c) (pos 0))

  -- the polar values with no q of the first group are those of the part
  part-fixed : (ws : List ℤ) (weights : List (List ℤ)) (c : ℕ) (e : List ℕ) (es : List (List ℕ)) → c < 4 → Named gs es
      → fixed_over (g ∷ gs) (ws ∷ weights) (entry_over (g ∷ gs) xs c) ((0 ∷ e) ∷ es) ≡ fixed_over gs weights (entry_over gs (part e) c) es
  unfolding fixed_over fixed
  part-fixed ws weights c e es k named =
      fixed-over-cong gs weights (λ rest. entry_over (g ∷ gs) xs c (e ∷ rest)) (entry_over gs (part e) c) (λ rest p. part-entry c e rest k p) es named

  -- the size rule of a replace in a group after the first
  named-later : (i : ℕ) (ws : List ℤ) (weights : List (List ℤ))
      → all_named (named_by_replace (g ∷ gs) (suc i)) (λ c es. fixed_over (g ∷ gs) (ws ∷ weights) (entry_over (g ∷ gs) xs c) es)
      ≡ all (λ e. all_named (named_by_replace gs i) (λ c es. fixed_over gs weights (entry_over gs (part e) c) es)) (counts n m)
  unfolding all_named named_by_replace
  named-later i ws weights =
      all-joined (λ es. all (λ c. in_range (P c es)) (upto 4)) (λ x. map (λ ys. x ∷ ys) (named_by_replace gs i)) (none_of_q (counts n m))
      ∙ all_map (λ x. all (λ es. all (λ c. in_range (P c es)) (upto 4)) (map (λ ys. x ∷ ys) (named_by_replace gs i))) (λ e. 0 ∷ e) (counts n m)
      ∙ all-cong (λ e. all (λ es. all (λ c. in_range (P c es)) (upto 4)) (map (λ ys. (0 ∷ e) ∷ ys) (named_by_replace gs i)))
      (λ e. all (λ es. all (λ c. in_range (fixed_over gs weights (entry_over gs (part e) c) es)) (upto 4)) (named_by_replace gs i)) (counts n m)
      (λ e q.
      all_map (λ es. all (λ c. in_range (P c es)) (upto 4)) (λ ys. (0 ∷ e) ∷ ys) (named_by_replace gs i)
      ∙ all-cong (λ es. all (λ c. in_range (P c ((0 ∷ e) ∷ es))) (upto 4)) (λ es. all (λ c. in_range (fixed_over gs weights (entry_over gs (part e) c) es)) (upto 4)) (named_by_replace gs i)
      (λ es k.
      all-cong (λ c. in_range (P c ((0 ∷ e) ∷ es))) (λ c. in_range (fixed_over gs weights (entry_over gs (part e) c) es)) (upto 4)
      (λ c j. ap in_range (part-fixed ws weights c e es (upto-below 4 c j) (by-replace gs i es k)))))
    where
      P : ℕ → List (List ℕ) → ℤ
      P c es = fixed_over (g ∷ gs) (ws ∷ weights) (entry_over (g ∷ gs) xs c) es

  -- ---- a move of a vertex past those of the first group

  module _ (operation vertex : ℕ) (weights : Weights) (past : n < pred vertex) where
    -- its number among the vertices of the groups after the first, counted from 1
    abbrev rest : ℕ
    rest = vertex - suc n

    before : pred vertex - suc n ≡ pred rest
    before = omega arith

    group-is : group_at (g ∷ gs) (pred vertex) ≡ suc (group_at gs (pred rest))
    group-is = ap₂ (λ b u. cond b 0 (suc (group_at gs u))) (lt-leb (pred vertex) n past) before

    own_is : own_at (g ∷ gs) (pred vertex) ≡ own_at gs (pred rest)
    own_is = ap₂ (λ b u. cond b (pred vertex) (own_at gs u)) (lt-leb (pred vertex) n past) before

    pub later-size : operation ≡ 1 → size_by (g ∷ gs) (Move operation vertex weights) xs ≡ all (λ k. size_by gs (Move operation rest weights) (part_at (number_count gs) xs k)) (upto (length (counts n m)))
    unfolding named_by
    later-size one =
        ap (λ i. all_named (cond (eqb operation 1) (named_by_replace (g ∷ gs) i) []) (polar_by (g ∷ gs) (Move operation vertex weights) xs)) group-is
        ∙ by (eqb operation 1) (eq-eqb operation 1 one)
        ∙ all-places n m (λ k. size_by gs (Move operation rest weights) (part_at (number_count gs) xs k))
      where
        by : (b : Bool) → b ≡ true
            → all_named (cond b (named_by_replace (g ∷ gs) (suc (group_at gs (pred rest)))) []) (polar_by (g ∷ gs) (Move operation vertex weights) xs)
            ≡ all (λ e. all_named (cond b (named_by_replace gs (group_at gs (pred rest))) []) (polar_by gs (Move operation rest weights) (part e))) (counts n m)
        by true e = named-later (group_at gs (pred rest)) (weight_list weights) (map (λ h. weight_list weights) gs)
        by false e = absurd (clash e refl)

    -- what it makes of an entry is what the same move makes of it in the part
    left_is : (c : ℕ) (e : List ℕ) (es : List (List ℕ)) → c < 4 → Counted gs es
        → cond (eqb operation 1) (polar_by (g ∷ gs) (Move operation vertex weights) xs c (as_q (group_at (g ∷ gs) (pred vertex)) (own_at (g ∷ gs) (pred vertex)) (e ∷ es)))
        (flipped_over (group_at (g ∷ gs) (pred vertex)) (own_at (g ∷ gs) (pred vertex)) (entry_over (g ∷ gs) xs c) (e ∷ es))
        ≡ cond (eqb operation 1) (polar_by gs (Move operation rest weights) (part e) c (as_q (group_at gs (pred rest)) (own_at gs (pred rest)) es))
        (flipped_over (group_at gs (pred rest)) (own_at gs (pred rest)) (entry_over gs (part e) c) es)
    left_is c e es k counted =
        ap₂
        (λ i u. cond (eqb operation 1) (polar_by (g ∷ gs) (Move operation vertex weights) xs c (as_q i u (e ∷ es))) (flipped_over i u (entry_over (g ∷ gs) xs c) (e ∷ es))) group-is own_is
        ∙ ap₂ (cond (eqb operation 1))
        (part-fixed (weight_list weights) (map (λ h. weight_list weights) gs) c e (as_q (group_at gs (pred rest)) (own_at gs (pred rest)) es) k (named-as gs (group_at gs (pred rest)) (own_at gs (pred rest)) es counted))
        (ap (signed (get_or (get_or es (group_at gs (pred rest)) []) (own_at gs (pred rest)) 0)) (part-entry c e es k counted))

    pub later-moved : moved_by (g ∷ gs) operation vertex weights xs ≡ joined (λ k. moved_by gs operation rest weights (part_at (number_count gs) xs k)) (upto (length (counts n m)))
    later-moved =
        first-listed g gs
        (λ c es. cond (eqb operation 1) (polar_by (g ∷ gs) (Move operation vertex weights) xs c (as_q (group_at (g ∷ gs) (pred vertex)) (own_at (g ∷ gs) (pred vertex)) es))
        (flipped_over (group_at (g ∷ gs) (pred vertex)) (own_at (g ∷ gs) (pred vertex)) (entry_over (g ∷ gs) xs c) es))
        ∙ each (counts n m)
        ∙ joined-places n m (λ k. moved_by gs operation rest weights (part_at (number_count gs) xs k))
      where
        each : (es : List (List ℕ))
            → joined
            (λ e. listed_over gs
            (λ c fs. cond (eqb operation 1) (polar_by (g ∷ gs) (Move operation vertex weights) xs c (as_q (group_at (g ∷ gs) (pred vertex)) (own_at (g ∷ gs) (pred vertex)) (e ∷ fs)))
            (flipped_over (group_at (g ∷ gs) (pred vertex)) (own_at (g ∷ gs) (pred vertex)) (entry_over (g ∷ gs) xs c) (e ∷ fs)))) es
            ≡ joined (λ e. moved_by gs operation rest weights (part e)) es
        each [] = refl
        each (e ∷ es) = ap₂ ◌++◌ (listed-over-cong gs _ _ (λ c fs k counted. left_is c e fs k counted)) (each es)
