-- What the code makes of a point that is not refused for its weights is what the definition says: the first group's levels leave a row, which is the net over the groups after it with
-- the first group's points all q; the second group's levels, where there is a second group, leave the point.
use Prim.Native.Nat.{ℕ, zero, suc, ◌+◌, ◌*◌, ◌-◌, ◌≤◌, ◌<◌}
use native.Mathlib.Nat.{add-zero, sub_self, mul-one, le-mul_of_pos_right, le_refl, le_trans, le_of_eq, not-suc-le-zero, le_of_suc-le-suc}
use native.Mathlib.Omega.{arith}
use native.Mathlib.Decide.{dec_lt}
use mathlib.Core.Path.{◌≡◌, refl, sym, ap, ap₂, ◌∙◌, subst}
use mathlib.Core.Bool.{Bool, true, false, ◌&&◌}
use mathlib.Core.List.{List, [], ◌∷◌, ◌++◌}
use lib.Dec.{lit≤}
use lib.IntN.{ℤ, pos, nat_abs}
use lib.ListN.{length, get_or, take, drop, replicate}
use lib.Seq.{drop-drop}
use Rattle.integers.specs.Sum.{upto}
use Rattle.integers.specs.Test.{all}
use Rattle.integers.proofs.All.{and_one, all-at}
use Rattle.integers.proofs.Sums.{below-upto}
use Rattle.polar.specs.Order.{counts}
use Rattle.polar.specs.Groups.{Group, counts_over}
use Rattle.projection.specs.Projection.{in_range, Four, four_numbers}
use Rattle.entries.specs.Entries.{entry_over, fixed_over, only_q}
use Rattle.entries.specs.Rows.{size}
use Rattle.entries.proofs.Places.{length-counts}
use Rattle.entries.proofs.Fixed.{fixed-cong}
use Rattle.entries.proofs.Listed.{first-digit}
use Rattle.entries.proofs.Groups.{total-zeros, length-zeros}
use Rattle.kinds.specs.Kinds.{group, dimension_of, later_groups, later_dimension}
use Rattle.kinds.proofs.Limits.{limits, later-none, later-one, pairs-only}
use Rattle.machine.specs.Calls.{weight_list, shares, own_tests}
use Rattle.machine.specs.Sizes.{named_by, named_by_point, all_named}
use Rattle.machine.specs.Steps.{four_of, found_of, found_at}
use Rattle.machine.specs.Nets.{net_polar, net_four, accepted}
use Rattle.machine.specs.Lent.{put_at}
use Rattle.machine.proofs.Lent.{front-put}
use Rattle.machine.specs.declared.Weights.{Weights}
use Rattle.machine.specs.declared.Call.TheVariants.{Point}
use Rattle.kinds.specs.declared.Head.{Head}
use Rattle.nets.specs.Rows.{written, weight_sum, level}
use Rattle.nets.specs.Levels.{values_of, named_at, all_named_at, Descends}
use Rattle.nets.specs.Calls.{net_from, InOrder, later_weights, LaterDescends, LaterDescended, Pointed}
use Rattle.nets.specs.Zeros.{LineAsked, point_projected, projected_put}
use Rattle.nets.proofs.GroupPoint.{named-used, named-front, values-left, named-point}
use Rattle.nets.proofs.LevelValues.{level-named, level-last, length-level}
use Rattle.nets.proofs.FirstMoves.{counts_some, polar_by, size_by, point-size, point-value}
use Rattle.nets.proofs.Made.{light, row_numbers, n, w, over, used, right, groups-are, entries-used, net-sized, net-long, net-ranged, row_in, number_by, part-size, later-sized}
use Rattle.nets.proofs.ZeroLine.{net-projected}

-- ---- copies

-- four numbers written at the front
four-put : (xs : List ℤ) (g : ℕ → ℤ) → 4 ≤ length xs → written xs 0 4 g ≡ put_at 0 (g 0 ∷ g 1 ∷ g 2 ∷ g 3 ∷ []) xs
unfolding written
four-put xs g h = front-put (g 0 ∷ g 1 ∷ g 2 ∷ g 3 ∷ []) xs h

-- four numbers, and four behind them
two-fours : (p q : Four) (found : List ℤ) → put_at 4 (four_numbers q) (put_at 0 (four_numbers p) found) ≡ put_at 0 (four_numbers p ++ four_numbers q) found
two-fours p q found = ap (λ l. four_numbers p ++ (four_numbers q ++ l)) (drop-drop 4 4 found)

-- degree 0 has one entry
one_entry : (j : ℕ) → length (counts j 0) ≡ 1
unfolding counts
one_entry zero = refl
one_entry (suc j) = length-counts j 0 ∙ ap (λ k. k + 0) (one_entry j)

-- ---- weights that agree on the vertices

named-same : (v d m : ℕ) (us ws xs : List ℤ) → ((u : ℕ) → u < suc d → get_or us u (pos 0) ≡ get_or ws u (pos 0)) → all_named_at v d m us xs ≡ all_named_at v d m ws xs
named-same v d m us ws xs same = sym (named-used v d m us us xs (λ u p. refl)) ∙ named-used v d m us ws xs same

-- ---- a point in order

point-found : {head : Head} {places : List ℤ} {weights : Weights} (ordered : InOrder head places (Point weights))
    → found_of (accepted (net_from head places) (Point weights)).answer ≡ four_of (λ c. polar_by (over ordered) (Point weights) (used ordered) c (only_q (over ordered)))
unfolding accepted net_polar net_four found_at
point-found {weights = weights} ordered = ap₂ (λ g xs. four_of (λ c. polar_by g (Point weights) xs c (only_q g))) (groups-are ordered) (entries-used ordered)

module _ {head : Head} {places : List ℤ} {weights : Weights} (ordered : InOrder head places (Point weights)) where
  abbrev d : ℕ
  d = n ordered

  abbrev v : ℕ
  v = w ordered

  abbrev later : List Group
  later = later_groups head.kind head.second

  abbrev ws : List ℤ
  ws = weight_list weights

  -- the weights of the groups after the first
  abbrev others : List (List ℤ)
  others = shares later (drop (suc d) ws)

  both-light : (weight_sum weights ≤ 12288) × (nat_abs weights.t + nat_abs weights.u ≤ 12288)
  unfolding own_tests
  both-light = light weights (row_in ordered 0)

  -- the net's entries are copied into a room
  module _ (room : List ℤ) (room-long : size v d head.degree ≤ length room) (copied : take (size v d head.degree) room ≡ used ordered) where
    pub first-descends : Descends v d head.degree weights room
    first-descends = record { sized = net-sized ordered; long = room-long; range = ap (all in_range) copied ∙ net-ranged ordered; light = both-light.0 }

    -- what the first group's levels leave, if nothing is out of range
    abbrev row : List ℤ
    row = level v d head.degree ws head.degree room

    last : (c : ℕ) → c < v → get_or row c (pos 0) ≡ values_of v d head.degree ws room c head.degree (replicate (suc d) 0)
    last = level-last v d (net-sized ordered).some head.degree ws room room-long

    -- the rule of the groups after the first
    abbrev rest-sized : List ℤ → Bool
    rest-sized xs = all_named (named_by_point later) (λ c es. fixed_over later others (entry_over later xs c) es)

    whole-size : size_by (over ordered) (Point weights) (used ordered) ≡ (all_named_at v d head.degree ws room && rest-sized row)
    unfolding named_by
    whole-size = ap (size_by (over ordered) (Point weights)) (sym copied) ∙ point-size d head.degree later ws others room row last

    whole-value : (c : ℕ) → c < 4 → polar_by (over ordered) (Point weights) (used ordered) c (only_q (over ordered)) ≡ fixed_over later others (entry_over later row c) (only_q later)
    whole-value c k = ap (λ xs. polar_by (over ordered) (Point weights) xs c (only_q (over ordered))) (sym copied) ∙ point-value d head.degree later ws others room row last c k

    pub first-refused : (found : List ℤ) → false ≡ all_named_at v d head.degree ws room → Pointed (net_from head places) (Point weights) 10 found found
    first-refused found is = record { number_is = sym (number_by ordered false (whole-size ∙ ap (λ b. b && rest-sized row) (sym is))); places = refl }

    -- ---- the first group's levels are in range

    module _ (passed : true ≡ all_named_at v d head.degree ws room) where
      -- the row is in range
      row-ranged : all in_range (take v row) ≡ true
      unfolding all_named_at
      row-ranged =
          ap (λ k. all in_range (take k row)) (sym one-row)
          ∙ level-named v d (net-sized ordered).some head.degree ws room room-long head.degree (le_refl head.degree)
          ∙ all-at (named_at v d head.degree ws room) (upto (suc head.degree)) (sym passed) head.degree (below-upto (suc head.degree) head.degree (le_refl (suc head.degree)))
        where
          one-row : size v d (head.degree - head.degree) ≡ v
          one-row = ap (λ k. v * k) (ap (λ k. length (counts d k)) (sub_self head.degree) ∙ one_entry d) ∙ mul-one v

      pub later-descends : (left : List ℤ) → left ≡ row → LaterDescends head weights left
      later-descends left is =
          record {
            sized = λ some. later-sized ordered some;
            long = λ some. subst (λ k. size 4 (later_dimension head.kind) head.second ≤ k) (sym (ap length is ∙ length-level v d (net-sized ordered).some head.degree ws room room-long head.degree (le_refl head.degree)))
                (le_trans (le_of_eq (part-size ordered some)) (le_trans (le-mul_of_pos_right v (counts_some d head.degree)) room-long));
            range = λ some. ap₂ (λ k xs. all in_range (take k xs)) (part-size ordered some) is ∙ row-ranged;
            light = both-light.1;
          }

      -- the entries of a curve are what the putting of the numbers projected asks for
      pub line-asked : (free : List ℤ) → size v d head.degree ≤ length free → head.kind ≡ 1 → LineAsked head.degree weights places free
      unfolding counts_over
      line-asked free enough one =
          let at = limits head.kind head.degree head.second (right ordered) in
          let entries : Descends v d head.degree weights places = record { sized = net-sized ordered; long = net-long ordered; range = net-ranged ordered; light = both-light.0 } in
          let line = subst Line one (entries, named-front v d head.degree ws places room (sym copied) ∙ sym passed, enough) in
          record { ready = line.0; named = line.1; free = line.2; low = at.degree-low; high = omega (arith, at.degree-below) }
        where
          Line : ℕ → Type 0
          Line k = Descends (row_numbers k head.second) (dimension_of k) head.degree weights places × (all_named_at (row_numbers k head.second) (dimension_of k) head.degree ws places ≡ true) × (size (row_numbers k head.second) (dimension_of k) head.degree ≤ length free)

      -- what is answered and left, by whether the head.second group's levels are in range
      module _ (b : Bool) (left : List ℤ) (descended : LaterDescended head weights row b left) where
        -- the groups after the first, their rule and their point
        abbrev Rest : List Group → Type 0
        Rest gs = (b ≡ all_named (named_by_point gs) (λ c es. fixed_over gs (shares gs (drop (suc d) ws)) (entry_over gs row c) es))
            × (b ≡ true → (c : ℕ) → c < 4 → fixed_over gs (shares gs (drop (suc d) ws)) (entry_over gs row c) (only_q gs) ≡ get_or left c (pos 0))

        -- none: the row is the point
        alone : later_dimension head.kind ≡ 0 → Rest []
        unfolding all_named named_by_point fixed_over entry_over
        alone none = ((descended.none none).0, λ yes-it-is c k. ap₂ (λ i xs. get_or xs i (pos 0)) (first-digit 4 c) (sym (descended.none none).1))

        -- one: its levels leave the point
        pair : (later_dimension head.kind ≡ 0 → ⊥) → Rest (group (later_dimension head.kind) head.second ∷ [])
        unfolding all_named named_by_point fixed_over entry_over counts_over
        pair some = (named-is, value-is)
          where
            l : ℕ
            l = later_dimension head.kind

            us : List ℤ
            us = take (suc l) (drop (suc d) ws)

            -- its weights are the third and the fourth
            same : (u : ℕ) → u < suc l → get_or us u (pos 0) ≡ get_or (later_weights weights) u (pos 0)
            same u h =
                ap₂ (λ i j. get_or (take (suc i) (drop (suc j) ws)) u (pos 0)) (pairs-only head.kind some).0 (pairs-only head.kind some).1
                ∙ by u (subst (λ i. u < suc i) (pairs-only head.kind some).0 h)
              where
                by : (i : ℕ) → i < 2 → get_or (take 2 (drop 2 ws)) i (pos 0) ≡ get_or (later_weights weights) i (pos 0)
                by zero h = refl
                by (suc zero) h = refl
                by (suc (suc i)) h = absurd (not-suc-le-zero (le_of_suc-le-suc (le_of_suc-le-suc h)))

            point : List ℤ
            point = level 4 l head.second (later_weights weights) head.second row

            point-last : (c : ℕ) → c < 4 → get_or point c (pos 0) ≡ values_of 4 l head.second us row c head.second (replicate (suc l) 0)
            point-last c k =
                level-last 4 l (lit≤ tt) head.second (later_weights weights) row ((later-descends row refl).long some) c k
                ∙ sym (fixed-cong (suc l) head.second us (later_weights weights) same _ _ (λ e x y. refl) head.second (replicate (suc l) 0) (length-zeros (suc l)) (ap (λ z. head.second + z) (total-zeros (suc l)) ∙ add-zero head.second))

            named-is : b ≡ all_named (named_by_point (group l head.second ∷ [])) (λ c es. fixed_over (group l head.second ∷ []) (us ∷ []) (entry_over (group l head.second ∷ []) row c) es)
            named-is =
                (descended.some some).named
                ∙ sym
                (named-point (group l head.second) [] us [] row point point-last
                ∙ and_one (all_named_at 4 l head.second us row)
                ∙ named-same 4 l head.second us (later_weights weights) row same)

            value-is : b ≡ true → (c : ℕ) → c < 4 → fixed_over (group l head.second ∷ []) (us ∷ []) (entry_over (group l head.second ∷ []) row c) (only_q (group l head.second ∷ [])) ≡ get_or left c (pos 0)
            value-is yes-it-is c k =
                values-left (group l head.second) [] us [] row point point-last c [] k tt
                ∙ ap₂ (λ i xs. get_or xs i (pos 0)) (first-digit 4 c) (sym ((descended.some some).last yes-it-is))

        rest-is : Rest later
        rest-is = by (dec_lt 0 (later_dimension head.kind))
          where
            by : Dec (0 < later_dimension head.kind) → Rest later
            by (yes p) = let some : later_dimension head.kind ≡ 0 → ⊥ = λ none. not-suc-le-zero (subst (λ k. 0 < k) none p) in subst Rest (sym (later-one head.kind head.second some)) (pair some)
            by (no p) = let none : later_dimension head.kind ≡ 0 = omega arith in subst Rest (sym (later-none head.kind head.second none)) (alone none)

        size-by : size_by (over ordered) (Point weights) (used ordered) ≡ b
        size-by = whole-size ∙ ap₂ ◌&&◌ (sym passed) (sym rest-is.0)

        pub point-refused : b ≡ false → (found : List ℤ) → Pointed (net_from head places) (Point weights) 10 found found
        point-refused no-it-is-not found = record { number_is = sym (number_by ordered false (size-by ∙ no-it-is-not)); places = refl }

        -- the point is copied, and the numbers projected are put behind it
        pub point-taken : b ≡ true → (found first after : List ℤ) → 4 ≤ length found → first ≡ written found 0 4 (λ i. get_or left i (pos 0)) → after ≡ projected_put head.kind head.degree weights places first
            → Pointed (net_from head places) (Point weights) 0 found after
        unfolding accepted found_at
        point-taken yes-it-is found first after room_for copy is =
            record {
              number_is = sym (number_by ordered true (size-by ∙ yes-it-is));
              places =
                  is
                  ∙ ap (projected_put head.kind head.degree weights places) (copy ∙ four-put found (λ i. get_or left i (pos 0)) room_for ∙ ap (λ xs. put_at 0 xs found) (sym values-are))
                  ∙ two-fours point (point_projected head.kind head.degree weights places point) found
                  ∙ ap (λ q. put_at 0 (four_numbers point ++ four_numbers q) found) (sym (net-projected head.degree head.second places weights head.kind));
            }
          where
            point : Four
            point = found_of (accepted (net_from head places) (Point weights)).answer

            value : (c : ℕ) → c < 4 → polar_by (over ordered) (Point weights) (used ordered) c (only_q (over ordered)) ≡ get_or left c (pos 0)
            value c k = whole-value c k ∙ rest-is.1 yes-it-is c k

            values-are : four_numbers point ≡ get_or left 0 (pos 0) ∷ get_or left 1 (pos 0) ∷ get_or left 2 (pos 0) ∷ get_or left 3 (pos 0) ∷ []
            values-are =
                ap four_numbers (point-found ordered)
                ∙ (λ i. value 0 (omega arith) i ∷ value 1 (omega arith) i ∷ value 2 (omega arith) i ∷ value 3 (omega arith) i ∷ [])
