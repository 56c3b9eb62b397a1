-- What a move does to the frame that stands in lent places: the code's new vertex is the definition's, its numbers are tested for 12, and to put them into their places is to put the frame
-- that the move reaches.
use Prim.Native.Nat.{ℕ, zero, suc, pred, ◌+◌, ◌*◌, ◌≤◌, ◌<◌}
use native.Mathlib.Nat.{le_of_eq, not-suc-le-zero, mul-le-mul_left, mul-suc, add_assoc, zero-add}
use native.Mathlib.Omega.{arith}
use mathlib.Core.Path.{◌≡◌, refl, sym, ap, ap₂, ◌∙◌, subst}
use mathlib.Core.Bool.{Bool, true, false, cond}
use mathlib.Core.List.{List, [], ◌∷◌, ◌++◌, map}
use borrow.Author.Tests.{leb-true}
use borrow.Rule.Slice.PartMut.{put_mid, put_same, Post-is}
use lib.Dec.{eqb, lit≤}
use lib.IntN.{ℤ, pos, neg_ℤ, nat_abs}
use lib.ListN.{length, get_or, take, drop, length-map, length-drop}
use lib.Seq.{take_at, take-take, drop-drop, get_or-drop}
use Rattle.integers.specs.Largest.{largest_of}
use Rattle.integers.specs.Test.{all}
use Rattle.integers.proofs.All.{all_first}
use Rattle.polar.specs.Sigma.{Point}
use Rattle.polar.specs.Groups.{Group}
use Rattle.projection.specs.Projection.{in_range}
use Rattle.entries.specs.Frame.{combination, unit_point, vertex_at}
use Rattle.entries.proofs.Groups.{Framed}
use Rattle.entries.specs.Entries.{number_count}
use Rattle.entries.proofs.ListedOver.{length-listed-over}
use Rattle.kinds.specs.Kinds.{known}
use Rattle.kinds.specs.Frames.{Frames, frame_of, frame_count, frames_of, numbers_of}
use Rattle.kinds.proofs.Counts.{entries_fit, frame-few}
use Rattle.kinds.proofs.Frames.{point-wide, negative-wide, framed-numbers, negative-named}
use Rattle.machine.specs.Refusals.{◌else◌, first_failed}
use Rattle.machine.proofs.Refusals.{passes, fails}
use Rattle.machine.specs.Calls.{weight_list, group_at, own_at, vertices_at, weights_for}
use Rattle.machine.specs.Frames.{points_of, frames_after, new_numbers}
use Rattle.machine.specs.Sizes.{named_by, all_named}
use Rattle.machine.specs.Nets.{Net, net_polar, entries_after, largest_after, accepted}
use Rattle.machine.specs.Lent.{put_at, unless_refused}
use Rattle.machine.proofs.Frames.{in-range-numbers, in-range-negative}
use Rattle.machine.proofs.Over.{located, replaced-in}
use Rattle.machine.proofs.Lent.{drop-take, put-own, put-before, put-behind, put-apart, put-within, put-length, part-put}
use Rattle.machine.specs.declared.Weights.{Weights}
use Rattle.machine.specs.declared.Call.{Call}
use Rattle.machine.specs.declared.Call.TheVariants.{Move}
use Rattle.kinds.specs.Heads.{head_groups}
use Rattle.kinds.specs.declared.Head.{Head}
use Rattle.nets.specs.Frames.{frame_start, OwnVertex, Small, NewVertex, point_at, new_vertex, padded}
use Rattle.nets.specs.Calls.{net_from, net_in, size_test, Stepped, MoveAsked, Moved, MovedEntries, largest_in}
use Rattle.nets.proofs.Made.{right, move-light, move-high}
use Rattle.nets.proofs.InPlaces.{frame-numbers, size_same, left-same}
use Rattle.nets.proofs.Vertices.{vertices-few, start_fits, frame_at, framed_at, point_at-of, numbers-put, padded-range, padded-taken}

module _ {head : Head} {lent : List ℤ} {operation vertex : ℕ} {weights : Weights} (asked : MoveAsked head lent (Move operation vertex weights)) where
  abbrev gs : List Group
  gs = head_groups head

  abbrev frames : Frames
  frames = frames_of gs (drop 3 lent)

  abbrev move : Call
  move = Move operation vertex weights

  -- the vertex's group, and its number there
  abbrev i : ℕ
  i = group_at gs (pred vertex)

  abbrev v : ℕ
  v = own_at gs (pred vertex)

  abbrev d : ℕ
  d = vertices_at gs i

  abbrev from : ℕ
  from = frame_start gs i

  framed : Framed gs frames
  framed = framed-numbers gs (drop 3 lent)

  place : (i < length gs) × (v < length (get_or frames i []))
  place = located gs frames framed (pred vertex) (move-high asked.ordered)

  inside : v < d
  inside = subst (λ k. v < k) (framed_at gs frames i framed place.0) place.1

  few : (2 ≤ d) × (d ≤ 3)
  few = vertices-few head.kind head.degree head.second (right asked.ordered) i place.0

  fits : from + d * d ≤ frame_count gs
  fits = start_fits gs i place.0

  -- the vertex stands within the frame of its group
  within-square : d * v + d ≤ d * d
  within-square = let up = mul-le-mul_left d inside in omega (arith, up, mul-suc d v)

  count-few : frame_count gs ≤ 9
  count-few = frame-few head.kind head.degree head.second

  long : 193 ≤ length lent
  long = asked.places

  numbers-are : numbers_of frames ≡ take (frame_count gs) (drop 3 lent)
  numbers-are = frame-numbers head lent long

  near : all in_range (numbers_of frames) ≡ true
  near = ap (all in_range) numbers-are ∙ asked.near

  -- its group's frame, which stands behind those of the groups before it
  frame_is : get_or frames i [] ≡ frame_of d (drop (3 + from) lent)
  frame_is = frame_at gs i (drop 3 lent) place.0 ∙ ap (frame_of d) (drop-drop from 3 lent)

  small_at : (k : ℕ) → k < d * d → Small lent (3 + from + k)
  small_at k h =
      let room = fits in
      let nine = count-few in
      let l = long in
      let at : 3 + (from + k) ≡ 3 + from + k = omega arith in
      let number = leb-true (nat_abs (get_or (drop 3 lent) (from + k) (pos 0))) 281474976710656
      (all_first in_range (frame_count gs) (drop 3 lent) asked.near (from + k) (omega arith) (subst (λ j. from + k < j) (sym (length-drop 3 lent)) (omega arith))) in
      subst (λ x. nat_abs x ≤ 281474976710656) (get_or-drop 3 lent (from + k) (pos 0) ∙ ap (λ j. get_or lent j (pos 0)) at) number

  -- ---- what the code asks for, and gets

  module _ (start count index : ℕ) (own : OwnVertex gs vertex start count index) where
    pub new-asked : NewVertex lent start count index weights
    new-asked =
        subst (λ s. NewVertex lent s count index weights) (sym own.start_is)
        (subst (λ c. NewVertex lent (3 + from) c index weights) (sym own.count-is)
        (subst (λ j. NewVertex lent (3 + from) d j weights) (sym own.index_is)
        (record {
          blends =
              record {
                two = few.0;
                three = few.1;
                long = let room = fits in let nine = count-few in let l = long in omega arith;
                small = small_at;
                light = move-light asked.ordered;
              };
          inside = inside;
        })))

    abbrev new : Point
    new = new_vertex start count index operation weights lent

    -- q or the negative
    abbrev goes : Point
    goes = cond (eqb operation 1) (get_or (points_of gs frames move) i []) (map neg_ℤ (vertex_at (get_or frames i []) v))

    q-is : point_at (3 + from) d (weight_list weights) lent ≡ get_or (points_of gs frames move) i []
    unfolding points_of
    q-is = sym (point_at-of gs (weight_list weights) frames i place.0 ∙ ap (λ f. combination d (weight_list weights) (vertex_at f)) frame_is)

    -- each is as long as the group has vertices
    goes-long : length goes ≡ d
    unfolding points_of
    goes-long = by (eqb operation 1) ∙ framed_at gs frames i framed place.0
      where
        by : (b : Bool) → length (cond b (get_or (points_of gs frames move) i []) (map neg_ℤ (vertex_at (get_or frames i []) v))) ≡ length (get_or frames i [])
        by true = point-wide gs (weights_for gs move) frames i framed
        by false = negative-wide gs frames i v framed place.1

    negative-is : point_at (3 + from) d (map neg_ℤ (unit_point 4 v)) lent ≡ map neg_ℤ (vertex_at (get_or frames i []) v)
    negative-is =
        let three = few.1 in
        let wide = sym (length-map (vertex_at (get_or frames i []) v) neg_ℤ) ∙ negative-wide gs frames i v framed place.1 ∙ framed_at gs frames i framed place.0 in
        ap (λ f. combination d (map neg_ℤ (unit_point 4 v)) (vertex_at f)) (sym frame_is)
        ∙ negative-named 4 d v (vertex_at (get_or frames i [])) (omega arith) inside wide

    new_is : new ≡ goes
    new_is = (λ j. new_vertex (own.start_is j) (own.count-is j) (own.index_is j) operation weights lent) ∙ by (eqb operation 1)
      where
        by : (b : Bool) → point_at (3 + from) d (cond b (weight_list weights) (map neg_ℤ (unit_point 4 v))) lent ≡ cond b (get_or (points_of gs frames move) i []) (map neg_ℤ (vertex_at (get_or frames i []) v))
        by true = q-is
        by false = negative-is

    goes-few : (2 ≤ length goes) × (length goes ≤ 3)
    goes-few = subst (λ k. (2 ≤ k) × (k ≤ 3)) (sym goes-long) few

    -- the numbers of a flip's vertex are in range with the frame's, so 12 is decided by a replace's q
    pub new-range : (xs : List ℤ) → xs ≡ padded new → all in_range xs ≡ all in_range (new_numbers gs frames move)
    unfolding new_numbers
    new-range xs is = ap (all in_range) (is ∙ ap padded new_is) ∙ padded-range goes goes-few.0 goes-few.1 ∙ by (eqb operation 1)
      where
        q : Point
        q = get_or (points_of gs frames move) i []

        by : (b : Bool) → all in_range (cond b q (map neg_ℤ (vertex_at (get_or frames i []) v))) ≡ all in_range (cond b q [])
        by true = refl
        by false = in-range-negative frames i v (sym (in-range-numbers frames) ∙ near)

    -- to put the new vertex into its places is to put the frame that is reached, in places whose first twelve are those of the net
    pub frame-put : (more xs : List ℤ) → take 12 more ≡ take 12 lent → 193 ≤ length more → xs ≡ padded new
        → put_at (start + count * index) (take count xs) more ≡ put_at 3 (numbers_of (frames_after gs frames move)) more
    unfolding frames_after
    frame-put more xs same wide is =
        ap₂ (λ k q. put_at k q more) at-is vertex-is
        ∙ sym
        (ap (λ l. put_at 3 l more)
        (numbers-put gs frames i v goes framed place.0 inside goes-long ∙ ap (put_at (from + d * v) goes) (numbers-are ∙ sym still))
        ∙ put-within 3 (from + d * v) (frame_count gs) goes more (omega (arith, count-few)) (let room = fits in let square = within-square in omega (arith, goes-long)))
      where
        -- the frame's numbers
        still : take (frame_count gs) (drop 3 more) ≡ take (frame_count gs) (drop 3 lent)
        still =
            sym (take-take (frame_count gs) 9 (drop 3 more) count-few)
            ∙ ap (take (frame_count gs)) (sym (drop-take 3 12 more) ∙ ap (drop 3) same ∙ drop-take 3 12 lent)
            ∙ take-take (frame_count gs) 9 (drop 3 lent) count-few

        at-is : start + count * index ≡ 3 + (from + d * v)
        at-is = (λ j. own.start_is j + own.count-is j * own.index_is j) ∙ add_assoc 3 from (d * v)

        vertex-is : take count xs ≡ goes
        vertex-is =
            ap₂ take (own.count-is ∙ sym goes-long) (is ∙ ap padded new_is)
            ∙ padded-taken goes goes-few.0 goes-few.1

    -- ---- the move put together

    abbrev net : Net
    net = net_in head lent

    abbrev part : List ℤ
    part = take 180 (drop 12 lent)

    abbrev left : List ℤ
    left = (accepted net move).left.entries

    known-kind : known head.kind head.degree head.second ≡ true
    known-kind = right asked.ordered

    left-long : length left ≤ 180
    unfolding accepted entries_after
    left-long = subst (λ k. k ≤ 180) (sym (length-listed-over gs _)) (entries_fit head.kind head.degree head.second known-kind)

    -- the entries put into their part
    part-is : put_mid 12 180 lent (put_at 0 (accepted (net_from head part) move).left.entries part) ≡ put_at 12 left lent
    unfolding accepted
    part-is =
        let l = long in
        ap (λ es. put_mid 12 180 lent (put_at 0 es part)) (left-same head lent l known-kind operation vertex weights)
        ∙ ap₂ (λ k r. take 12 lent ++ ((left ++ drop k part) ++ r)) (zero-add (length left)) (Post-is 12 192 lent (omega arith))
        ∙ part-put 12 180 lent (omega arith) left left-long

    -- q out of range
    pub moved-beyond : (xs : List ℤ) → xs ≡ padded new → all in_range xs ≡ false → Moved net move 12 lent lent
    moved-beyond xs is beyond =
        record { number_is = sym (fails 12 (size_test net move) (sym (new-range xs is) ∙ beyond)); places = refl }

    module _ (xs : List ℤ) (is : xs ≡ padded new) (passed : all in_range xs ≡ true) (k : ℕ) (out : List ℤ) (stepped : Stepped (net_from head part) move k part out) where
      number : k ≡ first_failed (all in_range (new_numbers gs frames move) else 12 ∷ size_test net move)
      number =
          stepped.number_is
          ∙ ap first_failed (size_same head lent long known-kind move)
          ∙ sym (passes 12 (size_test net move) (sym (new-range xs is) ∙ passed))

      -- refused for size
      pub moved-kept : (k ≡ 0 → ⊥) → Moved net move k lent (put_mid 12 180 lent out)
      moved-kept refused = record { number_is = number; places = by k refused stepped.places }
        where
          by : (j : ℕ) → (j ≡ 0 → ⊥) → out ≡ unless_refused j (put_at 0 (accepted (net_from head part) move).left.entries part) part
              → put_mid 12 180 lent out ≡ unless_refused j (put_at 3 (numbers_of (accepted net move).left.frames) (put_at 12 left (put_at 192 ((accepted net move).left.largest ∷ []) lent))) lent
          by zero other made = absurd (other refl)
          by (suc j) other made = ap (put_mid 12 180 lent) made ∙ put_same 12 180 lent

      -- taken
      module _ (taken : k ≡ 0) where
        pub entries-put : put_mid 12 180 lent out ≡ put_at 12 left lent
        entries-put =
            ap (put_mid 12 180 lent) (stepped.places ∙ ap (λ j. unless_refused j (put_at 0 (accepted (net_from head part) move).left.entries part) part) taken) ∙ part-is

        -- the entries that stand there are the move's
        left-stands : take (number_count gs) (drop 12 (put_at 12 left lent)) ≡ left
        unfolding accepted entries_after
        left-stands =
            let l = long in
            let e = left-long in
            ap (take (number_count gs)) (put-own 12 left lent (omega arith)) ∙ take_at left (drop (12 + length left) lent) (number_count gs) (length-listed-over gs _)

        entries-long : 193 ≤ length (put_at 12 left lent)
        entries-long = let l = long in let e = left-long in subst (λ j. 193 ≤ j) (sym (put-length 12 left lent (omega arith))) l

        -- what the largest component is put by: those of a replace are in range, as all that it names is
        pub entries-moved : MovedEntries head operation (put_mid 12 180 lent out)
        unfolding accepted
        entries-moved =
            subst (MovedEntries head operation) (sym entries-put)
            (record { places = entries-long; fit = entries_fit head.kind head.degree head.second known-kind; range = λ replace. ap (all in_range) left-stands ∙ in-range replace })
          where
            passed-size : (b : Bool) → first_failed (b else 10 ∷ []) ≡ 0 → b ≡ true
            passed-size true h = refl
            passed-size false h = absurd (not-suc-le-zero (le_of_eq h))

            in-range : operation ≡ 1 → all in_range left ≡ true
            in-range replace =
                subst
                (λ o. all_named (named_by gs (Move o vertex weights)) (net_polar net (Move o vertex weights)) ≡ true → all in_range (entries_after net o vertex weights) ≡ true) (sym replace)
                (replaced-in net vertex weights place.0)
                (passed-size _ (ap first_failed (sym (size_same head lent long known-kind move)) ∙ sym stepped.number_is ∙ taken))

        -- the largest component that is put is the move's
        abbrev largest : ℤ
        largest = (accepted net move).left.largest

        largest-put : largest_in head operation (put_at 12 left lent) ≡ largest
        unfolding accepted largest_after
        largest-put = ap₂ (λ es l. cond (eqb operation 1) (pos (largest_of es)) l) left-stands stays
          where
            stays : get_or (put_at 12 left lent) 192 (pos 0) ≡ get_or lent 192 (pos 0)
            stays =
                let l = long in
                let e = left-long in
                sym (get_or-drop 192 (put_at 12 left lent) 0 (pos 0)) ∙ ap (λ r. get_or r 0 (pos 0)) (put-behind 12 left lent (omega arith) 192 (omega arith)) ∙ get_or-drop 192 lent 0 (pos 0)

        -- the entries and it, put in the order of the definition
        abbrev both : List ℤ
        both = put_at 12 left (put_at 192 (largest ∷ []) lent)

        with-largest : (some : List ℤ) → some ≡ put_at 192 (largest_in head operation (put_mid 12 180 lent out) ∷ []) (put_mid 12 180 lent out) → some ≡ both
        with-largest some is =
            let l = long in
            let e = left-long in
            is
            ∙ ap (λ r. put_at 192 (largest_in head operation r ∷ []) r) entries-put
            ∙ ap (λ x. put_at 192 (x ∷ []) (put_at 12 left lent)) largest-put
            ∙ put-apart 12 192 left (largest ∷ []) lent (omega arith) (omega arith)

        one-long : length (put_at 192 (largest ∷ []) lent) ≡ length lent
        one-long = put-length 192 (largest ∷ []) lent long

        both_long : 193 ≤ length both
        both_long = let l = long in let e = left-long in subst (λ j. 193 ≤ j) (sym (put-length 12 left (put_at 192 (largest ∷ []) lent) (omega (arith, one-long)) ∙ one-long)) l

        pub moved_made : (some after : List ℤ) → some ≡ put_at 192 (largest_in head operation (put_mid 12 180 lent out) ∷ []) (put_mid 12 180 lent out)
            → after ≡ put_at (start + count * index) (take count xs) some → Moved net move 0 lent after
        unfolding accepted
        moved_made some after with_it made =
            record {
              number_is = sym taken ∙ number;
              places = made ∙ ap (put_at (start + count * index) (take count xs)) (with-largest some with_it) ∙ frame-put both xs first-twelve both_long is;
            }
          where
            first-twelve : take 12 both ≡ take 12 lent
            first-twelve =
                let l = long in
                let e = left-long in
                put-before 12 left (put_at 192 (largest ∷ []) lent) (omega (arith, one-long)) 12 (lit≤ tt) ∙ put-before 192 (largest ∷ []) lent long 12 (lit≤ tt)

    -- where the vertex stands
    pub vertex-room : (2 ≤ count) × (count ≤ 3) × (start + count * index + count ≤ 12)
    vertex-room =
        let room = fits in
        let nine = count-few in
        let square = within-square in
        let end : start + count * index + count ≡ 3 + (from + d * v) + d = (λ j. own.start_is j + own.count-is j * own.index_is j + own.count-is j) ∙ ap (λ n. n + d) (add_assoc 3 from (d * v)) in
        let low = few in
        (subst (λ n. 2 ≤ n) (sym own.count-is) low.0, subst (λ n. n ≤ 3) (sym own.count-is) low.1, subst (λ n. n ≤ 12) (sym end) (omega arith))
