-- From the parts of lent places to all of them. The net of the part that holds the entries has the entries of the net of the places, where kind and degrees are known; where they are not, both
-- are refused for that. To put the entries into their part and the new vertex into its places is to put the net that an accepted move leaves.
use Prim.Native.Nat.{ℕ, zero, suc, pred, ◌≤◌, ◌<◌}
use native.Mathlib.Omega.{arith}
use mathlib.Core.Path.{◌≡◌, refl, sym, ap, ap₂, ◌∙◌, fun_ext, subst}
use mathlib.Core.Bool.{Bool, true, false, cond}
use mathlib.Core.List.{List, [], ◌∷◌, map}
use borrow.Author.Tests.{le-leb, lt-leb}
use lib.Dec.{eqb}
use lib.IntN.{ℤ}
use lib.ListN.{length, take, drop, length-drop}
use lib.Seq.{length-take-le}
use Rattle.integers.specs.Test.{all}
use Rattle.projection.specs.Projection.{in_range}
use Rattle.entries.specs.Entries.{number_count, entry_over, listed_over, fixed_over, flipped_over, as_q, only_q}
use Rattle.polar.specs.Groups.{Group}
use Rattle.kinds.specs.Kinds.{dimension_of, known}
use Rattle.kinds.specs.Frames.{frame_count, numbers_of}
use Rattle.kinds.proofs.Limits.{limits}
use Rattle.kinds.proofs.Counts.{entries_fit, frame-few}
use Rattle.kinds.proofs.Frames.{numbers-back}
use Rattle.machine.specs.Refusals.{◌else◌, first_failed}
use Rattle.machine.proofs.Refusals.{passes, fails}
use Rattle.machine.specs.Calls.{group_at, own_at, weights_for, own_tests}
use Rattle.machine.specs.Frames.{new_numbers}
use Rattle.machine.specs.Sizes.{named_by, all_named}
use Rattle.machine.specs.Projected.{named_at_zero}
use Rattle.machine.specs.Steps.{point_values, four_of, found_at}
use Rattle.machine.specs.Nets.{Net, net_polar, net_four, handed_tests, net_tests, entries_after, accepted}
use Rattle.machine.specs.Lent.{head_at, net_at, put_at, put_net, enough_places, room, unless_refused, call_number, call_places, call_found}
use Rattle.machine.proofs.Lent.{part-read, put-moved, head-stood, stood-sound, accepted-sound}
use Rattle.machine.specs.declared.Weights.{Weights}
use Rattle.machine.specs.declared.Call.{Call}
use Rattle.machine.specs.declared.Call.TheVariants.{Move, Point}
use Rattle.kinds.specs.Heads.{head_groups}
use Rattle.kinds.specs.declared.Head.{Head}
use Rattle.nets.specs.Calls.{net_from, net_in, size_test, InOrder, Pointed, Moved}
use Rattle.nets.proofs.Steps.{by-handed, by-arguments, by-frame, by-new}
use Rattle.nets.proofs.Made.{handed-known}

-- ---- too few places

kept-eleven : {A : Type 0} (k : ℕ) (written stood : A) → 11 ≡ k → stood ≡ unless_refused k written stood
kept-eleven k written stood e = ap (λ j. unless_refused j written stood) e

kept : {A : Type 0} (k : ℕ) (written stood : A) → (k ≡ 0 → ⊥) → stood ≡ unless_refused k written stood
kept zero written stood h = absurd (h refl)
kept (suc k) written stood h = refl

module _ (call : Call) (lent found : List ℤ) where
  lent-eleven : length lent < 193 → 11 ≡ call_number call lent found
  unfolding call_number
  lent-eleven few = sym (fails 11 (room call found else 11 ∷ net_tests (net_at lent) call) (lt-leb 193 (length lent) few))

  pub places-short : length lent < 193 → (11 ≡ call_number call lent found) × (lent ≡ call_places call lent found)
  unfolding call_places
  places-short few = (lent-eleven few, kept-eleven (call_number call lent found) (put_net (accepted (net_at lent) call).left lent) lent (lent-eleven few))

  found-eleven : 11 ≡ call_number call lent found → (11 ≡ call_number call lent found) × (found ≡ call_found call lent found)
  unfolding call_found
  found-eleven is = (is, kept-eleven (call_number call lent found) (put_at 0 (point_values (accepted (net_at lent) call).answer) found) found is)

  pub found-short : length lent < 193 → (11 ≡ call_number call lent found) × (found ≡ call_found call lent found)
  found-short few = found-eleven (lent-eleven few)

  pub found-narrow : 193 ≤ length lent → room call found ≡ false → (11 ≡ call_number call lent found) × (found ≡ call_found call lent found)
  unfolding call_number
  found-narrow long none =
      found-eleven (sym (passes 11 (room call found else 11 ∷ net_tests (net_at lent) call) (le-leb 193 (length lent) long) ∙ fails 11 (net_tests (net_at lent) call) none))

-- ---- places enough

module _ (head : Head) (lent : List ℤ) (long : 193 ≤ length lent) where
  -- the part that holds the entries, and the net of the places
  abbrev part : List ℤ
  part = take 180 (drop 12 lent)

  abbrev net : Net
  net = net_in head lent

  pub part-long : length part ≡ 180
  part-long = length-take-le 180 (drop 12 lent) (simp length-drop (omega arith))

  -- the part's net has its entries
  entries-are : known head.kind head.degree head.second ≡ true → (net_from head part).entries ≡ net.entries
  entries-are right = part-read 12 180 lent (omega arith) (number_count (head_groups head)) (entries_fit head.kind head.degree head.second right)

  polar-same : known head.kind head.degree head.second ≡ true → (call : Call) (c : ℕ) (es : List (List ℕ)) → net_polar (net_from head part) call c es ≡ net_polar net call c es
  unfolding net_polar
  polar-same right call c es =
      let gs = head_groups head in
      ap (λ entries. fixed_over gs (weights_for gs call) (entry_over gs entries c) es) (entries-are right)

  -- so both are judged alike
  pub handed-same : first_failed (handed_tests (net_from head part)) ≡ first_failed (handed_tests net)
  unfolding handed_tests
  handed-same = by (known head.kind head.degree head.second) refl
    where
      by : (b : Bool) → known head.kind head.degree head.second ≡ b → first_failed (handed_tests (net_from head part)) ≡ first_failed (handed_tests net)
      by true h = ap (λ es. first_failed (known head.kind head.degree head.second else 4 ∷ all in_range es else 10 ∷ [])) (entries-are h)
      by false h =
          fails 4 (all in_range (net_from head part).entries else 10 ∷ []) h ∙ sym (fails 4 (all in_range net.entries else 10 ∷ []) h)

  pub size_same : known head.kind head.degree head.second ≡ true → (call : Call) → size_test (net_from head part) call ≡ size_test net call
  size_same right call = ap (λ P. all_named (named_by (head_groups head) call) P else 10 ∷ []) (fun_ext (λ c. fun_ext (λ es. polar-same right call c es)))

  -- and the numbers of the frame are those of the places
  pub frame-numbers : numbers_of net.frames ≡ take (frame_count (head_groups head)) (drop 3 lent)
  frame-numbers = numbers-back (head_groups head) (drop 3 lent) (subst (λ k. frame_count (head_groups head) ≤ k) (sym (length-drop 3 lent)) (omega (arith, frame-few head.kind head.degree head.second)))

  -- so are a move's entries and a point
  pub left-same : known head.kind head.degree head.second ≡ true → (operation vertex : ℕ) (weights : Weights) → entries_after (net_from head part) operation vertex weights ≡ entries_after net operation vertex weights
  unfolding entries_after net_polar
  left-same right operation vertex weights =
      let gs = head_groups head in
      let i = group_at gs (pred vertex) in
      let v = own_at gs (pred vertex) in
      ap
      (λ entries.
      listed_over gs
      (λ c es. cond (eqb operation 1) (fixed_over gs (weights_for gs (Move operation vertex weights)) (entry_over gs entries c) (as_q i v es)) (flipped_over i v (entry_over gs entries c) es)))
      (entries-are right)

  pub found-same : known head.kind head.degree head.second ≡ true → (weights : Weights) → (accepted (net_from head part) (Point weights)).answer ≡ (accepted net (Point weights)).answer
  unfolding accepted net_four
  found-same right weights =
      let gs = head_groups head in
      ap (λ P. found_at (four_of (λ c. P c (only_q gs))) (map (λ es. four_of (λ c. P c es)) (named_at_zero gs weights.s))) (fun_ext (λ c. fun_ext (λ es. polar-same right (Point weights) c es)))

-- ---- the net that stands in the places

-- places enough, whose first three numbers are read as a kind and degrees
pub record Stood (lent : List ℤ) (head : Head) : Type 0 where
  pub long : 193 ≤ length lent
  pub head_is : head ≡ head_at lent

module _ {lent : List ℤ} {head : Head} (stood : Stood lent head) where
  enough : enough_places lent ≡ true
  enough = le-leb 193 (length lent) stood.long

  abbrev gs : List Group
  gs = head_groups head

  abbrev here : Net
  here = net_in head lent

  abbrev entries : List ℤ
  entries = take 180 (drop 12 lent)

  net-is : here ≡ net_at lent
  unfolding net_at
  net-is = ap (λ h. net_in h lent) stood.head_is

  known_at : known head.kind head.degree head.second ≡ true → known (net_at lent).kind (net_at lent).degree (net_at lent).second ≡ true
  known_at right = ap (λ n. known n.kind n.degree n.second) (sym net-is) ∙ right

  -- ---- the number of a call, as far as its tests have been passed

  module _ (call : Call) (found : List ℤ) (enough-found : room call found ≡ true) where
    call-number : first_failed (net_tests here call) ≡ call_number call lent found
    unfolding call_number
    call-number = ap (λ n. first_failed (net_tests n call)) net-is ∙ sym (passes 11 (room call found else 11 ∷ net_tests (net_at lent) call) enough ∙ passes 11 (net_tests (net_at lent) call) enough-found)

    pub for-the-net : {k : ℕ} → (k ≡ 0 → ⊥) → k ≡ first_failed (handed_tests (net_from head entries)) → k ≡ call_number call lent found
    for-the-net refused is = by-handed here call refused (is ∙ handed-same head lent stood.long) ∙ call-number

    module _ (passed : first_failed (handed_tests (net_from head entries)) ≡ 0) where
      handed : first_failed (handed_tests here) ≡ 0
      handed = sym (handed-same head lent stood.long) ∙ passed

      pub for-the-arguments : {k : ℕ} → (k ≡ 0 → ⊥) → k ≡ first_failed (own_tests gs call) → k ≡ call_number call lent found
      for-the-arguments refused is = by-arguments here call handed refused is ∙ call-number

      module _ (own : first_failed (own_tests gs call) ≡ 0) where
        pub for-the-frame : all in_range (take (frame_count gs) (drop 3 lent)) ≡ false → 12 ≡ call_number call lent found
        for-the-frame beyond = by-frame here call handed own (ap (all in_range) (frame-numbers head lent stood.long) ∙ beyond) ∙ call-number

        -- q and the size are left
        pub for-the-rest : all in_range (take (frame_count gs) (drop 3 lent)) ≡ true
            → first_failed (all in_range (new_numbers gs here.frames call) else 12 ∷ size_test here call) ≡ call_number call lent found
        for-the-rest near = by-new here call handed own (ap (all in_range) (frame-numbers head lent stood.long) ∙ near) ∙ call-number

    -- a refused call leaves the places, and those lent for a point
    pub places-kept : {k : ℕ} → (k ≡ 0 → ⊥) → k ≡ call_number call lent found → (k ≡ call_number call lent found) × (lent ≡ call_places call lent found)
    unfolding call_places
    places-kept {k} refused is =
        let written = put_net (accepted (net_at lent) call).left lent in
        (is, kept k written lent refused ∙ ap (λ j. unless_refused j written lent) is)

    pub found-kept : {k : ℕ} → (k ≡ 0 → ⊥) → k ≡ call_number call lent found → (k ≡ call_number call lent found) × (found ≡ call_found call lent found)
    unfolding call_found
    found-kept {k} refused is =
        let written = put_at 0 (point_values (accepted (net_at lent) call).answer) found in
        (is, kept k written found refused ∙ ap (λ j. unless_refused j written found) is)

  -- ---- an accepted call

  module _ (passed : first_failed (handed_tests (net_from head entries)) ≡ 0) where
    right : known head.kind head.degree head.second ≡ true
    right = handed-known head entries passed

    pub dimension-some : 1 ≤ dimension_of head.kind
    dimension-some = (limits head.kind head.degree head.second right).dimension-low

    -- what the making of a call asks for
    pub in_order : (call : Call) → first_failed (own_tests gs call) ≡ 0 → InOrder head entries call
    in_order call own = record { long = part-long head lent stood.long; net-passes = passed; call_passes = own }

    module _ (near : all in_range (take (frame_count gs) (drop 3 lent)) ≡ true) where
      -- a move: its frame and its entries are put, and the head stands there already
      pub move-made : (operation vertex : ℕ) (weights : Weights) (k : ℕ) (after : List ℤ) → first_failed (own_tests gs (Move operation vertex weights)) ≡ 0
          → Moved here (Move operation vertex weights) k lent after → (k ≡ call_number (Move operation vertex weights) lent []) × (after ≡ call_places (Move operation vertex weights) lent [])
      unfolding call_places accepted
      move-made operation vertex weights k after own moved =
          let is = moved.number_is ∙ for-the-rest (Move operation vertex weights) [] refl passed own near in
          (is, moved.places ∙ ap₂ (λ j l. unless_refused j l lent) is put_is)
        where
          move : Call
          move = Move operation vertex weights

          left_at : Net → List ℤ
          left_at n = put_at 3 (numbers_of (accepted n move).left.frames) (put_at 12 (accepted n move).left.entries (put_at 192 ((accepted n move).left.largest ∷ []) lent))

          put_is : left_at here ≡ put_net (accepted (net_at lent) move).left lent
          put_is =
              ap left_at net-is
              ∙ sym
              (put-moved (accepted (net_at lent) move).left lent enough (accepted-sound (net_at lent) move (stood-sound lent enough (known_at right))) (head-stood lent enough (known_at right)))

      -- a point, which has no numbers of its own in the frame
      pub found-made : (weights : Weights) (found : List ℤ) (enough-found : room (Point weights) found ≡ true) (k : ℕ) (after : List ℤ) → first_failed (own_tests gs (Point weights)) ≡ 0
          → Pointed (net_from head entries) (Point weights) k found after → (k ≡ call_number (Point weights) lent found) × (after ≡ call_found (Point weights) lent found)
      unfolding call_found new_numbers
      found-made weights found enough-found k after own pointed =
          let is = pointed.number_is ∙ ap first_failed (size_same head lent stood.long right (Point weights)) ∙ for-the-rest (Point weights) found enough-found passed own near in
          let answer = found-same head lent stood.long right weights ∙ ap (λ n. (accepted n (Point weights)).answer) net-is in
          (is, pointed.places ∙ ap₂ (λ j a. unless_refused j (put_at 0 (point_values a) found) found) is answer)
