-- The largest component that a net stores, by what an accepted move leaves. In lent places: a call that is not refused was made on a net with all its entries, and what it leaves is read back.
use Prim.Native.Nat.{ℕ, zero, suc}
use native.Mathlib.Omega.{arith}
use mathlib.Core.Path.{◌≡◌, refl, sym, ap, ◌∙◌, subst}
use mathlib.Core.Bool.{true}
use mathlib.Core.List.{List, [], ◌∷◌}
use lib.IntN.{ℤ, pos}
use lib.ListN.{length}
use Rattle.integers.proofs.Largest.{largest-above, largest-reached}
use Rattle.entries.specs.Entries.{number_count}
use Rattle.machine.specs.Refusals.{◌else◌, first_failed}
use Rattle.machine.specs.Calls.{own_tests}
use Rattle.machine.specs.Sizes.{before_size, call_tests}
use Rattle.machine.specs.Steps.{Taken, refusal_number, step_by}
use Rattle.machine.specs.Nets.{Net, net_groups, handed_tests, judged_numbers, net_tests, accepted, step_of}
use Rattle.machine.specs.Lent.{net_at, put_net, enough_places, unless_refused, room, call_number, call_places}
use Rattle.machine.specs.Largest.{StoresLargest, Maximum, LargestKept, LargestLent}
use Rattle.machine.specs.declared.Weights.{Weights}
use Rattle.machine.specs.declared.Call.{Call}
use Rattle.machine.specs.declared.Call.TheVariants.{Move, Point}
use Rattle.machine.proofs.Refusals.{none-failed, row-passes}
use Rattle.machine.proofs.LargestAfter.{replace-works-out, flip-hands-on, flip-keeps-largest}
use Rattle.machine.proofs.Lent.{Sound, accepted-sound, stood-sound, read_back}

pub maximum : Maximum
maximum = record { above = largest-above; reached = largest-reached }

-- ---- calls on handed nets

-- the nets that a replace and a flip leave
replaced-right : (net : Net) (vertex : ℕ) (weights : Weights) → StoresLargest (accepted net (Move 1 vertex weights)).left
unfolding accepted
replaced-right net vertex weights = replace-works-out net vertex weights

flipped-right : (net : Net) → length net.entries ≡ number_count (net_groups net) → StoresLargest net → (vertex : ℕ) (weights : Weights) → StoresLargest (accepted net (Move 2 vertex weights)).left
unfolding accepted
flipped-right net l right vertex weights = flip-hands-on net vertex weights ∙ right ∙ ap pos (flip-keeps-largest net l vertex weights)

pub largest-kept : LargestKept
unfolding step_of step_by accepted
largest-kept =
    record {
      replaced = λ net vertex weights. replaced net vertex weights (first_failed (net_tests net (Move 1 vertex weights)));
      handed_on = λ net vertex weights. handed-on net vertex weights (first_failed (net_tests net (Move 2 vertex weights)));
      flipped = λ net l right vertex weights. flipped net l right vertex weights (first_failed (net_tests net (Move 2 vertex weights)));
      point = λ net weights. left net weights (first_failed (net_tests net (Point weights)));
    }
  where
    never : (k : ℕ) → 0 ≡ suc k → ⊥
    never k e = omega arith

    replaced : (net : Net) (vertex : ℕ) (weights : Weights) (k : ℕ) → (step_by k net (accepted net (Move 1 vertex weights))).answer ≡ Taken
        → StoresLargest (step_by k net (accepted net (Move 1 vertex weights))).left
    replaced net vertex weights zero h = replaced-right net vertex weights
    replaced net vertex weights (suc k) h = absurd (never k (sym (ap refusal_number h)))

    handed-on : (net : Net) (vertex : ℕ) (weights : Weights) (k : ℕ) → (step_by k net (accepted net (Move 2 vertex weights))).left.largest ≡ net.largest
    handed-on net vertex weights zero = flip-hands-on net vertex weights
    handed-on net vertex weights (suc k) = refl

    flipped : (net : Net) → length net.entries ≡ number_count (net_groups net) → StoresLargest net → (vertex : ℕ) (weights : Weights) (k : ℕ)
        → StoresLargest (step_by k net (accepted net (Move 2 vertex weights))).left
    flipped net l right vertex weights zero = flipped-right net l right vertex weights
    flipped net l right vertex weights (suc k) = right

    left : (net : Net) (weights : Weights) (k : ℕ) → (step_by k net (accepted net (Point weights))).left ≡ net
    left net weights zero = refl
    left net weights (suc k) = refl

-- ---- calls on lent places

module _ (operation vertex : ℕ) (weights : Weights) (lent : List ℤ) where
  abbrev move : Call
  move = Move operation vertex weights

  -- the places of a move that is not refused are enough, and the net in them has all its entries
  taken-sound : call_number move lent [] ≡ 0 → (enough_places lent ≡ true) × Sound (net_at lent)
  unfolding call_number net_tests handed_tests judged_numbers call_tests before_size own_tests
  taken-sound none =
      let tests = enough_places lent else 11 ∷ room move [] else 11 ∷ net_tests (net_at lent) move in
      let passed = (none-failed tests refl).0 none in
      (row-passes tests passed 0, stood-sound lent (row-passes tests passed 0) (row-passes tests passed 2))

  -- and what the move leaves then stands there
  taken-read : call_number move lent [] ≡ 0 → net_at (call_places move lent []) ≡ (accepted (net_at lent) move).left
  unfolding call_places
  taken-read none =
      let stood = taken-sound none in
      ap (λ k. net_at (unless_refused k (put_net (accepted (net_at lent) move).left lent) lent)) none
      ∙ read_back (accepted (net_at lent) move).left lent stood.0 (accepted-sound (net_at lent) move stood.1)

  -- a refused one leaves all places
  refused-read : (k : ℕ) → call_number move lent [] ≡ suc k → call_places move lent [] ≡ lent
  unfolding call_places
  refused-read k e = ap (λ j. unless_refused j (put_net (accepted (net_at lent) move).left lent) lent) e

pub largest-lent : LargestLent
largest-lent =
    record {
      replaced = λ lent vertex weights none. subst StoresLargest (sym (taken-read 1 vertex weights lent none)) (replaced-right (net_at lent) vertex weights);
      flipped = λ lent vertex weights right. flipped lent vertex weights right (call_number (Move 2 vertex weights) lent []) refl;
    }
  where
    flipped : (lent : List ℤ) (vertex : ℕ) (weights : Weights) → StoresLargest (net_at lent) → (k : ℕ) → call_number (Move 2 vertex weights) lent [] ≡ k
        → StoresLargest (net_at (call_places (Move 2 vertex weights) lent []))
    flipped lent vertex weights right zero none =
        let stood = (taken-sound 2 vertex weights lent none).1 in
        subst StoresLargest (sym (taken-read 2 vertex weights lent none)) (flipped-right (net_at lent) stood.exact right vertex weights)
    flipped lent vertex weights right (suc k) e = subst (λ l. StoresLargest (net_at l)) (sym (refused-read 2 vertex weights lent k e)) right
