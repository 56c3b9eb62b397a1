-- Moves and points as they are made: what is left of the moves is the list from there on, and the four places of a point hold the numbers that the net answers.
use Prim.Native.Nat.{ℕ, zero, suc, ◌+◌, ◌-◌, ◌/◌, ◌≤◌, ◌<◌}
use native.Mathlib.Omega.{arith}
use mathlib.Core.Path.{◌≡◌, refl, sym, ap, ◌∙◌, subst}
use mathlib.Core.Bool.{true, cond}
use mathlib.Core.List.{List, [], ◌∷◌, ◌++◌, map, append-nil}
use lib.Dec.{eqb}
use lib.IntN.{ℤ}
use lib.ListN.{length}
use borrow.Author.Tests.{ne_eqb}
use Rattle.polar.specs.Order.{joined}
use Rattle.projection.specs.Projection.{found_projection}
use Rattle.machine.specs.Refusals.{first_failed}
use Rattle.machine.specs.Steps.{refusal_number, point_values, found_at, step_by, after, answers}
use Rattle.machine.specs.Calls.{own_tests}
use Rattle.machine.specs.Nets.{Net, net_groups, net_tests, accepted, step_of}
use Rattle.machine.specs.Lent.{net_at, put_at, unless_refused, room, call_number, call_places, call_found}
use Rattle.machine.specs.Carried.{four_at}
use Rattle.machine.specs.declared.Weights.{Weights}
use Rattle.machine.specs.declared.Call.{Call}
use Rattle.machine.specs.declared.Call.TheVariants as call
use Rattle.decoding.specs.Moves.{call_of, move_at, call_at, weights_of}
use Rattle.decoding.specs.declared.Move.{Move}
use Rattle.decoding.specs.declared.Move.TheVariants.{Proper, Improper}
use Rattle.decoding.proofs.Decoded.{improper-refused, move-call}
use Rattle.opening.specs.Opening.{moves_of, point_of}
use Rattle.text.specs.Text.{move_line, move_lines, point_refused_line, projection_line, point_line}
use Rattle.text.specs.Parts.{Stands, Answered}
use Rattle.text.proofs.NetRows.{from, upto_from, from_next, from-none}
use Rattle.text.proofs.Standing.{refused-early, number-there, answered}

-- ---- the moves one after the other

-- what is left of the moves of a value, from move k on, and the lines that they leave
abbrev pub calls_left : List ℕ → ℕ → ℕ → List Call
calls_left value count k = map (call_at value) (from k (count - k))

abbrev pub lines_left : Net → List ℕ → ℕ → ℕ → List ℕ
lines_left net value count k = move_lines (k + 1) (answers step_of net (calls_left value count k))

pub calls-all : (value : List ℕ) → moves_of value ≡ calls_left value (length value / 8) 0
calls-all value =
    let whole : length value / 8 ≡ length value / 8 - 0 = omega arith in
    ap (map (call_at value)) (upto_from (length value / 8) ∙ ap (from 0) whole)

module _ (net : Net) (value : List ℕ) (count k : ℕ) where
  calls-next : k < count → calls_left value count k ≡ call_at value k ∷ calls_left value count (k + 1)
  calls-next h = ap (map (call_at value)) (from_next k count h)

  calls-none : count ≤ k → calls_left value count k ≡ []
  calls-none h = ap (map (call_at value)) (from-none k count h)

  pub lines_next : k < count
      → lines_left net value count k ≡ move_line (k + 1) (refusal_number (step_of net (call_at value k)).answer) ++ lines_left (step_of net (call_at value k)).left value count (k + 1)
  unfolding answers move_lines
  lines_next h =
      let next : suc (k + 1) ≡ k + 1 + 1 = omega arith in
      let step = step_of net (call_at value k) in
      ap (λ cs. move_lines (k + 1) (answers step_of net cs)) (calls-next h)
      ∙ ap (λ j. move_line (k + 1) (refusal_number step.answer) ++ move_lines j (answers step_of step.left (calls_left value count (k + 1)))) next

  pub lines_none : count ≤ k → lines_left net value count k ≡ []
  unfolding answers move_lines
  lines_none h = ap (λ cs. move_lines (k + 1) (answers step_of net cs)) (calls-none h)

  pub after_next : k < count → after step_of net (calls_left value count k) ≡ after step_of (step_of net (call_at value k)).left (calls_left value count (k + 1))
  unfolding after
  after_next h = ap (after step_of net) (calls-next h)

  pub after_none : count ≤ k → after step_of net (calls_left value count k) ≡ net
  unfolding after
  after_none h = ap (after step_of net) (calls-none h)

-- ---- one move

module _ (lent : List ℤ) (stands : Stands lent) (value : List ℕ) (k : ℕ) {m : Move} (is : m ≡ move_at value k) {o v : ℕ} {w : Weights} where
  -- an improper one is refused 8 for its arguments, whatever the net is
  pub improper-made : m ≡ Improper o v w → Answered (call_at value k) lent lent 8
  improper-made e =
      let net = net_at lent in
      let same : call_at value k ≡ call.Move o v w = sym (move-call value k) ∙ ap call_of (sym is ∙ e) in
      let refused = improper-refused value k net.kind net.degree net.second (sym is ∙ e) in
      refused-early lent stands (call_at value k) (ap (λ c. first_failed (own_tests (net_groups net) c)) same ∙ refused)

  -- a proper one is made as the call that it is
  pub proper-made : {number : ℕ} {left : List ℤ} → m ≡ Proper o v w → number ≡ call_number (call.Move o v w) lent [] → left ≡ call_places (call.Move o v w) lent []
      → Answered (call_at value k) lent left number
  proper-made {number} {left} e n p =
      subst (λ c. Answered c lent left number) (ap call_of (sym e ∙ is) ∙ move-call value k) (answered lent stands (call.Move o v w) [] refl n p)

-- ---- the point

module _ (net : Net) (value : List ℕ) where
  pub point-none : length value ≡ 0 → joined point_line (answers step_of net (point_of value)) ≡ []
  unfolding answers
  point-none h = ap (λ n. joined point_line (answers step_of net (cond (eqb n 0) [] (call.Point (weights_of value) ∷ [])))) h

  pub point-one : {w : Weights} → (length value ≡ 0 → ⊥) → w ≡ weights_of value → joined point_line (answers step_of net (point_of value)) ≡ point_line (step_of net (call.Point w)).answer
  unfolding answers
  point-one h is =
      ap (λ b. joined point_line (answers step_of net (cond b [] (call.Point (weights_of value) ∷ [])))) (ne_eqb (length value) 0 h)
      ∙ append-nil (point_line (step_of net (call.Point (weights_of value))).answer)
      ∙ ap (λ w. point_line (step_of net (call.Point w)).answer) (sym is)

-- the point as the code finds it, in eight places
module _ (lent : List ℤ) (stands : Stands lent) (w : Weights) (found : List ℤ) (roomy : room (call.Point w) found ≡ true) {k : ℕ} (is : k ≡ call_number (call.Point w) lent found) where
  number_is : first_failed (net_tests (net_at lent) (call.Point w)) ≡ k
  number_is = sym (is ∙ number-there lent stands (call.Point w) found roomy)

  pub point-refused : (k ≡ 0 → ⊥) → point_line (step_of (net_at lent) (call.Point w)).answer ≡ point_refused_line k
  unfolding step_of step_by point_line
  point-refused some = ap (λ n. point_line (step_by n (net_at lent) (accepted (net_at lent) (call.Point w))).answer) number_is ∙ by k some
    where
      by : (n : ℕ) → (n ≡ 0 → ⊥) → point_line (step_by n (net_at lent) (accepted (net_at lent) (call.Point w))).answer ≡ point_refused_line n
      by zero h = absurd (h refl)
      by (suc n) h = refl

  pub point-found : k ≡ 0 → {new : List ℤ} → new ≡ call_found (call.Point w) lent found
      → point_line (step_of (net_at lent) (call.Point w)).answer ≡ projection_line (found_projection (four_at 0 new) (four_at 4 new))
  unfolding step_of step_by accepted found_at point_line call_found
  point-found none {new} left =
      let made = accepted (net_at lent) (call.Point w) in
      let places : new ≡ put_at 0 (point_values made.answer) found = left ∙ ap (λ n. unless_refused n (put_at 0 (point_values made.answer) found) found) (sym is ∙ none) in
      ap (λ n. point_line (step_by n (net_at lent) made).answer) (number_is ∙ none) ∙ sym (ap (λ l. projection_line (found_projection (four_at 0 l) (four_at 4 l))) places)
