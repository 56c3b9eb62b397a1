-- A net that stands in lent places: it has a known kind and its right number of entries, a call on it is a step of the net machine, and the net that the call leaves
-- stands there after it. Every net that is put into the places is read back from them (`read_back` of the crate machine).
use Prim.Native.Nat.{ℕ, zero, suc, ◌+◌, ◌-◌, ◌≤◌}
use native.Mathlib.Omega.{arith}
use mathlib.Core.Path.{◌≡◌, refl, sym, ap, ap₂, ◌∙◌}
use mathlib.Core.Bool.{true}
use mathlib.Core.List.{List, [], ◌∷◌, ◌++◌, map}
use lib.IntN.{ℤ}
use lib.ListN.{length, take, drop, length-drop}
use lib.Seq.{length-take-le}
use borrow.Author.Tests.{le-leb}
use Rattle.polar.specs.Groups.{counts_over}
use Rattle.entries.specs.Entries.{number_count}
use Rattle.kinds.specs.Kinds.{groups_of, known}
use Rattle.kinds.specs.Frames.{frame_count, numbers_of}
use Rattle.kinds.proofs.Counts.{entries_fit, frame-few}
use Rattle.kinds.proofs.Frames.{numbers-back}
use Rattle.machine.specs.Refusals.{◌else◌, first_failed, all_pass}
use Rattle.machine.specs.Calls.{own_tests}
use Rattle.machine.specs.Steps.{refusal_number, found_at, step_by, after}
use Rattle.machine.specs.Nets.{Net, net_groups, handed_tests, net_tests, accepted, step_of}
use Rattle.kinds.specs.Heads.{head_groups}
use Rattle.kinds.specs.declared.Head.{Head}
use Rattle.machine.specs.Lent.{head_at}
use Rattle.machine.specs.Lent.{net_at, put_net, enough_places, unless_refused, room, call_number, call_places}
use Rattle.machine.specs.declared.Call.{Call}
use Rattle.machine.specs.declared.Call.TheVariants as call
use Rattle.machine.proofs.Refusals.{none-failed, row-passes}
use Rattle.machine.proofs.Lent.{Sound, stood-sound, accepted-sound, read_back, put-long}
use Rattle.nets.proofs.Steps.{by-arguments}
use Rattle.text.specs.Words.{signed_decimal}
use Rattle.text.specs.Text.{word, head_line, frame_line, entry_lines, net_lines}
use Rattle.text.specs.Parts.{numbers_text, Stands, Made, Answered, net_head}
use Rattle.text.proofs.InParts.{line_first}

module _ (lent : List ℤ) (stands : Stands lent) where
  pub enough : enough_places lent ≡ true
  enough = le-leb 193 (length lent) (let l = stands.long in omega (arith, l))

  -- its kind and degrees
  passed : all_pass (handed_tests (net_at lent)) ≡ true
  unfolding after handed_tests
  passed = (none-failed (handed_tests (net_at lent)) refl).0 (stands.handed [])

  pub right : known (net_at lent).kind (net_at lent).degree (net_at lent).second ≡ true
  unfolding handed_tests
  right = row-passes (handed_tests (net_at lent)) passed 0

  pub sound : Sound (net_at lent)
  sound = stood-sound lent enough right

  -- kind and degrees as they are read
  module _ {h : Head} (is : h ≡ head_at lent) where
    pub known-there : known h.kind h.degree h.second ≡ true
    unfolding net_at
    known-there = (λ i. known (is i).kind (is i).degree (is i).second) ∙ right

    pub head-there : net_head (net_at lent) ≡ head_line h.kind h.degree h.second
    unfolding net_at
    head-there = sym (λ i. head_line (is i).kind (is i).degree (is i).second)

    -- the frame's numbers are r, which stand behind the head
    pub frame-there : {r : ℕ} → ((p q : ℕ) → r ≡ frame_count (groups_of h.kind p q)) → frame_line (net_at lent) ≡ word "frame" ++ numbers_text (take (3 + r - 3) (drop 3 lent))
    unfolding frame_line net_at
    frame-there {r} count =
        let there = head_at lent in
        let cut : r ≡ 3 + r - 3 = omega arith in
        let l = stands.long in
        let room = frame-few there.kind there.degree there.second in
        line_first (word "frame") (map signed_decimal (numbers_of (net_at lent).frames))
        ∙ ap (λ numbers. word "frame" ++ numbers_text numbers)
        (numbers-back (head_groups there) (drop 3 lent) (simp length-drop (omega arith))
        ∙ ap (λ n. take n (drop 3 lent)) (sym (count there.degree there.second ∙ ap (λ x. frame_count (groups_of x.kind there.degree there.second)) is) ∙ cut))

    -- the entries are r numbers, which stand behind the head
    module _ {r : ℕ} (count : r ≡ number_count (head_groups h)) where
      pub entries-few : r ≤ 180
      entries-few = let fit = entries_fit h.kind h.degree h.second known-there in omega (arith, count, fit)

      pub entries-long : length (take (12 + r - 12) (drop 12 lent)) ≡ number_count (head_groups h)
      entries-long =
          let few = entries-few in
          let l = stands.long in
          let cut : 12 + r - 12 ≡ r = omega arith in
          length-take-le (12 + r - 12) (drop 12 lent) (simp length-drop (omega arith)) ∙ cut ∙ count

      pub lines-there : net_lines (net_at lent) ≡ frame_line (net_at lent) ++ entry_lines (counts_over (head_groups h)) (take (12 + r - 12) (drop 12 lent))
      unfolding net_lines net_at
      lines-there =
          let cut : r ≡ 12 + r - 12 = omega arith in
          ap (λ l. frame_line (net_at lent) ++ l)
          (sym (ap (λ x. entry_lines (counts_over (head_groups x)) (take (number_count (head_groups x)) (drop 12 lent))) is)
          ∙ ap (λ n. entry_lines (counts_over (head_groups h)) (take n (drop 12 lent))) (sym count ∙ cut))

-- ---- the number of a step

number_by : (k : ℕ) (net : Net) (c : Call) → refusal_number (step_by k net (accepted net c)).answer ≡ k
unfolding step_by accepted found_at
number_by zero net (call.Move operation vertex weights) = refl
number_by zero net (call.Point weights) = refl
number_by (suc k) net c = refl

-- ---- a call on the net

module _ (lent : List ℤ) (stands : Stands lent) (c : Call) where
  abbrev net : Net
  net = net_at lent

  -- places that hold what the step leaves
  made_by : {left : List ℤ} → length left ≡ 193 → net_at left ≡ (step_of net c).left → Made (c ∷ []) lent left
  unfolding after
  made_by long e =
      record { net = e; stands = record { long = long; handed = λ calls. ap (λ n. first_failed (handed_tests (after step_of n calls))) e ∙ stands.handed (c ∷ calls) } }

  -- a call that is refused for its arguments leaves the places
  pub refused-early : {k : ℕ} → first_failed (own_tests (net_groups net) c) ≡ suc k → Answered c lent lent (suc k)
  unfolding step_of step_by after
  refused-early {k} h =
      let number : first_failed (net_tests net c) ≡ suc k = sym (by-arguments net c (stands.handed []) (λ none. omega arith) (sym h)) in
      record {
        numbered = sym (ap (λ n. refusal_number (step_by n net (accepted net c)).answer) number);
        made = made_by stands.long (sym (ap (λ n. (step_by n net (accepted net c)).left) number));
      }

  module _ (found : List ℤ) (roomy : room c found ≡ true) where
    pub number-there : call_number c lent found ≡ first_failed (net_tests net c)
    unfolding call_number
    number-there = ap₂ (λ b r. first_failed (b else 11 ∷ r else 11 ∷ net_tests net c)) (enough lent stands) roomy

    places-by : (k : ℕ) → first_failed (net_tests net c) ≡ k → {left : List ℤ} → left ≡ call_places c lent found → Made (c ∷ []) lent left
    unfolding call_places step_of step_by
    places-by zero e {left} is =
        let sound-left = accepted-sound net c (sound lent stands) in
        let put-there : left ≡ put_net (accepted net c).left lent = is ∙ ap (λ k. unless_refused k (put_net (accepted net c).left lent) lent) (number-there ∙ e) in
        made_by (ap length put-there ∙ put-long (accepted net c).left lent (enough lent stands) sound-left ∙ stands.long)
        (ap net_at put-there ∙ read_back (accepted net c).left lent (enough lent stands) sound-left ∙ sym (ap (λ k. (step_by k net (accepted net c)).left) e))
    places-by (suc k) e {left} is =
        let stood : left ≡ lent = is ∙ ap (λ k. unless_refused k (put_net (accepted net c).left lent) lent) (number-there ∙ e) in
        made_by (ap length stood ∙ stands.long) (ap net_at stood ∙ sym (ap (λ k. (step_by k net (accepted net c)).left) e))

    -- the number answered is the step's, and the places hold what it leaves
    pub answered : {number : ℕ} {left : List ℤ} → number ≡ call_number c lent found → left ≡ call_places c lent found → Answered c lent left number
    unfolding step_of
    answered is e = record { numbered = is ∙ number-there ∙ sym (number_by (first_failed (net_tests net c)) net c); made = places-by (first_failed (net_tests net c)) refl e }
