-- What a call finds is in range: a net that is not refused has a group, so the polar value whose points are all q is among those that a point names, and the size rule has passed it.
use Prim.Native.Nat.{ℕ, zero, suc, ◌<◌}
use native.Mathlib.Omega.{arith}
use mathlib.Core.Path.{◌≡◌, refl, sym, ap, ◌∙◌, subst}
use mathlib.Core.Bool.{Bool, true, false, cond}
use mathlib.Core.List.Memᴰ
use mathlib.Core.List.{List, [], ◌∷◌, map, Memᴰ}
use lib.Dec.{lit≤}
use lib.IntN.{ℤ}
use Rattle.integers.proofs.All.{clash, and-true, and_parts}
use Rattle.polar.specs.Order.{counts}
use Rattle.polar.specs.Groups.{Group, counts_over}
use Rattle.projection.specs.Projection.{Four, FourInRange, in_range, refusal, is_four_zeros, first_not_zeros, without_length, projection_of_four, found_projection}
use Rattle.projection.specs.declared.Projection.{Projection}
use Rattle.projection.specs.declared.Projection.TheVariants.{Finite, Direction, Nowhere, OutOfRange}
use Rattle.projection.proofs.Cases.{projected}
use Rattle.entries.specs.Entries.{none_of_q, only_q}
use Rattle.entries.proofs.Places.{member-counts}
use Rattle.entries.proofs.Groups.{named-only}
use Rattle.entries.proofs.ListedOver.{in_pairs}
use Rattle.kinds.specs.Kinds.{Row, rows_of, groups_by, degrees_allowed, some, known}
use Rattle.machine.specs.Refusals.{Test, ◌else◌, first_failed}
use Rattle.machine.specs.Sizes.{named_by_replace, named_by_point, named_by, all_named, call_tests}
use Rattle.machine.specs.Projected.{named_at_zero}
use Rattle.machine.specs.Steps.{four_of, found_at, step_by}
use Rattle.machine.specs.Nets.{Net, net_groups, net_polar, net_four, net_in_range, handed_tests, judged_numbers, net_tests, accepted, step_of}
use Rattle.machine.specs.Found.{AnswerInRange, FoundInRange}
use Rattle.machine.specs.declared.Call.{Call}
use Rattle.machine.specs.declared.Call.TheVariants as call
use Rattle.machine.proofs.Names.{at-zero-named}
use Rattle.machine.proofs.Over.{named-at, call-passed}

-- ---- the point is named

-- the polar value whose points are all q, where there is a group
only-named : (g : Group) (gs : List Group) → Memᴰ (only_q (g ∷ gs)) (named_by_point (g ∷ gs))
unfolding named_by_point named_by_replace counts_over
only-named g [] =
    let own = named-only (g ∷ []) in
    Memᴰ.append_left _
    (in_pairs (counts (suc g.dimension) g.degree) (map none_of_q (counts_over [])) (member-counts (suc g.dimension) g.degree _ own.0 own.1) (Memᴰ.head refl))
only-named g (k ∷ gs) = Memᴰ.append_right (named_by_replace (g ∷ k ∷ gs) 0) (in_pairs (_ ∷ []) (named_by_point (k ∷ gs)) (Memᴰ.head refl) (only-named k gs))

-- a kind has a group
some-group : (P : List Group → Type 0) → ((g : Group) (gs : List Group) → P (g ∷ gs)) → (rows : List Row) (degrees : List ℕ) → some rows ≡ true → P (groups_by rows degrees)
some-group P each [] degrees h = absurd (clash h refl)
some-group P each (r ∷ rows) [] h = each _ _
some-group P each (r ∷ rows) (m ∷ degrees) h = each _ _

-- ---- a call that is not refused

pub handed-first : (a b : Bool) (tests : List Test) → first_failed (a else 4 ∷ b else 10 ∷ tests) ≡ 0 → (a ≡ true) × (first_failed tests ≡ 0)
handed-first true true tests h = (refl, h)
handed-first true false tests h = absurd (omega arith)
handed-first false b tests h = absurd (omega arith)

net-passed : (net : Net) (c : Call) → first_failed (net_tests net c) ≡ 0
    → (some (rows_of net.kind) ≡ true) × (all_named (named_by (net_groups net) c) (net_polar net c) ≡ true)
unfolding net_tests handed_tests
net-passed net c h =
    let both = handed-first (known net.kind net.degree net.second) (net_in_range net) (call_tests (net_groups net) c (judged_numbers net c) (net_polar net c)) h in (
      (and_parts (some (rows_of net.kind)) (degrees_allowed (rows_of net.kind) (net.degree ∷ net.second ∷ [])) both.0).0,
      (call-passed (net_groups net) c (judged_numbers net c) (net_polar net c) both.1).2,
    )

four-range : (p : ℕ → ℤ) → ((c : ℕ) → c < 4 → in_range (p c) ≡ true) → FourInRange (four_of p)
four-range p h = and-true (and-true (and-true (h 0 (lit≤ tt)) (h 1 (lit≤ tt))) (h 2 (lit≤ tt))) (h 3 (lit≤ tt))

-- of numbers in range the first that is not nothing is in range
left-range : (ps : List Four) → ((p : Four) → Memᴰ p ps → FourInRange p) → FourInRange (first_not_zeros ps)
unfolding first_not_zeros
left-range [] h = refl
left-range (p ∷ ps) h = by (is_four_zeros p) (left-range ps (λ r m. h r (Memᴰ.tail m)))
  where
    by : (b : Bool) → FourInRange (first_not_zeros ps) → FourInRange (cond b (first_not_zeros ps) p)
    by true rest = rest
    by false rest = h p (Memᴰ.head refl)

-- a length that is left out changes no number
length-unseen : (at : Projection) → refusal (without_length at) ≡ refusal at
length-unseen (Finite p) = refl
length-unseen (Direction d) = refl
length-unseen Nowhere = refl
length-unseen OutOfRange = refl

-- components in range have a projection
found-range : (p : Four) (later : List Four) → ((r : Four) → Memᴰ r (p ∷ later) → FourInRange r) → AnswerInRange (found_at p later)
unfolding found_at found_projection
found-range p later h = (h p (Memᴰ.head refl), range, by (is_four_zeros p))
  where
    left : Four
    left = first_not_zeros (p ∷ later)

    range : FourInRange left
    range = left-range (p ∷ later) h

    answered : refusal (projection_of_four left) ≡ 0
    answered = (projected left (projection_of_four left) refl).1.0 ∙ ap (λ b. cond b 0 10) range

    by : (b : Bool) → refusal (cond b (without_length (projection_of_four left)) (projection_of_four left)) ≡ 0
    by true = length-unseen (projection_of_four left) ∙ answered
    by false = answered

accepted-range : (net : Net) (c : Call) → first_failed (net_tests net c) ≡ 0 → AnswerInRange (accepted net c).answer
unfolding accepted named_by net_four
accepted-range net (call.Move operation vertex weights) h = tt
accepted-range net (call.Point weights) h =
    found-range (net_four net point (only_q gs)) (map (net_four net point) (named_at_zero gs weights.s)) fits
  where
    point : Call
    point = call.Point weights

    gs : List Group
    gs = net_groups net

    passed : (some (rows_of net.kind) ≡ true) × (all_named (named_by_point gs) (net_polar net point) ≡ true)
    passed = net-passed net point h

    named-range : (es : List (List ℕ)) → Memᴰ es (named_by_point gs) → FourInRange (net_four net point es)
    named-range es m = four-range (λ c. net_polar net point c es) (λ c k. named-at (named_by_point gs) (net_polar net point) passed.1 c es k m)

    fits : (r : Four) → Memᴰ r (net_four net point (only_q gs) ∷ map (net_four net point) (named_at_zero gs weights.s)) → FourInRange r
    fits r (Memᴰ.head e) =
        subst FourInRange (sym e)
        (named-range (only_q gs) (some-group (λ gs. Memᴰ (only_q gs) (named_by_point gs)) only-named (rows_of net.kind) (net.degree ∷ net.second ∷ []) passed.0))
    fits r (Memᴰ.tail m) =
        let k = Memᴰ.of_map (net_four net point) (named_at_zero gs weights.s) m in
        subst FourInRange k.2 (named-range k.0 (at-zero-named gs weights.s k.0 k.1))

by_number : (net : Net) (c : Call) (k : ℕ) → first_failed (net_tests net c) ≡ k → AnswerInRange (step_by k net (accepted net c)).answer
unfolding step_by
by_number net c zero h = accepted-range net c h
by_number net c (suc k) h = tt

pub found-in-range : FoundInRange
unfolding step_of
found-in-range net c = by_number net c (first_failed (net_tests net c)) refl
