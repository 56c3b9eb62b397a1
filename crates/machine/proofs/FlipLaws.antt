-- The order of flips and splits, for handed nets. A flip of a vertex is never refused, and leaves a net that is whole and in range. A replace on it is judged as the replace
-- before it with the other weights: these have the same absolute values, name the same point over the frames before, and the size rule sees no sign. So by one number, either
-- both are refused and nothing moves, or both are taken and leave the same net (FlippedNets.antt).
use Prim.Native.Nat.{ℕ, zero, suc, pred, ◌-◌, ◌<◌}
use native.Mathlib.Nat.{suc-ne-zero}
use native.Mathlib.Omega.{arith}
use mathlib.Core.Path.{◌≡◌, refl, sym, ap, ◌∙◌, subst}
use mathlib.Core.Logic.{◌≢◌}
use mathlib.Core.Bool.{Bool, true, false, ◌&&◌, not, cond}
use mathlib.Core.List.{List, [], ◌∷◌, ◌++◌, map, append-nil}
use lib.Dec.{eqb, leb, lit≤}
use lib.IntN.{ℤ, pos, neg_ℤ, nat_abs}
use lib.ListN.{length, get_or, drop}
use borrow.Author.Tests.{leb-false, le-leb, ne_eqb}
use Rattle.integers.specs.Test.{all}
use Rattle.integers.proofs.All.{and-true, all_map}
use Rattle.integers.proofs.Laws.{nat_abs-neg}
use Rattle.polar.specs.Groups.{Group}
use Rattle.entries.proofs.Groups.{Framed}
use Rattle.entries.proofs.Flips.{negated_at}
use Rattle.projection.specs.Projection.{in_range}
use Rattle.kinds.specs.Frames.{vertex_count, frames_of, numbers_of}
use Rattle.kinds.proofs.Frames.{framed-numbers, frames-back}
use Rattle.machine.specs.Refusals.{Test, ◌else◌, first_failed}
use Rattle.machine.specs.Calls.{weight_list, group_at, own_at, vertices_at, own_tests}
use Rattle.machine.specs.Frames.{points_of, frames_after, new_numbers}
use Rattle.machine.specs.Sizes.{named_by, all_named, before_size, call_tests}
use Rattle.machine.specs.Steps.{Answer, Taken, Refused, refusal_number, step_by, after, answers}
use Rattle.machine.specs.Nets.{Net, net_groups, net_polar, net_tests, entries_after, largest_after, accepted, step_of}
use Rattle.machine.specs.FlipLaws.{flip, replace, Vertex, SamePair, negated, Exchanged, Replaced, FlipLaws, AllInRange, Whole}
use Rattle.machine.specs.declared.Weights.{Weights}
use Rattle.machine.specs.declared.Call.{Call}
use Rattle.machine.proofs.Frames.{in-range-after}
use Rattle.machine.proofs.Over.{located, judged, replaced-in, call-passed}
use Rattle.machine.proofs.Lent.{Sound, accepted-sound}
use Rattle.machine.proofs.FlippedNets.{flipped_net, replaced_net, flipped-in, twice, either_order, point-turned, sizes-turned, replaced-other, replaced-itself}

-- ---- weights

-- the weights with one negated, as a list
list-negated : (k : ℕ) (w : Weights)
    → cond (eqb 0 k) (neg_ℤ w.r) w.r ∷ cond (eqb 1 k) (neg_ℤ w.s) w.s ∷ cond (eqb 2 k) (neg_ℤ w.t) w.t ∷ cond (eqb 3 k) (neg_ℤ w.u) w.u ∷ [] ≡ negated_at k (weight_list w)
list-negated zero w = refl
list-negated (suc zero) w = refl
list-negated (suc (suc zero)) w = refl
list-negated (suc (suc (suc zero))) w = refl
list-negated (suc (suc (suc (suc k)))) w =
    λ i. cond (past 0 (lit≤ tt) i) (neg_ℤ w.r) w.r ∷ cond (past 1 (lit≤ tt) i) (neg_ℤ w.s) w.s ∷ cond (past 2 (lit≤ tt) i) (neg_ℤ w.t) w.t ∷ cond (past 3 (lit≤ tt) i) (neg_ℤ w.u) w.u ∷ []
  where
    past : (a : ℕ) → a < 4 → eqb a (suc (suc (suc (suc k)))) ≡ false
    past a h = ne_eqb a (suc (suc (suc (suc k)))) (λ e. omega arith)

negated-list : (gs : List Group) (v : ℕ) (w : Weights) → weight_list (negated gs v w) ≡ negated_at (own_at gs (pred v)) (weight_list w)
negated-list gs v w = list-negated (own_at gs (pred v)) w

-- their absolute values, by which a call's own tests go
abbrev sizes : List ℤ → List ℕ
sizes ws = map nat_abs ws

negated-sizes : (k : ℕ) (ws : List ℤ) → sizes (negated_at k ws) ≡ sizes ws
negated-sizes k [] = refl
negated-sizes zero (x ∷ ws) = ap (λ a. a ∷ sizes ws) (nat_abs-neg x)
negated-sizes (suc k) (x ∷ ws) = ap (λ l. nat_abs x ∷ l) (negated-sizes k ws)

sizes-drop : (n : ℕ) (ws : List ℤ) → sizes (drop n ws) ≡ drop n (sizes ws)
sizes-drop zero ws = refl
sizes-drop (suc n) [] = refl
sizes-drop (suc n) (x ∷ ws) = sizes-drop n ws

sizes-at : (ws : List ℤ) (k : ℕ) → nat_abs (get_or ws k (pos 0)) ≡ get_or (sizes ws) k 0
sizes-at [] k = refl
sizes-at (x ∷ ws) zero = refl
sizes-at (x ∷ ws) (suc k) = sizes-at ws k

by-sizes : (test : ℕ → Bool) (ws others : List ℤ) → sizes ws ≡ sizes others → all (λ x. test (nat_abs x)) ws ≡ all (λ x. test (nat_abs x)) others
by-sizes test ws others same = sym (all_map test nat_abs ws) ∙ ap (all test) same ∙ all_map test nat_abs others

own-alike : (gs : List Group) (u : ℕ) (w others : Weights) → sizes (weight_list w) ≡ sizes (weight_list others) → own_tests gs (replace u w) ≡ own_tests gs (replace u others)
unfolding own_tests
own-alike gs u w others same =
    let n = vertices_at gs (group_at gs (pred u)) in
    let k = own_at gs (pred u) in
    let inside = by-sizes (λ a. leb a 4096) (weight_list w) (weight_list others) same in
    let none = by-sizes (λ a. eqb a 0) (drop n (weight_list w)) (drop n (weight_list others)) (sizes-drop n (weight_list w) ∙ ap (drop n) same ∙ sym (sizes-drop n (weight_list others))) in
    let own = ap (λ a. not (eqb a 0)) (sizes-at (weight_list w) k ∙ ap (λ l. get_or l k 0) same ∙ sym (sizes-at (weight_list others) k)) in
    λ i. true else 8 ∷ (leb 1 u && leb u (vertex_count gs)) else 8 ∷ inside i else 8 ∷ none i else 8 ∷ own i else 9 ∷ []

-- ---- vertices

under : (gs : List Group) (v : ℕ) → Vertex gs v → pred v < vertex_count gs
under gs v is = let low = is.0 in let high = is.1 in omega arith

-- a vertex is given by its group and its number there
same-vertex : (gs : List Group) (a b : ℕ) → group_at gs a ≡ group_at gs b → own_at gs a ≡ own_at gs b → a ≡ b
same-vertex [] a b p q = q
same-vertex (g ∷ gs) a b p q = by (leb a g.dimension) (leb b g.dimension) refl refl p q (same-vertex gs (a - suc g.dimension) (b - suc g.dimension))
  where
    past : ℕ → ℕ
    past n = n - suc g.dimension

    by : (c d : Bool) → leb a g.dimension ≡ c → leb b g.dimension ≡ d
        → cond c 0 (suc (group_at gs (past a))) ≡ cond d 0 (suc (group_at gs (past b))) → cond c a (own_at gs (past a)) ≡ cond d b (own_at gs (past b))
        → (group_at gs (past a) ≡ group_at gs (past b) → own_at gs (past a) ≡ own_at gs (past b) → past a ≡ past b)
        → a ≡ b
    by true true h k p q rest = q
    by true false h k p q rest = absurd (suc-ne-zero _ (sym p))
    by false true h k p q rest = absurd (suc-ne-zero _ p)
    by false false h k p q rest =
        let x = leb-false a g.dimension h in
        let y = leb-false b g.dimension k in
        let z = rest (omega arith) q in
        omega arith

different : (gs : List Group) (u v : ℕ) → Vertex gs u → Vertex gs v → u ≢ v → SamePair gs u v → own_at gs (pred u) ≢ own_at gs (pred v)
different gs u v a b n p q =
    let low = a.0 in
    let high = b.0 in
    let same = same-vertex gs (pred u) (pred v) p q in
    n (omega arith)

-- ---- nets

-- a net that is whole and in range
record Fit (net : Net) : Type 0 where
  whole : Whole net
  range : AllInRange net

-- it has all its numbers, so far as the proofs of lent places ask for them
sound : (net : Net) → Whole net → AllInRange net → Sound net
sound net whole range =
    record { right = range.kind; framed = subst (Framed (net_groups net)) whole.frames (framed-numbers (net_groups net) (numbers_of net.frames)); exact = whole.entries }

-- and back
pub whole_again : (net : Net) → Sound net → Whole net
whole_again net is =
    record {
      entries = is.exact;
      frames = ap (frames_of (net_groups net)) (sym (append-nil (numbers_of net.frames))) ∙ frames-back (net_groups net) net.frames [] is.framed;
    }

-- a test that passes leaves the rest of a table
passes-first : {b : Bool} (k : ℕ) (tests : List Test) → b ≡ true → first_failed tests ≡ 0 → first_failed (b else k ∷ tests) ≡ 0
passes-first k tests e rest = ap (λ b. first_failed (b else k ∷ tests)) e ∙ rest

module _ (net : Net) (fit : Fit net) where
  abbrev gs : List Group
  gs = net_groups net

  stands : Sound net
  stands = sound net fit.whole fit.range

  by_tests : (c : Call) → first_failed (net_tests net c) ≡ first_failed (call_tests gs c (new_numbers gs net.frames c) (net_polar net c))
  by_tests c = judged net fit.range.kind fit.range.entries fit.range.frame c

  here : (v : ℕ) → Vertex gs v → (group_at gs (pred v) < length gs) × (own_at gs (pred v) < length (get_or net.frames (group_at gs (pred v)) []))
  here v is = located gs net.frames stands.framed (pred v) (under gs v is)

  -- a flip of a vertex is taken
  flip-passes : (v : ℕ) → Vertex gs v → first_failed (net_tests net (flip v)) ≡ 0
  unfolding call_tests before_size own_tests new_numbers named_by all_named
  flip-passes v is = by_tests (flip v) ∙ passes-first _ _ (and-true (le-leb 1 v is.0) (le-leb v (vertex_count gs) is.1)) refl

  abbrev flip_of : ℕ → Net
  flip_of v = flipped_net net (group_at gs (pred v)) (own_at gs (pred v))

  flip-step : (v : ℕ) → Vertex gs v → step_of net (flip v) ≡ record { answer = Taken; left = flip_of v }
  unfolding step_of step_by accepted entries_after largest_after frames_after
  flip-step v is = ap (λ k. step_by k net (accepted net (flip v))) (flip-passes v is)

  flip-fit : (v : ℕ) → Vertex gs v → Fit (flip_of v)
  unfolding accepted entries_after largest_after frames_after new_numbers
  flip-fit v is =
      record {
        whole = whole_again (flip_of v) (accepted-sound net (flip v) stands);
        range =
            record {
              kind = fit.range.kind;
              entries = flipped-in net fit.range.entries (group_at gs (pred v)) (own_at gs (pred v));
              frame = in-range-after gs net.frames (flip v) fit.range.frame refl;
            };
      }

  -- a replace that is taken leaves such a net
  abbrev replace_of : ℕ → Weights → Net
  replace_of u w = replaced_net net (group_at gs (pred u)) (own_at gs (pred u)) (weight_list w)

  replace-fit : (u : ℕ) (w : Weights) → Vertex gs u → first_failed (net_tests net (replace u w)) ≡ 0 → Fit (replace_of u w)
  unfolding accepted entries_after largest_after frames_after points_of net_polar
  replace-fit u w is ok =
      let c = replace u w in
      let passed = call-passed gs c (new_numbers gs net.frames c) (net_polar net c) (sym (by_tests c) ∙ ok) in
      record {
        whole = whole_again (replace_of u w) (accepted-sound net c stands);
        range =
            record {
              kind = fit.range.kind;
              entries = replaced-in net u w (here u is).0 passed.2;
              frame = in-range-after gs net.frames c fit.range.frame passed.1;
            };
      }

-- ---- answers, by the refusal's number

abbrev answer_of : ℕ → Answer
answer_of zero = Taken
answer_of (suc k) = Refused (suc k)

replace-answer : (net : Net) (u : ℕ) (w : Weights) (k : ℕ) → (step_by k net (accepted net (replace u w))).answer ≡ answer_of k
unfolding step_by accepted
replace-answer net u w zero = refl
replace-answer net u w (suc k) = refl

-- as the one answer of a list
one_answer : (net : Net) (u : ℕ) (w : Weights) (a : Answer) → answers step_of net (replace u w ∷ []) ≡ a ∷ [] → answer_of (first_failed (net_tests net (replace u w))) ≡ a
unfolding answers step_of
one_answer net u w a answered = sym (replace-answer net u w (first_failed (net_tests net (replace u w)))) ∙ ap (λ l. get_or l 0 Taken) answered

-- ---- a flip and a replace

module _ (net : Net) (fit : Fit net) (u v : ℕ) (at : Vertex (net_groups net) u) (is : Vertex (net_groups net) v) (w others : Weights)
    (alike : sizes (weight_list w) ≡ sizes (weight_list others))
    (same : SamePair (net_groups net) u v → negated_at (own_at (net_groups net) (pred v)) (weight_list w) ≡ weight_list others)
    (apart : (SamePair (net_groups net) u v → ⊥) → weight_list w ≡ weight_list others) where
  abbrev flipped_first : Net
  flipped_first = flip_of net fit v

  -- the replace gets the same number on both ways
  same_number : first_failed (net_tests flipped_first (replace u w)) ≡ first_failed (net_tests net (replace u others))
  unfolding call_tests before_size named_by new_numbers points_of net_polar
  same_number =
      let gs = net_groups net in
      let i = group_at gs (pred u) in
      let j = group_at gs (pred v) in
      let own = own-alike gs u w others alike in
      let point = point-turned net i j (own_at gs (pred v)) (weight_list w) (weight_list others) same apart (here net fit v is).1 in
      let size = sizes-turned net i j (own_at gs (pred v)) (weight_list w) (weight_list others) same apart in
      by_tests flipped_first (flip-fit net fit v is) (replace u w)
      ∙ (λ k. first_failed ((own k ++ (all in_range (point k) else 12 ∷ [])) ++ (size k else 10 ∷ [])))
      ∙ sym (by_tests net fit (replace u others))

  abbrev number : ℕ
  number = first_failed (net_tests net (replace u others))

  -- first the flip, then the replace
  flip-first : after step_of net (flip v ∷ replace u w ∷ []) ≡ (step_by number flipped_first (accepted flipped_first (replace u w))).left
  unfolding after step_of
  flip-first = ap (λ s. (step_of s.left (replace u w)).left) (flip-step net fit v is) ∙ ap (λ k. (step_by k flipped_first (accepted flipped_first (replace u w))).left) same_number

  flip-first-answers : answers step_of net (flip v ∷ replace u w ∷ []) ≡ Taken ∷ answers step_of net (replace u others ∷ [])
  unfolding answers step_of
  flip-first-answers =
      ap (λ s. s.answer ∷ (step_of s.left (replace u w)).answer ∷ []) (flip-step net fit v is)
      ∙ ap (λ a. Taken ∷ a ∷ [])
      (replace-answer flipped_first u w (first_failed (net_tests flipped_first (replace u w))) ∙ ap answer_of same_number ∙ sym (replace-answer net u others number))

  -- first the replace, then the flip
  flip-last : (k : ℕ) → number ≡ k
      → step_of (step_by k net (accepted net (replace u others))).left (flip v)
      ≡ record { answer = Taken; left = flipped_net (step_by k net (accepted net (replace u others))).left (group_at (net_groups net) (pred v)) (own_at (net_groups net) (pred v)) }
  unfolding step_by accepted entries_after largest_after frames_after points_of net_polar
  flip-last zero ok = flip-step (replace_of net fit u others) (replace-fit net fit u others at ok) v is
  flip-last (suc k) ok = flip-step net fit v is

  -- where u is another vertex both ways end in the same net
  both_ways : (SamePair (net_groups net) u v → own_at (net_groups net) (pred u) ≢ own_at (net_groups net) (pred v)) → (k : ℕ)
      → (step_by k flipped_first (accepted flipped_first (replace u w))).left
      ≡ flipped_net (step_by k net (accepted net (replace u others))).left (group_at (net_groups net) (pred v)) (own_at (net_groups net) (pred v))
  unfolding step_by accepted entries_after largest_after frames_after points_of net_polar
  both_ways other zero =
      let gs = net_groups net in
      replaced-other net (group_at gs (pred u)) (group_at gs (pred v)) (own_at gs (pred v)) (weight_list w) (weight_list others) same apart (own_at gs (pred u)) other (here net fit v is).1
  both_ways other (suc k) = refl

  exchanged : (SamePair (net_groups net) u v → own_at (net_groups net) (pred u) ≢ own_at (net_groups net) (pred v)) → Exchanged step_of (net_groups net) net u v w others
  unfolding after answers step_of
  exchanged other =
      record {
        left = flip-first ∙ both_ways other number ∙ sym (ap (λ s. s.left) (flip-last number refl));
        flip_first = flip-first-answers;
        flip_last = ap (λ s. (step_of net (replace u others)).answer ∷ s.answer ∷ []) (flip-last number refl);
      }

-- ---- the laws

module _ (net : Net) (fit : Fit net) where
  abbrev groups : List Group
  groups = net_groups net

  one-flip : (v : ℕ) → Vertex groups v → after step_of net (flip v ∷ []) ≡ flip_of net fit v
  unfolding after
  one-flip v is = ap (λ s. s.left) (flip-step net fit v is)

  two-flips : (u v : ℕ) → Vertex groups u → Vertex groups v
      → after step_of net (flip u ∷ flip v ∷ []) ≡ flipped_net (flip_of net fit u) (group_at groups (pred v)) (own_at groups (pred v))
  unfolding after
  two-flips u v a b = ap (λ s. (step_of s.left (flip v)).left) (flip-step net fit u a) ∙ ap (λ s. s.left) (flip-step (flip_of net fit u) (flip-fit net fit u a) v b)

  two-taken : (u v : ℕ) → Vertex groups u → Vertex groups v → answers step_of net (flip u ∷ flip v ∷ []) ≡ Taken ∷ Taken ∷ []
  unfolding answers
  two-taken u v a b =
      ap (λ s. s.answer ∷ (step_of s.left (flip v)).answer ∷ []) (flip-step net fit u a)
      ∙ ap (λ s. Taken ∷ s.answer ∷ []) (flip-step (flip_of net fit u) (flip-fit net fit u a) v b)

  -- the weights with v's negated
  sizes-kept : (v : ℕ) (w : Weights) → sizes (weight_list w) ≡ sizes (weight_list (negated groups v w))
  sizes-kept v w = sym (ap sizes (negated-list groups v w) ∙ negated-sizes (own_at groups (pred v)) (weight_list w))

  -- the vertex itself, by the replace's number
  module _ (v : ℕ) (is : Vertex groups v) (w : Weights) where
    itself-taken : (k : ℕ) → answer_of k ≡ Taken
        → (step_by k (flip_of net fit v) (accepted (flip_of net fit v) (replace v w))).left ≡ (step_by k net (accepted net (replace v (negated groups v w)))).left
    unfolding step_by accepted entries_after largest_after frames_after points_of net_polar
    itself-taken zero taken =
        replaced-itself net (group_at groups (pred v)) (own_at groups (pred v)) (weight_list w) (here net fit v is).1
        ∙ ap (replaced_net net (group_at groups (pred v)) (own_at groups (pred v))) (sym (negated-list groups v w))
    itself-taken (suc k) taken = absurd (suc-ne-zero k (ap refusal_number taken))

    itself-refused : (k m : ℕ) → answer_of k ≡ Refused m
        → ((step_by k (flip_of net fit v) (accepted (flip_of net fit v) (replace v w))).left ≡ flip_of net fit v)
        × ((step_by k net (accepted net (replace v (negated groups v w)))).left ≡ net)
    unfolding step_by
    itself-refused zero m refused = absurd (let z : ◌≡◌ {A = ℕ} 0 1 = cc in omega arith)
    itself-refused (suc k) m refused = (refl, refl)

    itself : Replaced step_of groups net v w (negated groups v w)
    unfolding after answers step_of
    itself =
        let number = first_failed (net_tests net (replace v (negated groups v w))) in
        let first = flip-first net fit v v is is w (negated groups v w) (sizes-kept v w) (λ p. sym (negated-list groups v w)) (λ n. absurd (n refl)) in
        record {
          answered = flip-first-answers net fit v v is is w (negated groups v w) (sizes-kept v w) (λ p. sym (negated-list groups v w)) (λ n. absurd (n refl));
          accepted = λ answered. first ∙ itself-taken number (one_answer net v (negated groups v w) Taken answered);
          refused = λ k answered.
              let r = itself-refused number k (one_answer net v (negated groups v w) (Refused k) answered) in
              (first ∙ r.0 ∙ sym (one-flip v is), r.1);
        }

pub flip-laws : (net : Net) → Whole net → AllInRange net → FlipLaws step_of (net_groups net) net
flip-laws net whole range =
    let gs = net_groups net in
    let fit : Fit net = record { whole = whole; range = range } in
    record {
      twice = λ v is. two-flips net fit v v is is ∙ twice net whole.entries (group_at gs (pred v)) (own_at gs (pred v)) (here net fit v is).1;
      either_order = λ u v a b n.
          two-flips net fit u v a b
          ∙ either_order net (group_at gs (pred u)) (own_at gs (pred u)) (group_at gs (pred v)) (own_at gs (pred v)) (different gs u v a b n)
          ∙ sym (two-flips net fit v u b a);
      taken = two-taken net fit;
      another = λ u v a b n same w.
          exchanged net fit u v a b w (negated gs v w) (sizes-kept net fit v w) (λ p. sym (negated-list gs v w)) (λ apart. absurd (apart same)) (different gs u v a b n);
      apart = λ u v a b n w. exchanged net fit u v a b w w refl (λ p. absurd (n p)) (λ q. refl) (λ p. absurd (n p));
      itself = itself net fit;
    }
