-- The order of flips and splits on lent places, and on the nets that a record reaches. Along a list of moves the places are always those before with the net put in that the
-- moves leave, so each law of nets is a law of all the places.
use Prim.Native.Nat.{ℕ, zero, suc}
use mathlib.Core.Path.{◌≡◌, refl, sym, ap, ◌∙◌, subst}
use mathlib.Core.Bool.{true}
use mathlib.Core.List.{List, [], ◌∷◌, ◌++◌}
use lib.Dec.{leb}
use lib.IntN.{ℤ}
use Rattle.polar.specs.Groups.{Group}
use Rattle.entries.specs.Entries.{number_count}
use Rattle.kinds.specs.Kinds.{known}
use Rattle.kinds.specs.Frames.{frame_count, Frames, frames_of}
use Rattle.kinds.proofs.Frames.{length-numbers}
use Rattle.machine.specs.Refusals.{◌else◌, first_failed}
use Rattle.machine.specs.Steps.{Answer, Taken, Refused, Step, step_by, after, answers}
use Rattle.machine.specs.Nets.{Net, net_groups, net_tests, accepted, step_of}
use Rattle.machine.specs.Comparison.{Polynomials, groups, net_over}
use Rattle.machine.specs.First.{first_refusal}
use Rattle.machine.specs.Demand3.{net_reached, frames_reached}
use Rattle.machine.specs.Lent.{net_at, put_net, enough_places, unless_refused, call_number, call_places, call_found}
use Rattle.machine.specs.Carried.{answer_by, lent_step}
use Rattle.machine.specs.FlipLaws.{flip, replace, negated, Exchanged, Replaced, FlipLaws, AllInRange, Whole, lent_move, OrderOfFlips}
use Rattle.machine.specs.declared.Weights.{Weights}
use Rattle.machine.specs.declared.Call.{Call}
use Rattle.machine.specs.declared.Call.TheVariants as call
use Rattle.machine.proofs.Over.{Reached}
use Rattle.machine.proofs.Demand3.{along, start-reached}
use Rattle.machine.proofs.Lent.{Sound, accepted-sound, stood-sound, read_back, put-long, put-again, put_back}
use Rattle.machine.proofs.Carried.{reached-sound}
use Rattle.machine.proofs.FlipLaws.{whole_again, flip-laws}

-- ---- nets along a list of moves

abbrev Moves : List Call → Type 0
Moves [] = Unit {0}
Moves (call.Move operation vertex weights ∷ cs) = Moves cs
Moves (call.Point weights ∷ cs) = ⊥

-- they keep all their numbers, of the same groups
record Kept (net other : Net) : Type 0 where
  sound : Sound other
  groups-same : net_groups other ≡ net_groups net

accepted-groups : (net : Net) (c : Call) → net_groups (accepted net c).left ≡ net_groups net
unfolding accepted
accepted-groups net (call.Move operation vertex weights) = refl
accepted-groups net (call.Point weights) = refl

step_kept : (net : Net) (c : Call) → Sound net → Kept net (step_of net c).left
unfolding step_of step_by
step_kept net c is = by (first_failed (net_tests net c))
  where
    by : (k : ℕ) → Kept net (step_by k net (accepted net c)).left
    by zero = record { sound = accepted-sound net c is; groups-same = accepted-groups net c }
    by (suc k) = record { sound = is; groups-same = refl }

after_kept : (net : Net) (cs : List Call) → Sound net → Kept net (after step_of net cs)
unfolding after
after_kept net [] is = record { sound = is; groups-same = refl }
after_kept net (c ∷ cs) is =
    let one = step_kept net c is in
    let rest = after_kept (step_of net c).left cs one.sound in
    record { sound = rest.sound; groups-same = rest.groups-same ∙ one.groups-same }

-- so one is put over the other
put-kept : (net other : Net) (lent : List ℤ) → enough_places lent ≡ true → Sound net → Kept net other → put_net other (put_net net lent) ≡ put_net other lent
put-kept net other lent enough is kept =
    put-again net lent enough is other
    (length-numbers (net_groups other) other.frames kept.sound.framed ∙ ap frame_count kept.groups-same ∙ sym (length-numbers (net_groups net) net.frames is.framed))
    (kept.sound.exact ∙ ap number_count kept.groups-same ∙ sym is.exact)

-- ---- lent places along a list of moves

module _ (lent : List ℤ) (enough : enough_places lent ≡ true) (right : known (net_at lent).kind (net_at lent).degree (net_at lent).second ≡ true) (operation vertex : ℕ) (weights : Weights) where
  abbrev net : Net
  net = net_at lent

  abbrev move : Call
  move = call.Move operation vertex weights

  -- by the number that is returned: what the function does, and the net's step with its net put in; a refused move leaves the net that stands there
  abbrev done : ℕ → Step Answer (List ℤ)
  done k = record { answer = answer_by k move (call_found move lent []); left = unless_refused k (put_net (accepted net move).left lent) lent }

  abbrev put_in : ℕ → Step Answer (List ℤ)
  put_in k = record { answer = (step_by k net (accepted net move)).answer; left = put_net (step_by k net (accepted net move)).left lent }

  by_number : (k : ℕ) → done k ≡ put_in k
  unfolding answer_by step_by accepted
  by_number zero = refl
  by_number (suc k) = let stood = sym (put_back lent enough right) in λ i. record { answer = Refused (suc k); left = stood i }

  move_step : lent_move lent move ≡ record { answer = (step_of net move).answer; left = put_net (step_of net move).left lent }
  unfolding lent_move lent_step call_number call_places step_of
  move_step = ap (λ b. done (first_failed (b else 11 ∷ true else 11 ∷ net_tests net move))) enough ∙ by_number (first_failed (net_tests net move))

-- the places after moves, and the answers
record Along (lent : List ℤ) (cs : List Call) : Type 0 where
  places : after lent_move lent cs ≡ put_net (after step_of (net_at lent) cs) lent
  answered : answers lent_move lent cs ≡ answers step_of (net_at lent) cs

along-moves : (lent : List ℤ) → enough_places lent ≡ true → known (net_at lent).kind (net_at lent).degree (net_at lent).second ≡ true → (cs : List Call) → Moves cs → Along lent cs
unfolding after answers
along-moves lent enough right [] moves = record { places = sym (put_back lent enough right); answered = refl }
along-moves lent enough right (call.Point weights ∷ cs) moves = absurd moves
along-moves lent enough right (call.Move operation vertex weights ∷ cs) moves =
    let c = call.Move operation vertex weights in
    let is = stood-sound lent enough right in
    let next = (step_of (net_at lent) c).left in
    let kept = (step_kept (net_at lent) c is).sound in
    let step = move_step lent enough right operation vertex weights in
    let back = read_back next lent enough kept in
    let rest =
    along-moves (put_net next lent) (ap (leb 193) (put-long next lent enough kept) ∙ enough) (ap (λ n. known n.kind n.degree n.second) back ∙ kept.right) cs moves in
    record {
      places =
          ap (λ s. after lent_move s.left cs) step
          ∙ rest.places
          ∙ ap (λ n. put_net (after step_of n cs) (put_net next lent)) back
          ∙ put-kept next (after step_of next cs) lent enough kept (after_kept next cs kept);
      answered =
          ap (λ s. s.answer ∷ answers lent_move s.left cs) step
          ∙ ap (λ l. (step_of (net_at lent) c).answer ∷ l) (rest.answered ∙ ap (λ n. answers step_of n cs) back);
    }

-- ---- the laws

module _ (lent : List ℤ) (enough : enough_places lent ≡ true) (right : known (net_at lent).kind (net_at lent).degree (net_at lent).second ≡ true) where
  abbrev over : Net → List ℤ
  over n = put_net n lent

  abbrev gs : List Group
  gs = net_groups (net_at lent)

  -- what moves leave and what they are answered, by what the net's do
  left-are : (cs : List Call) → Moves cs → after lent_move lent cs ≡ over (after step_of (net_at lent) cs)
  left-are cs moves = (along-moves lent enough right cs moves).places

  answers-are : (cs : List Call) → Moves cs → answers lent_move lent cs ≡ answers step_of (net_at lent) cs
  answers-are cs moves = (along-moves lent enough right cs moves).answered

  -- two lists that leave one net leave the same places, and a list that leaves the net that stands there leaves all places
  same_left : (cs others : List Call) → Moves cs → Moves others → after step_of (net_at lent) cs ≡ after step_of (net_at lent) others → after lent_move lent cs ≡ after lent_move lent others
  same_left cs others a b same = left-are cs a ∙ ap over same ∙ sym (left-are others b)

  stays : (cs : List Call) → Moves cs → after step_of (net_at lent) cs ≡ net_at lent → after lent_move lent cs ≡ lent
  stays cs a same = left-are cs a ∙ ap over same ∙ put_back lent enough right

  exchanged-lent : (u v : ℕ) (w others : Weights) → Exchanged step_of gs (net_at lent) u v w others → Exchanged lent_move gs lent u v w others
  exchanged-lent u v w others E =
      record {
        left = same_left (flip v ∷ replace u w ∷ []) (replace u others ∷ flip v ∷ []) tt tt E.left;
        flip_first = answers-are (flip v ∷ replace u w ∷ []) tt ∙ E.flip_first ∙ ap (λ l. Taken ∷ l) (sym (answers-are (replace u others ∷ []) tt));
        flip_last = answers-are (replace u others ∷ flip v ∷ []) tt ∙ E.flip_last ∙ ap (λ l. l ++ (Taken ∷ [])) (sym (answers-are (replace u others ∷ []) tt));
      }

  replaced-lent : (v : ℕ) (w others : Weights) → Replaced step_of gs (net_at lent) v w others → Replaced lent_move gs lent v w others
  replaced-lent v w others R =
      record {
        answered = answers-are (flip v ∷ replace v w ∷ []) tt ∙ R.answered ∙ ap (λ l. Taken ∷ l) (sym (answers-are (replace v others ∷ []) tt));
        accepted = λ answered. same_left (flip v ∷ replace v w ∷ []) (replace v others ∷ []) tt tt (R.accepted (sym (answers-are (replace v others ∷ []) tt) ∙ answered));
        refused = λ k answered.
            let both = R.refused k (sym (answers-are (replace v others ∷ []) tt) ∙ answered) in
            (same_left (flip v ∷ replace v w ∷ []) (flip v ∷ []) tt tt both.0, stays (replace v others ∷ []) tt both.1);
      }

  laws-lent : FlipLaws step_of gs (net_at lent) → FlipLaws lent_move gs lent
  laws-lent L =
      record {
        twice = λ v is. stays (flip v ∷ flip v ∷ []) tt (L.twice v is);
        either_order = λ u v a b n. same_left (flip u ∷ flip v ∷ []) (flip v ∷ flip u ∷ []) tt tt (L.either_order u v a b n);
        taken = λ u v a b. answers-are (flip u ∷ flip v ∷ []) tt ∙ L.taken u v a b;
        another = λ u v a b n same w. exchanged-lent u v w (negated gs v w) (L.another u v a b n same w);
        apart = λ u v a b n w. exchanged-lent u v w w (L.apart u v a b n w);
        itself = λ v is w. replaced-lent v w (negated gs v w) (L.itself v is w);
      }

-- ---- the nets that a record reaches

over-frames : (f : Polynomials) (frames : Frames) → Reached f frames → Whole (net_over f frames) × AllInRange (net_over f frames)
unfolding net_over
over-frames f frames at = (whole_again (net_over f frames) (reached-sound f frames at), record { kind = at.right; entries = at.fits; frame = at.near })

reached : (f : Polynomials) (numbers : List ℤ) → first_refusal f numbers ≡ 0 → (calls : List Call) → Whole (net_reached f numbers calls) × AllInRange (net_reached f numbers calls)
reached f numbers ok calls =
    let here = along f (frames_of (groups f) numbers) (start-reached f numbers ok) calls in
    subst (λ n. Whole n × AllInRange n) (sym here.nets) (over-frames f (frames_reached f numbers calls) here.reached)

pub order-of-flips : OrderOfFlips
order-of-flips =
    record {
      handed = flip-laws;
      lent = λ lent enough range.
          let is = stood-sound lent enough range.kind in
          laws-lent lent enough range.kind (flip-laws (net_at lent) (whole_again (net_at lent) is) range);
      reached = reached;
    }
