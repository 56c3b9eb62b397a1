-- Demand 3 carried to lent places: the net read out of them is always the net over the comparison machine's frames, since every net that is put there is read back.
use Prim.Native.Nat.{ℕ, zero, suc, ◌+◌, ◌-◌, ◌≤◌}
use native.Mathlib.Omega.{arith}
use mathlib.Core.Path.{◌≡◌, refl, sym, ap, ap₂, ◌∙◌, subst}
use mathlib.Core.Bool.{Bool, true, false, cond}
use mathlib.Core.Logic.{◌↔◌}
use mathlib.Core.List.{List, [], ◌∷◌, ◌++◌, append_assoc, map, zip_with}
use borrow.Author.Tests.{leb-true}
use lib.Dec.{leb, lit≤}
use lib.IntN.{ℤ, pos}
use lib.ListN.{length, get_or, take, drop, length-drop}
use lib.Seq.{take-add, slice, slice_empty, slice-cons}
use Rattle.projection.specs.Projection.{Four, found_projection}
use Rattle.projection.specs.declared.Projection.{Projection}
use Rattle.entries.proofs.ListedOver.{length-listed-over}
use Rattle.machine.specs.Refusals.{◌else◌, first_failed, all_pass}
use Rattle.machine.specs.Steps.{Answer, Found, Refused, refusal_number, point_values, found_at, Step}
use Rattle.machine.specs.Steps.{step_by, after, answers}
use Rattle.machine.specs.Nets.{Net, net_groups, net_tests, accepted, step_of}
use Rattle.machine.specs.Comparison.{Polynomials, groups, machine_before, machine_tests, machine_accepted}
use Rattle.machine.specs.Comparison.{machine_step, net_over}
use Rattle.integers.proofs.All.{clash}
use Rattle.polar.specs.Groups.{Group}
use Rattle.entries.specs.Entries.{number_count}
use Rattle.kinds.specs.Kinds.{known}
use Rattle.kinds.specs.Frames.{Frames, frame_count, frames_of, numbers_of}
use Rattle.kinds.proofs.Counts.{frame-few}
use Rattle.kinds.proofs.Frames.{numbers-back}
use Rattle.machine.specs.First.{first_net, first_tests, first_refusal}
use Rattle.machine.specs.Demand3.{Beyond}
use Rattle.machine.specs.Lent.{net_at, put_at, put_net, enough_places, unless_refused, polynomials_from, made_number, made_places, room, call_number, call_places, call_found}
use Rattle.machine.specs.Carried.{LentCall, Returned, four_at, answer_by, lent_step, expected, net_places}
use Rattle.machine.specs.Carried.{other_places, FirstNetIn, SameNet, lent_frames, LentGuaranteed, Demand3Lent}
use Rattle.machine.specs.declared.Call.{Call}
use Rattle.machine.specs.declared.Call.TheVariants as call
use Rattle.machine.proofs.Refusals.{none-failed, row-passes, rest-passes}
use Rattle.machine.proofs.Over.{Reached, call-agrees}
use Rattle.machine.proofs.Demand3.{start-reached, sized}
use Rattle.machine.proofs.Lent.{Sound, drop-take, read_back, put-long, put-others, head-stood}

-- every net reached has all its numbers
pub reached-sound : (f : Polynomials) (frames : Frames) → Reached f frames → Sound (net_over f frames)
unfolding net_over
reached-sound f frames at = record { right = at.right; framed = at.long; exact = length-listed-over (groups f) _ }

-- the net over the frames stands in the places
record Stands (f : Polynomials) (frames : Frames) (lent : List ℤ) : Type 0 where
  net : net_at lent ≡ net_over f frames
  enough : enough_places lent ≡ true
  reached : Reached f frames

put-stands : (f : Polynomials) (frames : Frames) (lent : List ℤ) → enough_places lent ≡ true → Reached f frames → Stands f frames (put_net (net_over f frames) lent)
put-stands f frames lent enough at =
    let sound = reached-sound f frames at in
    record { net = read_back (net_over f frames) lent enough sound; enough = ap (leb 193) (put-long (net_over f frames) lent enough sound) ∙ enough; reached = at }

put-kept : (f : Polynomials) (frames : Frames) (lent : List ℤ) → enough_places lent ≡ true → Reached f frames → other_places f (put_net (net_over f frames) lent) ≡ other_places f lent
unfolding net_over
put-kept f frames lent enough at = put-others (net_over f frames) lent enough (reached-sound f frames at)

-- ---- one call

-- an accepted call's answer is what the caller has, where its numbers are put into the places
accepted-heard : (net : Net) (c : Call) (found : List ℤ) → answer_by 0 c (put_at 0 (point_values (accepted net c).answer) found) ≡ (accepted net c).answer
unfolding accepted answer_by found_at
accepted-heard net (call.Move operation vertex weights) found = refl
accepted-heard net (call.Point weights) found = refl

-- a found point, as the caller has it, has the projection of the numbers in the places
pub found-projection : (k : ℕ) (c : Call) (found : List ℤ) {point projected : Four} {at : Projection} → answer_by k c found ≡ Found point projected at
    → found_projection (four_at 0 found) (four_at 4 found) ≡ at
unfolding answer_by
found-projection (suc k) c found h = absurd (let z : ◌≡◌ {A = ℕ} 0 1 = cc in omega arith)
found-projection zero (call.Move operation vertex weights) found h = absurd (let z : ◌≡◌ {A = ℕ} 0 1 = cc in omega arith)
found-projection zero (call.Point weights) found h = cc

-- what has to come back, by whether there is room for a point's numbers
pub expected-by : (c : LentCall) (answer : Answer) (b : Bool) → room c.call c.found ≡ b
    → expected c answer ≡ cond b (record { answer = answer; found = put_at 0 (point_values answer) c.found }) (record { answer = Refused 11; found = c.found })
unfolding expected
expected-by c answer b h = ap (λ r. cond r (record { answer = answer; found = put_at 0 (point_values answer) c.found }) (record { answer = Refused 11; found = c.found })) h

-- what leaves the state where it is accepted leaves it
step-leaves : {S : Type 0} (k : ℕ) (state : S) (step : Step Answer S) → step.left ≡ state → (step_by k state step).left ≡ state
unfolding step_by
step-leaves zero state step h = h
step-leaves (suc k) state step h = refl

-- a call without room is a point, which leaves the frames
point-leaves : (f : Polynomials) (frames : Frames) (c : Call) (found : List ℤ) → room c found ≡ false → (machine_step f frames c).left ≡ frames
unfolding machine_step machine_accepted
point-leaves f frames (call.Move operation vertex weights) found h = absurd (clash refl h)
point-leaves f frames (call.Point weights) found h = step-leaves (first_failed (machine_tests f frames (call.Point weights))) frames (machine_accepted f frames (call.Point weights)) refl

returned-is : {a b : Answer} {xs ys : List ℤ} → a ≡ b → xs ≡ ys → ◌≡◌ {A = Returned} (record { answer = a; found = xs }) (record { answer = b; found = ys })
returned-is p q = λ i. record { answer = p i; found = q i }

-- what a call does on places where the net over frames stands
record Done (f : Polynomials) (frames : Frames) (lent : List ℤ) (c : LentCall) : Type 0 where
  returned : (lent_step lent c).answer ≡ expected c (machine_step f frames c.call).answer
  stands : Stands f (machine_step f frames c.call).left (lent_step lent c).left
  kept : other_places f (lent_step lent c).left ≡ other_places f lent

module _ (f : Polynomials) (frames : Frames) (lent : List ℤ) (here : Stands f frames lent) (c : LentCall) where
  abbrev net : Net
  net = net_over f frames

  abbrev next : Step Answer Frames
  next = machine_step f frames c.call

  -- the number, by the tests that are left
  number_is : call_number c.call lent c.found ≡ first_failed (room c.call c.found else 11 ∷ net_tests net c.call)
  unfolding call_number
  number_is = ap₂ (λ b n. first_failed (b else 11 ∷ room c.call c.found else 11 ∷ net_tests n c.call)) here.enough here.net

  -- by the number: what is written
  places-by : (k : ℕ) → call_number c.call lent c.found ≡ k → call_places c.call lent c.found ≡ unless_refused k (put_net (accepted net c.call).left lent) lent
  unfolding call_places
  places-by k e = ap₂ (λ j n. unless_refused j (put_net (accepted n c.call).left lent) lent) e here.net

  found-by : (k : ℕ) → call_number c.call lent c.found ≡ k
      → call_found c.call lent c.found ≡ unless_refused k (put_at 0 (point_values (accepted net c.call).answer) c.found) c.found
  unfolding call_found
  found-by k e = ap₂ (λ j n. unless_refused j (put_at 0 (point_values (accepted n c.call).answer) c.found) c.found) e here.net

  answer-by : (k : ℕ) → call_number c.call lent c.found ≡ k
      → (lent_step lent c).answer.answer ≡ answer_by k c.call (unless_refused k (put_at 0 (point_values (accepted net c.call).answer) c.found) c.found)
  unfolding lent_step
  answer-by k e = ap₂ (λ j l. answer_by j c.call l) e (found-by k e)

  no_room : room c.call c.found ≡ false → Done f frames lent c
  unfolding lent_step answer_by
  no_room h =
      let eleven = number_is ∙ ap (λ b. first_failed (b else 11 ∷ net_tests net c.call)) h in
      record {
        returned = returned-is (answer-by 11 eleven) (found-by 11 eleven) ∙ sym (expected-by c next.answer false h);
        stands = subst (λ l. Stands f next.left l) (sym (places-by 11 eleven)) (subst (λ fr. Stands f fr lent) (sym (point-leaves f frames c.call c.found h)) here);
        kept = ap (other_places f) (places-by 11 eleven);
      }

  with-room : room c.call c.found ≡ true → (k : ℕ) → first_failed (net_tests net c.call) ≡ k → Done f frames lent c
  unfolding lent_step answer_by step_of step_by
  with-room h zero e =
      let agrees = call-agrees f frames here.reached c.call in
      let number = number_is ∙ ap (λ b. first_failed (b else 11 ∷ net_tests net c.call)) h ∙ e in
      let answer = sym (ap (λ k. (step_by k net (accepted net c.call)).answer) e) ∙ agrees.answers in
      let left = sym (ap (λ k. (step_by k net (accepted net c.call)).left) e) ∙ agrees.nets in
      let places = places-by 0 number ∙ ap (λ n. put_net n lent) left in
      record {
        returned =
            returned-is (answer-by 0 number ∙ accepted-heard net c.call c.found ∙ answer) (found-by 0 number ∙ ap (λ a. put_at 0 (point_values a) c.found) answer)
            ∙ sym (expected-by c next.answer true h);
        stands = subst (λ l. Stands f next.left l) (sym places) (put-stands f next.left lent here.enough agrees.reached);
        kept = ap (other_places f) places ∙ put-kept f next.left lent here.enough agrees.reached;
      }
  with-room h (suc j) e =
      let agrees = call-agrees f frames here.reached c.call in
      let number = number_is ∙ ap (λ b. first_failed (b else 11 ∷ net_tests net c.call)) h ∙ e in
      let answer = sym (ap (λ k. (step_by k net (accepted net c.call)).answer) e) ∙ agrees.answers in
      let left = sym (ap (λ k. (step_by k net (accepted net c.call)).left) e) ∙ agrees.nets in
      let places = places-by (suc j) number in
      record {
        returned = returned-is (answer-by (suc j) number ∙ answer) (found-by (suc j) number ∙ ap (λ a. put_at 0 (point_values a) c.found) answer) ∙ sym (expected-by c next.answer true h);
        stands = subst (λ l. Stands f next.left l) (sym places) (record { net = here.net ∙ left; enough = here.enough; reached = agrees.reached });
        kept = ap (other_places f) places;
      }

  done : Done f frames lent c
  done = by (room c.call c.found) refl
    where
      by : (b : Bool) → room c.call c.found ≡ b → Done f frames lent c
      by true h = with-room h (first_failed (net_tests net c.call)) refl
      by false h = no_room h

-- ---- a list of calls

record Along (f : Polynomials) (frames : Frames) (lent : List ℤ) (calls : List LentCall) : Type 0 where
  returned : answers lent_step lent calls ≡ zip_with expected calls (answers (machine_step f) frames (map (λ c. c.call) calls))
  stands : Stands f (after (machine_step f) frames (map (λ c. c.call) calls)) (after lent_step lent calls)
  kept : other_places f (after lent_step lent calls) ≡ other_places f lent

along : (f : Polynomials) (frames : Frames) (lent : List ℤ) → Stands f frames lent → (calls : List LentCall) → Along f frames lent calls
unfolding after answers zip_with
along f frames lent here [] = record { returned = refl; stands = here; kept = refl }
along f frames lent here (c ∷ cs) =
    let one = done f frames lent here c in
    let rest = along f (machine_step f frames c.call).left (lent_step lent c).left one.stands cs in
    record { returned = ap₂ ◌∷◌ one.returned rest.returned; stands = rest.stands; kept = rest.kept ∙ one.kept }

-- ---- sizes

-- an accepted call's answer has no number of the table
accepted-number : (net : Net) (c : Call) → refusal_number (accepted net c).answer ≡ 0
unfolding accepted found_at
accepted-number net (call.Move operation vertex weights) = refl
accepted-number net (call.Point weights) = refl

-- so the number of a step's answer is that of the tests
step-number : (net : Net) (c : Call) (k : ℕ) → refusal_number (step_by k net (accepted net c)).answer ≡ k
unfolding step_by
step-number net c zero = accepted-number net c
step-number net c (suc k) = refl

lent-sized : (f : Polynomials) (frames : Frames) (lent : List ℤ) → Stands f frames lent → (c : LentCall)
    → room c.call c.found ≡ true → all_pass (machine_before f frames c.call) ≡ true
    → (call_number c.call lent c.found ≡ 10) ↔ Beyond f frames c.call
unfolding step_of step_by
lent-sized f frames lent here c h order =
    let net = net_over f frames in
    let k = first_failed (net_tests net c.call) in
    let number : call_number c.call lent c.found ≡ k =
    number_is f frames lent here c ∙ ap (λ b. first_failed (b else 11 ∷ net_tests net c.call)) h in
    let both = sized f frames here.reached c.call order in (
      λ ten. both.0 (ap (λ k. (step_by k net (accepted net c.call)).answer) (sym number ∙ ten)),
      λ beyond. number ∙ sym (step-number net c.call k) ∙ ap refusal_number (both.1 beyond),
    )

-- ---- the places of a net

-- the places by the groups, and a net's numbers in their order
abbrev places_over : List Group → List ℤ → List ℤ
places_over gs lent =
    take (3 + frame_count gs) lent ++ (slice 12 (12 + number_count gs) lent ++ slice 192 193 lent)

abbrev head_of : Net → List ℤ
head_of net = pos net.kind ∷ pos net.degree ∷ pos net.second ∷ []

abbrev numbers_of_net : Net → List ℤ
numbers_of_net net = head_of net ++ (numbers_of net.frames ++ (net.entries ++ (net.largest ∷ [])))

-- the net that is read has the numbers of its places
read-numbers : (lent : List ℤ) → enough_places lent ≡ true
    → known (net_at lent).kind (net_at lent).degree (net_at lent).second ≡ true
    → places_over (net_groups (net_at lent)) lent ≡ numbers_of_net (net_at lent)
unfolding net_at
read-numbers lent enough right =
    ap₂ ◌++◌ frame-read (ap₂ ◌++◌ entries-read largest-read)
    ∙ append_assoc (head_of net) (numbers_of net.frames) (net.entries ++ (net.largest ∷ []))
  where
    net : Net
    net = net_at lent

    gs : List Group
    gs = net_groups (net_at lent)

    long : 193 ≤ length lent
    long = leb-true 193 (length lent) enough

    frame-there : frame_count gs ≤ length (drop 3 lent)
    frame-there =
        let few = frame-few net.kind net.degree net.second in
        let l = long in
        simp length-drop (omega arith)

    frame-read : take (3 + frame_count gs) lent ≡ head_of net ++ numbers_of net.frames
    frame-read =
        take-add 3 (frame_count gs) lent
        ∙ ap₂ ◌++◌ (sym (head-stood lent enough right)) (sym (numbers-back gs (drop 3 lent) frame-there))

    entries-read : slice 12 (12 + number_count gs) lent ≡ take (number_count gs) (drop 12 lent)
    entries-read =
        drop-take 12 (12 + number_count gs) lent ∙ ap (λ k. take k (drop 12 lent)) (past (number_count gs))
      where
        past : (n : ℕ) → 12 + n - 12 ≡ n
        past n = omega arith

    largest-read : slice 192 193 lent ≡ get_or lent 192 (pos 0) ∷ []
    largest-read =
        slice-cons 192 193 lent (pos 0) (lit≤ tt) long
        ∙ ap (λ l. get_or lent 192 (pos 0) ∷ l) (slice_empty 193 lent)

-- so has the net over frames, where that stands
stands-numbers : (f : Polynomials) (frames : Frames) (lent : List ℤ) → Stands f frames lent
    → net_places f lent ≡ numbers_of_net (net_over f frames)
unfolding net_over
stands-numbers f frames lent here =
    subst (λ net. places_over (net_groups net) lent ≡ numbers_of_net net) here.net
    (read-numbers lent here.enough right)
  where
    right : known (net_at lent).kind (net_at lent).degree (net_at lent).second ≡ true
    right =
        subst (λ net. known net.kind net.degree net.second ≡ true) (sym here.net)
        here.reached.right

same-net : (f : Polynomials) (frames : Frames) (one two : List ℤ) → Stands f frames one → Stands f frames two
    → SameNet f one two
same-net f frames one two here there =
    record {
      nets = here.net ∙ sym there.net;
      places = stands-numbers f frames one here ∙ sym (stands-numbers f frames two there);
      further = λ more.
          (along f frames one here more).returned ∙ sym (along f frames two there more).returned;
    }

-- ---- the theorem

-- from any first net in the places
module _ (f : Polynomials) (numbers lent places : List ℤ) (first : FirstNetIn f numbers lent places) where
  abbrev start : Frames
  start = frames_of (groups f) numbers

  reached : Reached f start
  reached = start-reached f numbers first.accepted

  start-stands : Stands f start places
  start-stands =
      subst (λ l. Stands f start l) (sym first.written) (put-stands f start lent first.enough reached)

  start-kept : other_places f places ≡ other_places f lent
  start-kept = ap (other_places f) first.written ∙ put-kept f start lent first.enough reached

  all : (calls : List LentCall) → Along f start places calls
  all = along f start places start-stands

  -- what comes back from a further call
  pub carried-further : (calls : List LentCall) (c : LentCall)
      → (lent_step (after lent_step places calls) c).answer
      ≡ expected c (machine_step f (lent_frames f numbers calls) c.call).answer
  carried-further calls c =
      (done f (lent_frames f numbers calls) (after lent_step places calls) (all calls).stands c).returned

pub carried : (f : Polynomials) (numbers lent places : List ℤ) → FirstNetIn f numbers lent places
    → (calls : List LentCall) → LentGuaranteed f numbers lent places calls
carried f numbers lent places first calls =
    let here = all f numbers lent places first calls in
    record {
      net = here.stands.net;
      returned = here.returned;
      sized = lent-sized f (lent_frames f numbers calls) (after lent_step places calls) here.stands;
      same = λ their_numbers their_lent their_places theirs their_calls is.
          let there = all f their_numbers their_lent their_places theirs their_calls in
          same-net f (lent_frames f numbers calls) _ _
          (subst (λ frames. Stands f frames (after lent_step their_places their_calls)) is there.stands)
          here.stands;
      kept = here.kept ∙ start-kept f numbers lent places first;
    }

-- a first net that was made stands in the places
pub made-first : (kind degree second : ℕ) (frame coefficients lent : List ℤ)
    → made_number kind degree second frame coefficients lent ≡ 0
    → FirstNetIn (polynomials_from kind degree second coefficients) (take 9 frame) lent
    (made_places kind degree second frame coefficients lent)
unfolding made_number made_places first_refusal first_tests
made-first kind degree second frame coefficients lent ok =
    let f = polynomials_from kind degree second coefficients in
    let numbers = take 9 frame in
    let tests = leb 9 (length frame) else 11 ∷ leb 180 (length coefficients) else 11 ∷ enough_places lent else 11 ∷ first_tests f numbers in
    let passed = (none-failed tests refl).0 ok in
    record {
      accepted = (none-failed (first_tests f numbers) refl).1 (rest-passes tests passed 3);
      enough = row-passes tests passed 2;
      written = ap (λ k. unless_refused k (put_net (first_net f numbers) lent) lent) ok;
    }

pub demand-3-lent : Demand3Lent
demand-3-lent kind degree second frame coefficients lent ok =
    carried (polynomials_from kind degree second coefficients) (take 9 frame) lent
    (made_places kind degree second frame coefficients lent)
    (made-first kind degree second frame coefficients lent ok)
