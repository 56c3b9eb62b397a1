-- The net over frames, seen by the net machine: its entries fix the polar values of its polynomials, so it refuses what the comparison machine refuses,
-- and an accepted call leaves the net over the frames that the comparison machine reaches.
use Prim.Native.Nat.{ℕ, zero, suc, pred, ◌-◌, ◌<◌}
use native.Mathlib.Nat.{not-suc-le-zero}
use native.Mathlib.Omega.{arith}
use mathlib.Core.Path.{◌≡◌, refl, sym, ap, ap₂, ◌∙◌}
use mathlib.Core.Bool.{Bool, true, false, ◌&&◌, cond}
use mathlib.Core.List.Memᴰ
use mathlib.Core.List.{List, [], ◌∷◌, ◌++◌, map, Memᴰ}
use lib.Dec.{eqb, leb, lit≤}
use lib.IntN.{ℤ, pos, neg_ℤ}
use lib.ListN.{length, get_or}
use borrow.Author.Tests.{leb-true, leb-false}
use Rattle.integers.specs.Sum.{upto}
use Rattle.integers.specs.Largest.{largest_of}
use Rattle.integers.proofs.Sums.{upto-below, below-upto}
use Rattle.polar.specs.Groups.{Group, counts_over, monomials_over}
use Rattle.polar.specs.Polar.{terms}
use Rattle.polar.proofs.Order.{all-joined}
use Rattle.polar.proofs.Value.{polar-diagonal}
use Rattle.entries.specs.Frame.{vertex_at, entry_points_over, points_over, put_over}
use Rattle.entries.specs.Entries.{listed_over, signed, as_q, only_q, flipped_over}
use Rattle.entries.proofs.Signs.{signed-unseen}
use Rattle.entries.proofs.Groups.{Counted, Named, Framed, Forms, polar-forms, fixes-over, putting-over, flipping-over, points-long, named-as, named-only, only-taken}
use Rattle.entries.proofs.ListedOver.{member-over, counts-over, length-listed-over, entry-listed-over, listed-over-cong}
use Rattle.projection.specs.Projection.{in_range}
use Rattle.machine.specs.Refusals.{◌else◌, first_failed, all_pass, numbered}
use Rattle.integers.specs.Test.{all}
use Rattle.integers.proofs.All.{all-passes, all-at, all_append, all-cong, all_map, and_parts}
use Rattle.kinds.specs.Kinds.{known}
use Rattle.kinds.specs.Frames.{vertex_count, Frames, numbers_of}
use Rattle.machine.specs.Calls.{group_at, own_at, weights_for, own_tests}
use Rattle.machine.specs.Frames.{points_of, frames_after, new_numbers}
use Rattle.machine.specs.Sizes.{named_by_replace, named_by, all_named, before_size, call_tests}
use Rattle.machine.specs.Projected.{named_at_zero}
use Rattle.machine.specs.Steps.{four_of, found_at, step_by}
use Rattle.machine.specs.Nets.{Net, net_groups, entry, net_polar, net_four, net_in_range, handed_tests, judged_numbers, net_tests, entries_after, accepted, step_of}
use Rattle.machine.specs.Comparison.{Polynomials, groups, polar_of, scaled_value, machine_polar, machine_four, machine_tests, machine_accepted, machine_step, net_over}
use Rattle.machine.specs.declared.Weights.{Weights}
use Rattle.machine.specs.declared.Call.{Call}
use Rattle.machine.specs.declared.Call.TheVariants as call
use Rattle.machine.proofs.Refusals.{none-failed, all-pass-append, row-passes}
use Rattle.machine.proofs.Names.{by-replace, by-point, at-zero-named, as-named}
use Rattle.machine.proofs.Frames.{framed-after, in-range-neg, in-range-after}
use Rattle.machine.proofs.LargestAfter.{moved-largest}

pub four-cong : (p q : ℕ → ℤ) → ((c : ℕ) → c < 4 → p c ≡ q c) → four_of p ≡ four_of q
four-cong p q h = λ i. record { x = e0 i; y = e1 i; z = e2 i; w = e3 i }
  where
    e0 : p 0 ≡ q 0
    e0 = h 0 (lit≤ tt)

    e1 : p 1 ≡ q 1
    e1 = h 1 (lit≤ tt)

    e2 : p 2 ≡ q 2
    e2 = h 2 (lit≤ tt)

    e3 : p 3 ≡ q 3
    e3 = h 3 (lit≤ tt)

-- functions that agree on the members of a list
pub map-among : {A B : Type 0} (f g : A → B) (xs : List A) → ((x : A) → Memᴰ x xs → f x ≡ g x) → map f xs ≡ map g xs
map-among f g [] h = refl
map-among f g (x ∷ xs) h = ap₂ ◌∷◌ (h x (Memᴰ.head refl)) (map-among f g xs (λ y m. h y (Memᴰ.tail m)))

-- ---- vertices

-- a vertex stands in the frame of its group
pub located : (gs : List Group) (frames : Frames) → Framed gs frames → (v : ℕ) → v < vertex_count gs → (group_at gs v < length gs) × (own_at gs v < length (get_or frames (group_at gs v) []))
located [] frames long v h = absurd (not-suc-le-zero h)
located (g ∷ gs) [] long v h = absurd long
located (g ∷ gs) (frame ∷ frames) long v h = by (leb v g.dimension) refl (λ k. located gs frames long.2 (v - suc g.dimension) k)
  where
    by : (b : Bool) → leb v g.dimension ≡ b
        → (v - suc g.dimension < vertex_count gs → (group_at gs (v - suc g.dimension) < length gs) × (own_at gs (v - suc g.dimension) < length (get_or frames (group_at gs (v - suc g.dimension)) [])))
        → (cond b 0 (suc (group_at gs (v - suc g.dimension))) < suc (length gs))
        × (cond b v (own_at gs (v - suc g.dimension)) < length (get_or (frame ∷ frames) (cond b 0 (suc (group_at gs (v - suc g.dimension)))) []))
    by true p rest = let low = leb-true v g.dimension p in let l = long.0 in (omega arith, omega arith)
    by false p rest =
        let high = leb-false v g.dimension p in
        let r = rest (omega arith) in
        let one = r.0 in
        (omega arith, r.1)

-- ---- the size rule

-- what a call names are counts of q and the vertices
pub by_call : (gs : List Group) (c : Call) (es : List (List ℕ)) → Memᴰ es (named_by gs c) → Named gs es
unfolding named_by
by_call gs (call.Move operation vertex weights) es m = by (eqb operation 1) m
  where
    by : (b : Bool) → Memᴰ es (cond b (named_by_replace gs (group_at gs (pred vertex))) []) → Named gs es
    by true k = by-replace gs (group_at gs (pred vertex)) es k
    by false k = absurd (Memᴰ.not-nil k)
by_call gs (call.Point weights) es m = by-point gs es m

-- functions that agree on the named values have the same sizes
pub named-cong : (names : List (List (List ℕ))) (P Q : ℕ → List (List ℕ) → ℤ) → ((c : ℕ) (es : List (List ℕ)) → c < 4 → Memᴰ es names → P c es ≡ Q c es) → all_named names P ≡ all_named names Q
unfolding all_named
named-cong names P Q agree =
    all-cong (λ es. all (λ c. in_range (P c es)) (upto 4)) (λ es. all (λ c. in_range (Q c es)) (upto 4)) names
    (λ es j. all-cong (λ c. in_range (P c es)) (λ c. in_range (Q c es)) (upto 4) (λ c k. ap in_range (agree c es (upto-below 4 c k) j)))

-- a named value is in range where all are
pub named-at : (names : List (List (List ℕ))) (P : ℕ → List (List ℕ) → ℤ) → all_named names P ≡ true → (c : ℕ) (es : List (List ℕ)) → c < 4 → Memᴰ es names → in_range (P c es) ≡ true
unfolding all_named
named-at names P ok c es k m = all-at (λ i. in_range (P i es)) (upto 4) (all-at (λ r. all (λ i. in_range (P i r)) (upto 4)) names ok es m) c (below-upto 4 c k)

-- a listed net is in range exactly when its entries are
pub listed_in : (gs : List Group) (g : ℕ → List (List ℕ) → ℤ) → ((c : ℕ) (es : List (List ℕ)) → c < 4 → Counted gs es → in_range (g c es) ≡ true) → all in_range (listed_over gs g) ≡ true
unfolding listed_over
listed_in gs g ok =
    all-joined in_range (λ e. map (λ c. g c e) (upto 4)) (counts_over gs)
    ∙ all-passes (λ e. all in_range (map (λ c. g c e) (upto 4))) (counts_over gs)
    (λ e j. all_map in_range (λ c. g c e) (upto 4) ∙ all-passes (λ c. in_range (g c e)) (upto 4) (λ c k. ok c e (upto-below 4 c k) (counts-over gs e j)))

pub listed-in-at : (gs : List Group) (g : ℕ → List (List ℕ) → ℤ) → all in_range (listed_over gs g) ≡ true → (c : ℕ) (es : List (List ℕ)) → c < 4 → Counted gs es → in_range (g c es) ≡ true
unfolding listed_over
listed-in-at gs g ok c es k counted =
    all-at (λ i. in_range (g i es)) (upto 4)
    (sym (all_map in_range (λ i. g i es) (upto 4))
    ∙ all-at (λ r. all in_range (map (λ i. g i r) (upto 4))) (counts_over gs) (sym (all-joined in_range (λ r. map (λ i. g i r) (upto 4)) (counts_over gs)) ∙ ok) es (member-over gs es counted))
    c (below-upto 4 c k)

-- a replace of any net whose named values are in range leaves entries in range
pub replaced-in : (net : Net) (vertex : ℕ) (weights : Weights) → group_at (net_groups net) (pred vertex) < length (net_groups net)
    → all_named (named_by (net_groups net) (call.Move 1 vertex weights)) (net_polar net (call.Move 1 vertex weights)) ≡ true → all in_range (entries_after net 1 vertex weights) ≡ true
unfolding entries_after named_by
replaced-in net vertex weights there named =
    let gs = net_groups net in
    let i = group_at gs (pred vertex) in
    let v = own_at gs (pred vertex) in
    let move = call.Move 1 vertex weights in
    listed_in gs (λ c es. net_polar net move c (as_q i v es))
    (λ c es k counted. named-at (named_by_replace gs i) (net_polar net move) named c (as_q i v es) k (as-named gs i v es there counted))

-- a net that is not refused as handed is judged by the call's own tests, by the numbers of a replace's q, and by the size
pub judged : (net : Net) → known net.kind net.degree net.second ≡ true → net_in_range net ≡ true → all in_range (numbers_of net.frames) ≡ true → (c : Call)
    → first_failed (net_tests net c) ≡ first_failed (call_tests (net_groups net) c (new_numbers (net_groups net) net.frames c) (net_polar net c))
unfolding net_tests handed_tests judged_numbers call_tests before_size
judged net right fits near c =
    let gs = net_groups net in
    let new = new_numbers gs net.frames c in
    ap₂ (λ a b. first_failed (a else 4 ∷ b else 10 ∷ call_tests gs c (numbers_of net.frames ++ new) (net_polar net c))) right fits
    ∙ ap (λ a. first_failed ((own_tests gs c ++ (a else 12 ∷ [])) ++ (all_named (named_by gs c) (net_polar net c) else 10 ∷ [])))
    (all_append in_range (numbers_of net.frames) new ∙ ap (λ b. b && all in_range new) near)

-- ---- the net over frames

module _ (f : Polynomials) (frames : Frames) (long : Framed (groups f) frames) where
  abbrev gs : List Group
  gs = groups f

  abbrev net : Net
  net = net_over f frames

  forms : (c : ℕ) → Forms gs (polar_of f c)
  unfolding polar_of
  forms c = polar-forms gs (terms c (monomials_over gs) f.coefficients)

  -- its entries are polar values
  entry-is : (c : ℕ) (es : List (List ℕ)) → c < 4 → Counted gs es → entry net c es ≡ polar_of f c (entry_points_over frames es)
  unfolding net_over
  entry-is c es k counted = entry-listed-over gs (λ i x. polar_of f i (entry_points_over frames x)) c es k counted

  -- what its entries fix is what its polynomials give
  polar-is : (call : Call) (c : ℕ) (es : List (List ℕ)) → c < 4 → Named gs es → net_polar net call c es ≡ machine_polar f frames call c es
  unfolding net_polar machine_polar points_of net_over
  polar-is call c es k named = fixes-over gs (polar_of f c) (forms c) frames long (weights_for gs call) (entry net c) (λ r counted. entry-is c r k counted) es named

  -- ---- refusals

  sizes-agree : (call : Call) → all_named (named_by gs call) (net_polar net call) ≡ all_named (named_by gs call) (machine_polar f frames call)
  sizes-agree call = named-cong (named_by gs call) (net_polar net call) (machine_polar f frames call) (λ c es k m. polar-is call c es k (by_call gs call es m))

  refusals-agree : known f.kind f.degree f.second ≡ true → net_in_range net ≡ true → all in_range (numbers_of frames) ≡ true → (call : Call)
      → first_failed (net_tests net call) ≡ first_failed (machine_tests f frames call)
  unfolding machine_tests call_tests net_over
  refusals-agree right fits near call =
      judged net right fits near call ∙ ap (λ b. first_failed (before_size gs call (new_numbers gs frames call) ++ (b else 10 ∷ []))) (sizes-agree call)

  -- ---- accepted calls

  -- entries that are polar values over other frames, with the largest component of them, make the net over those frames
  over-frames : (other : Frames) (entries : List ℤ) (largest : ℤ) → entries ≡ (net_over f other).entries → largest ≡ pos (largest_of entries)
      → record { kind = f.kind; degree = f.degree; second = f.second; frames = other; entries = entries; largest = largest } ≡ net_over f other
  unfolding net_over
  over-frames other entries largest e l =
      let right = l ∙ ap (λ xs. pos (largest_of xs)) e in
      λ i. record { kind = f.kind; degree = f.degree; second = f.second; frames = other; entries = e i; largest = right i }

  -- vertex v of group i put to another point, by whether the call is a replace
  abbrev moved : Bool → ℕ → ℕ → Call → Frames
  moved b i v call = put_over i v (cond b (get_or (points_of gs frames call) i []) (map neg_ℤ (vertex_at (get_or frames i []) v))) frames

  moved-is : (b : Bool) (i v : ℕ) → v < length (get_or frames i []) → (call : Call) (c : ℕ) (es : List (List ℕ)) → c < 4 → Counted gs es
      → cond b (net_polar net call c (as_q i v es)) (flipped_over i v (entry net c) es) ≡ polar_of f c (entry_points_over (moved b i v call) es)
  unfolding machine_polar points_of
  moved-is true i v h call c es k counted =
      polar-is call c (as_q i v es) k (named-as gs i v es counted)
      ∙ sym (putting-over gs (polar_of f c) (forms c) frames long (points_over gs (weights_for gs call) frames) (points-long gs (weights_for gs call) frames) i v h es counted)
  moved-is false i v h call c es k counted =
      ap (signed (get_or (get_or es i []) v 0)) (entry-is c es k counted)
      ∙ sym (flipping-over gs (polar_of f c) (forms c) frames long i v h es counted)

  -- the found point is L × F(q)
  point-is : (call : Call) → net_four net call (only_q gs) ≡ four_of (scaled_value f (points_of gs frames call))
  unfolding net_four scaled_value machine_polar points_of polar_of
  point-is call =
      let qs = points_over gs (weights_for gs call) frames in
      four-cong (λ c. net_polar net call c (only_q gs)) (scaled_value f (points_of gs frames call))
      (λ c k.
      polar-is call c (only_q gs) k (named-only gs)
      ∙ ap (polar_of f c) (only-taken gs qs frames (points-long gs (weights_for gs call) frames))
      ∙ polar-diagonal gs qs c f.coefficients)

  -- and the values one of which is projected at a common zero are those of the polynomials
  at-zero-is : (call : Call) (s : ℤ) → map (net_four net call) (named_at_zero gs s) ≡ map (machine_four f frames call) (named_at_zero gs s)
  unfolding net_four machine_four
  at-zero-is call s =
      map-among (net_four net call) (machine_four f frames call) (named_at_zero gs s)
      (λ es m. four-cong (λ c. net_polar net call c es) (λ c. machine_polar f frames call c es) (λ c k. polar-is call c es k (by-point gs es (at-zero-named gs s es m))))

  -- ---- ranges

  in-range-over : (other : Frames) → ((c : ℕ) (es : List (List ℕ)) → c < 4 → Counted gs es → in_range (polar_of f c (entry_points_over other es)) ≡ true) → net_in_range (net_over f other) ≡ true
  unfolding net_over
  in-range-over other ok = listed_in gs (λ c es. polar_of f c (entry_points_over other es)) ok

  -- a move whose named values are in range leaves a net in range
  moved_in : (b : Bool) (i v : ℕ) → i < length gs → v < length (get_or frames i []) → (call : Call) → net_in_range net ≡ true
      → all_named (cond b (named_by_replace gs i) []) (machine_polar f frames call) ≡ true → net_in_range (net_over f (moved b i v call)) ≡ true
  unfolding net_over
  moved_in b i v j h call fits ok =
      in-range-over (moved b i v call) (λ c es k counted. ap in_range (sym (moved-is b i v h call c es k counted)) ∙ by b ok c es k counted)
    where
      by : (b : Bool) → all_named (cond b (named_by_replace gs i) []) (machine_polar f frames call) ≡ true → (c : ℕ) (es : List (List ℕ)) → c < 4 → Counted gs es
          → in_range (cond b (net_polar net call c (as_q i v es)) (flipped_over i v (entry net c) es)) ≡ true
      by true named c es k counted =
          ap in_range (polar-is call c (as_q i v es) k (named-as gs i v es counted))
          ∙ named-at (named_by_replace gs i) (machine_polar f frames call) named c (as_q i v es) k (as-named gs i v es j counted)
      by false named c es k counted =
          signed-unseen in_range in-range-neg (get_or (get_or es i []) v 0) (entry net c es)
          ∙ ap in_range (entry-is c es k counted)
          ∙ listed-in-at gs (λ a x. polar_of f a (entry_points_over frames x)) fits c es k counted

-- ---- one call

-- what holds of all frames that are reached: their net is one that the net machine does not refuse as handed
pub record Reached (f : Polynomials) (frames : Frames) : Type 0 where
  pub long : Framed (groups f) frames
  pub right : known f.kind f.degree f.second ≡ true
  pub fits : net_in_range (net_over f frames) ≡ true
  pub near : all in_range (numbers_of frames) ≡ true

-- the net machine's step on the net over frames is the comparison machine's step on the frames
pub record Agrees (f : Polynomials) (frames : Frames) (c : Call) : Type 0 where
  pub answers : (step_of (net_over f frames) c).answer ≡ (machine_step f frames c).answer
  pub nets : (step_of (net_over f frames) c).left ≡ net_over f (machine_step f frames c).left
  pub reached : Reached f (machine_step f frames c).left

-- a call that is not refused passed its own tests, that of the frame numbers and that of its size
pub call-passed : (gs : List Group) (c : Call) (numbers : List ℤ) (P : ℕ → List (List ℕ) → ℤ) → first_failed (call_tests gs c numbers P) ≡ 0
    → (all_pass (own_tests gs c) ≡ true) × (all in_range numbers ≡ true) × (all_named (named_by gs c) P ≡ true)
unfolding call_tests before_size own_tests
call-passed gs c numbers P h =
    let near = all in_range numbers else 12 ∷ [] in
    let size = all_named (named_by gs c) P else 10 ∷ [] in
    let both = and_parts (all_pass (own_tests gs c ++ near)) (all_pass size) (sym (all-pass-append (own_tests gs c ++ near) size) ∙ (none-failed ((own_tests gs c ++ near) ++ size) (rows c)).0 h) in
    let first = and_parts (all_pass (own_tests gs c)) (all_pass near) (sym (all-pass-append (own_tests gs c) near) ∙ both.0) in
    (first.0, (and_parts (all in_range numbers) true first.1).0, (and_parts (all_named (named_by gs c) P) true both.1).0)
  where
    rows : (c : Call) → numbered ((own_tests gs c ++ (all in_range numbers else 12 ∷ [])) ++ (all_named (named_by gs c) P else 10 ∷ [])) ≡ true
    rows (call.Move operation vertex weights) = refl
    rows (call.Point weights) = refl

pred-below : (n vertex : ℕ) → leb 1 vertex ≡ true → leb vertex n ≡ true → pred vertex < n
pred-below n vertex a b = let low = leb-true 1 vertex a in let high = leb-true vertex n b in omega arith

-- the number of a vertex that is not outside
vertex-below : (gs : List Group) (operation vertex : ℕ) (weights : Weights) → all_pass (own_tests gs (call.Move operation vertex weights)) ≡ true → pred vertex < vertex_count gs
unfolding own_tests
vertex-below gs operation vertex weights h =
    let ends = and_parts (leb 1 vertex) (leb vertex (vertex_count gs)) (row-passes (own_tests gs (call.Move operation vertex weights)) h 1) in
    pred-below (vertex_count gs) vertex ends.0 ends.1

module _ (f : Polynomials) (frames : Frames) (at : Reached f frames) where
  -- an accepted call does what the comparison machine does
  done : (c : Call) → first_failed (machine_tests f frames c) ≡ 0
      → ((accepted (net_over f frames) c).answer ≡ (machine_accepted f frames c).answer)
      × ((accepted (net_over f frames) c).left ≡ net_over f (machine_accepted f frames c).left)
      × Reached f (machine_accepted f frames c).left
  unfolding accepted entries_after machine_accepted machine_tests frames_after net_over named_by
  done (call.Move operation vertex weights) r =
      let gs = groups f in
      let c = call.Move operation vertex weights in
      let b = eqb operation 1 in
      let i = group_at gs (pred vertex) in
      let v = own_at gs (pred vertex) in
      let passed = call-passed gs c (new_numbers gs frames c) (machine_polar f frames c) r in
      let here = located gs frames at.long (pred vertex) (vertex-below gs operation vertex weights passed.0) in (
        refl,
        over-frames f frames at.long (frames_after gs frames c) _ _ (listed-over-cong gs _ _ (moved-is f frames at.long b i v here.1 c))
            (moved-largest (net_over f frames) (length-listed-over gs _) refl operation vertex weights),
        record {
          long = framed-after gs frames c at.long;
          right = at.right;
          fits = moved_in f frames at.long b i v here.0 here.1 c at.fits passed.2;
          near = in-range-after gs frames c at.near passed.1;
        },
      )
  done (call.Point weights) r =
      (ap₂ found_at (point-is f frames at.long (call.Point weights)) (at-zero-is f frames at.long (call.Point weights) weights.s), refl, at)

  -- a refused one leaves net and frames
  by_number : (c : Call) (k : ℕ) → first_failed (machine_tests f frames c) ≡ k
      → ((step_by k (net_over f frames) (accepted (net_over f frames) c)).answer ≡ (step_by k frames (machine_accepted f frames c)).answer)
      × ((step_by k (net_over f frames) (accepted (net_over f frames) c)).left ≡ net_over f (step_by k frames (machine_accepted f frames c)).left)
      × Reached f (step_by k frames (machine_accepted f frames c)).left
  unfolding step_by
  by_number c zero r = done c r
  by_number c (suc k) r = (refl, refl, at)

  pub call-agrees : (c : Call) → Agrees f frames c
  unfolding step_of machine_step
  call-agrees c =
      let agree = refusals-agree f frames at.long at.right at.fits at.near c in
      let both = by_number c (first_failed (machine_tests f frames c)) refl in
      record {
        answers = ap (λ k. (step_by k (net_over f frames) (accepted (net_over f frames) c)).answer) agree ∙ both.0;
        nets = ap (λ k. (step_by k (net_over f frames) (accepted (net_over f frames) c)).left) agree ∙ both.1;
        reached = both.2;
      }
