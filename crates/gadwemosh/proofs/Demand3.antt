-- Demand 3 carried to the exported calls: a first net is in the places, that of an opened record or of polynomials over a frame, so that machine's theorem on lent places speaks of them.
use Prim.Native.Nat.{ℕ, ◌≤◌}
use mathlib.Core.Path.{◌≡◌, sym, ap, subst, ◌∙◌}
use mathlib.Core.Bool.{true}
use mathlib.Core.List.{List, map}
use borrow.Author.Tests.{le-leb}
use lib.IntN.{ℤ}
use lib.ListN.{length}
use Rattle.projection.specs.Projection.{found_projection}
use Rattle.projection.specs.declared.Projection.{Projection}
use Rattle.machine.specs.declared.Weights.{Weights}
use Rattle.machine.specs.declared.Call.TheVariants.{Point}
use Rattle.machine.specs.Comparison.{machine_step}
use Rattle.machine.specs.Lent.{put_net, unless_refused, call_found}
use Rattle.machine.specs.Carried.{LentCall, four_at, lent_step, expected, FirstNetIn, SameNet, lent_frames}
use Rattle.machine.specs.Carried.{LentGuaranteed}
use Rattle.machine.proofs.Lent.{point-stands, found-length}
use Rattle.machine.proofs.Carried.{found-projection, expected-by, carried, carried-further, made-first}
use Rattle.opening.specs.Opening.{first_net_from, places_in}
use Rattle.opening.proofs.Records.{opened-none, accepted-numbers}
use Rattle.gadwemosh.specs.Calls.{four_weights}
use Rattle.gadwemosh.specs.Projections.{projection_returned, found_returned}
use Rattle.gadwemosh.proofs.Places.{found-enough}
use Rattle.gadwemosh.specs.Demand3.{Start, opened, made, start_polynomials, start_numbers, start_lent}
use Rattle.gadwemosh.specs.Demand3.{start_places, Exported, lent_call, places_reached, machine_frames}
use Rattle.gadwemosh.specs.Demand3.{Demand3Exported}

-- a first net stands in the places, whichever call gave it
start_first : (start : Start)
    → FirstNetIn (start_polynomials start) (start_numbers start) (start_lent start) (start_places start)
unfolding places_in
start_first (opened input lent none) =
    let parts = opened-none input lent none in
    record {
      accepted = accepted-numbers input parts.1;
      enough = parts.0;
      written = ap (λ k. unless_refused k (put_net (first_net_from input) lent) lent) none;
    }
start_first (made kind degree second frame coefficients lent none) =
    made-first kind degree second frame coefficients lent none

-- so machine's theorem speaks of it
start-guaranteed : (start : Start) (calls : List Exported)
    → LentGuaranteed (start_polynomials start) (start_numbers start) (start_lent start) (start_places start)
    (map lent_call calls)
start-guaranteed start calls =
    carried (start_polynomials start) (start_numbers start) (start_lent start) (start_places start)
    (start_first start) (map lent_call calls)

-- two callers with the same polynomials
same-polynomials : (start theirs : Start) (calls their_calls : List Exported)
    → start_polynomials theirs ≡ start_polynomials start
    → machine_frames theirs their_calls ≡ machine_frames start calls
    → SameNet (start_polynomials start) (places_reached theirs their_calls) (places_reached start calls)
same-polynomials start theirs calls their_calls is =
    subst
    (λ g.
    FirstNetIn g (start_numbers theirs) (start_lent theirs) (start_places theirs)
    → lent_frames g (start_numbers theirs) (map lent_call their_calls) ≡ machine_frames start calls
    → SameNet (start_polynomials start) (places_reached theirs their_calls) (places_reached start calls))
    (sym is)
    (λ first.
    (start-guaranteed start calls).same (start_numbers theirs) (start_lent theirs) (start_places theirs) first
    (map lent_call their_calls))
    (start_first theirs)

-- the places lent for a point stay as many, so its projection is found in them
returned : (w : Weights) (lent found : List ℤ) (bits : List ℕ) (direction : List ℤ) {at : Projection} → 8 ≤ length found
    → found_projection (four_at 0 (call_found (Point w) lent found)) (four_at 4 (call_found (Point w) lent found)) ≡ at
    → found_returned (call_found (Point w) lent found) bits direction ≡ projection_returned at bits direction
returned w lent found bits direction enough is =
    sym (found-enough (call_found (Point w) lent found) bits direction (subst (λ n. 8 ≤ n) (sym (found-length w lent found enough)) enough))
    ∙ ap (λ p. projection_returned p bits direction) is

pub demand-3-exported : Demand3Exported
unfolding lent_step
demand-3-exported start calls =
    record {
      guaranteed = start-guaranteed start calls;
      same = λ theirs is their_calls. same-polynomials start theirs calls their_calls is;
      point_keeps = λ r s t u found. point-stands (four_weights r s t u) (places_reached start calls) found;
      projected = λ r s t u found bits direction answered enough.
          let c = lent_call (Exported.point r s t u found) in
          let answer = further c ∙ expected-by c _ true (le-leb 8 (length found) enough) in
          returned (four_weights r s t u) (places_reached start calls) found bits direction enough
          (found-projection _ c.call _ (ap (λ r. r.answer) answer ∙ answered));
    }
  where
    further : (c : LentCall)
        → (lent_step (places_reached start calls) c).answer
        ≡ expected c (machine_step (start_polynomials start) (machine_frames start calls) c.call).answer
    further =
        carried-further (start_polynomials start) (start_numbers start) (start_lent start) (start_places start)
        (start_first start) (map lent_call calls)
