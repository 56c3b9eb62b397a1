-- Where all chunks that are looked at pass, every number does, since one that the part does not have is 0;
-- and a chunk that does not is a number.
use Rattle.std.proofs.Common.{◌≡◌, ℕ, zero, suc, refl, ltb, drop, ◌+◌, ◌*◌, ◌/◌, ◌^◌, ◌<◌, ◌≤◌, Bool, true, false, List, [], length, get_or, take, nat_abs, MatchBool, sym, ap, ◌∙◌, arith, rules, tests}
use Rattle.std.specs.List.{AllWithin, HoldsAt, slice_index}
use Rattle.std.specs.Simd.{first_chunks}
use Rattle.std.proofs.lemmas.Iterator.{cases_from_all, YieldsList-from_slice, YieldsList-from_take}
use mir.Syntax.{w8, w32}
use mir.Val.{Fits, to_z}
use Rattle.integers.specs.Test.{within, all}
use Rattle.decoding.specs.Numbers.{number_at, numbers_to}
use borrow.Author.Tests.{ltb-true, ltb-false, le-leb, lt-leb}
use Rattle.std.proofs.lemmas.List.{get_or-take, length-take}
use Rattle.decoding.proofs.Chunks.{chunk, four-read, read-there}
use Rattle.decoding.proofs.Numbers.{number-lacking, each-passes, one-fails}
use Rattle.decoding.proofs.coefficients_within.Goals as goal

abbrev size : List ℕ → ℕ
size b = nat_abs (to_z w32 (slice_index b 0 * 256 ^ 3 + slice_index b 1 * 256 ^ 2 + slice_index b 2 * 256 + slice_index b 3))

long : (n m : ℕ) (part : List ℕ) → length (first_chunks n m part) ≡ m
long n zero part = refl
long n (suc m) part = ap suc (long n m (drop n part))

module _ (part : List ℕ) (count limit : ℕ) (f : (i : ℕ) → Fits w8 (get_or part i 0)) where
  abbrev looked_at : List (List ℕ)
  looked_at = take count (first_chunks 4 (length part / 4) part)

  size-is : (k : ℕ) → k < count → k < length part / 4 → size (get_or looked_at k []) ≡ nat_abs (number_at 4 part k)
  size-is k b there =
      let got = chunk 4 part k (omega arith) (get_or-take count (first_chunks 4 (length part / 4) part) k [] b) there f in
      ap nat_abs (read-there got (four-read _ got.long got.fits))

  both : (k : ℕ) → k < length looked_at → (k < count) × (k < length part / 4)
  both k h =
      let m = long 4 (length part / 4) part in
      let l = length-take {A = List ℕ} count (first_chunks 4 (length part / 4) part) in
      (omega arith, omega arith)

  decided : (r : Bool)
      → MatchBool r (AllWithin (λ b. size b ≤ limit) looked_at 0 (length looked_at)) ((k : ℕ) × (k < length looked_at) × HoldsAt (λ b. limit < size b) looked_at k)
      → r ≡ all (within limit) (numbers_to count (number_at 4 part))
  decided true h = sym (each-passes (within limit) count (number_at 4 part) (λ k b. by k b (ltb k (length part / 4)) refl))
    where
      by : (k : ℕ) → k < count → (t : Bool) → ltb k (length part / 4) ≡ t → within limit (number_at 4 part k) ≡ true
      by k b true e =
          let there = ltb-true k (length part / 4) e in
          let m = long 4 (length part / 4) part in
          let l = length-take {A = List ℕ} count (first_chunks 4 (length part / 4) part) in
          let small = h k [] (omega arith) (omega arith) in
          let is = size-is k b there in
          le-leb _ limit (omega arith)
      by k b false e = ap (within limit) (number-lacking 4 part k (ltb-false k (length part / 4) e)) ∙ le-leb 0 limit (omega arith)
  decided false (k, l, h) =
      let at = both k l in
      let large = h [] in
      let is = size-is k at.0 at.1 in
      sym (one-fails (within limit) count (number_at 4 part) k at.0 (lt-leb _ limit (omega arith)))

pub returns : goal.returns
returns c =
    let chunks = first_chunks 4 (length c.args.part.now / 4) c.args.part.now in
    let limit = c.args.limit in
    let by_call = cases_from_all _ _ _ (λ b. size b ≤ limit) (λ b. limit < size b) c.all.ensures.ran (YieldsList-from_take c.args.count (YieldsList-from_slice chunks cc) cc) (λ x q k. search (rules, tests)) (λ x q k. search (rules, tests)) in
    decided c.args.part.now c.args.count limit c.type_inv.part _ by_call
