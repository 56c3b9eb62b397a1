-- `point_in` meets its contract: the net's entries are copied into the room, the first group's levels are made there
-- and then the second group's, and the last row begins with the point's four numbers; the numbers projected are put
-- behind them.
use borrow.Author.Rules.{rules}
use Prim.Native.Nat.{ℕ, ◌*◌, ◌≤◌}
use native.Mathlib.Nat.{le-mul_of_pos_right}
use native.Mathlib.Omega.{arith}
use mathlib.Core.Path.{◌≡◌, refl, sym, ap, ◌∙◌}
use mathlib.Core.Bool.{Bool, true, false}
use mathlib.Core.List.{List, [], ◌∷◌}
use lib.IntN.{ℤ, pos}
use lib.ListN.{length, get_or, take, replicate}
use Rattle.std.proofs.lemmas.List.{length-replicate}
use Rattle.entries.specs.Entries.{number_count}
use Rattle.entries.specs.Rows.{size}
use Rattle.polar.specs.Groups.{counts_over}
use Rattle.kinds.specs.Kinds.{later_groups}
use Rattle.kinds.specs.Heads.{head_groups}
use Rattle.kinds.specs.declared.Head.{Head}
use Rattle.machine.specs.Numbers.{answered, number_of}
use Rattle.machine.specs.Refusals.{◌else◌, first_failed}
use Rattle.machine.specs.declared.Call.TheVariants.{Point}
use Rattle.machine.specs.declared.Refusal.{Refusal}
use Rattle.machine.proofs.Numbers.{never_zero}
use Rattle.machine.specs.declared.Weights.{Weights}
use Rattle.nets.specs.Rows.{written}
use Rattle.nets.specs.Calls.{InOrder}
use Rattle.nets.proofs.Lists.{copied-front, length-written}
use Rattle.nets.proofs.FirstMoves.{counts_some}
use Rattle.nets.proofs.Made.{n, w, used, net-count, net-sized, net-long}
use Rattle.nets.proofs.PointMade.{first-descends, first-refused, later-descends, point-refused, line-asked, point-taken}
use Rattle.nets.proofs.calls.point_in.Goals as goal

-- ---- what a test of the size says

in-range : (b : Bool) → 0 ≡ first_failed (b else 10 ∷ []) → b ≡ true
in-range true h = refl
in-range false h = absurd (omega arith)

beyond : (b : Bool) (r : Refusal) → number_of r ≡ first_failed (b else 10 ∷ []) → (b ≡ false) × (number_of r ≡ 10)
beyond true r h = absurd (never_zero r h)
beyond false r h = (refl, h)

-- ---- the room as the levels find it

record Ready {head : Head} {weights : Weights} {places : List ℤ} (ordered : InOrder head places (Point weights)) (cur : List ℤ) : Type 0 where
  pub long : size (w ordered) (n ordered) head.degree ≤ length cur
  pub copied : take (size (w ordered) (n ordered) head.degree) cur ≡ used ordered

module _ {head : Head} {weights : Weights} {places : List ℤ} {count N : ℕ} (ordered : InOrder head places (Point weights))
    (counted : count ≡ number_count (head_groups head)) (free : number_count (head_groups head) ≤ N) where
  whole : count ≡ size (w ordered) (n ordered) head.degree
  whole = counted ∙ net-count ordered

  -- there is room for the entries, and they are there
  fits : (count ≤ length (replicate N (pos 0))) × (count ≤ length places)
  fits = let long = net-long ordered in (rw (counted, length-replicate) free, omega (arith, whole))

  ready : {cur : List ℤ} → cur ≡ written (replicate N (pos 0)) 0 count (λ i. get_or places i (pos 0)) → Ready ordered cur
  ready {cur} is =
      record {
        long = rw (is, length-written, ← whole) fits.0;
        copied =
            ap (λ k. take k cur) (sym whole) ∙ ap (take count) is ∙ copied-front (replicate N (pos 0)) places count fits.0 fits.1
            ∙ ap (λ k. take k places) whole;
      }

-- there is at least one entry
four-long : {head : Head} {places : List ℤ} {weights : Weights} (ordered : InOrder head places (Point weights))
    → 4 ≤ size (w ordered) (n ordered) head.degree
four-long {head} ordered =
    let some : 1 ≤ 4 * length (counts_over (later_groups head.kind head.second)) = (net-sized ordered).some in
    let row = le-mul_of_pos_right (w ordered) (counts_some (n ordered) head.degree) in
    omega arith

-- ---- the steps

pub whole_as_slice-copy : goal.whole_as_slice-copy
whole_as_slice-copy g c = omega arith

pub copy-requires : goal.copy-requires
copy-requires g c = fits c.requires.0 c.number_count.ensures.entries c.requires.2

pub whole_as_slice-descend_first : goal.whole_as_slice-descend_first
whole_as_slice-descend_first g c = omega arith

pub descend_first-requires : goal.descend_first-requires
descend_first-requires g c =
    let r = ready c.requires.0 c.number_count.ensures.entries c.requires.2 c.copy.ensures in
    first-descends c.requires.0 _ r.long r.copied

pub returns-in_err-judge_size : goal.returns-in_err-judge_size
returns-in_err-judge_size g c =
    let r = ready c.requires.0 c.number_count.ensures.entries c.requires.2 c.copy.ensures in
    let out = beyond c.descend_first.result c.in_err-judge_size.field-0.0 c.in_err-judge_size.ensures in
    let same : answered c.from_residual.result ≡ number_of c.in_err-judge_size.field-0.0 = search rules in
    rw (same ∙ out.1) (first-refused c.requires.0 _ r.long r.copied _ (sym out.0 ∙ c.descend_first.ensures.named))

pub whole_as_slice-descend_later : goal.whole_as_slice-descend_later
whole_as_slice-descend_later g c = omega arith

pub descend_later-requires : goal.descend_later-requires
descend_later-requires g c =
    let r = ready c.requires.0 c.number_count.ensures.entries c.requires.2 c.copy.ensures in
    let ok = in-range c.descend_first.result c.in_ok-judge_size.ensures in
    later-descends c.requires.0 _ r.long r.copied (sym ok ∙ c.descend_first.ensures.named) _ (c.descend_first.ensures.last ok)

pub returns-in_err-judge_size-2 : goal.returns-in_err-judge_size-2
returns-in_err-judge_size-2 g c =
    let r = ready c.requires.0 c.number_count.ensures.entries c.requires.2 c.copy.ensures in
    let ok = in-range c.descend_first.result c.in_ok-judge_size.ensures in
    let out = beyond c.descend_later.result c.in_err-judge_size-2.field-0.0 c.in_err-judge_size-2.ensures in
    let same : answered c.from_residual-in_err-judge_size-2.result ≡ number_of c.in_err-judge_size-2.field-0.0 = search rules in
    let left = rw (c.descend_first.ensures.last ok) at c.descend_later.ensures in
    rw (same ∙ out.1)
    (point-refused c.requires.0 _ r.long r.copied (sym ok ∙ c.descend_first.ensures.named) _ _ left out.0 _)

pub shared_whole_as_slice-copy : goal.shared_whole_as_slice-copy
shared_whole_as_slice-copy g c = omega arith

pub copy-requires-2 : goal.copy-requires-2
copy-requires-2 g c =
    let r = ready c.requires.0 c.number_count.ensures.entries c.requires.2 c.copy.ensures in
    let four = four-long c.requires.0 in
    (omega arith, omega arith)

pub whole_as_slice-put_projected : goal.whole_as_slice-put_projected
whole_as_slice-put_projected g c = omega arith

pub put_projected-requires : goal.put_projected-requires
put_projected-requires g c =
    let r = ready c.requires.0 c.number_count.ensures.entries c.requires.2 c.copy.ensures in
    let ok = in-range c.descend_first.result c.in_ok-judge_size.ensures in
    record {
      line = line-asked c.requires.0 _ r.long r.copied (sym ok ∙ c.descend_first.ensures.named) _ (omega arith);
      eight = omega arith;
    }

pub returns : goal.returns
returns g c =
    let r = ready c.requires.0 c.number_count.ensures.entries c.requires.2 c.copy.ensures in
    let ok = in-range c.descend_first.result c.in_ok-judge_size.ensures in
    let left = rw (c.descend_first.ensures.last ok) at c.descend_later.ensures in
    point-taken c.requires.0 _ r.long r.copied (sym ok ∙ c.descend_first.ensures.named) _ _ left
    (in-range c.descend_later.result c.in_ok-judge_size-2.ensures) _ _ _ (omega arith) c.copy-2.ensures c.put_projected.ensures
