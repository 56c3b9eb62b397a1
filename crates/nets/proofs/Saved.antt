-- A vertex replaced where the entries stand. The entries' numbers are cut off from those behind them, which fix nothing and stay; they are saved in a room before, and put back where a
-- named value is out of range.
use Prim.Native.Nat.{ℕ, suc, ◌+◌, ◌-◌, ◌≤◌}
use native.Mathlib.Nat.{sub-zero}
use native.Mathlib.Omega.{arith}
use mathlib.Core.Path.{◌≡◌, refl, sym, ap, ap₂, ◌∙◌}
use mathlib.Core.Bool.{Bool, true, false}
use mathlib.Core.List.{List, [], ◌++◌, append_assoc}
use lib.IntN.{ℤ, pos}
use lib.ListN.{length, get_or, set, take, drop, length-set, length-append, length-drop}
use lib.Seq.{drop-length, length-take-le, get_or-append-add, get_or-drop}
use Rattle.polar.specs.Order.{counts}
use Rattle.polar.proofs.Order.{counts-total}
use Rattle.entries.specs.Rows.{entry_at, listed, size, replaced}
use Rattle.entries.proofs.Groups.{total-set}
use Rattle.entries.proofs.Listed.{rows-cong}
use Rattle.machine.specs.Calls.{weight_list}
use Rattle.machine.specs.declared.Weights.{Weights}
use Rattle.nets.specs.Rows.{written}
use Rattle.nets.specs.Levels.{all_named_at, replaced_list, Replaces, Descends, ReplacedInPlace}
use Rattle.nets.proofs.Lists.{put_back}
use Rattle.nets.proofs.GroupPoint.{values-used, named-used}

module _ (w n m v : ℕ) (weights : Weights) (xs : List ℤ) (start : Descends w n m weights xs) (count : ℕ) (is : count ≡ size w n m) where
  abbrev ws : List ℤ
  ws = weight_list weights

  -- the entries' numbers, as the code cuts them off
  abbrev own : List ℤ
  own = take (count - 0) xs

  own_is : own ≡ take (size w n m) xs
  own_is = ap (λ k. take k xs) (sub-zero count ∙ is)

  own-long : length own ≡ size w n m
  own-long = ap length own_is ∙ length-take-le (size w n m) xs start.long

  -- ys is what stands in their place afterwards
  module _ {b : Bool} {ys : List ℤ} (done : ReplacedInPlace w n m ws v own b ys) where
    abbrev left : List ℤ
    left = ys ++ drop (count - 0) xs

    named : b ≡ all_named_at w n m ws xs
    named = done.named ∙ ap (all_named_at w n m ws) own_is ∙ named-used w n m ws ws xs (λ u h. refl)

    long-enough : count ≤ length xs
    long-enough = omega (arith, is, start.long)

    ys-long : length ys ≡ count
    ys-long = done.kept ∙ own-long ∙ sym is

    -- no place is lost
    pub left-long : length left ≡ length xs
    left-long =
        let l = long-enough in
        let k = sub-zero count in
        length-append ys (drop (count - 0) xs) ∙ ap₂ (λ a b. a + b) ys-long (length-drop (count - 0) xs) ∙ omega arith

    pub replaced-taken : b ≡ true → Replaces w n m ws v xs true left
    unfolding replaced_list listed
    replaced-taken ok = (
      sym ok ∙ named,
      ap (λ l. l ++ drop (count - 0) xs) (done.last ok)
          ∙ ap₂ (λ a r. (a ++ r) ++ drop (count - 0) xs) same_entries none-behind
          ∙ append_assoc (listed w n m new) [] (drop (count - 0) xs)
          ∙ ap (λ k. listed w n m new ++ drop k xs) (sub-zero count ∙ is),
    )
      where
        new : ℕ → List ℕ → ℤ
        new c = replaced (suc n) ws v (entry_at w n m xs c)

        none-behind : drop (size w n m) own ≡ []
        none-behind = ap (λ k. drop k own) (sym own-long) ∙ drop-length own

        same_entries : listed w n m (λ c. replaced (suc n) ws v (entry_at w n m own c)) ≡ listed w n m new
        same_entries =
            rows-cong w (λ c. replaced (suc n) ws v (entry_at w n m own c)) new (counts n m)
            (λ c e k there.
            let r = counts-total n m e there in
            ap (λ l. replaced (suc n) ws v (entry_at w n m l c) e) own_is
            ∙ values-used w n m ws ws xs (λ u h. refl) c (get_or e v 0) (set e v 0) k (length-set e v 0 ∙ r.0) (total-set e v ∙ r.1))

    pub replaced-refused : b ≡ false → (room saved : List ℤ) → count ≤ length room → saved ≡ written room 0 count (λ i. get_or xs i (pos 0))
        → Replaces w n m ws v xs false (written left 0 count (λ i. get_or saved i (pos 0)))
    replaced-refused out room saved space kept = (sym out ∙ named, put_back count xs left room saved long-enough space kept left-long behind)
      where
        behind : (i : ℕ) → count ≤ i → get_or left i (pos 0) ≡ get_or xs i (pos 0)
        behind i past =
            let j = i - count in
            let there : i ≡ length ys + (i - count) = omega (arith, ys-long) in
            let back : count - 0 + (i - count) ≡ i = omega (arith, sub-zero count) in
            ap (λ k. get_or left k (pos 0)) there ∙ get_or-append-add ys (drop (count - 0) xs) j (pos 0) ∙ get_or-drop (count - 0) xs j (pos 0) ∙ ap (λ k. get_or xs k (pos 0)) back
