-- Going down the levels, turn by turn, on plain numbers.
use Prim.Native.Nat.{ℕ, suc, pred, ◌+◌, ◌-◌, ◌≤◌, ◌<◌, zero-le}
use native.Mathlib.Nat.{sub-zero}
use native.Mathlib.Numerals.{add-one}
use native.Mathlib.Omega.{arith}
use mathlib.Core.Path.{◌≡◌, refl, sym, ap, ap₂, ◌∙◌, subst}
use mathlib.Core.Bool.{Bool, true, false}
use mathlib.Core.List.{List}
use lib.IntN.{ℤ}
use lib.ListN.{length, take}
use Rattle.integers.specs.Sum.{upto}
use Rattle.integers.specs.Test.{all}
use Rattle.entries.specs.Rows.{size}
use Rattle.projection.specs.Projection.{in_range}
use Rattle.machine.specs.Calls.{weight_list}
use Rattle.machine.specs.declared.Weights.{Weights}
use Rattle.nets.specs.Rows.{Bounded, blended, level, weight_sum}
use Rattle.nets.specs.Levels.{named_at, all_named_at, Descends}
use Rattle.nets.proofs.Ranks.{size_mono}
use Rattle.nets.proofs.LevelValues.{range-bounded, level-named, level-next, named-first, named-next, named-fails}

-- where the numbers cur of a net stand after h levels
pub record At (w n m : ℕ) (ws xs cur : List ℤ) (h : ℕ) : Type 0 where
  pub below : h ≤ m
  pub reached : cur ≡ level w n m ws h xs
  pub long : length cur ≡ length xs
  pub ranged : all in_range (take (size w n (m - h)) cur) ≡ true
  pub named : all (named_at w n m ws xs) (upto (suc h)) ≡ true

module _ {w n m : ℕ} {weights : Weights} {xs : List ℤ} (start : Descends w n m weights xs) where
  abbrev ws : List ℤ
  ws = weight_list weights

  abbrev some : 1 ≤ w
  some = start.sized.some

  abbrev room : size w n m ≤ length xs
  room = start.long

  pub at_first : At w n m ws xs xs 0
  unfolding level
  at_first =
      let ranged : all in_range (take (size w n (m - 0)) xs) ≡ true = subst (λ k. all in_range (take (size w n k) xs) ≡ true) (sym (sub-zero m)) start.range in
      record {
        below = zero-le;
        reached = refl;
        long = refl;
        ranged = ranged;
        named = named-first w n some m ws xs room (sym (level-named w n some m ws xs room 0 zero-le) ∙ ranged);
      }

  module _ {cur : List ℤ} {h : ℕ} (a : At w n m ws xs cur h) where
    -- the numbers that the next step reads
    pub at_room : size w n (m - h) ≤ length cur
    at_room = let less = size_mono w n (m - h) m (omega arith) in omega (arith, less, room, a.long)

    -- small enough for the next step
    pub at-bounded : Bounded cur 0 (size w n (m - h)) (weight_sum weights)
    at-bounded = range-bounded cur (size w n (m - h)) (weight_sum weights) at_room a.ranged start.light

    -- the next step, whose answer is b
    module _ (more : h < m) {b : Bool} (is : b ≡ all in_range (take (size w n (pred (m - h))) (blended w n (pred (m - h)) ws cur))) where
      abbrev next : List ℤ
      next = blended w n (pred (m - h)) ws cur

      next-level-is : next ≡ level w n m ws (suc h) xs
      next-level-is = level-next w n some m ws xs room h (m - h) cur next more a.reached refl refl

      less : pred (m - h) ≡ m - suc h
      less = omega arith

      next-named : b ≡ named_at w n m ws xs (suc h)
      next-named = is ∙ ap₂ (λ k l. all in_range (take (size w n k) l)) less next-level-is ∙ level-named w n some m ws xs room (suc h) more

      -- a level out of range is a named value out of range
      pub at-fails : b ≡ false → false ≡ all_named_at w n m ws xs
      at-fails no-range = sym (named-fails w n some m ws xs room (suc h) more (sym next-named ∙ no-range))

      pub at_next : b ≡ true → {ys : List ℤ} → ys ≡ next → length ys ≡ length cur → At w n m ws xs ys (h + 1)
      at_next ok {ys} made kept =
          subst (λ k. At w n m ws xs ys k) (sym (add-one h))
          (record {
            below = more;
            reached = made ∙ next-level-is;
            long = kept ∙ a.long;
            ranged = ap₂ (λ k l. all in_range (take (size w n k) l)) (sym less) made ∙ sym is ∙ ok;
            named = named-next w n some m ws xs room h a.named (sym next-named ∙ ok);
          })

    pub at_last : m ≤ h → (true ≡ all_named_at w n m ws xs) × (cur ≡ level w n m ws m xs)
    unfolding all_named_at
    at_last done =
        let all-levels : h ≡ m = omega (arith, a.below) in
        (sym (subst (λ k. all (named_at w n m ws xs) (upto (suc k)) ≡ true) all-levels a.named), a.reached ∙ ap (λ k. level w n m ws k xs) all-levels)
