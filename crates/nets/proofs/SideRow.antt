-- One blended number on plain numbers, whichever two others go into it: where the three are as they were, the bound holds and the new number is the blend of the old ones.
-- And writes that go from the last place to the first: each write joins those behind it at their front.
use Prim.Native.Nat.{ℕ, zero, suc, ◌+◌, ◌*◌, ◌-◌, ◌^◌, ◌≤◌, ◌<◌}
use native.Mathlib.Nat.{add-zero, add-suc, suc-add}
use native.Mathlib.Numerals.{add-one}
use native.Mathlib.Omega.{arith}
use mathlib.Core.Path.{◌≡◌, sym, ap, ap₂, ◌∙◌, subst}
use mathlib.Core.Bool.{true}
use mathlib.Core.List.{List}
use lib.IntN.{ℤ, pos, nat_abs, ◌+ℤ◌, ◌*ℤ◌}
use lib.Signed.{mag}
use lib.ListN.{get_or, set}
use lib.Seq.{set_comm}
use mir.Syntax.{w64}
use mir.Val.{SFits}
use Rattle.integers.specs.Test.{within}
use Rattle.integers.proofs.All.{and-true, and_parts}
use Rattle.integers.proofs.Signed.{seen, back_fits}
use Rattle.nets.specs.Rows.{written, ranged, Bounded}
use Rattle.nets.proofs.Lists.{written-outside}
use Rattle.nets.proofs.Row.{element, three-small}

-- ---- one number

-- the blend of the numbers at three places
abbrev pub blend_of : List ℤ → ℕ → ℕ → ℕ → ℤ → ℤ → ℤ → ℤ
blend_of xs p q r a b c = a *ℤ get_or xs p (pos 0) +ℤ (b *ℤ get_or xs q (pos 0) +ℤ c *ℤ get_or xs r (pos 0))

module _ (xs₀ xs : List ℤ) (p q r : ℕ) (a b c : ℤ) (fa : SFits w64 a) (fb : SFits w64 b) (fc : SFits w64 c)
    (old-p : get_or xs p (pos 0) ≡ get_or xs₀ p (pos 0)) (old-q : get_or xs q (pos 0) ≡ get_or xs₀ q (pos 0)) (old-r : get_or xs r (pos 0) ≡ get_or xs₀ r (pos 0))
    (sp : mag (get_or xs p (pos 0)) < 2 ^ 63) (sq : mag (get_or xs q (pos 0)) < 2 ^ 63) (sr : mag (get_or xs r (pos 0)) < 2 ^ 63) where
  -- the numbers read, as they are handed on
  read-p : seen (get_or xs p (pos 0)) ≡ get_or xs₀ p (pos 0)
  read-p = element (get_or xs p (pos 0)) sp ∙ old-p

  read-q : seen (get_or xs q (pos 0)) ≡ get_or xs₀ q (pos 0)
  read-q = element (get_or xs q (pos 0)) sq ∙ old-q

  read-r : seen (get_or xs r (pos 0)) ≡ get_or xs₀ r (pos 0)
  read-r = element (get_or xs r (pos 0)) sr ∙ old-r

  pub three-fit : (lo hi : ℕ) → Bounded xs₀ lo hi (nat_abs a + nat_abs b + nat_abs c) → lo ≤ p → p < hi → lo ≤ q → q < hi → lo ≤ r → r < hi
      → nat_abs (seen a) * nat_abs (seen (get_or xs p (pos 0))) + nat_abs (seen b) * nat_abs (seen (get_or xs q (pos 0))) + nat_abs (seen c) * nat_abs (seen (get_or xs r (pos 0))) < 2 ^ 63
  three-fit lo hi bounded lp hp lq hq lr hr =
      three-small (seen a) (seen (get_or xs p (pos 0))) (seen b) (seen (get_or xs q (pos 0))) (seen c) (seen (get_or xs r (pos 0))) bounded.bound
      (subst (λ v. nat_abs v ≤ bounded.bound) (sym read-p) (bounded.each p lp hp))
      (subst (λ v. nat_abs v ≤ bounded.bound) (sym read-q) (bounded.each q lq hq))
      (subst (λ v. nat_abs v ≤ bounded.bound) (sym read-r) (bounded.each r lr hr))
      (subst (λ w. w * bounded.bound < 2 ^ 63) (sym (ap₂ ◌+◌ (ap₂ ◌+◌ (ap nat_abs (back_fits fa)) (ap nat_abs (back_fits fb))) (ap nat_abs (back_fits fc)))) bounded.fits)

  pub three-value : (z : ℤ) → SFits w64 z → z ≡ seen a *ℤ seen (get_or xs p (pos 0)) +ℤ (seen b *ℤ seen (get_or xs q (pos 0)) +ℤ seen c *ℤ seen (get_or xs r (pos 0)))
      → seen z ≡ blend_of xs₀ p q r (seen a) (seen b) (seen c)
  three-value z fz is =
      back_fits fz ∙ is
      ∙ ap₂ ◌+ℤ◌ (ap (λ v. seen a *ℤ v) read-p) (ap₂ ◌+ℤ◌ (ap (λ v. seen b *ℤ v) read-q) (ap (λ v. seen c *ℤ v) read-r))

-- ---- numbers that are not written yet are as they were

pub kept-past : (xs cur : List ℤ) (from k : ℕ) (g : ℕ → ℤ) → cur ≡ written xs from k g → (i : ℕ) → (from ≤ i → from + k ≤ i) → get_or cur i (pos 0) ≡ get_or xs i (pos 0)
kept-past xs cur from k g inv i outside = ap (λ l. get_or l i (pos 0)) inv ∙ written-outside xs from k g i (λ x y. let past = outside x in omega arith)

pub kept-before : (xs cur : List ℤ) (from k : ℕ) (g : ℕ → ℤ) → cur ≡ written xs from k g → (i : ℕ) → i < from → get_or cur i (pos 0) ≡ get_or xs i (pos 0)
kept-before xs cur from k g inv i before = kept-past xs cur from k g inv i (λ x. omega arith)

-- ---- from the last place to the first

written-before : (xs : List ℤ) (from k : ℕ) (g : ℕ → ℤ) → set (written xs (suc from) k g) from (g from) ≡ written xs from (suc k) g
unfolding written
written-before xs from zero g = ap (λ i. set xs i (g i)) (sym (add-zero from))
written-before xs from (suc k) g =
    set_comm (written xs (suc from) k g) (suc from + k) from (g (suc from + k)) (g from) (λ e. wrong e)
    ∙ ap₂ (λ l i. set l i (g i)) (written-before xs from k g) (suc-add from k ∙ sym (add-suc from k))
  where
    wrong : suc from + k ≡ from → ⊥
    wrong e = omega arith

-- one write more, of `count` at and past a place
pub write-before : (xs cur : List ℤ) (from k count : ℕ) (v : ℤ) (g : ℕ → ℤ) → 1 ≤ k → k ≤ count → cur ≡ written xs (from + k) (count - k) g → v ≡ g (from + (k - 1))
    → set cur (from + (k - 1)) v ≡ written xs (from + (k - 1)) (count - (k - 1)) g
write-before xs cur from k count v g some most inv is =
    ap₂ (λ l y. set l (from + (k - 1)) y) (inv ∙ ap (λ j. written xs j (count - k) g) place_is) is
    ∙ written-before xs (from + (k - 1)) (count - k) g
    ∙ ap (λ j. written xs (from + (k - 1)) j g) count-is
  where
    place_is : from + k ≡ suc (from + (k - 1))
    place_is = omega arith

    count-is : suc (count - k) ≡ count - (k - 1)
    count-is = omega arith

ranged-before : (limit : ℕ) (g : ℕ → ℤ) (from k : ℕ) → within limit (g from) ≡ true → ranged limit g (suc from) k ≡ true → ranged limit g from (suc k) ≡ true
unfolding ranged
ranged-before limit g from zero first rest = and-true rest (ap (λ i. within limit (g i)) (add-zero from) ∙ first)
ranged-before limit g from (suc k) first rest =
    let parts = and_parts (ranged limit g (suc from) k) (within limit (g (suc from + k))) rest in
    and-true (ranged-before limit g from k first parts.0) (ap (λ i. within limit (g i)) (add-suc from k ∙ sym (suc-add from k)) ∙ parts.1)

-- one number more
pub range-before : (limit : ℕ) (g : ℕ → ℤ) (from k count : ℕ) → 1 ≤ k → k ≤ count → within limit (g (from + (k - 1))) ≡ true → ranged limit g (from + k) (count - k) ≡ true
    → ranged limit g (from + (k - 1)) (count - (k - 1)) ≡ true
range-before limit g from k count some most first rest =
    ap (ranged limit g (from + (k - 1))) (sym count-is) ∙ ranged-before limit g (from + (k - 1)) (count - k) first (ap (λ j. ranged limit g j (count - k)) (sym place_is) ∙ rest)
  where
    place_is : from + k ≡ suc (from + (k - 1))
    place_is = omega arith

    count-is : suc (count - k) ≡ count - (k - 1)
    count-is = omega arith

-- one number more at the end
pub range-after : (limit : ℕ) (g : ℕ → ℤ) (from k : ℕ) → ranged limit g from k ≡ true → within limit (g (from + k)) ≡ true → ranged limit g from (k + 1) ≡ true
unfolding ranged
range-after limit g from k inv next = ap (ranged limit g from) (add-one k) ∙ and-true inv next
