-- One step of a row's blend, on plain numbers: what stands at and past the place is as it was, so the bound holds and the new number is the blend of the old ones.
use Prim.Native.Nat.{ℕ, ◌+◌, ◌*◌, ◌-◌, ◌^◌, ◌≤◌, ◌<◌}
use native.Mathlib.Nat.{mul-le-mul_left, sub_self, le_refl}
use native.Mathlib.Omega.{arith}
use mathlib.Core.Path.{◌≡◌, refl, sym, ap, ap₂, ◌∙◌, subst}
use mathlib.Core.Bool.{true, false}
use mathlib.Core.List.{List}
use lib.IntN.{ℤ, pos, nat_abs, ◌+ℤ◌, ◌*ℤ◌}
use lib.Signed.{mag}
use lib.ListN.{get_or, set}
use borrow.Author.Rules.{sfits_of}
use mir.Syntax.{w64}
use mir.Val.{SFits}
use Rattle.integers.proofs.Signed.{seen, back_fits}
use Rattle.integers.specs.Test.{within}
use Rattle.machine.specs.declared.Weights.{Weights}
use Rattle.nets.specs.Rows.{written, mixed, ranged, weight_sum, Bounded}
use Rattle.nets.proofs.Lists.{write-next, write-still, ranged-next, ranged-fails}

-- what an element that was read is: its range is known from its type
pub element : (v : ℤ) → mag v < 2 ^ 63 → seen v ≡ v
element v h = back_fits {z = v} (sfits_of h)

-- three products whose weights are W in all
pub three-small : (a x b y c z : ℤ) (B : ℕ) → nat_abs x ≤ B → nat_abs y ≤ B → nat_abs z ≤ B → (nat_abs a + nat_abs b + nat_abs c) * B < 2 ^ 63
    → nat_abs a * nat_abs x + nat_abs b * nat_abs y + nat_abs c * nat_abs z < 2 ^ 63
three-small a x b y c z B hx hy hz h =
    omega (arith, mul-le-mul_left (nat_abs a) hx, mul-le-mul_left (nat_abs b) hy, mul-le-mul_left (nat_abs c) hz)

-- ---- a row that is being blended: those before place f are blended and within the limit

pub record Blending (xs₀ : List ℤ) (from d e : ℕ) (a b c : ℤ) (limit : ℕ) (xs : List ℤ) (f : ℕ) : Type 0 where
  pub low : from ≤ f
  pub front : xs ≡ written xs₀ from (f - from) (mixed xs₀ d e a b c)
  pub small : ranged limit (mixed xs₀ d e a b c) from (f - from) ≡ true

-- none is yet
pub blending_first : (xs : List ℤ) (from d e : ℕ) (a b c : ℤ) (limit : ℕ) → Blending xs from d e a b c limit xs from
unfolding written ranged
blending_first xs from d e a b c limit = record { low = le_refl from; front = rw sub_self refl; small = rw sub_self refl }

module _ {xs₀ : List ℤ} {from d e : ℕ} {a b c : ℤ} {limit : ℕ} {xs : List ℤ} {f : ℕ} (at : Blending xs₀ from d e a b c limit xs f) (far : d ≤ e)
    (fa : SFits w64 a) (fb : SFits w64 b) (fc : SFits w64 c)
    (s0 : mag (get_or xs f (pos 0)) < 2 ^ 63) (s1 : mag (get_or xs (f + d) (pos 0)) < 2 ^ 63) (s2 : mag (get_or xs (f + e) (pos 0)) < 2 ^ 63) where
  -- a number at or past f, as it is read
  read : (i : ℕ) → f ≤ i → mag (get_or xs i (pos 0)) < 2 ^ 63 → seen (get_or xs i (pos 0)) ≡ get_or xs₀ i (pos 0)
  read i past low = element (get_or xs i (pos 0)) low ∙ write-still xs₀ xs from f i (mixed xs₀ d e a b c) at.low past at.front

  -- the blend of the three numbers fits
  pub mix_fits : (count : ℕ) → f < from + count → Bounded xs₀ from (from + count + e) (nat_abs a + nat_abs b + nat_abs c)
      → nat_abs (seen a) * nat_abs (seen (get_or xs f (pos 0))) + nat_abs (seen b) * nat_abs (seen (get_or xs (f + d) (pos 0))) + nat_abs (seen c) * nat_abs (seen (get_or xs (f + e) (pos 0))) < 2 ^ 63
  mix_fits count below bounded =
      let low = at.low in
      three-small (seen a) (seen (get_or xs f (pos 0))) (seen b) (seen (get_or xs (f + d) (pos 0))) (seen c) (seen (get_or xs (f + e) (pos 0))) bounded.bound
      (bound_at f (omega arith) s0 (omega arith)) (bound_at (f + d) (omega arith) s1 (omega arith)) (bound_at (f + e) (omega arith) s2 (omega arith))
      (subst (λ w. w * bounded.bound < 2 ^ 63) (sym (ap₂ ◌+◌ (ap₂ ◌+◌ (ap nat_abs (back_fits fa)) (ap nat_abs (back_fits fb))) (ap nat_abs (back_fits fc)))) bounded.fits)
    where
      bound_at : (i : ℕ) → f ≤ i → mag (get_or xs i (pos 0)) < 2 ^ 63 → i < from + count + e → nat_abs (seen (get_or xs i (pos 0))) ≤ bounded.bound
      bound_at i past s up = subst (λ v. nat_abs v ≤ bounded.bound) (sym (read i past s)) (bounded.each i (omega (arith, at.low)) up)

  -- and what it is
  pub mix-is : {r : ℤ} → SFits w64 r → r ≡ seen a *ℤ seen (get_or xs f (pos 0)) +ℤ (seen b *ℤ seen (get_or xs (f + d) (pos 0)) +ℤ seen c *ℤ seen (get_or xs (f + e) (pos 0))) → seen r ≡ mixed xs₀ d e a b c f
  mix-is fr is =
      back_fits fr ∙ is
      ∙ ap₂ ◌+ℤ◌ (ap₂ ◌*ℤ◌ (back_fits fa) (read f (omega arith) s0))
      (ap₂ ◌+ℤ◌ (ap₂ ◌*ℤ◌ (back_fits fb) (read (f + d) (omega arith) s1)) (ap₂ ◌*ℤ◌ (back_fits fc) (read (f + e) (omega arith) s2)))

module _ {xs₀ : List ℤ} {from d e : ℕ} {a b c : ℤ} {limit : ℕ} {xs : List ℤ} {f : ℕ} (fa : SFits w64 a) (fb : SFits w64 b) (fc : SFits w64 c) where
  weights-read : Blending xs₀ from d e (seen a) (seen b) (seen c) limit xs f ≡ Blending xs₀ from d e a b c limit xs f
  weights-read = λ i. Blending xs₀ from d e (back_fits fa i) (back_fits fb i) (back_fits fc i) limit xs f

  -- by the weights as they are read, and as the caller gave them
  pub by_read : Blending xs₀ from d e a b c limit xs f → Blending xs₀ from d e (seen a) (seen b) (seen c) limit xs f
  by_read = subst (λ T. T) (sym weights-read)

  pub by_given : Blending xs₀ from d e (seen a) (seen b) (seen c) limit xs f → Blending xs₀ from d e a b c limit xs f
  by_given = subst (λ T. T) weights-read

-- all are
pub blending_last : {xs₀ : List ℤ} {from d e : ℕ} {a b c : ℤ} {limit : ℕ} {xs : List ℤ} {f : ℕ} → Blending xs₀ from d e a b c limit xs f → (count : ℕ) → f ≡ from + count
    → (true ≡ ranged limit (mixed xs₀ d e a b c) from count) × (xs ≡ written xs₀ from count (mixed xs₀ d e a b c))
blending_last {xs₀} {from} {d} {e} {a} {b} {c} {limit} {xs} {f} at count is =
    (sym (ap (ranged limit (mixed xs₀ d e a b c) from) (sym whole) ∙ at.small), at.front ∙ ap (λ k. written xs₀ from k (mixed xs₀ d e a b c)) whole)
  where
    whole : f - from ≡ count
    whole = omega arith

module _ {xs₀ : List ℤ} {from d e : ℕ} {a b c : ℤ} {limit : ℕ} {xs : List ℤ} {f : ℕ} (at : Blending xs₀ from d e a b c limit xs f) {v : ℤ} (is : v ≡ mixed xs₀ d e a b c f) where
  -- one number more
  pub blending_next : true ≡ within limit v → Blending xs₀ from d e a b c limit (set xs f v) (f + 1)
  blending_next ok =
      record {
        low = omega (arith, at.low);
        front = write-next xs₀ xs from f v (mixed xs₀ d e a b c) at.low at.front is;
        small = ranged-next limit (mixed xs₀ d e a b c) from f at.low at.small (sym (ok ∙ ap (within limit) is));
      }

  -- or the first beyond the limit
  pub blending-fails : (count : ℕ) → f < from + count → false ≡ within limit v → false ≡ ranged limit (mixed xs₀ d e a b c) from count
  blending-fails count below bad = sym (ranged-fails limit (mixed xs₀ d e a b c) from f count at.low below (sym (bad ∙ ap (within limit) is)))

-- ---- weights

-- the weights of at most three vertices are read as they are
pub record Read (ws : Weights) : Type 0 where
  pub r : seen ws.r ≡ ws.r
  pub s : seen ws.s ≡ ws.s
  pub t : seen ws.t ≡ ws.t

pub read_as : (ws : Weights) → mag ws.r < 2 ^ 63 → mag ws.s < 2 ^ 63 → mag ws.t < 2 ^ 63 → Read ws
read_as ws r s t = record { r = element ws.r r; s = element ws.s s; t = element ws.t t }

pub read-sum : {ws : Weights} → Read ws → nat_abs (seen ws.r) + nat_abs (seen ws.s) + nat_abs (seen ws.t) ≡ weight_sum ws
read-sum read = λ i. nat_abs (read.r i) + nat_abs (read.s i) + nat_abs (read.t i)
