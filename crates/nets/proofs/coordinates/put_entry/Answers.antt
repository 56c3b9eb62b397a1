-- `put_entry` meets its contract: the place of the entry, the place of its monomial and the factor are those of its counts.
use borrow.Author.Rules.{sfits_of}
use Prim.Native.Nat.{ℕ, ◌+◌, ◌*◌, ◌-◌, ◌/◌, ◌≤◌, ◌<◌}
use native.Mathlib.Nat.{le_trans, le_of_eq, lt_of_lt_of_le, mul-le-mul_left, mul-suc}
use native.Mathlib.Omega.{arith}
use mathlib.Core.Path.{sym, ap, ◌∙◌, subst}
use lib.IntN.{pos, nat_abs}
use Rattle.integers.proofs.Signed.{seen, back_fits}
use Rattle.polar.specs.Scale.{multinomial}
use Rattle.nets.specs.Coordinates.{exponents_at, Monomial}
use Rattle.nets.proofs.Places.{place_inside}
use Rattle.nets.proofs.Scaled.{exponents-within, exponents-place, entry-put}
use Rattle.nets.proofs.coordinates.put_entry.Goals as goal
use Rattle.nets.proofs.coordinates.put_entry.Lts as lts
use Rattle.nets.proofs.coordinates.put_entry.Tie as tie
use Rattle.nets.proofs.coordinates.put_entry.Reads as reads

abbrev Start : Type 0
Start = lts.Start tie.the-claims reads.Pre reads.Post

-- a row at a place below k lies before the end of k rows
row_inside : (w : ℕ) {p k : ℕ} → p < k → w * p + w ≤ w * k
row_inside w {p} {k} h = let up = mul-le-mul_left w h in omega (arith, up, mul-suc w p)

-- the exponents of the entry
within : (s : Start) → let a = s.args in (a.k ≤ a.i) × Monomial a.dimension a.degree (a.i - a.k) a.k
within s = let a = s.args in exponents-within a.dimension a.degree a.i a.k s.requires.0.sized.low s.requires.0.sized.high s.requires.0.high s.requires.3 s.requires.4

pub put_scaled-requires : goal.put_scaled-requires
put_scaled-requires c =
    let a = c.args in
    let inside = place_inside a.dimension a.degree a.i a.k c.requires.0.sized.low c.requires.0.sized.high c.requires.3 c.requires.4 a.width in
    let to_is = c.place-to.ensures in
    let from_is = c.monomial_place-from.ensures in
    let row_in = row_inside a.width (exponents-place a.dimension a.degree (a.i - a.k) a.k (within c.before.before.before.before).1) in
    record {
      room = le_trans (le_of_eq (ap (λ p. a.width * p + a.width) to_is)) (le_trans inside c.requires.2);
      long = le_trans (le_of_eq (ap (λ p. a.width * p + a.width) from_is)) (le_trans row_in c.requires.0.long);
      few = subst (λ v. nat_abs v ≤ 2520) {x = c.factor-times.result} {y = seen c.factor-times.result} (sym (back_fits (sfits_of c.factor-times.type_inv))) c.factor-times.ensures.1;
      each = λ j up. c.requires.0.each j (lt_of_lt_of_le up (le_trans (le_of_eq (ap (λ p. a.width * p + a.width) from_is)) row_in));
    }

pub returns : goal.returns
returns c =
    let a = c.args in
    let times = c.factor-times in
    entry-put a.width a.dimension a.degree a.i a.k c.place-to.result c.monomial_place-from.result (seen times.result) a.out.now a.coefficients.now c.put_scaled.new.out
    c.requires.0.sized.low c.requires.0.sized.high c.requires.3 c.requires.4
    c.place-to.ensures c.monomial_place-from.ensures
    (back_fits (sfits_of times.type_inv) ∙ times.ensures.0 ∙ ap (λ k. pos (k / multinomial a.degree (exponents_at a.dimension (a.i - a.k) a.k))) c.requires.1.scale-is) c.put_scaled.ensures
