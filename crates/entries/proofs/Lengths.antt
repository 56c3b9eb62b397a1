-- How many entries and monomials there are. A curve of degree m has m + 1 entries and a patch (m + 1)(m + 2)/2; and over any groups there are as many monomials as
-- entries, since the rows of the one are those of the other, from the last to the first.
use Prim.Native.Nat.{ℕ, zero, suc, ◌+◌, ◌-◌, ◌*◌}
use native.Mathlib.Nat.{sub-zero, suc-sub-suc, add_comm}
use native.Mathlib.Omega.{arith}
use mathlib.Core.Path.{◌≡◌, refl, sym, ap, ap₂, ◌∙◌}
use mathlib.Core.List.{List, [], ◌∷◌}
use lib.ListN.{length}
use Rattle.polar.specs.Order.{monomials, counts}
use Rattle.polar.specs.Groups.{Group, monomials_over, counts_over}
use Rattle.entries.specs.Rows.{offset}
use Rattle.entries.proofs.Places.{offset-snoc, offset-cong, length-counts}
use Rattle.entries.proofs.ListedOver.{length_pairs}
use Rattle.entries.proofs.Standard.{length-monomials}

-- ---- curves and patches

length-zero : (k : ℕ) → length (counts 0 k) ≡ 1
unfolding counts
length-zero k = refl

pub offset-zero : (k : ℕ) → offset (counts 0) k ≡ k
offset-zero zero = refl
offset-zero (suc k) = offset-snoc (counts 0) k ∙ ap₂ ◌+◌ (offset-zero k) (length-zero k) ∙ omega arith

-- the entries of a curve
pub length-one : (m : ℕ) → length (counts 1 m) ≡ suc m
length-one m = length-counts 0 m ∙ offset-zero (suc m)

-- how many entries of a patch stand before row n: 0, 1, 3, 6, ..
pub tri-suc : (n : ℕ) → offset (counts 1) (suc n) ≡ offset (counts 1) n + suc n
tri-suc n = offset-snoc (counts 1) n ∙ ap (λ x. offset (counts 1) n + x) (length-one n)

pub tri-double : (n : ℕ) → 2 * offset (counts 1) n ≡ n * (n + 1)
tri-double zero = refl
tri-double (suc n) =
    let rest : 2 * offset (counts 1) n ≡ n * (n + 1) = tri-double n in
    let next : offset (counts 1) (suc n) ≡ offset (counts 1) n + suc n = tri-suc n in
    ap (λ x. 2 * x) next ∙ omega arith

-- the entries of a patch, twice
pub length_two : (m : ℕ) → 2 * length (counts 2 m) ≡ (m + 1) * (m + 2)
length_two m =
    let one : suc m ≡ m + 1 = omega arith in
    let two : suc m + 1 ≡ m + 2 = omega arith in
    ap (λ k. 2 * k) (length-counts 1 m) ∙ tri-double (suc m) ∙ ap₂ ◌*◌ one two

-- ---- as many monomials as entries

-- the rows from the last to the first have as many members
offset-turned : (f : ℕ → List (List ℕ)) (m : ℕ) → offset (λ j. f (m - j)) (suc m) ≡ offset f (suc m)
offset-turned f zero = ap (λ k. length (f k) + 0) (sub-zero 0)
offset-turned f (suc m) =
    ap₂ (λ k r. length (f k) + r) (sub-zero (suc m))
    (offset-cong (λ j. f (suc m - suc j)) (λ j. f (m - j)) (suc m) (λ j. ap (λ k. length (f k)) (suc-sub-suc m j)) ∙ offset-turned f m)
    ∙ add_comm (length (f (suc m))) (offset f (suc m))
    ∙ sym (offset-snoc f (suc m))

pub monomials-counts : (n m : ℕ) → length (monomials n m) ≡ length (counts n m)
unfolding monomials counts
monomials-counts zero m = refl
monomials-counts (suc n) m =
    length-monomials n m
    ∙ offset-cong (λ j. monomials n (m - j)) (λ j. counts n (m - j)) (suc m) (λ j. monomials-counts n (m - j))
    ∙ offset-turned (counts n) m
    ∙ sym (length-counts n m)

pub monomials-counts-over : (gs : List Group) → length (monomials_over gs) ≡ length (counts_over gs)
unfolding monomials_over counts_over
monomials-counts-over [] = refl
monomials-counts-over (g ∷ gs) =
    length_pairs [] (monomials_over gs) (monomials g.dimension g.degree)
    ∙ ap₂ ◌*◌ (monomials-counts g.dimension g.degree) (monomials-counts-over gs)
    ∙ sym (length_pairs [] (counts_over gs) (counts g.dimension g.degree))
