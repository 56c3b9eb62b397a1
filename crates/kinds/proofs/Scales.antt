-- The scales are read off two rows, and the rows are right. One test over both rows is computed: each number is the least common multiple of its multinomials. `over-rows` turns a
-- test into its rule at each place, and what a least common multiple is (polar/proofs/Scale.antt) makes the statement of it, for both rows and all degrees together.
use Prim.Native.Nat.{ℕ, zero, suc, ◌*◌, ◌-◌, ◌≤◌, ◌<◌, zero-le}
use native.Mathlib.Nat.{mul-one, le_trans, le_of_suc-le-suc, not-suc-le-zero}
use native.Mathlib.Omega.{arith}
use mathlib.Core.Path.{◌≡◌, refl, sym, ap, ap₂, ◌∙◌, subst}
use mathlib.Core.Bool.{Bool, true, false, ◌&&◌, cond}
use mathlib.Core.List.{List, [], ◌∷◌, map}
use lib.Dec.{leb, eqb, lit≤}
use lib.ListN.{length, get_or, get_or-eq_default}
use borrow.Author.Tests.{eqb-true, leb-true}
use Rattle.integers.specs.Sum.{upto}
use Rattle.integers.specs.Test.{all}
use Rattle.integers.proofs.All.{clash, all-at, and_parts}
use Rattle.integers.proofs.Sums.{below-upto}
use Rattle.polar.specs.Order.{monomials}
use Rattle.polar.specs.Scale.{multinomial, least_common_multiple, product, scale, scale_over}
use Rattle.polar.proofs.Order.{monomials-total}
use Rattle.polar.proofs.Scale.{scale-pos, multinomial-divides, scale-least}
use Rattle.entries.proofs.Standard.{member-monomials}
use Rattle.kinds.specs.Kinds.{Row, rows_of, groups_by, degrees_allowed, some, dimension_of, later_groups, later_dimension, known, groups_of}
use Rattle.kinds.specs.Scales.{scale_of, scale_row, at_degree, row_number, IsLeastCommonMultiple, ScalesReadOff}
use Rattle.kinds.proofs.Limits.{UpTo, by-known, by_kind, groups-of, later-none, later-one}

-- ---- any table

-- no entry of a table is past a bound
pub up-to : (bound : ℕ) (f : ℕ → ℕ) (n : ℕ) → all (λ k. leb (f k) bound) (upto n) ≡ true → (k : ℕ) → k < n → f k ≤ bound
up-to bound f n h k b = leb-true (f k) bound (all-at (λ j. leb (f j) bound) (upto n) h k (below-upto n k b))

-- ---- a row

-- a degree past it has 0
pub past_row : (row : List ℕ) (m : ℕ) → length row < m → 0 ≡ at_degree row m
past_row row zero h = refl
past_row row (suc k) h = sym (get_or-eq_default row 0 (le_of_suc-le-suc h))

empty-row : (m : ℕ) → 0 ≡ at_degree [] m
empty-row zero = refl
empty-row (suc k) = refl

-- another but 0 has the number at the place before it, since degree 1 comes first
pub degree-place : (row : List ℕ) (m : ℕ) → (m ≡ 0 → ⊥) → get_or row (m - 1) 0 ≡ at_degree row m
degree-place row zero never = absurd (never refl)
degree-place row (suc k) never = ap (λ i. get_or row i 0) (omega arith)

-- there are two of them
pub no_row : (n : ℕ) → (n ≡ 1 → ⊥) → (n ≡ 2 → ⊥) → (m : ℕ) → 0 ≡ at_degree (scale_row n) m
no_row zero one two m = empty-row m
no_row (suc zero) one two m = absurd (one refl)
no_row (suc (suc zero)) one two m = absurd (two refl)
no_row (suc (suc (suc n))) one two m = empty-row m

-- ---- a test over both rows

-- a row that has a number is one of the two
row_below : (n k : ℕ) → k < length (scale_row n) → n < 3
row_below zero k h = lit≤ tt
row_below (suc zero) k h = lit≤ tt
row_below (suc (suc zero)) k h = lit≤ tt
row_below (suc (suc (suc n))) k h = absurd (not-suc-le-zero h)

over-rows : (test : ℕ → ℕ → Bool) → all (λ n. all (test n) (upto (length (scale_row n)))) (upto 3) ≡ true → (n k : ℕ) → k < length (scale_row n) → test n k ≡ true
over-rows test h n k below =
    all-at (test n) (upto (length (scale_row n)))
    (all-at (λ i. all (test i) (upto (length (scale_row i)))) (upto 3) h n (below-upto 3 n (row_below n k below))) k (below-upto (length (scale_row n)) k below)

-- each number is the scale of its degree
right : ℕ → ℕ → Bool
right n k = eqb (get_or (scale_row n) k 0) (scale n (suc k))

all_right : all (λ n. all (right n) (upto (length (scale_row n)))) (upto 3) ≡ true
unfolding right scale least_common_multiple multinomial monomials
all_right = refl

row-scale : (n m : ℕ) → 1 ≤ m → m ≤ length (scale_row n) → at_degree (scale_row n) m ≡ scale n m
unfolding right
row-scale n zero low high = absurd (not-suc-le-zero low)
row-scale n (suc k) low high = eqb-true (get_or (scale_row n) k 0) (scale n (suc k)) (over-rows right all_right n k high)

-- ---- the statement

scale-is-least : (n m : ℕ) → IsLeastCommonMultiple n m (scale n m)
scale-is-least n m =
    record {
      positive = scale-pos n m;
      divided = λ e l t. multinomial-divides n m e (member-monomials n m e l t);
      no-smaller = λ k low below every. past below (scale-least n m k low (λ e h. let r = monomials-total n m e h in every e r.0 r.1));
    }
  where
    past : {k s : ℕ} → k < s → s ≤ k → ⊥
    past a b = omega arith

-- every degree of a kind has its number in the row
long : Row → Bool
long r = leb r.highest (length (scale_row r.dimension))

all-long : (kind : ℕ) → all long (rows_of kind) ≡ true
unfolding long
all-long = by_kind (λ kind. all long (rows_of kind) ≡ true) refl refl refl refl (λ k. refl)

groups-read : (rows : List Row) (degrees : List ℕ) → all long rows ≡ true → degrees_allowed rows degrees ≡ true
    → scale_over (groups_by rows degrees) ≡ product (map row_number (groups_by rows degrees))
unfolding long
groups-read [] degrees enough h = refl
groups-read (r ∷ rows) [] enough h = absurd (clash h refl)
groups-read (r ∷ rows) (m ∷ degrees) enough h =
    let e = and_parts (long r) (all long rows) enough in
    let d = and_parts (leb 1 m && leb m r.highest) (degrees_allowed rows degrees) h in
    let b = and_parts (leb 1 m) (leb m r.highest) d.0 in
    let high = le_trans (leb-true m r.highest b.1) (leb-true r.highest (length (scale_row r.dimension)) e.0) in
    ap₂ ◌*◌ (sym (row-scale r.dimension m (leb-true 1 m b.0) high)) (groups-read rows degrees e.1 d.1)

scale-known : (kind p q : ℕ) → known kind p q ≡ true → scale_of kind p q ≡ scale_over (groups_of kind p q)
unfolding scale_of
scale-known kind p q h = ap (λ b. cond b (scale_over (groups_of kind p q)) 0) h

pub scales-read-off : ScalesReadOff
scales-read-off =
    record {
      least = λ n m low high. subst (IsLeastCommonMultiple n m) (sym (row-scale n m low high)) (scale-is-least n m);
      read = λ kind p q h.
          scale-known kind p q h
          ∙ groups-read (rows_of kind) (p ∷ q ∷ []) (all-long kind) (and_parts (some (rows_of kind)) (degrees_allowed (rows_of kind) (p ∷ q ∷ [])) h).1;
    }

-- ---- group by group

-- only a known kind with its degrees has a scale
pub unknown-scale : (kind p q : ℕ) → known kind p q ≡ false → scale_of kind p q ≡ 0
unfolding scale_of
unknown-scale kind p q h = ap (λ b. cond b (scale_over (groups_of kind p q)) 0) h

-- the numbers that stand in the rows
pub scale-read : (kind p q : ℕ) → known kind p q ≡ true → scale_of kind p q ≡ at_degree (scale_row (dimension_of kind)) p * product (map row_number (later_groups kind q))
scale-read kind p q h = scales-read-off.read kind p q h ∙ ap (λ gs. product (map row_number gs)) (groups-of kind p q h)

pub one-read : (kind p q : ℕ) → known kind p q ≡ true → later_dimension kind ≡ 0 → at_degree (scale_row (dimension_of kind)) p ≡ scale_of kind p q
one-read kind p q h none =
    sym (scale-read kind p q h ∙ ap (λ gs. at_degree (scale_row (dimension_of kind)) p * product (map row_number gs)) (later-none kind q none) ∙ mul-one (at_degree (scale_row (dimension_of kind)) p))

pub two-read : (kind p q : ℕ) → known kind p q ≡ true → (later_dimension kind ≡ 0 → ⊥)
    → at_degree (scale_row (dimension_of kind)) p * at_degree (scale_row (later_dimension kind)) q ≡ scale_of kind p q
two-read kind p q h some =
    sym
    (scale-read kind p q h
    ∙ ap (λ gs. at_degree (scale_row (dimension_of kind)) p * product (map row_number gs)) (later-one kind q some)
    ∙ ap (λ k. at_degree (scale_row (dimension_of kind)) p * k) (mul-one (at_degree (scale_row (later_dimension kind)) q)))

-- ---- sizes

-- a bound of all numbers of a row is one at every degree
at_most : (bound : ℕ) (row : List ℕ) → all (λ k. leb k bound) row ≡ true → (m : ℕ) → at_degree row m ≤ bound
at_most bound row h zero = zero-le
at_most bound row h (suc k) = at row h k
  where
    at : (ks : List ℕ) → all (λ k. leb k bound) ks ≡ true → (j : ℕ) → get_or ks j 0 ≤ bound
    at [] h j = zero-le
    at (k ∷ ks) h zero = leb-true k bound (and_parts (leb k bound) (all (λ i. leb i bound) ks) h).0
    at (k ∷ ks) h (suc j) = at ks (and_parts (leb k bound) (all (λ i. leb i bound) ks) h).1 j

-- the largest number is that of a curve of degree 10
pub row_low : (n m : ℕ) → at_degree (scale_row n) m ≤ 2520
row_low zero = at_most 2520 [] refl
row_low (suc zero) = at_most 2520 (scale_row 1) refl
row_low (suc (suc zero)) = at_most 2520 (scale_row 2) refl
row_low (suc (suc (suc n))) = at_most 2520 [] refl

-- the numbers of a known kind's groups are their scales
pub first-scale : (kind p q : ℕ) → known kind p q ≡ true → at_degree (scale_row (dimension_of kind)) p ≡ scale (dimension_of kind) p
first-scale = by-known (λ kind p q. at_degree (scale_row (dimension_of kind)) p ≡ scale (dimension_of kind) p)
    (λ p m. row-scale 1 p m.low m.high)
    (λ p m. row-scale 2 p m.low m.high)
    (λ p q m n. row-scale 1 p m.low (le_trans m.high (lit≤ tt)))

pub later-scale : (kind p q : ℕ) → known kind p q ≡ true → (later_dimension kind ≡ 0 → ⊥) → at_degree (scale_row (later_dimension kind)) q ≡ scale (later_dimension kind) q
later-scale = by-known (λ kind p q. (later_dimension kind ≡ 0 → ⊥) → at_degree (scale_row (later_dimension kind)) q ≡ scale (later_dimension kind) q)
    (λ p m some. absurd (some refl))
    (λ p m some. absurd (some refl))
    (λ p q m n some. row-scale 1 q n.low (le_trans n.high (lit≤ tt)))

-- a group of two vertices of degree 1 to 5 has a scale of at most 12
pub pair-scale : (m : ℕ) → UpTo 5 m → scale 1 m ≤ 12
pair-scale zero d = absurd (not-suc-le-zero d.low)
pair-scale (suc k) d =
    subst (λ s. s ≤ 12) (row-scale 1 (suc k) d.low (le_trans d.high (lit≤ tt))) (up-to 12 (λ j. get_or (scale_row 1) j 0) 5 refl k d.high)
