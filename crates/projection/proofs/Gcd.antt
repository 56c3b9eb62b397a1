-- The laws of the greatest common divisor. The search goes downward from a number that every common divisor divides: so what it stops at is a common
-- divisor, and none larger was passed. Two lists with the same common divisors then have the same greatest one, and that is what Euclid's step keeps.
use mathlib.Core.Path.{◌≡◌, refl, sym, ap, ◌∙◌, subst}
use mathlib.Core.Bool.{Bool, true, false, cond}
use mathlib.Core.List.{List, [], ◌∷◌, map}
use Prim.Native.Nat.{ℕ, zero, suc, ◌*◌, ◌/◌, ◌%◌, ◌≤◌, ◌<◌, ◌∣◌, min}
use native.Mathlib.Nat as NatL
use native.Mathlib.Nat.{dvd_refl, dvd-zero, one-dvd, dvd_trans, dvd-mod_iff, dvd_of_mod-eq-zero, mod-eq-zero_of_dvd, le_of_dvd, pos_of_dvd_of_pos, eq-zero_of_zero-dvd, mod-lt, le_antisymm, div-mul_cancel, mul-dvd-mul_right}
use native.Mathlib.Decide.{dec_le}
use native.Mathlib.Omega.{arith}
use lib.Dec.{T, eqb, eqb→eq}
use mir.Facts.{and_yes, yes_and}
use Rattle.projection.specs.Gcd.{divides, is_common_divisor, lesser_nonzero, least_nonzero, largest_from, gcd}

-- d divides each number
abbrev pub Each : ℕ → List ℕ → Type 0
Each d [] = Unit {0}
Each d (x ∷ xs) = (d ∣ x) × Each d xs

-- ---- the test

each-of-test : (d : ℕ) (xs : List ℕ) → T (is_common_divisor d xs) → Each d xs
unfolding is_common_divisor
each-of-test d [] t = tt
each-of-test d (x ∷ xs) t =
    let both = and_yes (divides d x) (is_common_divisor d xs) t in
    (dvd_of_mod-eq-zero d (eqb→eq (x % d) 0 both.0), each-of-test d xs both.1)

test-of-each : (d : ℕ) (xs : List ℕ) → Each d xs → T (is_common_divisor d xs)
unfolding is_common_divisor
test-of-each d [] e = tt
test-of-each d (x ∷ xs) e =
    yes_and (divides d x) (is_common_divisor d xs)
    (subst (λ (n : ℕ). T (eqb n 0)) (sym (mod-eq-zero_of_dvd d e.0)) tt)
    (test-of-each d xs e.1)

-- ---- the search

module _ (xs : List ℕ) where
  stops-by : (n next : ℕ) (b : Bool) → (T b → Each (suc n) xs) → (0 < next → Each next xs) → 0 < cond b (suc n) next → Each (cond b (suc n) next) xs
  stops-by n next true f g h = f tt
  stops-by n next false f g h = g h

  -- what it stops at is a common divisor
  stops : (n : ℕ) → 0 < largest_from n xs → Each (largest_from n xs) xs
  unfolding largest_from
  stops zero h = absurd (NatL.lt_irrefl 0 h)
  stops (suc n) h = stops-by n (largest_from n xs) (is_common_divisor (suc n) xs) (each-of-test (suc n) xs) (stops n) h

  passes-by : (n next d : ℕ) (b : Bool) → (d ≡ suc n → T b) → (d ≤ n → d ≤ next) → Dec (d ≤ n) → d ≤ suc n → d ≤ cond b (suc n) next
  passes-by n next d true f g c h = h
  passes-by n next d false f g (yes p) h = g p
  passes-by n next d false f g (no p) h = absurd (f (top n d p h))
    where
      top : (n d : ℕ) → ¬ (d ≤ n) → d ≤ suc n → d ≡ suc n
      top n d p h = omega arith

  -- it passes no common divisor
  passes : (n d : ℕ) → Each d xs → d ≤ n → d ≤ largest_from n xs
  unfolding largest_from
  passes zero d e h = h
  passes (suc n) d e h =
      passes-by n (largest_from n xs) d (is_common_divisor (suc n) xs)
      (λ p. subst (λ (k : ℕ). T (is_common_divisor k xs)) p (test-of-each d xs e))
      (passes n d e) (dec_le d n) h

-- ---- where it begins

divides-lesser : (d a b : ℕ) → d ∣ a → d ∣ b → d ∣ lesser_nonzero a b
unfolding lesser_nonzero
divides-lesser d zero b p q = q
divides-lesser d (suc a) zero p q = p
divides-lesser d (suc a) (suc b) p q = go (suc a) (suc b) p q (dec_le (suc a) (suc b))
  where
    left : (a b : ℕ) → a ≤ b → a ≡ min a b
    left a b h = omega arith

    right : (a b : ℕ) → ¬ (a ≤ b) → b ≡ min a b
    right a b h = omega arith

    go : (a b : ℕ) → d ∣ a → d ∣ b → Dec (a ≤ b) → d ∣ min a b
    go a b p q (yes h) = subst (λ (n : ℕ). d ∣ n) (left a b h) p
    go a b p q (no h) = subst (λ (n : ℕ). d ∣ n) (right a b h) q

divides-least : (d : ℕ) (xs : List ℕ) → Each d xs → d ∣ least_nonzero xs
unfolding least_nonzero
divides-least d [] e = dvd-zero d
divides-least d (x ∷ xs) e = divides-lesser d x (least_nonzero xs) e.0 (divides-least d xs e.1)

lesser-zero : (a b : ℕ) → lesser_nonzero a b ≡ 0 → (a ≡ 0) × (b ≡ 0)
unfolding lesser_nonzero
lesser-zero zero b h = (refl, h)
lesser-zero (suc a) zero h = absurd (NatL.suc-ne-zero a h)
lesser-zero (suc a) (suc b) h = omega arith

-- it is 0 only of zeros, and every number divides them
least_zero : (d : ℕ) (xs : List ℕ) → least_nonzero xs ≡ 0 → Each d xs
unfolding least_nonzero
least_zero d [] h = tt
least_zero d (x ∷ xs) h =
    let zeros = lesser-zero x (least_nonzero xs) h in
    (subst (λ (n : ℕ). d ∣ n) (sym zeros.0) (dvd-zero d), least_zero d xs zeros.1)

each-one : (xs : List ℕ) → Each 1 xs
each-one [] = tt
each-one (x ∷ xs) = (one-dvd x, each-one xs)

-- ---- the greatest common divisor

-- of zeros alone it is 0
pub gcd-zero : (xs : List ℕ) → Each 0 xs → gcd xs ≡ 0
unfolding gcd largest_from
gcd-zero xs e = ap (λ (n : ℕ). largest_from n xs) (eq-zero_of_zero-dvd (divides-least 0 xs e))

-- it divides each number
pub gcd-divides : (xs : List ℕ) → Each (gcd xs) xs
unfolding gcd
gcd-divides xs = go (least_nonzero xs) refl
  where
    go : (n : ℕ) → least_nonzero xs ≡ n → Each (largest_from (least_nonzero xs) xs) xs
    go zero e = least_zero (largest_from (least_nonzero xs) xs) xs e
    go (suc n) e =
        stops xs (least_nonzero xs)
        (passes xs (least_nonzero xs) 1 (each-one xs) (subst (λ (k : ℕ). 1 ≤ k) (sym e) (NatL.zero-lt-suc n)))

-- it is not 0 where one of the numbers is not: 0 divides only 0
pub gcd-positive : (xs : List ℕ) → (Each 0 xs → ⊥) → 0 < gcd xs
gcd-positive xs h = go (gcd xs) (gcd-divides xs)
  where
    go : (n : ℕ) → Each n xs → 0 < n
    go zero e = absurd (h e)
    go (suc n) e = NatL.zero-lt-suc n

-- where it is not 0, no common divisor is larger
pub gcd-greatest : (d : ℕ) (xs : List ℕ) → 0 < gcd xs → Each d xs → d ≤ gcd xs
unfolding gcd largest_from
gcd-greatest d xs h e = passes xs (least_nonzero xs) d e (go (least_nonzero xs) h (divides-least d xs e))
  where
    go : (n : ℕ) → 0 < largest_from n xs → d ∣ n → d ≤ n
    go zero h p = absurd (NatL.lt_irrefl 0 h)
    go (suc n) h p = le_of_dvd (NatL.zero-lt-suc n) p

-- what bounds each number bounds it
abbrev pub EachUpTo : ℕ → List ℕ → Type 0
EachUpTo top [] = Unit {0}
EachUpTo top (x ∷ xs) = (x ≤ top) × EachUpTo top xs

least-up-to : (top : ℕ) (xs : List ℕ) → EachUpTo top xs → least_nonzero xs ≤ top
unfolding least_nonzero lesser_nonzero
least-up-to top [] h = Prim.Native.Nat.zero-le
least-up-to top (x ∷ xs) h = go x (least_nonzero xs) h.0 (least-up-to top xs h.1)
  where
    go : (a b : ℕ) → a ≤ top → b ≤ top → lesser_nonzero a b ≤ top
    go zero b p q = q
    go (suc a) zero p q = p
    go (suc a) (suc b) p q = NatL.le_trans (NatL.min-le_left (suc a) (suc b)) p

largest-up-to : (xs : List ℕ) (n : ℕ) → largest_from n xs ≤ n
unfolding largest_from
largest-up-to xs zero = NatL.le_refl 0
largest-up-to xs (suc n) = go (is_common_divisor (suc n) xs) (largest-up-to xs n)
  where
    go : (b : Bool) → largest_from n xs ≤ n → cond b (suc n) (largest_from n xs) ≤ suc n
    go true h = NatL.le_refl (suc n)
    go false h = NatL.le_trans h (NatL.le-suc n)

pub gcd-up-to : (top : ℕ) (xs : List ℕ) → EachUpTo top xs → gcd xs ≤ top
unfolding gcd
gcd-up-to top xs h = NatL.le_trans (largest-up-to xs (least_nonzero xs)) (least-up-to top xs h)

-- ---- lists with the same common divisors

at_most : (xs ys : List ℕ) → ((d : ℕ) → Each d xs → Each d ys) → ((d : ℕ) → Each d ys → Each d xs) → gcd xs ≤ gcd ys
at_most xs ys f g = go (gcd ys) refl
  where
    go : (n : ℕ) → gcd ys ≡ n → gcd xs ≤ gcd ys
    go zero e = NatL.le_of_eq (gcd-zero xs (g 0 (subst (λ (k : ℕ). Each k ys) e (gcd-divides ys))) ∙ sym e)
    go (suc n) e = gcd-greatest (gcd xs) ys (subst (λ (k : ℕ). 0 < k) (sym e) (NatL.zero-lt-suc n)) (f (gcd xs) (gcd-divides xs))

pub gcd-same : (xs ys : List ℕ) → ((d : ℕ) → Each d xs → Each d ys) → ((d : ℕ) → Each d ys → Each d xs) → gcd xs ≡ gcd ys
gcd-same xs ys f g = le_antisymm (at_most xs ys f g) (at_most ys xs g f)

-- ---- Euclid's algorithm: where it ends, and its step

pub gcd-end : (m : ℕ) → gcd (m ∷ 0 ∷ []) ≡ m
gcd-end zero = gcd-zero (0 ∷ 0 ∷ []) (dvd-zero 0, (dvd-zero 0, tt))
gcd-end (suc m) =
    let divides-m : gcd (suc m ∷ 0 ∷ []) ∣ suc m = (gcd-divides (suc m ∷ 0 ∷ [])).0 in
    le_antisymm (le_of_dvd (NatL.zero-lt-suc m) divides-m)
    (gcd-greatest (suc m) (suc m ∷ 0 ∷ []) (pos_of_dvd_of_pos divides-m (NatL.zero-lt-suc m)) (dvd_refl (suc m), (dvd-zero (suc m), tt)))

pub gcd-step : (m n : ℕ) → gcd (n ∷ m % n ∷ []) ≡ gcd (m ∷ n ∷ [])
gcd-step m n =
    gcd-same (n ∷ m % n ∷ []) (m ∷ n ∷ [])
    (λ d e. ((dvd-mod_iff d {m = m} e.0).0 e.1.0, (e.0, tt)))
    (λ d e. (e.1.0, ((dvd-mod_iff d {m = m} e.1.0).1 e.0, tt)))

-- ---- every common divisor divides it

divides-pair : (fuel a b d : ℕ) → b ≤ fuel → d ∣ a → d ∣ b → d ∣ gcd (a ∷ b ∷ [])
divides-pair zero a zero d h p q = subst (λ (n : ℕ). d ∣ n) (sym (gcd-end a)) p
divides-pair (suc fuel) a zero d h p q = subst (λ (n : ℕ). d ∣ n) (sym (gcd-end a)) p
divides-pair zero a (suc b) d h p q = absurd (NatL.not-suc-le-zero h)
divides-pair (suc fuel) a (suc b) d h p q =
    let below : a % suc b ≤ fuel = omega (arith, mod-lt a (NatL.zero-lt-suc b)) in
    subst (λ (n : ℕ). d ∣ n) (gcd-step a (suc b))
    (divides-pair fuel (suc b) (a % suc b) d below q ((dvd-mod_iff d {m = a} q).1 p))

cons-by : (x : ℕ) (xs : List ℕ) → ((d : ℕ) → Each d xs → d ∣ gcd xs) → gcd (x ∷ gcd xs ∷ []) ≡ gcd (x ∷ xs)
cons-by x xs f =
    gcd-same (x ∷ gcd xs ∷ []) (x ∷ xs) (λ d e. (e.0, through d xs e.1.0)) (λ d e. (e.0, (f d e.1, tt)))
  where
    spread : (d g : ℕ) (ys : List ℕ) → d ∣ g → Each g ys → Each d ys
    spread d g [] p e = tt
    spread d g (y ∷ ys) p e = (dvd_trans d p e.0, spread d g ys p e.1)

    through : (d : ℕ) (ys : List ℕ) → d ∣ gcd ys → Each d ys
    through d ys p = spread d (gcd ys) ys p (gcd-divides ys)

pub divides-gcd : (d : ℕ) (xs : List ℕ) → Each d xs → d ∣ gcd xs
divides-gcd d [] e = subst (λ (n : ℕ). d ∣ n) (sym (gcd-zero [] tt)) (dvd-zero d)
divides-gcd d (x ∷ xs) e =
    subst (λ (n : ℕ). d ∣ n) (cons-by x xs (λ k. divides-gcd k xs))
    (divides-pair (gcd xs) x (gcd xs) d (NatL.le_refl (gcd xs)) e.0 (divides-gcd d xs e.1))

-- so that of the others stands for them
pub gcd-cons : (x : ℕ) (xs : List ℕ) → gcd (x ∷ gcd xs ∷ []) ≡ gcd (x ∷ xs)
gcd-cons x xs = cons-by x xs (λ d. divides-gcd d xs)

-- ---- what is left when it is divided out has no common divisor but 1

module _ (g : ℕ) (above : 0 < g) where
  scaled : (d : ℕ) (xs : List ℕ) → Each g xs → Each d (map (λ (x : ℕ). x / g) xs) → Each (d * g) xs
  scaled d [] e k = tt
  scaled d (x ∷ xs) e k =
      (subst (λ (n : ℕ). d * g ∣ n) (div-mul_cancel g e.0) (mul-dvd-mul_right d k.0 g), scaled d xs e.1 k.1)

pub gcd-reduced : (xs : List ℕ) → 0 < gcd xs → gcd (map (λ (x : ℕ). x / gcd xs) xs) ≡ 1
gcd-reduced xs above = go (gcd (map (λ (x : ℕ). x / gcd xs) xs)) (scaled (gcd xs) above (gcd (map (λ (x : ℕ). x / gcd xs) xs)) xs (gcd-divides xs) (gcd-divides (map (λ (x : ℕ). x / gcd xs) xs)))
  where
    go : (d : ℕ) → Each (d * gcd xs) xs → d ≡ 1
    go zero e = absurd (NatL.lt_irrefl 0 (subst (λ (n : ℕ). 0 < n) (gcd-zero xs (subst (λ (n : ℕ). Each n xs) (NatL.zero-mul (gcd xs)) e)) above))
    go (suc d) e =
        le_antisymm
        (NatL.le_of_mul-le-mul_right (subst (λ (n : ℕ). suc d * gcd xs ≤ n) (sym (NatL.one-mul (gcd xs))) (gcd-greatest (suc d * gcd xs) xs above e)) above)
        (NatL.zero-lt-suc d)

-- ---- and n times numbers that have none but 1 have n

abbrev times : ℕ → List ℕ → List ℕ
times n xs = map (λ (x : ℕ). n * x) xs

module _ (n : ℕ) where
  multiples : (xs : List ℕ) → Each n (times n xs)
  multiples [] = tt
  multiples (x ∷ xs) = (NatL.dvd-mul_right n x, multiples xs)

  divided : (k : ℕ) (xs : List ℕ) → 0 < n → Each (n * k) (times n xs) → Each k xs
  divided k [] above e = tt
  divided k (x ∷ xs) above e = (NatL.dvd_of_mul-dvd-mul_left k above e.0, divided k xs above e.1)

-- the greatest one is a multiple n * k, and k divides the numbers themselves
pub gcd-times : (n : ℕ) (xs : List ℕ) → 0 < n → gcd xs ≡ 1 → gcd (times n xs) ≡ n
gcd-times n xs above one =
    let g = gcd (times n xs) in
    let whole = NatL.mul-div_cancel' n (divides-gcd n (times n xs) (multiples n xs)) in
    let each = subst (λ (d : ℕ). Each d (times n xs)) (sym whole) (gcd-divides (times n xs)) in
    let single = NatL.eq-one_of_dvd-one (subst (λ (m : ℕ). g / n ∣ m) one (divides-gcd (g / n) xs (divided n (g / n) xs above each))) in
    sym whole ∙ ap (λ (k : ℕ). n * k) single ∙ NatL.mul-one n
