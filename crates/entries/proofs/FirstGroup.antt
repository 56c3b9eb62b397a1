-- Polynomials of several groups, seen from the first of them. With the first group's points held they are polynomials of the groups after it, whose coefficients are polar values
-- of the first group alone: the sum over pairs of monomials is taken group by group, since the scale and the multinomial of a pair are products and each divides each.
use Prim.Native.Nat.{ℕ, zero, suc, ◌+◌, ◌*◌, ◌/◌, ◌∣◌, ◌<◌, zero-le, suc-le-suc}
use native.Mathlib.Nat.{mul_comm, mul-one, mul_assoc, mul-mul-mul_comm, zero-mul, suc-mul, add-zero, not-suc-le-zero, le_of_suc-le-suc, div-mul_cancel, div-eq_of_eq-mul_right, mul-pos, pos_of_dvd_of_pos}
use native.Mathlib.Omega.{arith}
use mathlib.Core.Path.{◌≡◌, refl, sym, ap, ap₂, ◌∙◌}
use mathlib.Core.List.{List, [], ◌∷◌, Memᴰ}
use lib.IntN.{ℤ, pos, ◌+ℤ◌, ◌*ℤ◌, +ℤ_idr, +ℤ_assoc}
use lib.ListN.{length, get_or, drop}
use lib.Seq.{get_or-drop}
use Rattle.integers.specs.Sum.{sum, upto}
use Rattle.integers.proofs.Laws.{*ℤ-assoc}
use Rattle.integers.proofs.Ring.{ring, ring-rules}
use Rattle.integers.proofs.Sums.{sum-cong, sum-*r, sum-swap, sum-upto-suc, sum-upto-snoc, sum-upto-cong}
use Rattle.polar.specs.Sigma.{Point, Exponents, σ}
use Rattle.polar.specs.Order.{monomials}
use Rattle.polar.specs.Groups.{Group, pairs, monomials_over}
use Rattle.polar.specs.Scale.{multinomial, multinomial_over, scale, scale_over}
use Rattle.polar.specs.Polar.{σOver, polar_over, column_terms, terms}
use Rattle.polar.proofs.Scale.{scale-pos, multinomial-divides}
use Rattle.polar.proofs.Value.{multinomial-divides-over}
use Rattle.entries.proofs.Listed.{next-digit, first-digit}
use Rattle.entries.proofs.ListedOver.{length_pairs, pairs-at}

-- ---- sums

-- the sum over a list of terms, by the places of their coefficients
columns-sum : (w c : ℕ) (K : List Exponents → ℤ) (es : List (List Exponents)) (numbers : List ℤ)
    → sum (λ t. t.coefficient *ℤ K t.exponents) (column_terms w c es numbers) ≡ sum (λ j. get_or numbers (w * j + c) (pos 0) *ℤ K (get_or es j [])) (upto (length es))
columns-sum w c K [] numbers = refl
columns-sum w c K (e ∷ es) numbers =
    ap₂ (λ a s. a *ℤ K e +ℤ s) (ap (λ i. get_or numbers i (pos 0)) (sym (first-digit w c)))
    (columns-sum w c K es (drop w numbers)
    ∙ sum-cong
    (λ j. ap (λ a. a *ℤ K (get_or es j [])) (get_or-drop w numbers (w * j + c) (pos 0) ∙ ap (λ i. get_or numbers i (pos 0)) (sym (next-digit w j c))))
    (upto (length es)))
    ∙ sym (sum-upto-suc (λ j. get_or numbers (w * j + c) (pos 0) *ℤ K (get_or (e ∷ es) j [])) (length es))

-- a sum over the first numbers, cut in two, and in a parts of b
sum-cut : (f : ℕ → ℤ) (a b : ℕ) → sum f (upto (a + b)) ≡ sum f (upto a) +ℤ sum (λ j. f (a + j)) (upto b)
sum-cut f a zero = ap (λ n. sum f (upto n)) (add-zero a) ∙ sym (+ℤ_idr (sum f (upto a)))
sum-cut f a (suc b) =
    ap (λ n. sum f (upto n)) more
    ∙ sum-upto-snoc f (a + b)
    ∙ ap (λ s. s +ℤ f (a + b)) (sum-cut f a b)
    ∙ +ℤ_assoc (sum f (upto a)) (sum (λ j. f (a + j)) (upto b)) (f (a + b))
    ∙ ap (λ s. sum f (upto a) +ℤ s) (sym (sum-upto-snoc (λ j. f (a + j)) b))
  where
    more : a + suc b ≡ suc (a + b)
    more = omega arith

sum-parts : (f : ℕ → ℤ) (a b : ℕ) → sum f (upto (a * b)) ≡ sum (λ p. sum (λ j. f (p * b + j)) (upto b)) (upto a)
sum-parts f zero b = ap (λ n. sum f (upto n)) (zero-mul b)
sum-parts f (suc a) b =
    ap (λ n. sum f (upto n)) (suc-mul a b)
    ∙ sum-cut f (a * b) b
    ∙ ap (λ s. s +ℤ sum (λ j. f (a * b + j)) (upto b)) (sum-parts f a b)
    ∙ sym (sum-upto-snoc (λ p. sum (λ j. f (p * b + j)) (upto b)) a)

-- ---- quotients

-- the quotient of products is the product of the quotients
quotients : (s m S M : ℕ) → 0 < m → 0 < M → m ∣ s → M ∣ S → s * S / (m * M) ≡ s / m * (S / M)
quotients s m S M some more a b =
    div-eq_of_eq-mul_right (mul-pos some more) (sym (turned (s / m) (S / M) ∙ ap₂ ◌*◌ (div-mul_cancel m a) (div-mul_cancel M b)))
  where
    turned : (x y : ℕ) → m * M * (x * y) ≡ x * m * (y * M)
    turned x y = mul-mul-mul_comm m M x y ∙ ap₂ ◌*◌ (mul_comm m x) (mul_comm M y)

scale-over-pos : (gs : List Group) → 0 < scale_over gs
scale-over-pos [] = suc-le-suc zero-le
scale-over-pos (g ∷ gs) = mul-pos (scale-pos g.dimension g.degree) (scale-over-pos gs)

-- ---- a member of a list at a place

pub at-member : {A : Type 0} (d : A) (xs : List A) (p : ℕ) → p < length xs → Memᴰ (get_or xs p d) xs
at-member d [] p h = absurd (not-suc-le-zero h)
at-member d (x ∷ xs) zero h = Memᴰ.head refl
at-member d (x ∷ xs) (suc p) h = Memᴰ.tail (at-member d xs p (le_of_suc-le-suc h))

-- ---- the polar value

-- what the coefficient of a monomial is multiplied by
abbrev factor_over : List Group → List (List Point) → List Exponents → ℤ
factor_over gs pss es = pos (scale_over gs / multinomial_over gs es) *ℤ σOver gs pss es

-- a polar value by the places of the coefficients
by-places : (gs : List Group) (pss : List (List Point)) (w c : ℕ) (es : List (List Exponents)) (numbers : List ℤ)
    → polar_over gs (column_terms w c es numbers) pss ≡ sum (λ j. get_or numbers (w * j + c) (pos 0) *ℤ factor_over gs pss (get_or es j [])) (upto (length es))
unfolding polar_over
by-places gs pss w c es numbers =
    sum-cong (λ t. *ℤ-assoc t.coefficient (pos (scale_over gs / multinomial_over gs t.exponents)) (σOver gs pss t.exponents)) (column_terms w c es numbers)
    ∙ columns-sum w c (factor_over gs pss) es numbers

module _ (g : Group) (gs : List Group) (ps : List Point) (pss : List (List Point)) where
  abbrev ms : List Exponents
  ms = monomials g.dimension g.degree

  abbrev ls : List (List Exponents)
  ls = monomials_over gs

  -- what the coefficient of a monomial is multiplied by, in the first group and in the others
  abbrev own : Exponents → ℤ
  own e = pos (scale g.dimension g.degree / multinomial g.degree e) *ℤ σ (suc g.dimension) ps e

  abbrev others : List Exponents → ℤ
  others = factor_over gs pss

  both : (e : Exponents) (es : List Exponents) → Memᴰ e ms → Memᴰ es ls
      → factor_over (g ∷ gs) (ps ∷ pss) (e ∷ es) ≡ own e *ℤ others es
  both e es k l =
      let a = multinomial-divides g.dimension g.degree e k in
      let b = multinomial-divides-over gs es l in
      ap (λ n. pos n *ℤ σOver (g ∷ gs) (ps ∷ pss) (e ∷ es))
      (quotients (scale g.dimension g.degree) (multinomial g.degree e) (scale_over gs) (multinomial_over gs es)
      (pos_of_dvd_of_pos a (scale-pos g.dimension g.degree)) (pos_of_dvd_of_pos b (scale-over-pos gs)) a b)
      ∙ turned (scale g.dimension g.degree / multinomial g.degree e) (scale_over gs / multinomial_over gs es) (σ (suc g.dimension) ps e) (σOver gs pss es)
    where
      turned : (x y : ℕ) (u v : ℤ) → pos (x * y) *ℤ (u *ℤ v) ≡ pos x *ℤ u *ℤ (pos y *ℤ v)
      turned x y u v = ring (pos x ∷ pos y ∷ u ∷ v ∷ []) (search ring-rules depth 60) tt

  -- of the first group alone
  alone : (e : Exponents) → factor_over (g ∷ []) (ps ∷ []) (e ∷ []) ≡ own e
  alone e =
      ap₂ (λ a b. pos (a / b) *ℤ (σ (suc g.dimension) ps e *ℤ pos 1)) (mul-one (scale g.dimension g.degree)) (mul-one (multinomial g.degree e))
      ∙ ap (λ z. pos (scale g.dimension g.degree / multinomial g.degree e) *ℤ z) (once (σ (suc g.dimension) ps e))
    where
      once : (x : ℤ) → x *ℤ pos 1 ≡ x
      once x = ring (x ∷ []) (search ring-rules depth 60) tt

  -- column k of the first group's polar values
  abbrev pub column : List ℤ → ℕ → ℤ
  column numbers k = polar_over (g ∷ []) (column_terms (4 * length ls) k (monomials_over (g ∷ [])) numbers) (ps ∷ [])

  column-is : (numbers : List ℤ) (k : ℕ) → column numbers k ≡ sum (λ p. get_or numbers (4 * length ls * p + k) (pos 0) *ℤ own (get_or ms p [])) (upto (length ms))
  unfolding monomials_over
  column-is numbers k =
      by-places (g ∷ []) (ps ∷ []) (4 * length ls) k (pairs ms ([] ∷ [])) numbers
      ∙ ap (λ n. sum at (upto n)) (length_pairs [] ([] ∷ []) ms ∙ mul-one (length ms))
      ∙ sum-upto-cong (length ms)
      (λ p h.
      ap (λ x. get_or numbers (4 * length ls * p + k) (pos 0) *ℤ factor_over (g ∷ []) (ps ∷ []) x)
      (ap (λ i. get_or (pairs ms ([] ∷ [])) i []) (whole p) ∙ pairs-at [] ([] ∷ []) ms p 0 h (suc-le-suc zero-le))
      ∙ ap (λ z. get_or numbers (4 * length ls * p + k) (pos 0) *ℤ z) (alone (get_or ms p [])))
    where
      at : ℕ → ℤ
      at p = get_or numbers (4 * length ls * p + k) (pos 0) *ℤ factor_over (g ∷ []) (ps ∷ []) (get_or (pairs ms ([] ∷ [])) p [])

      whole : (p : ℕ) → p ≡ p * 1 + 0
      whole p = omega arith

  -- the polar value over all groups is that over the groups after the first, of the columns
  pub over-columns : (c : ℕ) (numbers columns : List ℤ) → ((j : ℕ) → j < length ls → get_or columns (4 * j + c) (pos 0) ≡ column numbers (4 * j + c))
      → polar_over (g ∷ gs) (terms c (monomials_over (g ∷ gs)) numbers) (ps ∷ pss) ≡ polar_over gs (terms c (monomials_over gs) columns) pss
  unfolding monomials_over
  over-columns c numbers columns are =
      by-places (g ∷ gs) (ps ∷ pss) 4 c (pairs ms ls) numbers
      ∙ ap (λ n. sum at (upto n)) (length_pairs [] ls ms)
      ∙ sum-parts at (length ms) (length ls)
      ∙ sum-upto-cong (length ms) (λ p h. sum-upto-cong (length ls) (λ j k. pair p j h k))
      ∙ sum-swap (λ p j. number p j *ℤ own (get_or ms p []) *ℤ others (get_or ls j [])) (upto (length ms)) (upto (length ls))
      ∙ sum-upto-cong (length ls)
      (λ j k.
      sum-*r (others (get_or ls j [])) (λ p. number p j *ℤ own (get_or ms p [])) (upto (length ms))
      ∙ ap (λ a. a *ℤ others (get_or ls j [])) (sym (column-is numbers (4 * j + c)) ∙ sym (are j k)))
      ∙ sym (by-places gs pss 4 c ls columns)
    where
      at : ℕ → ℤ
      at i = get_or numbers (4 * i + c) (pos 0) *ℤ factor_over (g ∷ gs) (ps ∷ pss) (get_or (pairs ms ls) i [])

      -- the coefficient of a pair of monomials
      number : ℕ → ℕ → ℤ
      number p j = get_or numbers (4 * length ls * p + (4 * j + c)) (pos 0)

      digits : (p k r : ℕ) → 4 * (p * k + r) + c ≡ 4 * k * p + (4 * r + c)
      digits p k r = let turned : 4 * k * p ≡ 4 * (p * k) = mul_assoc 4 k p ∙ ap (λ z. 4 * z) (mul_comm k p) in omega (arith, turned)

      pair : (p j : ℕ) → p < length ms → j < length ls → at (p * length ls + j) ≡ number p j *ℤ own (get_or ms p []) *ℤ others (get_or ls j [])
      pair p j h k =
          ap₂ (λ i x. get_or numbers i (pos 0) *ℤ factor_over (g ∷ gs) (ps ∷ pss) x) (digits p (length ls) j) (pairs-at [] ls ms p j h k)
          ∙ ap (λ z. number p j *ℤ z) (both (get_or ms p []) (get_or ls j []) (at-member [] ms p h) (at-member [] ls j k))
          ∙ sym (*ℤ-assoc (number p j) (own (get_or ms p [])) (others (get_or ls j [])))
