-- A ring normaliser for ℤ. Use: `ring (a ∷ b ∷ []) (search ring-rules depth 60) tt` proves an identity of ℤ in the atoms a, b, which may be any terms.
-- List every atom once: what is no `+ℤ`, `-ℤ`, `*ℤ`, `neg_ℤ`, numeral, or `pos` of a sum or product. If `search` is refused, an atom is missing or its bound was met (then write `depth 60 fits 9000`); if `tt` is, the identity does not hold in every ring.
--
-- `Expr ρ x` is an expression over the atoms ρ with the value x: `search` builds it from the goal. `norm` multiplies it out to a polynomial, a list of terms in a fixed order of their variables.
-- Two expressions have one value where the difference of their polynomials has no coefficient but zero (`solve`). That needs no order of the terms, so none is proved.
use mathlib.Core.Path.{◌≡◌, refl, sym, ◌∙◌, ap, ap₂}
use mathlib.Core.Bool.{Bool, true, false, ◌&&◌}
use mathlib.Core.Logic.{⊎_elim}
use mathlib.Core.List.{List, [], ◌∷◌}
use Prim.Native.Nat.{ℕ, zero, suc, ◌+◌, ◌*◌, ◌<◌, compare, Ordering}
use native.Mathlib.Numerals.{add-one}
use native.Mathlib.Omega.{arith}
use lib.Dec.{T, leb, eqb, compare_is_eq, eqb→eq}
use lib.IntN.{ℤ, pos, negsuc, neg_ℤ, nat_abs, ◌+ℤ◌, ◌-ℤ◌, ◌*ℤ◌, +ℤ_assoc, +ℤ_comm, +ℤ_idl, +ℤ_idr, +ℤ_invr, -ℤ-+ℤ_cancel, zero-*ℤ, *ℤ-zero, *ℤ_comm}
use Rattle.integers.proofs.Laws.{*ℤ-assoc, *ℤ-distl, *ℤ-distr, one-*ℤ, neg-is-times, *ℤ-zero-split}

-- ---- expressions

-- x is one of the atoms ρ: one of the first eight, each found by `search` in one step, or one after those
pub data Atom : List ℤ → ℤ → Type 0 where
  atom0 : {x : ℤ} {ρ : List ℤ} → Atom (x ∷ ρ) x
  atom1 : {x : ℤ} {a : ℤ} {ρ : List ℤ} → Atom (a ∷ x ∷ ρ) x
  atom2 : {x : ℤ} {a b : ℤ} {ρ : List ℤ} → Atom (a ∷ b ∷ x ∷ ρ) x
  atom3 : {x : ℤ} {a b c : ℤ} {ρ : List ℤ} → Atom (a ∷ b ∷ c ∷ x ∷ ρ) x
  atom4 : {x : ℤ} {a b c d : ℤ} {ρ : List ℤ} → Atom (a ∷ b ∷ c ∷ d ∷ x ∷ ρ) x
  atom5 : {x : ℤ} {a b c d e : ℤ} {ρ : List ℤ} → Atom (a ∷ b ∷ c ∷ d ∷ e ∷ x ∷ ρ) x
  atom6 : {x : ℤ} {a b c d e f : ℤ} {ρ : List ℤ} → Atom (a ∷ b ∷ c ∷ d ∷ e ∷ f ∷ x ∷ ρ) x
  atom7 : {x : ℤ} {a b c d e f g : ℤ} {ρ : List ℤ} → Atom (a ∷ b ∷ c ∷ d ∷ e ∷ f ∷ g ∷ x ∷ ρ) x
  later : {x : ℤ} {a b c d e f g h : ℤ} {ρ : List ℤ} → Atom ρ x → Atom (a ∷ b ∷ c ∷ d ∷ e ∷ f ∷ g ∷ h ∷ ρ) x

-- The test of `e-numeral` computes at a numeral and is stuck at any other number, which is an atom. The last three rules go into `pos` of a number in ℕ.
pub data Expr (ρ : List ℤ) : ℤ → Type 0 where
  e-sum : {x y : ℤ} → Expr ρ x → Expr ρ y → Expr ρ (x +ℤ y)
  e-product : {x y : ℤ} → Expr ρ x → Expr ρ y → Expr ρ (x *ℤ y)
  e-negation : {x : ℤ} → Expr ρ x → Expr ρ (neg_ℤ x)
  e_atom : {x : ℤ} → Atom ρ x → Expr ρ x
  e-numeral : {n : ℕ} → T (eqb n n) → Expr ρ (pos n)
  e-negative : {n : ℕ} → Expr ρ (pos (suc n)) → Expr ρ (negsuc n)
  e-pos-sum : {m n : ℕ} → Expr ρ (pos m) → Expr ρ (pos n) → Expr ρ (pos (m + n))
  e-pos-product : {m n : ℕ} → Expr ρ (pos m) → Expr ρ (pos n) → Expr ρ (pos (m * n))
  e-pos-suc : {n : ℕ} → Expr ρ (pos n) → Expr ρ (pos (suc n))

-- the two sides of an equation
pub data Both (ρ : List ℤ) (x y : ℤ) : Type 0 where
  e-both : Expr ρ x → Expr ρ y → Both ρ x y

-- the rules by which `search` builds them
pub ruleset ring-rules = (e-both, e-sum, e-product, e-negation, e_atom, atom0, atom1, atom2, atom3, atom4, atom5, atom6, atom7, later, e-numeral, tt, e-negative, e-pos-sum, e-pos-product, e-pos-suc)

-- ---- polynomials

-- a coefficient and the variables that it multiplies, each the place of an atom, in rising order
pub data Term : Type 0 where
  term : ℤ → List ℕ → Term

abbrev pub both_equal : Ordering → Ordering → Ordering
both_equal Ordering.lt o = Ordering.lt
both_equal Ordering.eq o = o
both_equal Ordering.gt o = Ordering.gt

abbrev pub compare_vars : List ℕ → List ℕ → Ordering
compare_vars [] [] = Ordering.eq
compare_vars [] (j ∷ w) = Ordering.lt
compare_vars (i ∷ v) [] = Ordering.gt
compare_vars (i ∷ v) (j ∷ w) = both_equal (compare i j) (compare_vars v w)

abbrev pub place_var : Bool → ℕ → ℕ → List ℕ → List ℕ → List ℕ
place_var true i j v r = i ∷ j ∷ v
place_var false i j v r = j ∷ r

abbrev pub insert_var : ℕ → List ℕ → List ℕ
insert_var i [] = i ∷ []
insert_var i (j ∷ v) = let r = insert_var i v in place_var (leb i j) i j v r

abbrev pub merge : List ℕ → List ℕ → List ℕ
merge [] w = w
merge (i ∷ v) w = insert_var i (merge v w)

-- r is p with the first term inserted
abbrev pub place : Ordering → ℤ → List ℕ → ℤ → List ℕ → List Term → List Term → List Term
place Ordering.lt c v d w p r = term c v ∷ term d w ∷ p
place Ordering.eq c v d w p r = term (c +ℤ d) w ∷ p
place Ordering.gt c v d w p r = term d w ∷ r

abbrev pub insert : ℤ → List ℕ → List Term → List Term
insert c v [] = term c v ∷ []
insert c v (term d w ∷ p) = let r = insert c v p in place (compare_vars v w) c v d w p r

abbrev pub add : List Term → List Term → List Term
add [] q = q
add (term c v ∷ p) q = insert c v (add p q)

-- every term of a polynomial by one term
abbrev pub scale : ℤ → List ℕ → List Term → List Term
scale c v [] = []
scale c v (term d w ∷ q) = term (c *ℤ d) (merge v w) ∷ scale c v q

abbrev pub multiply : List Term → List Term → List Term
multiply [] q = []
multiply (term c v ∷ p) q = add (scale c v q) (multiply p q)

abbrev pub index : {ρ : List ℤ} {x : ℤ} → Atom ρ x → ℕ
index atom0 = 0
index atom1 = 1
index atom2 = 2
index atom3 = 3
index atom4 = 4
index atom5 = 5
index atom6 = 6
index atom7 = 7
index (later a) = suc (suc (suc (suc (suc (suc (suc (suc (index a))))))))

abbrev pub norm : {ρ : List ℤ} {x : ℤ} → Expr ρ x → List Term
norm (e-sum e f) = add (norm e) (norm f)
norm (e-product e f) = multiply (norm e) (norm f)
norm (e-negation e) = scale (negsuc 0) [] (norm e)
norm (e_atom a) = term (pos 1) (index a ∷ []) ∷ []
norm (e-numeral {n = n} t) = term (pos n) [] ∷ []
norm (e-negative e) = scale (negsuc 0) [] (norm e)
norm (e-pos-sum e f) = add (norm e) (norm f)
norm (e-pos-product e f) = multiply (norm e) (norm f)
norm (e-pos-suc e) = add (norm e) (term (pos 1) [] ∷ [])

abbrev pub is_nought : ℤ → Bool
is_nought (pos zero) = true
is_nought (pos (suc n)) = false
is_nought (negsuc n) = false

abbrev pub is_zero : List Term → Bool
is_zero [] = true
is_zero (term c v ∷ p) = is_nought c && is_zero p

-- ---- what a polynomial means

look : List ℤ → ℕ → ℤ
look [] i = pos 0
look (x ∷ ρ) zero = x
look (x ∷ ρ) (suc i) = look ρ i

power : List ℤ → List ℕ → ℤ
power ρ [] = pos 1
power ρ (i ∷ v) = look ρ i *ℤ power ρ v

value : List ℤ → List Term → ℤ
value ρ [] = pos 0
value ρ (term c v ∷ p) = c *ℤ power ρ v +ℤ value ρ p

-- ---- the operations on polynomials mean those of ℤ

+ℤ-exchange : (a b c : ℤ) → a +ℤ (b +ℤ c) ≡ b +ℤ (a +ℤ c)
+ℤ-exchange a b c = sym (+ℤ_assoc a b c) ∙ ap (λ x. x +ℤ c) (+ℤ_comm a b) ∙ +ℤ_assoc b a c

*ℤ-exchange : (a b c : ℤ) → a *ℤ (b *ℤ c) ≡ b *ℤ (a *ℤ c)
*ℤ-exchange a b c = sym (*ℤ-assoc a b c) ∙ ap (λ x. x *ℤ c) (*ℤ_comm a b) ∙ *ℤ-assoc b a c

and_left : (a b : Bool) → T (a && b) → T a
and_left true b t = tt
and_left false b t = t

and_right : (a b : Bool) → T (a && b) → T b
and_right true b t = t
and_right false b t = absurd t

compare_vars-eq : (v w : List ℕ) → T (compare_is_eq (compare_vars v w)) → v ≡ w
compare_vars-eq [] [] t = refl
compare_vars-eq [] (j ∷ w) t = absurd t
compare_vars-eq (i ∷ v) [] t = absurd t
compare_vars-eq (i ∷ v) (j ∷ w) t = step (compare i j) (eqb→eq i j) (compare_vars-eq v w) t
  where
    step : (o : Ordering) → (T (compare_is_eq o) → i ≡ j) → (T (compare_is_eq (compare_vars v w)) → v ≡ w) → T (compare_is_eq (both_equal o (compare_vars v w))) → i ∷ v ≡ j ∷ w
    step Ordering.lt f g t = absurd t
    step Ordering.eq f g t = ap₂ ◌∷◌ (f tt) (g t)
    step Ordering.gt f g t = absurd t

module _ (ρ : List ℤ) where
  insert_var-value : (i : ℕ) (v : List ℕ) → power ρ (insert_var i v) ≡ look ρ i *ℤ power ρ v
  unfolding power
  insert_var-value i [] = refl
  insert_var-value i (j ∷ v) = step (leb i j) (insert_var i v) (insert_var-value i v)
    where
      step : (b : Bool) (r : List ℕ) → power ρ r ≡ look ρ i *ℤ power ρ v → power ρ (place_var b i j v r) ≡ look ρ i *ℤ (look ρ j *ℤ power ρ v)
      step true r h = refl
      step false r h = ap (λ x. look ρ j *ℤ x) h ∙ *ℤ-exchange (look ρ j) (look ρ i) (power ρ v)

  merge-value : (v w : List ℕ) → power ρ (merge v w) ≡ power ρ v *ℤ power ρ w
  unfolding power
  merge-value [] w = sym (one-*ℤ (power ρ w))
  merge-value (i ∷ v) w =
      insert_var-value i (merge v w)
      ∙ ap (λ x. look ρ i *ℤ x) (merge-value v w)
      ∙ sym (*ℤ-assoc (look ρ i) (power ρ v) (power ρ w))

  insert-value : (c : ℤ) (v : List ℕ) (p : List Term) → value ρ (insert c v p) ≡ c *ℤ power ρ v +ℤ value ρ p
  unfolding value
  insert-value c v [] = refl
  insert-value c v (term d w ∷ p) = step (compare_vars v w) (compare_vars-eq v w) (insert c v p) (insert-value c v p)
    where
      step : (o : Ordering) → (T (compare_is_eq o) → v ≡ w) → (r : List Term) → value ρ r ≡ c *ℤ power ρ v +ℤ value ρ p
          → value ρ (place o c v d w p r) ≡ c *ℤ power ρ v +ℤ (d *ℤ power ρ w +ℤ value ρ p)
      step Ordering.lt f r h = refl
      step Ordering.eq f r h =
          ap (λ x. x +ℤ value ρ p) (*ℤ-distr c d (power ρ w) ∙ ap (λ u. c *ℤ power ρ u +ℤ d *ℤ power ρ w) (sym (f tt)))
          ∙ +ℤ_assoc (c *ℤ power ρ v) (d *ℤ power ρ w) (value ρ p)
      step Ordering.gt f r h =
          ap (λ x. d *ℤ power ρ w +ℤ x) h ∙ +ℤ-exchange (d *ℤ power ρ w) (c *ℤ power ρ v) (value ρ p)

  add-value : (p q : List Term) → value ρ (add p q) ≡ value ρ p +ℤ value ρ q
  unfolding value
  add-value [] q = sym (+ℤ_idl (value ρ q))
  add-value (term c v ∷ p) q =
      insert-value c v (add p q)
      ∙ ap (λ x. c *ℤ power ρ v +ℤ x) (add-value p q)
      ∙ sym (+ℤ_assoc (c *ℤ power ρ v) (value ρ p) (value ρ q))

  scale-value : (c : ℤ) (v : List ℕ) (q : List Term) → value ρ (scale c v q) ≡ (c *ℤ power ρ v) *ℤ value ρ q
  unfolding value
  scale-value c v [] = sym (*ℤ-zero (c *ℤ power ρ v))
  scale-value c v (term d w ∷ q) =
      ap₂ ◌+ℤ◌ (ap (λ x. (c *ℤ d) *ℤ x) (merge-value v w) ∙ regroup c d (power ρ v) (power ρ w)) (scale-value c v q)
      ∙ sym (*ℤ-distl (c *ℤ power ρ v) (d *ℤ power ρ w) (value ρ q))
    where
      regroup : (c d x y : ℤ) → (c *ℤ d) *ℤ (x *ℤ y) ≡ (c *ℤ x) *ℤ (d *ℤ y)
      regroup c d x y = *ℤ-assoc c d (x *ℤ y) ∙ ap (λ z. c *ℤ z) (*ℤ-exchange d x y) ∙ sym (*ℤ-assoc c x (d *ℤ y))

  multiply-value : (p q : List Term) → value ρ (multiply p q) ≡ value ρ p *ℤ value ρ q
  unfolding value
  multiply-value [] q = sym (zero-*ℤ (value ρ q))
  multiply-value (term c v ∷ p) q =
      add-value (scale c v q) (multiply p q)
      ∙ ap₂ ◌+ℤ◌ (scale-value c v q) (multiply-value p q)
      ∙ sym (*ℤ-distr (c *ℤ power ρ v) (value ρ p) (value ρ q))

  negate-value : (q : List Term) → value ρ (scale (negsuc 0) [] q) ≡ neg_ℤ (value ρ q)
  unfolding power
  negate-value q = scale-value (negsuc 0) [] q ∙ sym (neg-is-times (value ρ q))

  -- a polynomial of one term
  constant-value : (c : ℤ) → value ρ (term c [] ∷ []) ≡ c
  unfolding value power
  constant-value c = +ℤ_idr (c *ℤ pos 1) ∙ *ℤ_comm c (pos 1) ∙ one-*ℤ c

  variable-value : (i : ℕ) → value ρ (term (pos 1) (i ∷ []) ∷ []) ≡ look ρ i
  unfolding value power
  variable-value i = +ℤ_idr (pos 1 *ℤ (look ρ i *ℤ pos 1)) ∙ one-*ℤ (look ρ i *ℤ pos 1) ∙ *ℤ_comm (look ρ i) (pos 1) ∙ one-*ℤ (look ρ i)

  is_zero-value : (p : List Term) → T (is_zero p) → value ρ p ≡ pos 0
  unfolding value
  is_zero-value [] t = refl
  is_zero-value (term c v ∷ p) t =
      ap₂ ◌+ℤ◌ (ap (λ x. x *ℤ power ρ v) (nought c (and_left (is_nought c) (is_zero p) t)) ∙ zero-*ℤ (power ρ v))
      (is_zero-value p (and_right (is_nought c) (is_zero p) t))
    where
      nought : (c : ℤ) → T (is_nought c) → c ≡ pos 0
      nought (pos zero) t = refl
      nought (pos (suc n)) t = absurd t
      nought (negsuc n) t = absurd t

-- ---- an expression's polynomial means its value

look-index : {ρ : List ℤ} {x : ℤ} (a : Atom ρ x) → look ρ (index a) ≡ x
unfolding look
look-index atom0 = refl
look-index atom1 = refl
look-index atom2 = refl
look-index atom3 = refl
look-index atom4 = refl
look-index atom5 = refl
look-index atom6 = refl
look-index atom7 = refl
look-index (later a) = look-index a

norm-value : {ρ : List ℤ} {x : ℤ} (e : Expr ρ x) → value ρ (norm e) ≡ x
norm-value {ρ} (e-sum e f) = add-value ρ (norm e) (norm f) ∙ ap₂ ◌+ℤ◌ (norm-value e) (norm-value f)
norm-value {ρ} (e-product e f) = multiply-value ρ (norm e) (norm f) ∙ ap₂ ◌*ℤ◌ (norm-value e) (norm-value f)
norm-value {ρ} (e-negation e) = negate-value ρ (norm e) ∙ ap neg_ℤ (norm-value e)
norm-value {ρ} (e_atom a) = variable-value ρ (index a) ∙ look-index a
norm-value {ρ} (e-numeral {n = n} t) = constant-value ρ (pos n)
norm-value {ρ} (e-negative e) = negate-value ρ (norm e) ∙ ap neg_ℤ (norm-value e)
norm-value {ρ} (e-pos-sum e f) = add-value ρ (norm e) (norm f) ∙ ap₂ ◌+ℤ◌ (norm-value e) (norm-value f)
norm-value {ρ} (e-pos-product e f) = multiply-value ρ (norm e) (norm f) ∙ ap₂ ◌*ℤ◌ (norm-value e) (norm-value f)
norm-value {ρ} (e-pos-suc {n = n} e) =
    add-value ρ (norm e) (term (pos 1) [] ∷ []) ∙ ap₂ ◌+ℤ◌ (norm-value e) (constant-value ρ (pos 1)) ∙ ap pos (add-one n)

-- ---- the solver

pub difference-zero : (x y : ℤ) → x -ℤ y ≡ pos 0 → x ≡ y
difference-zero x y h = sym (-ℤ-+ℤ_cancel x y) ∙ ap (λ z. z +ℤ y) h ∙ +ℤ_idl y

pub solve : {ρ : List ℤ} {x y : ℤ} (e : Expr ρ x) (f : Expr ρ y) → T (is_zero (norm (e-sum e (e-negation f)))) → x ≡ y
solve {ρ} {x} {y} e f t =
    difference-zero x y (sym (norm-value (e-sum e (e-negation f))) ∙ is_zero-value ρ (norm (e-sum e (e-negation f))) t)

abbrev pub same : {ρ : List ℤ} {x y : ℤ} → Both ρ x y → Bool
same (e-both e f) = is_zero (norm (e-sum e (e-negation f)))

pub ring : (ρ : List ℤ) {x y : ℤ} (b : Both ρ x y) → T (same b) → x ≡ y
ring ρ (e-both e f) t = solve e f t

-- an equation that follows from another one, h: the difference of its sides is k times that of h's sides
pub ring-from : {x y u v : ℤ} (k : ℤ) → u ≡ v → x -ℤ y ≡ k *ℤ (u -ℤ v) → x ≡ y
ring-from {x} {y} {u} {v} k h e = difference-zero x y (e ∙ ap (λ z. k *ℤ (z -ℤ v)) h ∙ ap (λ z. k *ℤ z) (+ℤ_invr v) ∙ *ℤ-zero k)

-- a common factor that is not 0 may be cancelled: times the difference it is 0
pub cancelled : (k a b : ℤ) → (k ≡ pos 0 → ⊥) → k *ℤ a ≡ k *ℤ b → a ≡ b
cancelled k a b h p =
    ⊎_elim (λ z. absurd (h z)) (difference-zero a b)
    (*ℤ-zero-split k (a -ℤ b) (ring (k ∷ a ∷ b ∷ []) (search ring-rules depth 60) tt ∙ ap (λ x. x -ℤ k *ℤ b) p ∙ +ℤ_invr (k *ℤ b)))

pub cancel : (k : ℕ) (a b : ℤ) → 0 < k → pos k *ℤ a ≡ pos k *ℤ b → a ≡ b
cancel k a b h p = cancelled (pos k) a b (λ z. not-zero (ap nat_abs z)) p
  where
    not-zero : k ≡ 0 → ⊥
    not-zero e = omega arith

-- a product of numbers that are not 0
pub product-nonzero : (a b : ℤ) → (a ≡ pos 0 → ⊥) → (b ≡ pos 0 → ⊥) → a *ℤ b ≡ pos 0 → ⊥
product-nonzero a b p q e = ⊎_elim p q (*ℤ-zero-split a b e)
