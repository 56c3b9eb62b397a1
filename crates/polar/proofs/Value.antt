-- As many copies of each group's q as its degree give the scale times the polynomial at the points: term by term, the multinomial of σ cancels with the quotient of the scale by it.
use Prim.Native.Nat.{ℕ, ◌*◌, ◌-◌, ◌/◌, ◌∣◌}
use native.Mathlib.Nat.{div-mul_cancel, mul-dvd-mul, dvd_refl}
use mathlib.Core.Path.{◌≡◌, refl, sym, ap, ap₂, ◌∙◌, subst}
use mathlib.Core.List.Memᴰ
use mathlib.Core.List.{List, [], ◌∷◌, map, Memᴰ}
use lib.IntN.{ℤ, pos, ◌+ℤ◌, ◌*ℤ◌, *ℤ-zero}
use lib.ListN.{get_or, drop, replicate}
use Rattle.integers.proofs.Laws.{*ℤ-distl}
use Rattle.integers.proofs.Ring.{ring, ring-rules}
use Rattle.polar.specs.Sigma.{Point, Exponents}
use Rattle.polar.specs.Order.{total, monomials}
use Rattle.polar.specs.Groups.{Group, head, tail, pairs, monomials_over}
use Rattle.polar.specs.Scale.{multinomial, multinomial_over, scale_over}
use Rattle.polar.specs.Polar.{σOver, polar_over, power, powers, powers_over, value_over, terms}
use Rattle.polar.proofs.Order.{of-joined, monomials-total}
use Rattle.polar.proofs.Scale.{multinomial-divides}
use Rattle.polar.proofs.Diagonal.{diagonal}

-- a member of pairs is one of xs before one of yss
pub of-pairs : {A : Type 0} (xs : List A) (yss : List (List A)) {zs : List A} → Memᴰ zs (pairs xs yss) → (x : A) × (ys : List A) × Memᴰ x xs × Memᴰ ys yss × (x ∷ ys ≡ zs)
of-pairs xs yss m =
    let j = of-joined (λ x. map (λ ys. x ∷ ys) yss) xs m in
    let r = Memᴰ.of_map (λ ys. j.0 ∷ ys) yss j.2 in
    (j.0, r.0, j.1, r.1, r.2)

-- every multinomial divides the scale
pub multinomial-divides-over : (gs : List Group) (es : List Exponents) → Memᴰ es (monomials_over gs) → multinomial_over gs es ∣ scale_over gs
unfolding monomials_over
multinomial-divides-over [] es h = dvd_refl 1
multinomial-divides-over (g ∷ gs) es h =
    let r = of-pairs (monomials g.dimension g.degree) (monomials_over gs) h in
    subst (λ x. multinomial_over (g ∷ gs) x ∣ scale_over (g ∷ gs)) r.4
    (mul-dvd-mul (multinomial g.degree r.0) (multinomial_over gs r.1)
    (multinomial-divides g.dimension g.degree r.0 r.2) (multinomial-divides-over gs r.1 r.3))

-- as many copies of each group's point as the group's degree says
abbrev pub copies : List Group → List Point → List (List Point)
copies [] qs = []
copies (g ∷ gs) qs = replicate g.degree (head qs) ∷ copies gs (tail qs)

-- σ of them is the multinomial times the monomial at the points
diagonal-over : (gs : List Group) (qs : List Point) (es : List Exponents) → Memᴰ es (monomials_over gs)
    → σOver gs (copies gs qs) es ≡ pos (multinomial_over gs es) *ℤ powers_over gs qs es
unfolding monomials_over
diagonal-over [] qs es h = refl
diagonal-over (g ∷ gs) qs es h =
    let r = of-pairs (monomials g.dimension g.degree) (monomials_over gs) h in
    let t = monomials-total g.dimension g.degree r.0 r.2 in
    subst (λ x. σOver (g ∷ gs) (copies (g ∷ gs) qs) x ≡ pos (multinomial_over (g ∷ gs) x) *ℤ powers_over (g ∷ gs) qs x) r.4
    (ap₂ ◌*ℤ◌ (diagonal g.dimension g.degree r.0 t.0 t.1 (head qs)) (diagonal-over gs (tail qs) r.1 r.3)
    ∙ both (multinomial g.degree r.0) (multinomial_over gs r.1) (powers (head qs) 0 r.0 *ℤ power (get_or (head qs) g.dimension (pos 0)) (g.degree - total r.0))
    (powers_over gs (tail qs) r.1))
  where
    both : (j k : ℕ) (a b : ℤ) → pos j *ℤ a *ℤ (pos k *ℤ b) ≡ pos (j * k) *ℤ (a *ℤ b)
    both j k a b = ring (pos j ∷ pos k ∷ a ∷ b ∷ []) (search ring-rules depth 60) tt

module _ (gs : List Group) (qs : List Point) where
  one-term : (e : List Exponents) → Memᴰ e (monomials_over gs) → (a : ℤ)
      → a *ℤ pos (scale_over gs / multinomial_over gs e) *ℤ σOver gs (copies gs qs) e ≡ pos (scale_over gs) *ℤ (a *ℤ powers_over gs qs e)
  one-term e h a =
      ap (λ s. a *ℤ pos (scale_over gs / multinomial_over gs e) *ℤ s) (diagonal-over gs qs e h)
      ∙ ring (a ∷ pos (scale_over gs / multinomial_over gs e) ∷ pos (multinomial_over gs e) ∷ powers_over gs qs e ∷ []) (search ring-rules depth 60 fits 9000) tt
      ∙ ap (λ k. pos k *ℤ (a *ℤ powers_over gs qs e)) (div-mul_cancel (multinomial_over gs e) (multinomial-divides-over gs e h))

  each-term : (c : ℕ) (es : List (List Exponents)) (numbers : List ℤ) → ((e : List Exponents) → Memᴰ e es → Memᴰ e (monomials_over gs))
      → polar_over gs (terms c es numbers) (copies gs qs) ≡ pos (scale_over gs) *ℤ value_over gs (terms c es numbers) qs
  unfolding polar_over value_over
  each-term c [] numbers inside = sym (*ℤ-zero (pos (scale_over gs)))
  each-term c (e ∷ es) numbers inside =
      ap₂ ◌+ℤ◌ (one-term e (inside e (Memᴰ.head refl)) (get_or numbers c (pos 0))) (each-term c es (drop 4 numbers) (λ x h. inside x (Memᴰ.tail h)))
      ∙ sym (*ℤ-distl (pos (scale_over gs)) (get_or numbers c (pos 0) *ℤ powers_over gs qs e) (value_over gs (terms c es (drop 4 numbers)) qs))

  -- the polar value of the copies is L × F(q)
  pub polar-diagonal : (c : ℕ) (numbers : List ℤ)
      → polar_over gs (terms c (monomials_over gs) numbers) (copies gs qs) ≡ pos (scale_over gs) *ℤ value_over gs (terms c (monomials_over gs) numbers) qs
  polar-diagonal c numbers = each-term c (monomials_over gs) numbers (λ e h. h)
