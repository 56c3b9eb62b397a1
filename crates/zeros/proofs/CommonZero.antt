-- What is projected at a common zero is what is left there. Near q, at q + uo for another vertex o, the
-- values of all four polynomials are a power of u times what is left over, and a power is taken out in one
-- way only (LeftOver.antt). What is left over is a polynomial again (Coefficients.antt), so the power can be
-- taken out.
use Prim.Native.Nat.{ℕ, zero, suc, ◌+◌, ◌-◌, ◌*◌, ◌<◌, ◌≤◌}
use native.Mathlib.Nat as NatL
use native.Mathlib.Omega.{arith}
use native.Mathlib.Decide.{dec_lt}
use mathlib.Core.Path.{◌≡◌, refl, sym, ap, ap₂, ◌∙◌, subst}
use mathlib.Core.Logic.{◌↔◌}
use mathlib.Core.Bool.{Bool, true, false, cond}
use mathlib.Core.List.{List, [], ◌∷◌, ◌++◌, map, map-map, append-nil}
use lib.Dec.{lit≤}
use lib.IntN.{ℤ, pos, negsuc, neg_ℤ, nat_abs, ◌+ℤ◌, ◌-ℤ◌, ◌*ℤ◌, *ℤ-zero}
use lib.ListN.{length, get_or, replicate}
use Rattle.integers.specs.Sum.{upto}
use Rattle.integers.proofs.All.{clash}
use Rattle.integers.proofs.Laws.{one-*ℤ}
use Rattle.integers.proofs.Ring.{ring, ring-rules, cancelled, product-nonzero}
use Rattle.alike.specs.Alike.{Alike}
use Rattle.polar.specs.Sigma.{Point}
use Rattle.polar.specs.Groups.{monomials_over}
use Rattle.polar.specs.Scale.{scale, scale_over}
use Rattle.polar.specs.Polar.{terms, power}
use Rattle.polar.proofs.Scale.{scale-pos}
use Rattle.polar.proofs.Value.{polar-diagonal}
use Rattle.entries.specs.Form.{Form}
use Rattle.entries.specs.Frame.{entry_points, combination, vertex_at}
use Rattle.entries.proofs.Groups.{polar-forms}
use Rattle.entries.specs.Entries.{fixed}
use Rattle.zeros.proofs.LeftOver.{left_over, too_many, fixed-multiple, same_refl, choose, choose-pos, left-at-q, near-q, left_near, same-times, Same, power-nonzero, equal-powers, lower_power}
use Rattle.projection.specs.Projection.{is_zero, Four, four_numbers, four_zeros, is_four_zeros, first_not_zeros, found_projection}
use Rattle.machine.specs.Frames.{points_of}
use Rattle.machine.specs.Projected.{other_counts, line_named_at_zero, named_at_zero}
use Rattle.machine.specs.Steps.{Found, four_of, found_at}
use Rattle.machine.specs.Comparison.{groups, polar_of, scaled_value, machine_polar, machine_four, machine_accepted}
use Rattle.zeros.specs.CommonZero.{curve, value_at, values_at, vanishing, TakenOut, ZeroCurve, line_q}
use Rattle.machine.specs.declared.Weights.{Weights}
use Rattle.machine.specs.declared.Call.TheVariants as call
use Rattle.machine.proofs.Over.{map-among, four-cong}
use Rattle.zeros.proofs.FirstNotZeros.{Least, at, none, least, all-zeros, zeros-each, each-zeros}
use Rattle.projection.proofs.Zeros.{zero_is}
use Rattle.zeros.proofs.Coefficients.{at_tz, Poly, left-poly, column, length-column, column-at, value-column, rows_from, column-back, all-zero, zeros-value}

-- ---- a curve near a point

-- a power of the vanishing form is taken out, be it the highest or not
pub record Product (m : ℕ) (f : List ℤ) (q : Point) (d n : ℕ) (g : List ℤ) : Type 0 where
  pub factor : ℤ
  pub factor_nonzero : factor ≡ pos 0 → ⊥
  pub product : (c : ℕ) → c < 4 → (t z : ℤ) → factor *ℤ value_at (curve m f) c (t ∷ z ∷ []) ≡ power (vanishing q (t ∷ z ∷ [])) d *ℤ value_at (curve n g) c (t ∷ z ∷ [])

-- the form of a component, on lists of points
abbrev line_form : ℕ → List ℤ → ℕ → List Point → ℤ
line_form m f c ps = polar_of (curve m f) c (ps ∷ [])

form : (m : ℕ) (f : List ℤ) (c : ℕ) → Form 2 (line_form m f c)
unfolding polar_of
form m f c = (polar-forms (groups (curve m f)) (terms c (monomials_over (groups (curve m f))) f)).0 []

abbrev scale_l : ℕ → ℤ
scale_l m = pos (scale_over (groups (curve m [])))

scale-nonzero : (m : ℕ) → scale_l m ≡ pos 0 → ⊥
scale-nonzero m e =
    let z : scale 1 m ≡ 0 = sym (NatL.mul-one (scale 1 m)) ∙ ap nat_abs e in
    let h = scale-pos 1 m in
    absurd (omega arith)

-- L times the value at a point
at-point : (m : ℕ) (f : List ℤ) (c : ℕ) (p : Point) → line_form m f c (replicate m p ++ []) ≡ scale_l m *ℤ value_at (curve m f) c p
unfolding polar_of
at-point m f c p = ap (λ ps. polar_of (curve m f) c (ps ∷ [])) (append-nil (replicate m p)) ∙ polar-diagonal (groups (curve m f)) (p ∷ []) c f

-- over q and o
module _ (q o : Point) where
  abbrev two : ℕ → Point
  two = vertex_at (q ∷ o ∷ [])

  abbrev along : ℤ → Point
  along u = combination 2 (pos 1 ∷ u ∷ []) two

  module _ (m : ℕ) (f : List ℤ) (c : ℕ) where
    abbrev pub values : List ℕ → ℤ
    values e = line_form m f c (entry_points two e)

    -- where the first d values are 0, u^d comes out
    near-point : (d : ℕ) → ((a b : ℕ) → b < d → a + b ≡ m → values (a ∷ b ∷ []) ≡ pos 0) → (u : ℤ)
        → scale_l m *ℤ value_at (curve m f) c (along u) ≡ power u d *ℤ left_over (pos 1) u values d m 0 0
    near-point d zeros u = sym (at-point m f c (along u)) ∙ near-q (form m f c) two m d zeros (pos 1) u

    -- what is left over at q, of the first d of them
    left_there : (d : ℕ) → d ≤ m → left_over (pos 1) (pos 0) values d m 0 0 ≡ pos (choose m d) *ℤ values ((m - d) ∷ d ∷ [])
    left_there d h =
        left-at-q values d m 0 0 h
        ∙ ap₂ (λ i j. pos (choose m d) *ℤ values (i ∷ j ∷ [])) (NatL.add-zero (m - d)) (NatL.zero-add d)

    -- all of them
    whole-there : left_over (pos 1) (pos 0) values 0 m 0 0 ≡ scale_l m *ℤ value_at (curve m f) c q
    whole-there =
        left_there 0 (omega arith)
        ∙ one-*ℤ (values ((m - 0) ∷ 0 ∷ []))
        ∙ ap (λ k. values (k ∷ 0 ∷ [])) (NatL.sub-zero m)
        ∙ at-point m f c q

  -- ---- all of the plane

  -- a multiple of (T, Z) is a combination of q and o, by two linear forms
  abbrev to_o : ℤ → ℤ → ℤ
  to_o t z = get_or o 1 (pos 0) *ℤ t +ℤ neg_ℤ (get_or o 0 (pos 0)) *ℤ z

  abbrev from_q : ℤ → ℤ → ℤ
  from_q t z = neg_ℤ (get_or q 1 (pos 0)) *ℤ t +ℤ get_or q 0 (pos 0) *ℤ z

  combined : (t z : ℤ) → combination 2 (vanishing q o ∷ pos 0 ∷ []) (vertex_at ((t ∷ z ∷ []) ∷ (t ∷ z ∷ []) ∷ [])) ≡ combination 2 (to_o t z ∷ from_q t z ∷ []) two
  combined t z =
      ap₂ (λ x y. x ∷ y ∷ [])
      (ring (t ∷ z ∷ get_or q 0 (pos 0) ∷ get_or q 1 (pos 0) ∷ get_or o 0 (pos 0) ∷ get_or o 1 (pos 0) ∷ []) (search ring-rules depth 60 fits 9000) tt)
      (ring (t ∷ z ∷ get_or q 0 (pos 0) ∷ get_or q 1 (pos 0) ∷ get_or o 0 (pos 0) ∷ get_or o 1 (pos 0) ∷ []) (search ring-rules depth 60 fits 9000) tt)

  multiple : (m : ℕ) (f : List ℤ) (c d : ℕ) → ((a b : ℕ) → b < d → a + b ≡ m → values m f c (a ∷ b ∷ []) ≡ pos 0) → (t z : ℤ)
      → scale_l m *ℤ power (vanishing q o) m *ℤ value_at (curve m f) c (t ∷ z ∷ []) ≡ power (vanishing q (t ∷ z ∷ [])) d *ℤ left_over (to_o t z) (from_q t z) (values m f c) d m 0 0
  multiple m f c d zeros t z =
      ring (scale_l m ∷ power (vanishing q o) m ∷ value_at (curve m f) c p ∷ []) (search ring-rules depth 60) tt
      ∙ ap (λ x. power (vanishing q o) m *ℤ x) (sym (at-point m f c p) ∙ ap (λ k. line_form m f c (replicate k p ++ [])) (sym (NatL.add-zero m)))
      ∙ sym (fixed-multiple (vanishing q o) (λ e. line_form m f c (entry_points same e)) m 0 0)
      ∙ sym (one-*ℤ (fixed 2 (vanishing q o ∷ pos 0 ∷ []) (λ e. line_form m f c (entry_points same e)) m (0 ∷ 0 ∷ [])))
      ∙ sym (near-q (form m f c) same m 0 (λ a b h. absurd (NatL.not-suc-le-zero h)) (vanishing q o) (pos 0))
      ∙ ap (λ x. line_form m f c (replicate m x ++ [])) (combined t z)
      ∙ near-q (form m f c) two m d zeros (to_o t z) (from_q t z)
      ∙ ap (λ x. power x d *ℤ left_over (to_o t z) (from_q t z) (values m f c) d m 0 0) (ring (t ∷ z ∷ get_or q 0 (pos 0) ∷ get_or q 1 (pos 0) ∷ []) (search ring-rules depth 60) tt)
    where
      p : Point
      p = t ∷ z ∷ []

      same : ℕ → Point
      same = vertex_at (p ∷ p ∷ [])

  -- where the polynomial is 0 near q, the next value is 0
  nothing_left : (m : ℕ) (f : List ℤ) (c d : ℕ) → d ≤ m → ((a b : ℕ) → b < d → a + b ≡ m → values m f c (a ∷ b ∷ []) ≡ pos 0)
      → ((u : ℤ) → value_at (curve m f) c (along u) ≡ pos 0) → values m f c ((m - d) ∷ d ∷ []) ≡ pos 0
  nothing_left m f c d fits zeros none-there =
      cancelled (pos (choose m d)) (values m f c ((m - d) ∷ d ∷ [])) (pos 0) (λ e. let h = choose-pos m d fits in let z : choose m d ≡ 0 = ap nat_abs e in absurd (omega arith))
      (sym (left_there m f c d fits)
      ∙ lower_power (λ u. left_over (pos 1) u (values m f c) d m 0 0) (λ u. pos 0) (left_over (pos 1) (pos 0) (values m f c) d m 0 0) (pos 0) (λ u. left_near u (values m f c) d m 0 0) (λ u. same_refl u (pos 0)) d 0
      (λ u. sym (near-point m f c d zeros u) ∙ ap (λ x. scale_l m *ℤ x) (none-there u) ∙ *ℤ-zero (scale_l m) ∙ sym (*ℤ-zero (power u (d + 1))))
      ∙ sym (*ℤ-zero (pos (choose m d))))

  -- ---- what is taken out

  abbrev D : ℤ
  D = vanishing q o

  along-vanishes : (u : ℤ) → vanishing q (along u) ≡ u *ℤ D
  along-vanishes u = ring (u ∷ get_or q 0 (pos 0) ∷ get_or q 1 (pos 0) ∷ get_or o 0 (pos 0) ∷ get_or o 1 (pos 0) ∷ []) (search ring-rules depth 60 fits 9000) tt

  power-product : (a b : ℤ) (n : ℕ) → power (a *ℤ b) n ≡ power a n *ℤ power b n
  power-product a b zero = refl
  power-product a b (suc n) = ap (λ x. a *ℤ b *ℤ x) (power-product a b n) ∙ ring (a ∷ b ∷ power a n ∷ power b n ∷ []) (search ring-rules depth 60) tt

  module _ (apart : D ≡ pos 0 → ⊥) (m : ℕ) (f : List ℤ) (e n : ℕ) (g : List ℤ) (T : Product m f q e n g) (d : ℕ)
      (zeros : (c : ℕ) → c < 4 → (a b : ℕ) → b < d → a + b ≡ m → values m f c (a ∷ b ∷ []) ≡ pos 0) where
    abbrev k : ℤ
    k = T.factor

    abbrev X : ℕ → ℤ → ℤ
    X c u = k *ℤ scale_l n *ℤ left_over (pos 1) u (values m f c) d m 0 0

    abbrev Y : ℕ → ℤ → ℤ
    Y c u = scale_l m *ℤ power D e *ℤ left_over (pos 1) u (values n g c) 0 n 0 0

    near-x : (c : ℕ) (u : ℤ) → Same u (X c u) (X c (pos 0))
    near-x c u = same-times (k *ℤ scale_l n) (left_near u (values m f c) d m 0 0)

    near-y : (c : ℕ) (u : ℤ) → Same u (Y c u) (Y c (pos 0))
    near-y c u = same-times (scale_l m *ℤ power D e) (left_near u (values n g c) 0 n 0 0)

    both : (c : ℕ) → c < 4 → (u : ℤ) → power u d *ℤ X c u ≡ power u e *ℤ Y c u
    both c h u =
        ring (power u d ∷ k ∷ scale_l n ∷ left ∷ []) (search ring-rules depth 60) tt
        ∙ ap (λ x. k *ℤ scale_l n *ℤ x) (sym (near-point m f c d (zeros c h) u))
        ∙ ring (k ∷ scale_l n ∷ scale_l m ∷ A ∷ []) (search ring-rules depth 60) tt
        ∙ ap (λ x. scale_l n *ℤ scale_l m *ℤ x) (T.product c h (get_or (along u) 0 (pos 0)) (get_or (along u) 1 (pos 0)) ∙ ap (λ x. x *ℤ B) (ap (λ x. power x e) (along-vanishes u) ∙ power-product u D e))
        ∙ ring (scale_l n ∷ scale_l m ∷ power u e ∷ power D e ∷ B ∷ []) (search ring-rules depth 60 fits 9000) tt
        ∙ ap (λ x. power u e *ℤ (scale_l m *ℤ power D e *ℤ x)) (near-point n g c 0 (λ a b z. absurd (NatL.not-suc-le-zero z)) u ∙ one-*ℤ (left_over (pos 1) u (values n g c) 0 n 0 0))
      where
        A : ℤ
        A = value_at (curve m f) c (along u)

        B : ℤ
        B = value_at (curve n g) c (along u)

        left : ℤ
        left = left_over (pos 1) u (values m f c) d m 0 0

    -- no lower power than that of the first values is the highest
    below : (((c : ℕ) → c < 4 → value_at (curve n g) c q ≡ pos 0) → ⊥) → e < d → ⊥
    below highest h = highest (λ c j. vanishes c (lower_power (Y c) (X c) (Y c (pos 0)) (X c (pos 0)) (near-y c) (near-x c) e (d - suc e) (λ u. sym (both c j u) ∙ ap (λ i. power u i *ℤ X c u) more)))
      where
        more : d ≡ e + suc (d - suc e)
        more = omega arith

        vanishes : (c : ℕ) → Y c (pos 0) ≡ pos 0 → value_at (curve n g) c q ≡ pos 0
        vanishes c z =
            cancelled (scale_l n) (value_at (curve n g) c q) (pos 0) (scale-nonzero n)
            (cancelled (scale_l m *ℤ power D e) (scale_l n *ℤ value_at (curve n g) c q) (scale_l n *ℤ pos 0) (product-nonzero (scale_l m) (power D e) (scale-nonzero m) (power-nonzero D apart e))
            (ap (λ x. scale_l m *ℤ power D e *ℤ x) (sym (whole-there n g c)) ∙ z ∙ sym (*ℤ-zero (scale_l m *ℤ power D e)) ∙ ap (λ x. scale_l m *ℤ power D e *ℤ x) (sym (*ℤ-zero (scale_l n)))))

    module _ (fits : d ≤ m) where
      choose-nonzero : pos (choose m d) ≡ pos 0 → ⊥
      choose-nonzero z = let h = choose-pos m d fits in let e : choose m d ≡ 0 = ap nat_abs z in absurd (omega arith)

      abbrev there : ℕ → ℤ
      there c = values m f c ((m - d) ∷ d ∷ [])

      abbrev over : ℤ
      over = k *ℤ scale_l n *ℤ pos (choose m d)

      over-nonzero : over ≡ pos 0 → ⊥
      over-nonzero = product-nonzero (k *ℤ scale_l n) (pos (choose m d)) (product-nonzero k (scale_l n) T.factor_nonzero (scale-nonzero n)) choose-nonzero

      x-there : (c : ℕ) → X c (pos 0) ≡ over *ℤ there c
      x-there c = ap (λ x. k *ℤ scale_l n *ℤ x) (left_there m f c d fits) ∙ ring (k ∷ scale_l n ∷ pos (choose m d) ∷ there c ∷ []) (search ring-rules depth 60) tt

      -- nor is a higher one, unless the next values are 0 too
      above : d < e → (c : ℕ) → c < 4 → there c ≡ pos 0
      above h c j =
          cancelled over (there c) (pos 0) over-nonzero
          (sym (x-there c)
          ∙ lower_power (X c) (Y c) (X c (pos 0)) (Y c (pos 0)) (near-x c) (near-y c) d (e - suc d) (λ u. both c j u ∙ ap (λ i. power u i *ℤ Y c u) more)
          ∙ sym (*ℤ-zero over))
        where
          more : e ≡ d + suc (e - suc d)
          more = omega arith

      -- and the same one leaves a multiple
      same_power : d ≡ e → (c : ℕ) → c < 4 → over *ℤ there c ≡ scale_l m *ℤ power D e *ℤ scale_l n *ℤ value_at (curve n g) c q
      same_power h c j =
          sym (x-there c)
          ∙ equal-powers (X c) (Y c) (X c (pos 0)) (Y c (pos 0)) (near-x c) (near-y c) d (λ u. both c j u ∙ ap (λ i. power u i *ℤ Y c u) (sym h))
          ∙ ap (λ x. scale_l m *ℤ power D e *ℤ x) (whole-there n g c)
          ∙ ring (scale_l m ∷ power D e ∷ scale_l n ∷ value_at (curve n g) c q ∷ []) (search ring-rules depth 60) tt

-- ---- the machine's numbers

-- the frame of a curve, r and s
abbrev pub line_frame : ℤ → ℤ → ℤ → ℤ → List Point
line_frame r_t r_z s_t s_z = (r_t ∷ r_z ∷ []) ∷ (s_t ∷ s_z ∷ []) ∷ []

module _ (m : ℕ) (f : List ℤ) (r_t r_z s_t s_z : ℤ) (apart : r_t *ℤ s_z -ℤ r_z *ℤ s_t ≡ pos 0 → ⊥) (w : Weights) (some : w.r ≡ pos 0 → w.s ≡ pos 0 → ⊥) where
  abbrev frame : List Point
  frame = line_frame r_t r_z s_t s_z

  abbrev q : Point
  q = line_q (frame ∷ []) w

  -- the other vertex
  abbrev other_by : Bool → Point
  other_by b = cond b (s_t ∷ s_z ∷ []) (r_t ∷ r_z ∷ [])

  abbrev o : Point
  o = other_by (is_zero w.s)

  -- q and the other vertex are apart
  o-apart : vanishing q o ≡ pos 0 → ⊥
  o-apart = by (is_zero w.s) refl
    where
      at-s : vanishing q (s_t ∷ s_z ∷ []) ≡ w.r *ℤ (r_t *ℤ s_z -ℤ r_z *ℤ s_t)
      at-s = ring (w.r ∷ w.s ∷ r_t ∷ r_z ∷ s_t ∷ s_z ∷ []) (search ring-rules depth 60 fits 9000) tt

      at-r : vanishing q (r_t ∷ r_z ∷ []) *ℤ negsuc 0 ≡ w.s *ℤ (r_t *ℤ s_z -ℤ r_z *ℤ s_t)
      at-r = ring (w.r ∷ w.s ∷ r_t ∷ r_z ∷ s_t ∷ s_z ∷ []) (search ring-rules depth 60 fits 9000) tt

      by : (b : Bool) → is_zero w.s ≡ b → vanishing q (other_by b) ≡ pos 0 → ⊥
      by true z e = product-nonzero w.r (r_t *ℤ s_z -ℤ r_z *ℤ s_t) (λ r. some r (zero_is w.s z)) apart (sym at-s ∙ e)
      by false z e = product-nonzero w.s (r_t *ℤ s_z -ℤ r_z *ℤ s_t) (λ s. clash (ap is_zero s) z) apart (sym at-r ∙ ap (λ x. x *ℤ negsuc 0) e)

  -- so q is a point
  pub q-somewhere : q ≡ pos 0 ∷ pos 0 ∷ [] → ⊥
  q-somewhere e = o-apart (ap (λ x. vanishing x o) e ∙ ring (get_or o 0 (pos 0) ∷ get_or o 1 (pos 0) ∷ []) (search ring-rules depth 60) tt)

  -- the values with d copies of the other vertex
  abbrev v : ℕ → Four
  v d = four_of (λ c. values q o m f c ((m - d) ∷ d ∷ []))

  four_is : (j d : ℕ) → machine_four (curve m f) (frame ∷ []) (call.Point w) (other_counts w.s j d ∷ []) ≡ four_of (λ c. values q o m f c (j ∷ d ∷ []))
  unfolding machine_four machine_polar points_of
  four_is j d = by (is_zero w.s)
    where
      by : (b : Bool) → four_of (λ c. polar_of (curve m f) c (entry_points (vertex_at (q ∷ frame)) (cond b (j ∷ 0 ∷ d ∷ []) (j ∷ d ∷ 0 ∷ [])) ∷ []))
          ≡ four_of (λ c. values q (other_by b) m f c (j ∷ d ∷ []))
      by true = refl
      by false = refl

  -- the point found, and all values of which the first that is not four zeros is projected
  abbrev pub point : Four
  point = four_of (scaled_value (curve m f) (q ∷ []))

  point-is : point ≡ v 0
  unfolding scaled_value
  point-is = four-cong _ _ (λ c k. sym (ap (λ j. values q o m f c (j ∷ 0 ∷ [])) (NatL.sub-zero m) ∙ at-point m f c q))

  list-is : point ∷ map (machine_four (curve m f) (frame ∷ []) (call.Point w)) (line_named_at_zero m w.s) ≡ map v (upto (suc m))
  list-is =
      ap₂ ◌∷◌ point-is
      (map-map (machine_four (curve m f) (frame ∷ []) (call.Point w)) (λ d. other_counts w.s (m - suc d) (suc d) ∷ []) (upto m)
      ∙ map-among (λ d. machine_four (curve m f) (frame ∷ []) (call.Point w) (other_counts w.s (m - suc d) (suc d) ∷ [])) (λ d. v (suc d)) (upto m) (λ d k. four_is (m - suc d) (suc d))
      ∙ sym (map-map v suc (upto m)))

  abbrev pub first : Four
  first = first_not_zeros (map v (upto (suc m)))

  -- what the machine answers
  pub answer-is : (machine_accepted (curve m f) (frame ∷ []) (call.Point w)).answer ≡ Found point first (found_projection point first)
  unfolding machine_accepted found_at named_at_zero points_of
  answer-is = ap (λ l. Found point (first_not_zeros l) (found_projection point (first_not_zeros l))) list-is

  -- the first values are 0
  zeros : (d : ℕ) → ((j : ℕ) → j < d → is_four_zeros (v j) ≡ true) → (c : ℕ) → c < 4 → (a b : ℕ) → b < d → a + b ≡ m → values q o m f c (a ∷ b ∷ []) ≡ pos 0
  zeros d before c k a b h t =
      let is : a ≡ m - b = omega arith in
      ap (λ j. values q o m f c (j ∷ b ∷ [])) is ∙ zeros-each (λ i. values q o m f i ((m - b) ∷ b ∷ [])) (before b h) c k

  -- what is projected where the power e is taken out and g is left
  pub record Left (e n : ℕ) (g : List ℤ) : Type 0 where
    pub numbers : first ≡ machine_four (curve m f) (frame ∷ []) (call.Point w) (other_counts w.s (m - e) e ∷ [])
    pub multiple : Alike (four_numbers first) (values_at (curve n g) q)
    pub zero-there : 0 < e → is_four_zeros point ≡ true
    pub elsewhere : e ≡ 0 → (is_four_zeros point ≡ false) × (first ≡ point)

  module _ (e n : ℕ) (g : List ℤ) (whole_of : TakenOut m f q e n g) where
    T : Product m f q e n g
    T = record { factor = whole_of.factor; factor_nonzero = whole_of.factor_nonzero; product = whole_of.product }

    pub left_by : Least v (suc m) first → Left e n g
    left_by (none all is) = absurd (below q o o-apart m f e n g T (suc m) (zeros (suc m) all) whole_of.highest (let t = whole_of.degrees in omega arith))
    left_by (at d h before here is) = by (dec_lt e d) (dec_lt d e)
      where
        by : Dec (e < d) → Dec (d < e) → Left e n g
        by (yes p) r = absurd (below q o o-apart m f e n g T d (zeros d before) whole_of.highest p)
        by (no p) (yes r) =
            absurd (clash (each-zeros (λ c. values q o m f c ((m - d) ∷ d ∷ [])) (above q o o-apart m f e n g T d (zeros d before) (omega arith) r)) here)
        by (no p) (no r) =
            let same : d ≡ e = omega arith in
            let times = same_power q o o-apart m f e n g T d (zeros d before) (omega arith) same in
            record {
              numbers = is ∙ ap v same ∙ sym (four_is (m - e) e);
              multiple =
                  record {
                    over = over q o o-apart m f e n g T d (zeros d before) (omega arith);
                    under = scale_l m *ℤ power (vanishing q o) e *ℤ scale_l n;
                    over_nonzero = over-nonzero q o o-apart m f e n g T d (zeros d before) (omega arith);
                    under_nonzero =
                        product-nonzero (scale_l m *ℤ power (vanishing q o) e) (scale_l n)
                        (product-nonzero (scale_l m) (power (vanishing q o) e) (scale-nonzero m) (power-nonzero (vanishing q o) o-apart e)) (scale-nonzero n);
                    takes =
                        ap (λ p. map (λ x. over q o o-apart m f e n g T d (zeros d before) (omega arith) *ℤ x) (four_numbers p)) is
                        ∙ (λ i. times 0 (lit≤ tt) i ∷ times 1 (lit≤ tt) i ∷ times 2 (lit≤ tt) i ∷ times 3 (lit≤ tt) i ∷ []);
                  };
              zero-there = λ some-power. ap is_four_zeros point-is ∙ before 0 (omega arith);
              elsewhere = λ no_power.
                  let none_out : d ≡ 0 = omega arith in
                  (ap is_four_zeros point-is ∙ ap (λ j. is_four_zeros (v j)) (sym none_out) ∙ here, is ∙ ap v none_out ∙ sym point-is);
            }

  -- ---- it can be taken out

  module _ (d : ℕ) (fits : d ≤ m) (before : (j : ℕ) → j < d → is_four_zeros (v j) ≡ true) where
    -- what is left, as polynomials
    left-of : (c : ℕ) → Poly (m - d) (λ t z. left_over (to_o q o t z) (from_q q o t z) (values q o m f c) d m 0 0)
    left-of c = left-poly (get_or o 1 (pos 0)) (neg_ℤ (get_or o 0 (pos 0))) (neg_ℤ (get_or q 1 (pos 0))) (get_or q 0 (pos 0)) (values q o m f c) d m 0 0

    abbrev remainder : List ℤ
    remainder = rows_from (λ c. (left-of c).coefficients) (suc (m - d))

    taken-value : (c : ℕ) → c < 4 → (t z : ℤ) → value_at (curve (m - d) remainder) c (t ∷ z ∷ []) ≡ left_over (to_o q o t z) (from_q q o t z) (values q o m f c) d m 0 0
    taken-value c h t z =
        value-column (m - d) c remainder t z
        ∙ ap (λ cs. at_tz cs t z) (column-back (λ i. (left-of i).coefficients) (suc (m - d)) c h (left-of c).long)
        ∙ (left-of c).value t z

    taken-product : Product m f q d (m - d) remainder
    taken-product =
        record {
          factor = scale_l m *ℤ power (vanishing q o) m;
          factor_nonzero = product-nonzero (scale_l m) (power (vanishing q o) m) (scale-nonzero m) (power-nonzero (vanishing q o) o-apart m);
          product = λ c h t z. multiple q o m f c d (zeros d before c h) t z ∙ ap (λ x. power (vanishing q (t ∷ z ∷ [])) d *ℤ x) (sym (taken-value c h t z));
        }

    taken-whole : is_four_zeros (v d) ≡ false → TakenOut m f q d (m - d) remainder
    taken-whole here =
        record {
          degrees = NatL.sub-add_cancel fits;
          factor = taken-product.factor;
          factor_nonzero = taken-product.factor_nonzero;
          product = taken-product.product;
          highest = λ all.
              clash
              (each-zeros (λ c. values q o m f c ((m - d) ∷ d ∷ []))
              (λ c k.
              let times = same_power q o o-apart m f d (m - d) remainder taken-product d (zeros d before) fits refl c k in
              cancelled (over q o o-apart m f d (m - d) remainder taken-product d (zeros d before) fits) (values q o m f c ((m - d) ∷ d ∷ [])) (pos 0)
              (over-nonzero q o o-apart m f d (m - d) remainder taken-product d (zeros d before) fits)
              (times
              ∙ ap (λ x. scale_l m *ℤ power (vanishing q o) d *ℤ scale_l (m - d) *ℤ x) (all c k)
              ∙ *ℤ-zero (scale_l m *ℤ power (vanishing q o) d *ℤ scale_l (m - d))
              ∙ sym (*ℤ-zero (over q o o-apart m f d (m - d) remainder taken-product d (zeros d before) fits)))))
              here;
        }

  pub can-be : Least v (suc m) first → (first ≡ four_zeros → ⊥) → (d : ℕ) × (n : ℕ) × (g : List ℤ) × TakenOut m f q d n g
  can-be (none all zero-it-is) some_left = absurd (some_left zero-it-is)
  can-be (at d h before here is) some_left = (d, m - d, remainder d (NatL.le_of_suc-le-suc h) before, taken-whole d (NatL.le_of_suc-le-suc h) before here)

  -- ---- only the zero curve is nowhere

  -- where all values are 0, so are the polynomials, and their coefficients
  all_there : ((j : ℕ) → j < suc m → is_four_zeros (v j) ≡ true) → (c : ℕ) → c < 4 → (t z : ℤ) → value_at (curve m f) c (t ∷ z ∷ []) ≡ pos 0
  all_there all c h t z =
      cancelled (scale_l m *ℤ power (vanishing q o) m) (value_at (curve m f) c (t ∷ z ∷ [])) (pos 0)
      (product-nonzero (scale_l m) (power (vanishing q o) m) (scale-nonzero m) (power-nonzero (vanishing q o) o-apart m))
      (multiple q o m f c (suc m) (zeros (suc m) all c h) t z
      ∙ ap (λ x. power (vanishing q (t ∷ z ∷ [])) (suc m) *ℤ x) (too_many (to_o q o t z) (from_q q o t z) (values q o m f c) (suc m) m 0 0 (NatL.le_refl (suc m)))
      ∙ *ℤ-zero (power (vanishing q (t ∷ z ∷ [])) (suc m))
      ∙ sym (*ℤ-zero (scale_l m *ℤ power (vanishing q o) m)))

  coefficients-zero : ((j : ℕ) → j < suc m → is_four_zeros (v j) ≡ true) → (k c : ℕ) → k ≤ m → c < 4 → get_or f (4 * k + c) (pos 0) ≡ pos 0
  coefficients-zero all k c low h =
      sym (column-at c (suc m) f k (omega arith))
      ∙ all-zero (column c (suc m) f) (λ t z some-t. sym (value-column m c f t z) ∙ all_there all c h t z) k

  -- and back: where the polynomials are 0 there is no first value that is not
  values-zero : ZeroCurve m f → (j : ℕ) → j < suc m → is_four_zeros (v j) ≡ true
  values-zero e = by (least v (suc m))
    where
      value-zero : (c : ℕ) → c < 4 → (t z : ℤ) → value_at (curve m f) c (t ∷ z ∷ []) ≡ pos 0
      value-zero c k t z = value-column m c f t z ∙ zeros-value (column c (suc m) f) t z (λ i low. column-at c (suc m) f i (low_of i low) ∙ e i c (NatL.le_of_suc-le-suc (low_of i low)) k)
        where
          low_of : (i : ℕ) → i < length (column c (suc m) f) → i < suc m
          low_of i low = subst (λ n. i < n) (length-column c (suc m) f) low

      next : (d : ℕ) → d ≤ m → ((j : ℕ) → j < d → is_four_zeros (v j) ≡ true) → is_four_zeros (v d) ≡ true
      next d fits earlier =
          each-zeros (λ c. values q o m f c ((m - d) ∷ d ∷ []))
          (λ c k. nothing_left q o m f c d fits (zeros d earlier c k) (λ u. value-zero c k (get_or (along q o u) 0 (pos 0)) (get_or (along q o u) 1 (pos 0))))

      by : Least v (suc m) first → (j : ℕ) → j < suc m → is_four_zeros (v j) ≡ true
      by (at d h before here is) = absurd (clash (next d (NatL.le_of_suc-le-suc h) before) here)
      by (none all is) = all

  -- so exactly for the zero curve nothing is projected
  pub first-zero : (first ≡ four_zeros) ↔ ZeroCurve m f
  first-zero = let both = all-zeros v (suc m) in (λ e. coefficients-zero (both.0 e), λ z. both.1 (values-zero z))
