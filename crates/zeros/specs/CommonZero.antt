-- Curves through a common zero (docs/SPECIFICATION.md, 'Common zeros'; request E7), over a record's
-- polynomials and every frame that a list of calls reaches: 'take out of all four polynomials the highest
-- power of the linear form that vanishes at the point, and project what is left there'. The library's numbers
-- come from a net's entries (machine/specs/Nets.antt); here they are compared with what is left when the
-- polynomials are divided.
use Rattle.std.specs.Prelude.{ℕ, ◌+◌, ◌-◌, ◌*◌, ◌<◌, ◌≤◌, ◌≡◌, ◌↔◌, List, [], ◌∷◌, map, ℤ, pos, ◌-ℤ◌, ◌*ℤ◌, get_or}
use Rattle.integers.specs.Sum.{upto}
use Rattle.alike.specs.Alike.{Alike}
use Rattle.polar.specs.Sigma.{Point}
use Rattle.polar.specs.Groups.{monomials_over}
use Rattle.polar.specs.Polar.{value_over, terms, power}
use Rattle.entries.specs.Frame.{combination, vertex_at}
use Rattle.projection.specs.Projection.{Four, four_numbers, four_zeros, FourInRange, projection_of_four, without_length}
use Rattle.projection.specs.declared.Projection.{Projection}
use Rattle.projection.specs.declared.Projection.TheVariants.{Nowhere}
use Rattle.kinds.specs.Frames.{Frames}
use Rattle.machine.specs.Projected.{other_counts}
use Rattle.machine.specs.Steps.{Found, four_of}
use Rattle.machine.specs.Nets.{step_of}
use Rattle.machine.specs.Comparison.{Polynomials, groups, scaled_value, machine_four}
use Rattle.machine.specs.First.{first_refusal}
use Rattle.machine.specs.Demand3.{net_reached, frames_reached}
use Rattle.machine.specs.declared.Weights.{Weights}
use Rattle.machine.specs.declared.Call.{Call}
use Rattle.machine.specs.declared.Call.TheVariants as call

-- ---- what is taken out, and what is left

-- the four polynomials of a curve of degree m
abbrev pub curve : ℕ → List ℤ → Polynomials
curve m coefficients = record { kind = 1; degree = m; second = 0; coefficients = coefficients }

-- component c of them at a point (T, Z)
abbrev pub value_at : Polynomials → ℕ → Point → ℤ
value_at f c p = value_over (groups f) (terms c (monomials_over (groups f)) f.coefficients) (p ∷ [])

-- all four at a point
abbrev pub values_at : Polynomials → Point → List ℤ
values_at f p = map (λ c. value_at f c p) (upto 4)

-- 'the linear form that vanishes at the point' q, at (T, Z)
abbrev pub vanishing : Point → Point → ℤ
vanishing q p = get_or q 0 (pos 0) *ℤ get_or p 1 (pos 0) -ℤ get_or q 1 (pos 0) *ℤ get_or p 0 (pos 0)

-- Its power d is taken out of all four polynomials of degree m, and four of degree n are left: one nonzero
-- multiple of each of the former is the power times the latter, at every (T, Z). The power is 'the highest':
-- what is left does not vanish at q again, not in all four.
pub record TakenOut (m : ℕ) (f : List ℤ) (q : Point) (d n : ℕ) (g : List ℤ) : Type 0 where
  pub degrees : n + d ≡ m
  pub factor : ℤ
  pub factor_nonzero : factor ≡ pos 0 → ⊥
  pub product : (c : ℕ) → c < 4 → (t z : ℤ)
      → factor *ℤ value_at (curve m f) c (t ∷ z ∷ []) ≡ power (vanishing q (t ∷ z ∷ [])) d *ℤ value_at (curve n g) c (t ∷ z ∷ [])
  pub highest : ((c : ℕ) → c < 4 → value_at (curve n g) c q ≡ pos 0) → ⊥

-- 'the zero curve': every coefficient is 0
abbrev pub ZeroCurve : ℕ → List ℤ → Type 0
ZeroCurve m f = (k c : ℕ) → k ≤ m → c < 4 → get_or f (4 * k + c) (pos 0) ≡ pos 0

-- 'Any nonzero multiple reads alike': the projection, its length left out, of every multiple in range of the
-- numbers xs
abbrev pub ProjectionOfMultiples : List ℤ → Projection → Type 0
ProjectionOfMultiples xs at = (x : Four) → FourInRange x → Alike (four_numbers x) xs → at ≡ without_length (projection_of_four x)

-- ---- what is found

-- the point q at weights of the only frame
abbrev pub line_q : Frames → Weights → Point
line_q frames w = combination 2 (w.r ∷ w.s ∷ []) (vertex_at (get_or frames 0 []))

-- at the weights w there were found a point, the numbers projected, and the projection
module _ (m : ℕ) (f : List ℤ) (frames : Frames) (w : Weights) (point projected : Four) (at : Projection) where
  -- where the power d is taken out, and the polynomials g of degree n are left
  pub record WhatIsLeft (d n : ℕ) (g : List ℤ) : Type 0 where
    -- 'the numbers projected are the polar value of m − d copies of q and d of r (of s if q's weight of s is
    -- 0), d that power'
    pub numbers : projected ≡ machine_four (curve m f) frames (call.Point w) (other_counts w.s (m - d) d ∷ [])
    -- they are in range, and one nonzero fraction takes them to what is left at q
    pub inside : FourInRange projected
    pub multiple : Alike (four_numbers projected) (values_at (curve n g) (line_q frames w))
    -- at a common zero 'the found four components stay zero', and the projection is that of what is left at
    -- q; 'a direction found so has no length of its own'
    pub at_zero : 0 < d → (point ≡ four_zeros) × ProjectionOfMultiples (values_at (curve n g) (line_q frames w)) at
    -- 'Finite points and directions elsewhere read as before'
    pub elsewhere : d ≡ 0 → (projected ≡ point) × (at ≡ projection_of_four point)

  pub record ContinuousProjection : Type 0 where
    -- the found four components are L × F(q)
    pub found : point ≡ four_of (scaled_value (curve m f) (line_q frames w ∷ []))
    -- q is a point: not both of its numbers are 0
    pub somewhere : line_q frames w ≡ pos 0 ∷ pos 0 ∷ [] → ⊥
    -- whichever way the highest power is taken out
    pub left : (d n : ℕ) (g : List ℤ) → TakenOut m f (line_q frames w) d n g → WhatIsLeft d n g
    -- and it can be taken out, unless the curve is the zero curve
    pub taken : (ZeroCurve m f → ⊥) → (d : ℕ) × (n : ℕ) × (g : List ℤ) × TakenOut m f (line_q frames w) d n g
    -- 'Only the zero curve is still `nowhere`'
    pub nowhere : (at ≡ Nowhere) ↔ ZeroCurve m f

-- ---- along every list of calls

-- m, coefficients and the numbers of a frame that are accepted, any list of calls, and weights at which the
-- library's functions find a point of the net that the list leaves
abbrev pub CommonZeros : Type 0
CommonZeros =
    (m : ℕ) (f numbers : List ℤ) → first_refusal (curve m f) numbers ≡ 0 → (calls : List Call)
    → (w : Weights) (point projected : Four) (at : Projection)
    → (step_of (net_reached (curve m f) numbers calls) (call.Point w)).answer ≡ Found point projected at
    → ContinuousProjection m f (frames_reached (curve m f) numbers calls) w point projected at
