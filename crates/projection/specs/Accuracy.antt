-- How far a coordinate of a finite point may be off (request E13): 'write the f64 as n × 2^e with whole n and
-- e: the distance from the exact quotient x ÷ w of the numbers projected shall be at most that quotient's
-- absolute value ÷ 2 to the 53rd, stated by cross-multiplied whole numbers. Zero is exact'. It is the bound
-- of a division that is rounded to the nearest float.
use Rattle.std.specs.Prelude.{ℕ, ◌+◌, ◌*◌, ◌^◌, ◌≤◌, ◌<◌, ◌≡◌, true, false, ℤ, pos, nat_abs, ◌-ℤ◌, ◌*ℤ◌, Float}
use Rattle.std.specs.Float.{binary64}
use Rattle.std.specs.Float.Ieee.{up, down, to_bits}
use Rattle.projection.specs.Floats.{Writes, exponent_field, shown_whole, shown_exponent, Shows}
use Rattle.projection.specs.Projection.{is_zero, positive_zero, quotient_of, Four, projection_of_four}
use Rattle.projection.specs.declared.Projection.{Projection}
use Rattle.projection.specs.declared.Projection.TheVariants.{Finite, Direction, Nowhere, OutOfRange}

-- the distance of n × 2^e from x ÷ w is at most |x ÷ w| ÷ parts: multiplied by |w|, by parts and by down e,
-- where 2^e is up e ÷ down e
abbrev pub WithinPart : ℕ → ℤ → ℤ → ℤ → ℤ → Type 0
WithinPart parts x w n e =
    nat_abs (n *ℤ pos (up e) *ℤ w -ℤ x *ℤ pos (down e)) * parts ≤ nat_abs x * down e

-- '2 to the 53rd'
abbrev pub parts : ℕ
parts = 2 ^ 53

-- what a coordinate is to its numerator x and the weight w
pub record Accurate (x w : ℤ) (coordinate : Float) : Type 0 where
  -- in whichever way the f64 is written as n × 2^e
  pub near : (n e : ℤ) → Writes coordinate n e → WithinPart parts x w n e
  -- its bit pattern shows such an n and e; so it is no NaN and no infinity
  pub shown : Shows (to_bits binary64 coordinate) coordinate
  -- a field of 0 is that of zero alone; so it is not subnormal
  pub normal : is_zero x ≡ false → 0 < exponent_field (to_bits binary64 coordinate)
  -- 'Zero is exact'
  pub zero : is_zero x ≡ true → coordinate ≡ positive_zero

-- the three coordinates of a finite point, of the numbers projected; the other cases have none
abbrev pub AccuratePoint : Four → Projection → Type 0
AccuratePoint p (Finite at) =
    Accurate p.x p.w at.x × Accurate p.y p.w at.y × Accurate p.z p.w at.z
AccuratePoint p (Direction d) = Unit {0}
AccuratePoint p Nowhere = Unit {0}
AccuratePoint p OutOfRange = Unit {0}

-- the same of a bit pattern alone, for callers who have no float
pub record AccurateBits (x w : ℤ) (b : ℕ) : Type 0 where
  pub number : exponent_field b < 2047
  pub near : WithinPart parts x w (shown_whole b) (shown_exponent b)
  pub normal : is_zero x ≡ false → 0 < exponent_field b
  pub zero : is_zero x ≡ true → b ≡ 0

-- ---- the bound, and that there is no smaller one

-- whatever the four numbers are
abbrev pub AccurateProjections : Type 0
AccurateProjections = (p : Four) → AccuratePoint p (projection_of_four p)

-- The bound is reached: at this quotient, next to which the f64s are 2^-52 apart and which is almost half-way
-- between two of them, 2^53 + 643 parts are too many, however its f64 is written.
abbrev pub BoundReached : Type 0
BoundReached =
    let x = pos 28059810762434 in
    let w = pos 28059810762433 in
    (n e : ℤ) → Writes (quotient_of x w) n e → WithinPart (parts + 643) x w n e → ⊥
