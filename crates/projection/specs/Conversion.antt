-- Every coordinate of a finite point is 'one division of binary64 numbers, to which both whole numbers were
-- converted exactly; a numerator 0 gives positive zero' (docs/SPECIFICATION.md, 'Projection').
use Rattle.std.specs.Prelude.{◌≤◌, ◌≡◌, cond, ℤ, pos, nat_abs, ◌*ℤ◌, Float}
use Rattle.std.specs.Float.{nan, inf, fin, binary64}
use Rattle.std.specs.Float.Ieee.{up, down, unlike, round, of_int, div}
use Rattle.projection.specs.Projection.{limit, is_zero, is_negative, negated_if}
use Rattle.projection.specs.Projection.{positive_zero, projection_of}
use Rattle.projection.specs.declared.Coords.{Coords}
use Rattle.projection.specs.declared.Projection.TheVariants.{Finite}

-- The float is the whole number v itself. A finite one is n × 2^e with whole n and e, and 2^e is up e ÷ down
-- e, of which one is 1: so n × up e = v × down e. A NaN and an infinity are no number.
abbrev pub Exactly : ℤ → Float → Type 0
Exactly v nan = ⊥
Exactly v (inf s) = ⊥
Exactly v (fin s m e) = let n = negated_if s (pos m) in n *ℤ pos (up e) ≡ v *ℤ pos (down e)

-- what a coordinate is to its component v and the weight w; `of_int` is the conversion `v as f64` of the code
pub record DividedOnce (v w : ℤ) (coordinate : Float) : Type 0 where
  -- 'both whole numbers were converted exactly'
  pub numerator : Exactly v (of_int binary64 v)
  pub divisor : Exactly w (of_int binary64 w)
  -- 'one division' of these two, and 'a numerator 0 gives positive zero'
  pub divided : coordinate ≡ cond (is_zero v) positive_zero (div binary64 (of_int binary64 v) (of_int binary64 w))
  -- so it is v ÷ w rounded once: `round` gives the nearest f64 to a quotient of natural numbers, with a sign
  pub rounded : coordinate
      ≡ cond (is_zero v) positive_zero
      (round binary64 (unlike (is_negative v) (is_negative w)) (nat_abs v) (nat_abs w))

pub record ExactlyConverted : Type 0 where
  -- within 2 to the 48th a conversion changes nothing
  pub converted : (v : ℤ) → nat_abs v ≤ limit → Exactly v (of_int binary64 v)
  -- the three coordinates of a finite point, whatever the four numbers are
  pub coordinates : (x y z w : ℤ) (p : Coords) → projection_of x y z w ≡ Finite p
      → DividedOnce x w p.x × DividedOnce y w p.y × DividedOnce z w p.z
