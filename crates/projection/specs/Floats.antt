-- Which number a float is, and how its bit pattern shows it (IEEE 754, binary64).
use Rattle.std.specs.Prelude.{ℕ, zero, suc, ◌+◌, ◌-◌, ◌/◌, ◌%◌, ◌^◌, ◌<◌, ◌≡◌, Bool, leb, ℤ, pos, ◌*ℤ◌, Float}
use Rattle.std.specs.Float.{nan, inf, fin}
use Rattle.std.specs.Float.Ieee.{up, down, minus}
use Rattle.projection.specs.Projection.{negated_if}

-- 'write the f64 as n × 2^e with whole n and e' (request E13): the float is that number. A finite one is
-- ±m × 2^k, and a power of two is up ÷ down, of which one is 1. A NaN and an infinity are no number.
abbrev pub Writes : Float → ℤ → ℤ → Type 0
Writes nan n e = ⊥
Writes (inf s) n e = ⊥
Writes (fin s m k) n e =
    n *ℤ pos (up e) *ℤ pos (down k) ≡ negated_if s (pos m) *ℤ pos (up k) *ℤ pos (down e)

-- ---- bit patterns: a bit for the sign, 11 for the exponent's field, 52 for the digits

abbrev pub sign_bit : ℕ → Bool
sign_bit b = leb (2 ^ 63) b

abbrev pub exponent_field : ℕ → ℕ
exponent_field b = b % 2 ^ 63 / 2 ^ 52

abbrev pub digits : ℕ → ℕ
digits b = b % 2 ^ 52

-- the digits with a one before them, which a field of 0 does not have
abbrev pub significand : ℕ → ℕ → ℕ
significand zero t = t
significand (suc x) t = 2 ^ 52 + t

-- n, with its sign
abbrev pub shown_whole : ℕ → ℤ
shown_whole b = negated_if (sign_bit b) (pos (significand (exponent_field b) (digits b)))

-- e is the exponent's field less 1075, where a field of 0 counts as 1
abbrev pub shown_exponent : ℕ → ℤ
shown_exponent b = minus (exponent_field b - 1) 1074

-- the pattern shows the float, as a number: a field of 2047 is kept for NaNs and infinities
pub record Shows (b : ℕ) (x : Float) : Type 0 where
  pub number : exponent_field b < 2047
  pub written : Writes x (shown_whole b) (shown_exponent b)
