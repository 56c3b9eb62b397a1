-- The greatest common divisor of multiples.
use Prim.Native.Nat.{ℕ, ◌*◌, ◌/◌, ◌<◌, ◌∣◌}
use native.Mathlib.Nat as NatL
use mathlib.Core.Path.{◌≡◌, sym, subst}
use mathlib.Core.List.{List, [], ◌∷◌, map}
use Rattle.projection.specs.Gcd.{gcd}
use Rattle.projection.proofs.Gcd.{Each, gcd-divides, divides-gcd}

module _ (k : ℕ) (above : 0 < k) where
  abbrev times : List ℕ → List ℕ
  times xs = map (λ x. k * x) xs

  up : (d : ℕ) (xs : List ℕ) → Each d xs → Each (k * d) (times xs)
  up d [] e = tt
  up d (x ∷ xs) e = (NatL.mul-dvd-mul_left d k e.0, up d xs e.1)

  down : (d : ℕ) (xs : List ℕ) → Each (k * d) (times xs) → Each d xs
  down d [] e = tt
  down d (x ∷ xs) e = (NatL.dvd_of_mul-dvd-mul_left d above e.0, down d xs e.1)

  each-k : (xs : List ℕ) → Each k (times xs)
  each-k [] = tt
  each-k (x ∷ xs) = (NatL.dvd-mul_right k x, each-k xs)

  pub gcd-times : (xs : List ℕ) → gcd (times xs) ≡ k * gcd xs
  gcd-times xs = NatL.dvd_antisymm left (divides-gcd (k * gcd xs) (times xs) (up (gcd xs) xs (gcd-divides xs)))
    where
      h : ℕ
      h = gcd (times xs) / k

      is : k * h ≡ gcd (times xs)
      is = NatL.mul-div_cancel' k (divides-gcd k (times xs) (each-k xs))

      left : gcd (times xs) ∣ k * gcd xs
      left =
          subst (λ d. d ∣ k * gcd xs) is
          (NatL.mul-dvd-mul_left h k (divides-gcd h xs (down h xs (subst (λ d. Each d (times xs)) (sym is) (gcd-divides (times xs))))))
