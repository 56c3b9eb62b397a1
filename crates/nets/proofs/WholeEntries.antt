-- Numbers of whole entries, gone through four at a time: before the end there is one more entry, and its numbers stand in front of the rest.
use Prim.Native.Nat.{ℕ, suc, ◌+◌, ◌*◌, ◌/◌, ◌^◌, ◌≤◌, ◌<◌}
use native.Mathlib.Omega.{arith}
use mathlib.Core.Path.{◌≡◌, refl, sym, ap, ◌∙◌}
use mathlib.Core.Bool.{Bool, true, false, ◌&&◌}
use mathlib.Core.List.{List, [], ◌∷◌}
use lib.IntN.{ℤ, pos}
use lib.ListN.{length, drop, get_or}
use lib.Seq.{drop-cons}
use lib.Signed.{mag}
use Rattle.integers.specs.Test.{all}
use Rattle.integers.proofs.Signed.{seen}
use Rattle.nets.specs.Rows.{Whole}
use Rattle.nets.proofs.Row.{element}

-- an entry before the end is there whole
pub whole-inside : {n e : ℕ} → Whole n → e < n / 4 → 4 * e + 4 ≤ n
whole-inside whole h = omega (arith, whole.four)

-- its numbers stand in front of the rest
pub next-entry : (xs : List ℤ) (i : ℕ) → i + 4 ≤ length xs
    → drop i xs ≡ get_or xs i (pos 0) ∷ get_or xs (i + 1) (pos 0) ∷ get_or xs (i + 2) (pos 0) ∷ get_or xs (i + 3) (pos 0) ∷ drop (i + 4) xs
next-entry xs i up =
    step i (i + 1) (omega arith) (omega arith)
    ∙ ap (λ r. get_or xs i (pos 0) ∷ r)
    (step (i + 1) (i + 2) (omega arith) (omega arith)
    ∙ ap (λ r. get_or xs (i + 1) (pos 0) ∷ r)
    (step (i + 2) (i + 3) (omega arith) (omega arith) ∙ ap (λ r. get_or xs (i + 2) (pos 0) ∷ r) (step (i + 3) (i + 4) (omega arith) (omega arith))))
  where
    one : (k : ℕ) → suc k ≡ k + 1
    one k = omega arith

    step : (k l : ℕ) → k < length xs → k + 1 ≡ l → drop k xs ≡ get_or xs k (pos 0) ∷ drop l xs
    step k l h is = drop-cons xs k (pos 0) h ∙ ap (λ j. get_or xs k (pos 0) ∷ drop j xs) (one k ∙ is)

-- the same, with the numbers as they are read
pub entry-read : (xs : List ℤ) (i : ℕ) → i + 4 ≤ length xs
    → mag (get_or xs i (pos 0)) < 2 ^ 63 → mag (get_or xs (i + 1) (pos 0)) < 2 ^ 63 → mag (get_or xs (i + 2) (pos 0)) < 2 ^ 63 → mag (get_or xs (i + 3) (pos 0)) < 2 ^ 63
    → drop i xs ≡ seen (get_or xs i (pos 0)) ∷ seen (get_or xs (i + 1) (pos 0)) ∷ seen (get_or xs (i + 2) (pos 0)) ∷ seen (get_or xs (i + 3) (pos 0)) ∷ drop (i + 4) xs
entry-read xs i up a b c d =
    next-entry xs i up
    ∙ (λ j.
    sym (element (get_or xs i (pos 0)) a) j
    ∷ sym (element (get_or xs (i + 1) (pos 0)) b) j
    ∷ sym (element (get_or xs (i + 2) (pos 0)) c) j
    ∷ sym (element (get_or xs (i + 3) (pos 0)) d) j
    ∷ drop (i + 4) xs)

-- tests of the numbers of one entry, and of those after it
pub regroup : (a b c d r : Bool) → (a && (b && (c && (d && r)))) ≡ ((a && (b && (c && (d && true)))) && r)
regroup false b c d r = refl
regroup true false c d r = refl
regroup true true false d r = refl
regroup true true true false r = refl
regroup true true true true r = refl

-- the test of one entry, as its numbers are read, and of those after it
pub test_next : (p : ℤ → Bool) (xs : List ℤ) (i : ℕ) → i + 4 ≤ length xs
    → mag (get_or xs i (pos 0)) < 2 ^ 63 → mag (get_or xs (i + 1) (pos 0)) < 2 ^ 63 → mag (get_or xs (i + 2) (pos 0)) < 2 ^ 63 → mag (get_or xs (i + 3) (pos 0)) < 2 ^ 63
    → all p (drop i xs) ≡ (all p (seen (get_or xs i (pos 0)) ∷ seen (get_or xs (i + 1) (pos 0)) ∷ seen (get_or xs (i + 2) (pos 0)) ∷ seen (get_or xs (i + 3) (pos 0)) ∷ []) && all p (drop (i + 4) xs))
test_next p xs i up a b c d = ap (all p) (entry-read xs i up a b c d) ∙ regroup (at i) (at (i + 1)) (at (i + 2)) (at (i + 3)) (all p (drop (i + 4) xs))
  where
    at : ℕ → Bool
    at k = p (seen (get_or xs k (pos 0)))
