-- The laws of a table of tests: its number is 0 exactly if every test passes, and k exactly if a test with number k is the first that fails.
use Prim.Native.Nat.{ℕ, zero, suc}
use native.Mathlib.Omega.{arith}
use mathlib.Core.Path.{◌≡◌, refl, sym, ap, ◌∙◌}
use mathlib.Core.Bool.{Bool, true, false, ◌&&◌, not}
use mathlib.Core.Logic.{◌↔◌}
use mathlib.Core.List.{List, [], ◌∷◌, ◌++◌}
use lib.Dec.{eqb}
use lib.ListN.{drop}
use Rattle.machine.specs.Refusals.{Test, ◌else◌, first_failed, all_pass, numbered, FirstFails}
use Rattle.integers.proofs.All.{clash, and_parts, and_assoc}

not-zero : (k : ℕ) → not (eqb k 0) ≡ true → k ≡ 0 → ⊥
not-zero zero n h = clash n refl
not-zero (suc k) n h = omega arith

pub none-failed : (tests : List Test) → numbered tests ≡ true → (first_failed tests ≡ 0) ↔ (all_pass tests ≡ true)
none-failed [] n = (λ h. refl, λ h. refl)
none-failed (true else k ∷ tests) n = none-failed tests (and_parts (not (eqb k 0)) (numbered tests) n).1
none-failed (false else k ∷ tests) n = (λ h. absurd (not-zero k (and_parts (not (eqb k 0)) (numbered tests) n).0 h), λ h. absurd (clash h refl))

pub first-failed : (tests : List Test) (k : ℕ) → (first_failed tests ≡ suc k) ↔ FirstFails (suc k) tests
first-failed tests k = (from tests, λ fails. ap first_failed fails.2 ∙ to fails.0 fails.1 fails.3)
  where
    from : (rows : List Test) → first_failed rows ≡ suc k → FirstFails (suc k) rows
    from [] h = absurd (wrong h)
      where
        wrong : 0 ≡ suc k → ⊥
        wrong w = omega arith
    from (true else j ∷ rows) h = let rest = from rows h in (true else j ∷ rest.0, rest.1, ap (λ r. true else j ∷ r) rest.2, rest.3)
    from (false else j ∷ rows) h = ([], rows, ap (λ i. false else i ∷ rows) h, refl)

    to : (before after : List Test) → all_pass before ≡ true → first_failed (before ++ (false else suc k ∷ after)) ≡ suc k
    to [] after h = refl
    to (true else j ∷ before) after h = to before after h
    to (false else j ∷ before) after h = absurd (clash h refl)

-- ---- the first row, as the code goes through a table

pub fails : (k : ℕ) (tests : List Test) {test : Bool} → test ≡ false → first_failed (test else k ∷ tests) ≡ k
fails k tests h = ap (λ b. first_failed (b else k ∷ tests)) h

pub passes : (k : ℕ) (tests : List Test) {test : Bool} → test ≡ true → first_failed (test else k ∷ tests) ≡ first_failed tests
passes k tests h = ap (λ b. first_failed (b else k ∷ tests)) h

-- ---- two tables, one after the other

-- where the first passes, the second decides
pub passed_first : (before rest : List Test) → all_pass before ≡ true → first_failed (before ++ rest) ≡ first_failed rest
passed_first [] rest h = refl
passed_first (true else k ∷ before) rest h = passed_first before rest h
passed_first (false else k ∷ before) rest h = absurd (clash h refl)

-- where the first refuses, it decides
pub refused-first : (before rest : List Test) → (first_failed before ≡ 0 → ⊥) → first_failed (before ++ rest) ≡ first_failed before
refused-first [] rest h = absurd (h refl)
refused-first (true else k ∷ before) rest h = refused-first before rest h
refused-first (false else k ∷ before) rest h = refl

pub all-pass-append : (before rest : List Test) → all_pass (before ++ rest) ≡ (all_pass before && all_pass rest)
all-pass-append [] rest = refl
all-pass-append (test else k ∷ before) rest = ap (λ b. test && b) (all-pass-append before rest) ∙ sym (and_assoc test (all_pass before) (all_pass rest))

-- ---- one row

-- the test of row i, counted from 0; there is nothing to pass past the last
abbrev pub test_at : List Test → ℕ → Bool
test_at [] i = true
test_at (test else k ∷ tests) zero = test
test_at (test else k ∷ tests) (suc i) = test_at tests i

-- where all pass each does
pub row-passes : (tests : List Test) → all_pass tests ≡ true → (i : ℕ) → test_at tests i ≡ true
row-passes [] h i = refl
row-passes (test else k ∷ tests) h zero = (and_parts test (all_pass tests) h).0
row-passes (test else k ∷ tests) h (suc i) = row-passes tests (and_parts test (all_pass tests) h).1 i

-- and so do those from row i on
pub rest-passes : (tests : List Test) → all_pass tests ≡ true → (i : ℕ) → all_pass (drop i tests) ≡ true
rest-passes tests h zero = h
rest-passes [] h (suc i) = refl
rest-passes (test else k ∷ tests) h (suc i) = rest-passes tests (and_parts test (all_pass tests) h).1 i
