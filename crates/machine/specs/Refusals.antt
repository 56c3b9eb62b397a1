-- Tables of refusals (docs/SPECIFICATION.md, 'Refusals'): a table is a list of tests in the order that is said there, each with the number of the refusal where it fails.
use Rattle.std.specs.Prelude.{ℕ, ◌≡◌, Bool, true, false, ◌&&◌, not, List, [], ◌∷◌, ◌++◌, eqb}

infix 70 ◌else◌
-- a row: the test, and the number
pub data Test : Type 0 where
  ◌else◌ : Bool → ℕ → Test

-- the number of the first test that fails, and 0 where all pass
abbrev pub first_failed : List Test → ℕ
first_failed [] = 0
first_failed (true else k ∷ tests) = first_failed tests
first_failed (false else k ∷ tests) = k

-- ---- what that number says (proofs/Refusals.antt)

-- every test passes
abbrev pub all_pass : List Test → Bool
all_pass [] = true
all_pass (test else k ∷ tests) = test && all_pass tests

-- no row has the number 0
abbrev pub numbered : List Test → Bool
numbered [] = true
numbered (test else k ∷ tests) = not (eqb k 0) && numbered tests

-- a row with number k fails, and all rows before it pass
abbrev pub FirstFails : ℕ → List Test → Type 0
FirstFails k tests = (before : List Test) × (after : List Test) × (tests ≡ before ++ (false else k ∷ after)) × (all_pass before ≡ true)
