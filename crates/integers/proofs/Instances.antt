-- A table of instances has one proof: a test that is computed over all its rows, and the law that turns the
-- test into what each row says.
use Prim.Native.Nat.{ℕ}
use mathlib.Core.Path.{◌≡◌, refl, ap₂}
use mathlib.Core.Bool.{Bool, true, false, ◌&&◌}
use mathlib.Core.List.{List, [], ◌∷◌}
use lib.Dec.{eqb}
use lib.IntN.{ℤ}
use borrow.Author.Tests.{eqb-true}
use Rattle.integers.specs.Test.{eq_z, all}
use Rattle.integers.specs.Instances.{Instance, ◌is◌, Right, AllRight}
use Rattle.integers.proofs.Signed.{eq_z→eq}
use Rattle.integers.proofs.All.{all-at, and_parts, clash}

-- two lists are the same, by a test of their members
abbrev pub same_by : {A : Type 0} → (A → A → Bool) → List A → List A → Bool
same_by test [] [] = true
same_by test [] (y ∷ ys) = false
same_by test (x ∷ xs) [] = false
same_by test (x ∷ xs) (y ∷ ys) = test x y && same_by test xs ys

pub same_lists : {A : Type 0} (test : A → A → Bool) → ((x y : A) → test x y ≡ true → x ≡ y) → (xs ys : List A) → same_by test xs ys ≡ true → xs ≡ ys
same_lists test sound [] [] h = refl
same_lists test sound [] (y ∷ ys) h = absurd (clash h refl)
same_lists test sound (x ∷ xs) [] h = absurd (clash h refl)
same_lists test sound (x ∷ xs) (y ∷ ys) h =
    let both = and_parts (test x y) (same_by test xs ys) h in
    ap₂ ◌∷◌ (sound x y both.0) (same_lists test sound xs ys both.1)

-- a row by a test of the members of its lists
abbrev pub agrees_by : {A : Type 0} → (A → A → Bool) → Instance A → Bool
agrees_by test (given is must) = same_by test given must

all-right-by : {A : Type 0} (test : A → A → Bool) → ((x y : A) → test x y ≡ true → x ≡ y) → (rows : List (Instance A)) → all (agrees_by test) rows ≡ true → AllRight rows
all-right-by {A} test sound rows computed i m = right i (all-at (agrees_by test) rows computed i m)
  where
    right : (i : Instance A) → agrees_by test i ≡ true → Right i
    right (given is must) h = same_lists test sound given must h

-- ---- tables of whole numbers, and of natural ones

pub all_right : (rows : List (Instance ℤ)) → all (agrees_by eq_z) rows ≡ true → AllRight rows
all_right = all-right-by eq_z eq_z→eq

pub all-right-natural : (rows : List (Instance ℕ)) → all (agrees_by eqb) rows ≡ true → AllRight rows
all-right-natural = all-right-by eqb eqb-true
