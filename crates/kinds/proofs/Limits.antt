-- What a kind with its degrees can be, where it is known: a curve of degree 1 to 10 or a patch of degree 1 to 8, the second degree 0, or a rectangular patch with both degrees
-- from 1 to 5. `by-known` goes through these cases; every other law on known kinds is an instance of it, or a computed test over the table of kinds and degrees.
use Prim.Native.Nat.{ℕ, zero, suc, ◌≤◌, ◌<◌}
use native.Mathlib.Omega.{arith}
use mathlib.Core.Path.{◌≡◌, refl, sym, subst}
use mathlib.Core.Bool.{true, false, ◌&&◌}
use mathlib.Core.List.{[], ◌∷◌}
use lib.Dec.{leb, eqb}
use borrow.Author.Tests.{leb-true, eqb-true}
use Rattle.integers.proofs.All.{clash, and_parts}
use Rattle.kinds.specs.Kinds.{group, groups_of, dimension_of, later_groups, later_dimension, known}

-- ---- one case for each kind

-- a degree from 1 to the highest
pub record UpTo (h m : ℕ) : Type 0 where
  pub low : 1 ≤ m
  pub high : m ≤ h

up-to : (h m : ℕ) → (leb 1 m && leb m h) ≡ true → UpTo h m
up-to h m e = let both = and_parts (leb 1 m) (leb m h) e in record { low = leb-true 1 m both.0; high = leb-true m h both.1 }

-- a kind of one group: its degree, and no second
one-group : (h p q : ℕ) (P : ℕ → Type 0) → (UpTo h p → P 0) → ((leb 1 p && leb p h) && (eqb q 0 && true)) ≡ true → P q
one-group h p q P of e =
    let both = and_parts (leb 1 p && leb p h) (eqb q 0 && true) e in
    subst P (sym (eqb-true q 0 (and_parts (eqb q 0) true both.1).0)) (of (up-to h p both.0))

-- a kind of two groups: both degrees
two-groups : (h p q : ℕ) (P : Type 0) → (UpTo h p → UpTo h q → P) → ((leb 1 p && leb p h) && ((leb 1 q && leb q h) && true)) ≡ true → P
two-groups h p q P of e =
    let both = and_parts (leb 1 p && leb p h) ((leb 1 q && leb q h) && true) e in
    of (up-to h p both.0) (up-to h q (and_parts (leb 1 q && leb q h) true both.1).0)

-- what holds of every curve, of every patch and of every rectangular patch holds of every kind with its degrees
pub by-known : (P : ℕ → ℕ → ℕ → Type 0) → ((p : ℕ) → UpTo 10 p → P 1 p 0) → ((p : ℕ) → UpTo 8 p → P 2 p 0) → ((p q : ℕ) → UpTo 5 p → UpTo 5 q → P 3 p q)
    → (kind p q : ℕ) → known kind p q ≡ true → P kind p q
by-known P curve patch rectangle zero p q h = absurd (clash h refl)
by-known P curve patch rectangle (suc zero) p q h = one-group 10 p q (P 1 p) (curve p) h
by-known P curve patch rectangle (suc (suc zero)) p q h = one-group 8 p q (P 2 p) (patch p) h
by-known P curve patch rectangle (suc (suc (suc zero))) p q h = two-groups 5 p q (P 3 p q) (rectangle p q) h
by-known P curve patch rectangle (suc (suc (suc (suc k)))) p q h = absurd (clash h refl)

-- ---- limits

-- the dimensions and degrees of a known kind are small
pub record Limits (kind p q : ℕ) : Type 0 where
  pub kind-low : 1 ≤ kind
  pub kind-below : kind < 4
  pub dimension-low : 1 ≤ dimension_of kind
  pub dimension-few : dimension_of kind ≤ 2
  pub degree-low : 1 ≤ p
  pub degree-below : p < 11
  pub second_below : q < 6
  pub no_second : later_dimension kind ≡ 0 → q ≡ 0
  pub second-low : 1 ≤ later_dimension kind → 1 ≤ q

pub limits : (kind p q : ℕ) → known kind p q ≡ true → Limits kind p q
limits = by-known Limits
    (λ p m.
    record {
      kind-low = omega arith;
      kind-below = omega arith;
      dimension-low = omega arith;
      dimension-few = omega arith;
      degree-low = m.low;
      degree-below = omega (arith, m.high);
      second_below = omega arith;
      no_second = λ none. refl;
      second-low = λ some. absurd (not-one some);
    })
    (λ p m.
    record {
      kind-low = omega arith;
      kind-below = omega arith;
      dimension-low = omega arith;
      dimension-few = omega arith;
      degree-low = m.low;
      degree-below = omega (arith, m.high);
      second_below = omega arith;
      no_second = λ none. refl;
      second-low = λ some. absurd (not-one some);
    })
    (λ p q m n.
    record {
      kind-low = omega arith;
      kind-below = omega arith;
      dimension-low = omega arith;
      dimension-few = omega arith;
      degree-low = m.low;
      degree-below = omega (arith, m.high);
      second_below = omega (arith, n.high);
      no_second = λ none. absurd (not_none none);
      second-low = λ some. n.low;
    })
  where
    not_none : ◌≡◌ {A = ℕ} 1 0 → ⊥
    not_none e = omega arith

    not-one : ◌≤◌ 1 0 → ⊥
    not-one e = omega arith

-- ---- any byte

-- what holds of each kind and of no kind holds of every number
pub by_kind : (P : ℕ → Type 0) → P 0 → P 1 → P 2 → P 3 → ((k : ℕ) → P (suc (suc (suc (suc k))))) → (kind : ℕ) → P kind
by_kind P none curve patch rectangle other zero = none
by_kind P none curve patch rectangle other (suc zero) = curve
by_kind P none curve patch rectangle other (suc (suc zero)) = patch
by_kind P none curve patch rectangle other (suc (suc (suc zero))) = rectangle
by_kind P none curve patch rectangle other (suc (suc (suc (suc k)))) = other k

-- the groups of a kind, whatever its degrees are
pub groups-some : (kind p q : ℕ) → (dimension_of kind ≡ 0 → ⊥) → groups_of kind p q ≡ group (dimension_of kind) p ∷ later_groups kind q
groups-some kind p q =
    by_kind (λ k. (dimension_of k ≡ 0 → ⊥) → groups_of k p q ≡ group (dimension_of k) p ∷ later_groups k q)
    (λ some. absurd (some refl)) (λ some. refl) (λ some. refl) (λ some. refl) (λ k some. absurd (some refl)) kind

pub groups-of : (kind p q : ℕ) → known kind p q ≡ true → groups_of kind p q ≡ group (dimension_of kind) p ∷ later_groups kind q
groups-of kind p q h = groups-some kind p q (λ none. let l = (limits kind p q h).dimension-low in omega arith)

-- no kind has more than two coordinates before Z
pub dimension-few : (kind : ℕ) → dimension_of kind ≤ 2
dimension-few = by_kind (λ kind. dimension_of kind ≤ 2) (omega arith) (omega arith) (omega arith) (omega arith) (λ k. omega arith)

-- there is no group after the first, or one
pub later-none : (kind q : ℕ) → later_dimension kind ≡ 0 → later_groups kind q ≡ []
later-none kind q = by_kind (λ k. later_dimension k ≡ 0 → later_groups k q ≡ []) (λ e. refl) (λ e. refl) (λ e. refl) (λ e. absurd (wrong e)) (λ k e. refl) kind
  where
    wrong : ◌≡◌ {A = ℕ} 1 0 → ⊥
    wrong e = omega arith

pub later-one : (kind q : ℕ) → (later_dimension kind ≡ 0 → ⊥) → later_groups kind q ≡ group (later_dimension kind) q ∷ []
later-one kind q =
    by_kind (λ k. (later_dimension k ≡ 0 → ⊥) → later_groups k q ≡ group (later_dimension k) q ∷ [])
    (λ some. absurd (some refl)) (λ some. absurd (some refl)) (λ some. absurd (some refl)) (λ some. refl) (λ k some. absurd (some refl)) kind

-- only one kind has a group after the first
pub no-later : (kind : ℕ) → (kind ≡ 3 → ⊥) → later_dimension kind ≡ 0
no-later = by_kind (λ k. (k ≡ 3 → ⊥) → later_dimension k ≡ 0) (λ a. refl) (λ a. refl) (λ a. refl) (λ a. absurd (a refl)) (λ k a. refl)

-- where there is one, it and the first have two vertices each
pub pairs-only : (kind : ℕ) → (later_dimension kind ≡ 0 → ⊥) → (later_dimension kind ≡ 1) × (dimension_of kind ≡ 1)
pairs-only =
    by_kind (λ k. (later_dimension k ≡ 0 → ⊥) → (later_dimension k ≡ 1) × (dimension_of k ≡ 1))
    (λ some. absurd (some refl)) (λ some. absurd (some refl)) (λ some. absurd (some refl)) (λ some. (refl, refl)) (λ k some. absurd (some refl))

-- a byte that is none of the kinds
abbrev pub NoKind : ℕ → Type 0
NoKind kind = (kind ≡ 1 → ⊥) × (kind ≡ 2 → ⊥) × (kind ≡ 3 → ⊥)

pub by-none : (P : ℕ → Type 0) → P 0 → ((k : ℕ) → P (suc (suc (suc (suc k))))) → (kind : ℕ) → NoKind kind → P kind
by-none P none other = by_kind (λ k. NoKind k → P k) (λ n. none) (λ n. absurd (n.0 refl)) (λ n. absurd (n.1 refl)) (λ n. absurd (n.2 refl)) (λ k n. other k)

-- has no groups, and is known with no degrees
pub no-groups : (kind p q : ℕ) → NoKind kind → groups_of kind p q ≡ []
no-groups kind p q = by-none (λ k. groups_of k p q ≡ []) refl (λ k. refl) kind

pub not_known : (kind p q : ℕ) → NoKind kind → known kind p q ≡ false
not_known kind p q = by-none (λ k. known k p q ≡ false) refl (λ k. refl) kind

pub no-dimension : (kind : ℕ) → NoKind kind → dimension_of kind ≡ 0
no-dimension kind = by-none (λ k. dimension_of k ≡ 0) refl (λ k. refl) kind
