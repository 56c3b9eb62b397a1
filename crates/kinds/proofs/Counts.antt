-- How many numbers a kind with its degrees has: a group of two vertices has m + 1 entries and one of three (m + 1)(m + 2)/2, several groups have the product, and there are as many
-- monomials (entries/proofs/Lengths.antt). The bounds follow by the kind.
use Prim.Native.Nat.{ℕ, suc, ◌+◌, ◌*◌, ◌≤◌, ◌<◌}
use native.Mathlib.Nat.{mul-le-mul, mul_assoc, mul_comm, le_trans}
use native.Mathlib.Omega.{arith}
use mathlib.Core.Path.{◌≡◌, refl, sym, ap, ◌∙◌, subst}
use mathlib.Core.Bool.{true}
use mathlib.Core.List.{List, [], ◌∷◌}
use lib.Dec.{lit≤}
use lib.ListN.{length}
use Rattle.polar.specs.Order.{counts}
use Rattle.polar.specs.Groups.{Group, monomials_over, counts_over}
use Rattle.entries.specs.Entries.{number_count}
use Rattle.entries.specs.Rows.{size}
use Rattle.entries.proofs.Lengths.{length-one, length_two, monomials-counts-over}
use Rattle.entries.proofs.ListedOver.{length_pairs}
use Rattle.kinds.specs.Kinds.{group, groups_of, dimension_of, later_groups, most_vertices, known}
use Rattle.kinds.specs.Frames.{vertex_count, frame_count}
use Rattle.kinds.specs.Counts.{NumberCount}
use Rattle.kinds.proofs.Limits.{NoKind, by-known, by_kind, no-groups, groups-of}

-- ---- any groups

-- as many coefficients as numbers of entries
pub coefficients-entries : (gs : List Group) → 4 * length (monomials_over gs) ≡ number_count gs
coefficients-entries gs = ap (λ k. 4 * k) (monomials-counts-over gs)

pub counted : (gs : List Group) (r : ℕ) → r ≡ number_count gs → NumberCount gs r
counted gs r e = record { entries = e; coefficients = e ∙ sym (coefficients-entries gs) }

-- seen from the first group: in each of its rows the numbers of the groups after it
pub row-size : (n m : ℕ) (gs : List Group) → number_count (group n m ∷ gs) ≡ size (number_count gs) n m
unfolding counts_over
row-size n m gs =
    ap (λ k. 4 * k) (length_pairs [] (counts_over gs) (counts n m) ∙ mul_comm (length (counts n m)) (length (counts_over gs)))
    ∙ sym (mul_assoc 4 (length (counts_over gs)) (length (counts n m)))

-- ---- groups of two and of three vertices

-- no groups have one entry
none-count : number_count [] ≡ 4
unfolding counts_over
none-count = refl

pair-count : (m : ℕ) (gs : List Group) → number_count (group 1 m ∷ gs) ≡ number_count gs * (m + 1)
pair-count m gs = row-size 1 m gs ∙ ap (λ k. number_count gs * k) (length-one m ∙ omega arith)

triple-count : (m : ℕ) → number_count (group 2 m ∷ []) ≡ 2 * (m + 1) * (m + 2)
triple-count m = row-size 2 m [] ∙ ap (λ k. k * length (counts 2 m)) none-count ∙ omega (arith, length_two m, mul_assoc 2 (m + 1) (m + 2))

-- ---- by the kind

pub curve-count : (kind m q : ℕ) → kind ≡ 1 → 4 * (m + 1) ≡ number_count (groups_of kind m q)
curve-count kind m q e = sym (ap (λ k. number_count (groups_of k m q)) e ∙ pair-count m [] ∙ ap (λ k. k * (m + 1)) none-count)

pub patch-count : (kind m q : ℕ) → kind ≡ 2 → 2 * (m + 1) * (m + 2) ≡ number_count (groups_of kind m q)
patch-count kind m q e = sym (ap (λ k. number_count (groups_of k m q)) e ∙ triple-count m)

pub later-count : (kind q : ℕ) → kind ≡ 3 → 4 * (q + 1) ≡ number_count (later_groups kind q)
later-count kind q e = sym (ap (λ k. number_count (later_groups k q)) e ∙ pair-count q [] ∙ ap (λ k. k * (q + 1)) none-count)

pub rectangle-count : (kind m q : ℕ) → kind ≡ 3 → 4 * (m + 1) * (q + 1) ≡ number_count (groups_of kind m q)
rectangle-count kind m q e =
    mul_assoc 4 (m + 1) (q + 1)
    ∙ ap (λ k. 4 * k) (mul_comm (m + 1) (q + 1))
    ∙ sym (mul_assoc 4 (q + 1) (m + 1))
    ∙ sym
    (ap (λ k. number_count (groups_of k m q)) e
    ∙ pair-count m (group 1 q ∷ [])
    ∙ ap (λ k. k * (m + 1)) (sym (later-count 3 q refl)))

pub other-count : (kind m q : ℕ) → NoKind kind → 4 ≡ number_count (groups_of kind m q)
other-count kind m q n = sym (ap number_count (no-groups kind m q n) ∙ none-count)

-- where there is no group after the first a row has four numbers
pub no-later-count : (kind q : ℕ) → (kind ≡ 3 → ⊥) → 4 ≡ number_count (later_groups kind q)
no-later-count kind q =
    by_kind (λ k. (k ≡ 3 → ⊥) → 4 ≡ number_count (later_groups k q)) (λ a. sym none-count) (λ a. sym none-count) (λ a. sym none-count) (λ a. absurd (a refl)) (λ k a. sym none-count) kind

-- ---- bounds

-- what a patch's count comes to where the degree is below n, and a rectangular patch's where both are
pub patch-low : {m n : ℕ} → m < n → 2 * (m + 1) * (m + 2) ≤ 2 * n * (n + 1)
patch-low h = mul-le-mul (omega arith) (omega arith)

pub rectangle-low : {m q n : ℕ} → m < n → q < n → 4 * (m + 1) * (q + 1) ≤ 4 * n * n
rectangle-low a b = mul-le-mul (omega arith) (omega arith)

-- the degrees being bytes, a kind or no kind
pub count_low : (kind : ℕ) {m q : ℕ} → m < 256 → q < 256 → number_count (groups_of kind m q) ≤ 262144
count_low kind {m} {q} b d =
    by_kind (λ k. number_count (groups_of k m q) ≤ 262144)
    (low (other-count 0 m q ((λ e. omega arith), (λ e. omega arith), (λ e. omega arith))) (lit≤ tt))
    (low (curve-count 1 m q refl) (omega arith))
    (low (patch-count 2 m q refl) (le_trans (patch-low {n = 256} b) (lit≤ tt)))
    (low (rectangle-count 3 m q refl) (rectangle-low {n = 256} b d))
    (λ k. low (other-count (suc (suc (suc (suc k)))) m q ((λ e. omega arith), (λ e. omega arith), (λ e. omega arith))) (lit≤ tt))
    kind
  where
    low : {c d : ℕ} → c ≡ d → c ≤ 262144 → d ≤ 262144
    low e h = subst (λ n. n ≤ 262144) e h

-- the entries of a known kind have room in a net's 180 places
pub entries_fit : (kind p q : ℕ) → known kind p q ≡ true → number_count (groups_of kind p q) ≤ 180
entries_fit = by-known (λ kind p q. number_count (groups_of kind p q) ≤ 180)
    (λ p m. subst (λ c. c ≤ 180) (curve-count 1 p 0 refl) (omega (arith, m.high)))
    (λ p m. subst (λ c. c ≤ 180) (patch-count 2 p 0 refl) (patch-low {n = 9} (omega (arith, m.high))))
    (λ p q m n. subst (λ c. c ≤ 180) (rectangle-count 3 p q refl) (le_trans (rectangle-low {n = 6} (omega (arith, m.high)) (omega (arith, n.high))) (lit≤ tt)))

-- its rows, seen from the first group
pub known-size : (kind p q : ℕ) → known kind p q ≡ true → number_count (groups_of kind p q) ≡ size (number_count (later_groups kind q)) (dimension_of kind) p
known-size kind p q h = ap number_count (groups-of kind p q h) ∙ row-size (dimension_of kind) p (later_groups kind q)

pub size_fits : (kind p q : ℕ) → known kind p q ≡ true → size (number_count (later_groups kind q)) (dimension_of kind) p ≤ 180
size_fits kind p q h = subst (λ c. c ≤ 180) (known-size kind p q h) (entries_fit kind p q h)

-- ---- vertices

pub frame-few : (kind p q : ℕ) → frame_count (groups_of kind p q) ≤ 9
frame-few kind p q = by_kind (λ k. frame_count (groups_of k p q) ≤ 9) (lit≤ tt) (lit≤ tt) (lit≤ tt) (lit≤ tt) (λ k. lit≤ tt) kind

-- no kind has more than the most
pub vertices-few : (kind p q : ℕ) → vertex_count (groups_of kind p q) ≤ most_vertices
vertices-few kind p q =
    by_kind (λ k. vertex_count (groups_of k p q) ≤ most_vertices) (omega arith) (omega arith) (omega arith) (omega arith) (λ k. omega arith) kind
