-- The net's lines in the order of the loops: the entries are, for each count of the first group, those of the groups after it (`count-lines`), the counts of the first group are
-- its rows one after the other, and each loop writes the front of what is left.
use Prim.Native.Nat.{ℕ, zero, suc, ◌+◌, ◌*◌, ◌-◌, ◌≤◌, ◌<◌}
use native.Mathlib.Nat.{mul-one, mul_assoc, mul_comm}
use native.Mathlib.Omega.{arith}
use mathlib.Core.Path.{◌≡◌, refl, sym, ap, ap₂, ◌∙◌}
use mathlib.Core.Bool.{true}
use mathlib.Core.List.{List, [], ◌∷◌, ◌++◌, map, append_assoc, append-nil}
use lib.IntN.{ℤ}
use lib.ListN.{length, take, drop, length-drop, length-map, take-append-drop}
use lib.Seq.{drop-drop, take-append-le, drop-append-le, length-take-le}
use Rattle.integers.specs.Sum.{upto}
use Rattle.integers.proofs.Sums.{length-upto}
use Rattle.polar.specs.Order.{joined, counts}
use Rattle.polar.specs.Groups.{pairs, counts_over}
use Rattle.polar.proofs.Order.{joined-append}
use Rattle.entries.specs.Entries.{number_count}
use Rattle.entries.proofs.ListedOver.{length_pairs}
use Rattle.kinds.specs.Kinds.{group, groups_of, dimension_of, later_groups, later_dimension, known}
use Rattle.kinds.proofs.Limits.{limits, groups-of, by_kind}
use Rattle.kinds.proofs.Counts.{known-size}
use Rattle.text.specs.Text.{entry_line, entry_lines}
use Rattle.text.specs.Parts.{TwoOrThree, counts_at, last_of, row_of, lines_under}
use Rattle.text.proofs.InParts.{later_at}

-- ---- the numbers from k on

abbrev pub from : ℕ → ℕ → List ℕ
from k zero = []
from k (suc n) = k ∷ from (suc k) n

map-from : (k n : ℕ) → map suc (from k n) ≡ from (suc k) n
map-from k zero = refl
map-from k (suc n) = ap (λ l. suc k ∷ l) (map-from (suc k) n)

pub upto_from : (n : ℕ) → upto n ≡ from 0 n
upto_from zero = refl
upto_from (suc n) = ap (λ l. 0 ∷ l) (ap (map suc) (upto_from n) ∙ map-from 0 n)

-- one more is still to come
pub from_next : (k n : ℕ) → k < n → from k (n - k) ≡ k ∷ from (k + 1) (n - (k + 1))
from_next k n h =
    let rest : n - k ≡ suc (n - (k + 1)) = omega (arith, h) in
    let next : suc k ≡ k + 1 = omega arith in
    ap (from k) rest ∙ ap (λ i. k ∷ from i (n - (k + 1))) next

pub from-none : (k n : ℕ) → n ≤ k → from k (n - k) ≡ []
from-none k n h = let none : n - k ≡ 0 = omega (arith, h) in ap (from k) none

-- ---- entries one after the other

-- the next entry has the next four numbers
pub lines_next : (es : List (List ℕ)) (more : List (List (List ℕ))) (xs : List ℤ) (p : ℕ)
    → entry_lines (es ∷ more) (drop p xs) ≡ entry_line es (take 4 (drop p xs)) ++ entry_lines more (drop (p + 4) xs)
unfolding entry_lines
lines_next es more xs p = ap (λ l. entry_line es (take 4 (drop p xs)) ++ entry_lines more l) (drop-drop 4 p xs)

pub lines_none : (xs : List ℤ) → entry_lines [] xs ≡ []
unfolding entry_lines
lines_none xs = refl

-- entries with their numbers, then others with theirs
lines-append : (some more : List (List (List ℕ))) (xs ys : List ℤ) → length xs ≡ 4 * length some → entry_lines (some ++ more) (xs ++ ys) ≡ entry_lines some xs ++ entry_lines more ys
unfolding entry_lines
lines-append [] more [] ys h = refl
lines-append [] more (x ∷ xs) ys h = absurd (omega arith)
lines-append (es ∷ some) more xs ys h =
    let four : 4 ≤ length xs = omega arith in
    let rest : length (drop 4 xs) ≡ 4 * length some = length-drop 4 xs ∙ omega arith in
    ap₂ (λ a b. entry_line es a ++ entry_lines (some ++ more) b) (take-append-le 4 xs ys four) (drop-append-le 4 xs ys four)
    ∙ ap (λ l. entry_line es (take 4 xs) ++ l) (lines-append some more (drop 4 xs) ys rest)
    ∙ sym (append_assoc (entry_line es (take 4 xs)) (entry_lines some (drop 4 xs)) (entry_lines more ys))

-- ---- lists one after the other

joined-cong : {A B : Type 0} (f g : A → List B) → ((x : A) → f x ≡ g x) → (xs : List A) → joined f xs ≡ joined g xs
joined-cong f g h [] = refl
joined-cong f g h (x ∷ xs) = ap₂ ◌++◌ (h x) (joined-cong f g h xs)

joined-one : {A B : Type 0} (g : A → B) (xs : List A) → joined (λ x. g x ∷ []) xs ≡ map g xs
joined-one g [] = refl
joined-one g (x ∷ xs) = ap (λ l. g x ∷ l) (joined-one g xs)

map-one : {A B C : Type 0} (g : B → C) (f : A → B) (xs : List A) → map g (joined (λ x. f x ∷ []) xs) ≡ map (λ x. g (f x)) xs
map-one g f [] = refl
map-one g f (x ∷ xs) = ap (λ l. g (f x) ∷ l) (map-one g f xs)

-- ---- the entries under one count of the first group: the counts of the group after it, l rising

-- where there is no such group there is no degree of it
later-counts : (kind q : ℕ) → (later_dimension kind ≡ 0 → q ≡ 0) → counts_over (later_groups kind q) ≡ map (later_at (later_dimension kind) q) (upto (suc q))
unfolding counts_over counts
later-counts kind q =
    by_kind (λ k. (later_dimension k ≡ 0 → q ≡ 0) → counts_over (later_groups k q) ≡ map (later_at (later_dimension k) q) (upto (suc q)))
    (λ h. none (h refl)) (λ h. none (h refl)) (λ h. none (h refl)) (λ h. pair) (λ k h. none (h refl)) kind
  where
    none : q ≡ 0 → counts_over [] ≡ map (later_at 0 q) (upto (suc q))
    none h = sym (ap (λ n. map (later_at 0 n) (upto (suc n))) h)

    pair : counts_over (group 1 q ∷ []) ≡ map (later_at 1 q) (upto (suc q))
    pair = joined-one (λ e. e ∷ []) (counts 1 q) ∙ map-one (λ e. e ∷ []) (λ l. (q - l) ∷ l ∷ []) (upto (suc q))

module _ (e : List ℕ) (kind q : ℕ) where
  -- the entries from l on
  abbrev pub under_left : ℕ → List (List (List ℕ))
  under_left l = map (λ es. e ∷ es) (map (later_at (later_dimension kind) q) (from l (suc q - l)))

  pub under_whole : (later_dimension kind ≡ 0 → q ≡ 0) → map (λ es. e ∷ es) (counts_over (later_groups kind q)) ≡ under_left 0
  under_whole h =
      let all : suc q ≡ suc q - 0 = omega arith in
      ap (map (λ es. e ∷ es)) (later-counts kind q h ∙ ap (map (later_at (later_dimension kind) q)) (upto_from (suc q) ∙ ap (from 0) all))

  pub under_next : (l : ℕ) → l ≤ q → under_left l ≡ (e ∷ later_at (later_dimension kind) q l) ∷ under_left (l + 1)
  under_next l h = ap (λ ls. map (λ es. e ∷ es) (map (later_at (later_dimension kind) q) ls)) (from_next l (suc q) (omega (arith, h)))

  pub under_none : (l : ℕ) → q < l → under_left l ≡ []
  under_none l h = ap (λ ls. map (λ es. e ∷ es) (map (later_at (later_dimension kind) q) ls)) (from-none l (suc q) h)

-- four numbers for each
pub later-long : (kind q : ℕ) → (later_dimension kind ≡ 0 → q ≡ 0) → number_count (later_groups kind q) ≡ 4 * suc q
later-long kind q h =
    ap (λ ess. 4 * length ess) (later-counts kind q h) ∙ ap (λ k. 4 * k) (length-map (upto (suc q)) (later_at (later_dimension kind) q) ∙ length-upto (suc q))

-- ---- the rows of the first group

-- two or three vertices
counts-rows : (n m : ℕ) → 1 ≤ n → n ≤ 2 → counts n m ≡ joined (row_of n m) (upto (suc m))
unfolding counts
counts-rows zero m low high = absurd (omega (arith, low))
counts-rows (suc zero) m low high =
    joined-cong (λ h. ((m - h) ∷ h ∷ []) ∷ []) (row_of 1 m) (λ h. let second : h ≡ h - 0 = omega arith in ap (λ j. ((m - h) ∷ j ∷ []) ∷ []) second) (upto (suc m))
counts-rows (suc (suc zero)) m low high =
    joined-cong (λ h. map (λ e. (m - h) ∷ e) (counts 1 h)) (row_of 2 m) (λ h. map-one (λ e. (m - h) ∷ e) (λ k. (h - k) ∷ k ∷ []) (upto (suc h))) (upto (suc m))
counts-rows (suc (suc (suc n))) m low high = absurd (omega (arith, high))

pub counts-few : (n i j k : ℕ) → 1 ≤ n → n ≤ 2 → TwoOrThree (counts_at n i j k)
counts-few zero i j k low high = absurd (omega (arith, low))
counts-few (suc zero) i j k low high = (omega arith, omega arith)
counts-few (suc (suc zero)) i j k low high = (omega arith, omega arith)
counts-few (suc (suc (suc n))) i j k low high = absurd (omega (arith, high))

-- how many there are in a row
pub row-low : (n h : ℕ) → n < 2 → 1 ≡ suc (last_of n h)
row-low zero h b = refl
row-low (suc zero) h b = refl
row-low (suc (suc n)) h b = absurd (omega (arith, b))

pub row-high : (n h : ℕ) → 2 ≤ n → suc h ≡ suc (last_of n h)
row-high zero h b = absurd (omega (arith, b))
row-high (suc zero) h b = absurd (omega (arith, b))
row-high (suc (suc n)) h b = refl

pub last-most : (n h : ℕ) → last_of n h ≤ h
last-most zero h = omega arith
last-most (suc zero) h = omega arith
last-most (suc (suc n)) h = omega arith

pub length-row : (n m h : ℕ) → length (row_of n m h) ≡ suc (last_of n h)
length-row n m h = length-map (upto (suc (last_of n h))) (λ k. counts_at n (m - h) (h - k) k) ∙ length-upto (suc (last_of n h))

module _ (n m h : ℕ) where
  -- the counts of row h from k on
  abbrev pub row_left : ℕ → List (List ℕ)
  row_left k = map (λ k. counts_at n (m - h) (h - k) k) (from k (suc (last_of n h) - k))

  pub row_whole : row_of n m h ≡ row_left 0
  row_whole =
      let all : suc (last_of n h) ≡ suc (last_of n h) - 0 = omega arith in
      ap (map (λ k. counts_at n (m - h) (h - k) k)) (upto_from (suc (last_of n h)) ∙ ap (from 0) all)

  pub row_next : (k : ℕ) → k < suc (last_of n h) → row_left k ≡ counts_at n (m - h) (h - k) k ∷ row_left (k + 1)
  row_next k b = ap (map (λ k. counts_at n (m - h) (h - k) k)) (from_next k (suc (last_of n h)) b)

  pub row_none : (k : ℕ) → suc (last_of n h) ≤ k → row_left k ≡ []
  row_none k b = ap (map (λ k. counts_at n (m - h) (h - k) k)) (from-none k (suc (last_of n h)) b)

-- the counts of the rows from h on
abbrev pub rows_left : ℕ → ℕ → ℕ → List (List ℕ)
rows_left n m h = joined (row_of n m) (from h (suc m - h))

pub rows_next : (n m h : ℕ) → h < suc m → rows_left n m h ≡ row_of n m h ++ rows_left n m (h + 1)
rows_next n m h b = ap (joined (row_of n m)) (from_next h (suc m) b)

pub rows_none : (n m h : ℕ) → suc m ≤ h → rows_left n m h ≡ []
rows_none n m h b = ap (joined (row_of n m)) (from-none h (suc m) b)

rows_whole : (n m : ℕ) → 1 ≤ n → n ≤ 2 → counts n m ≡ rows_left n m 0
rows_whole n m low high =
    let all : suc m ≡ suc m - 0 = omega arith in
    counts-rows n m low high ∙ ap (joined (row_of n m)) (upto_from (suc m) ∙ ap (from 0) all)

-- ---- what is left of the net

-- the entries with these counts of the first group
abbrev pub entries_under : List (List ℕ) → ℕ → ℕ → List (List (List ℕ))
entries_under es kind q = pairs es (counts_over (later_groups kind q))

pub entries-whole : (kind p q : ℕ) → known kind p q ≡ true → counts_over (groups_of kind p q) ≡ entries_under (rows_left (dimension_of kind) p 0) kind q
unfolding counts_over
entries-whole kind p q right =
    let l = limits kind p q right in
    ap counts_over (groups-of kind p q right) ∙ ap (λ es. entries_under es kind q) (rows_whole (dimension_of kind) p l.dimension-low l.dimension-few)

-- for each count of the first group the numbers of the groups after it
pub entries-long : (kind p q : ℕ) → known kind p q ≡ true → number_count (later_groups kind q) * length (rows_left (dimension_of kind) p 0) ≡ number_count (groups_of kind p q)
entries-long kind p q right =
    let l = limits kind p q right in
    ap (λ es. number_count (later_groups kind q) * length es) (sym (rows_whole (dimension_of kind) p l.dimension-low l.dimension-few)) ∙ sym (known-size kind p q right)

swapped : (a b : ℕ) → 4 * a * b ≡ 4 * (b * a)
swapped a b = mul_assoc 4 a b ∙ ap (λ k. 4 * k) (mul_comm a b)

-- some counts have the next r numbers, and the others those after them
pub rows-lines : (some more : List (List ℕ)) (kind q : ℕ) (xs : List ℤ) (p r : ℕ) → r ≡ number_count (later_groups kind q) * length some → p + r ≤ length xs
    → entry_lines (entries_under (some ++ more) kind q) (drop p xs) ≡ entry_lines (entries_under some kind q) (take r (drop p xs)) ++ entry_lines (entries_under more kind q) (drop (p + r) xs)
rows-lines some more kind q xs p r wide room =
    let later = counts_over (later_groups kind q) in
    let long : length (take r (drop p xs)) ≡ 4 * length (pairs some later)
    = length-take-le r (drop p xs) (simp length-drop (omega arith)) ∙ wide ∙ swapped (length later) (length some) ∙ ap (λ k. 4 * k) (sym (length_pairs [] later some)) in
    ap₂ entry_lines (joined-append (λ x. map (λ ys. x ∷ ys) later) some more) (sym (take-append-drop r (drop p xs)))
    ∙ lines-append (pairs some later) (pairs more later) (take r (drop p xs)) (drop r (drop p xs)) long
    ∙ ap (λ l. entry_lines (pairs some later) (take r (drop p xs)) ++ entry_lines (pairs more later) l) (drop-drop r p xs)

-- the first of the counts has the next w numbers
pub count-lines : (e : List ℕ) (more : List (List ℕ)) (kind q : ℕ) (xs : List ℤ) (p w : ℕ) → w ≡ number_count (later_groups kind q) → p + w ≤ length xs
    → entry_lines (entries_under (e ∷ more) kind q) (drop p xs) ≡ lines_under e (later_groups kind q) (take w (drop p xs)) ++ entry_lines (entries_under more kind q) (drop (p + w) xs)
count-lines e more kind q xs p w wide room =
    let later = counts_over (later_groups kind q) in
    rows-lines (e ∷ []) more kind q xs p w (wide ∙ sym (mul-one (number_count (later_groups kind q)))) room
    ∙ ap (λ ess. entry_lines ess (take w (drop p xs)) ++ entry_lines (entries_under more kind q) (drop (p + w) xs)) (append-nil (map (λ es. e ∷ es) later))
