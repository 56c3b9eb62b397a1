-- Laws of the numbers in a part: parts of lists, items, digits to base 256, and lists of numbers.
-- Each law is over the width n, so that 16-bit and 32-bit numbers have the same proofs.
use mathlib.Core.Path.{◌≡◌, refl, sym, ◌∙◌, ap, subst}
use mathlib.Core.Bool.{Bool, true, false, ◌&&◌}
use mathlib.Core.List.{List, [], ◌∷◌, foldl, map-map}
use Prim.Native.Nat.{ℕ, zero, suc, ◌+◌, ◌-◌, ◌*◌, ◌/◌, ◌≤◌, ◌<◌}
use native.Mathlib.Nat.{le-div_iff_mul-le, add-mul, one-mul, mul_comm, mul-div_right, le_trans}
use native.Mathlib.Numerals.{add-one}
use native.Mathlib.Omega.{arith}
use borrow.Author.Tests.{ltb-true, ltb-false, lt-ltb, le-ltb}
use lib.ListN.{length, get_or, take, drop, length-map}
use lib.Seq.{take-add, drop_at, length-take-le, take-take, take_all, drop-length, take-nil, drop-cons, ext_get_or}
use lib.Dec.{ltb}
use lib.IntN.{ℤ, pos}
use Rattle.integers.specs.Sum.{upto}
use Rattle.integers.proofs.Sums.{length-upto}
use Rattle.integers.specs.Test.{all}
use Rattle.integers.proofs.All.{and-true, and_none}
use Rattle.decoding.specs.Numbers.{item, unsigned_of, twos_complement, signed_of, number_at, numbers_to, coefficients_of}

-- ---- parts of a list

pub none_left : (l : List ℕ) → take (length l - length l) (drop (length l) l) ≡ []
none_left l = ap (take (length l - length l)) (drop-length l) ∙ take-nil (length l - length l)

-- ---- items

-- the last byte of an item is in the part
pub item-end : (n k l : ℕ) → 0 < n → k < l / n → n * k + n ≤ l
item-end n k l h t =
    let m : suc k * n ≤ l = (le-div_iff_mul-le h).0 t in
    let e : suc k * n ≡ n * k + n = rw (← add-one k, add-mul, one-mul, mul_comm k n) refl in
    omega arith

pub item-there : (n : ℕ) (part : List ℕ) (k : ℕ) → k < length part / n → item n part k ≡ take n (drop (n * k) part)
unfolding item
item-there n part k h = rw (lt-ltb k (length part / n) h) refl

pub item-lacking : (n : ℕ) (part : List ℕ) (k : ℕ) → length part / n ≤ k → item n part k ≡ []
unfolding item
item-lacking n part k h = rw (le-ltb k (length part / n) h) refl

-- bytes of the first m are bytes of the whole
pub take-drop-take : (l : List ℕ) (a n m : ℕ) → a + n ≤ m → m ≤ length l
    → take n (drop a (take m l)) ≡ take n (drop a l)
take-drop-take l a n m h k =
    let split : m ≡ a + (m - a) = omega arith in
    ap (λ (j : ℕ). take n (drop a (take j l))) split
    ∙ ap (λ (x : List ℕ). take n (drop a x)) (take-add a (m - a) l)
    ∙ ap (take n) (drop_at (take a l) (take (m - a) (drop a l)) a (length-take-le a l (omega arith)))
    ∙ take-take n (m - a) (drop a l) (omega arith)

-- the items of a value are those of the part that begins with it
pub item-of-value : (n : ℕ) (part : List ℕ) (m k : ℕ) → 0 < n → m ≤ length part → k < m / n → item n (take m part) k ≡ item n part k
item-of-value n part m k h b t =
    let long : length (take m part) ≡ m = length-take-le m part b in
    let ends : n * k + n ≤ m = item-end n k m h t in
    let more : k < length part / n = (le-div_iff_mul-le h).1 (le_trans ((le-div_iff_mul-le h).0 t) b) in
    item-there n (take m part) k (rw long t)
    ∙ take-drop-take part (n * k) n m ends b
    ∙ sym (item-there n part k more)

-- ---- digits to base 256

abbrev digit : ℕ → ℕ → ℕ
digit v b = v * 256 + b

-- one digit more, of at least one that is left
next-digit : (part : List ℕ) (v n at : ℕ) → at < length part
    → foldl digit v (take (suc n) (drop at part)) ≡ foldl digit (v * 256 + get_or part at 0) (take n (drop (at + 1) part))
next-digit part v n at h =
    ap (λ (l : List ℕ). foldl digit v (take (suc n) l)) (drop-cons part at 0 h)
    ∙ ap (λ (j : ℕ). foldl digit (v * 256 + get_or part at 0) (take n (drop j part))) (sym (add-one at))

two_digits : (part : List ℕ) (v at : ℕ) → at + 2 ≤ length part
    → foldl digit v (take 2 (drop at part)) ≡ 65536 * v + (256 * get_or part at 0 + get_or part (at + 1) 0)
two_digits part v at h = next-digit part v 1 at (omega arith) ∙ next-digit part (v * 256 + get_or part at 0) 0 (at + 1) (omega arith) ∙ omega arith

pub two_bytes : (part : List ℕ) (at : ℕ) → at + 2 ≤ length part → unsigned_of (take 2 (drop at part)) ≡ 256 * get_or part at 0 + get_or part (at + 1) 0
unfolding unsigned_of
two_bytes part at h = two_digits part 0 at h ∙ omega arith

-- ---- numbers

-- no bytes are the number 0
pub number-lacking : (n : ℕ) (part : List ℕ) (k : ℕ) → length part / n ≤ k → number_at n part k ≡ pos 0
unfolding number_at signed_of unsigned_of twos_complement
number-lacking n part k h = ap signed_of (item-lacking n part k h)

pub number-of-value : (n : ℕ) (part : List ℕ) (m k : ℕ) → 0 < n → m ≤ length part → k < m / n → number_at n (take m part) k ≡ number_at n part k
unfolding number_at
number-of-value n part m k h b t = ap signed_of (item-of-value n part m k h b t)

-- ---- lists of numbers

pub length-numbers_to : (n : ℕ) (f : ℕ → ℤ) → length (numbers_to n f) ≡ n
unfolding numbers_to
length-numbers_to n f = length-map (upto n) f ∙ length-upto n

pub get_d-numbers_to : (n : ℕ) (f : ℕ → ℤ) (k : ℕ) → k < n → get_or (numbers_to n f) k (pos 0) ≡ f k
unfolding numbers_to
get_d-numbers_to zero f k h = absurd (omega arith)
get_d-numbers_to (suc n) f zero h = refl
get_d-numbers_to (suc n) f (suc k) h = ap (λ (l : List ℤ). get_or l k (pos 0)) (map-map f suc (upto n)) ∙ get_d-numbers_to n (λ i. f (suc i)) k (omega arith)

-- a list with f k at each place k is `numbers_to`
pub numbers_to-by : (l : List ℤ) (f : ℕ → ℤ) → ((k : ℕ) → k < length l → get_or l k (pos 0) ≡ f k) → l ≡ numbers_to (length l) f
numbers_to-by l f h =
    ext_get_or (pos 0) l (numbers_to (length l) f) (sym (length-numbers_to (length l) f)) (λ k b. h k b ∙ sym (get_d-numbers_to (length l) f k b))

-- two lists of numbers with the same at each place
numbers_to-same : (n : ℕ) (f g : ℕ → ℤ) → ((k : ℕ) → k < n → f k ≡ g k) → numbers_to n f ≡ numbers_to n g
numbers_to-same n f g h =
    ext_get_or (pos 0) (numbers_to n f) (numbers_to n g) (length-numbers_to n f ∙ sym (length-numbers_to n g))
    (λ k b. let below = subst (λ (m : ℕ). k < m) (length-numbers_to n f) b in get_d-numbers_to n f k below ∙ h k below ∙ sym (get_d-numbers_to n g k below))

-- ---- a test of the numbers f 0, f 1, .., f (n - 1)

next-number : (n : ℕ) (f : ℕ → ℤ) → numbers_to (suc n) f ≡ f 0 ∷ numbers_to n (λ i. f (suc i))
unfolding numbers_to
next-number n f = ap (λ (l : List ℤ). f 0 ∷ l) (map-map f suc (upto n))

module _ (test : ℤ → Bool) where
  pub each-passes : (n : ℕ) (f : ℕ → ℤ) → ((k : ℕ) → k < n → test (f k) ≡ true) → all test (numbers_to n f) ≡ true
  unfolding numbers_to
  each-passes zero f h = refl
  each-passes (suc n) f h = ap (all test) (next-number n f) ∙ and-true (h 0 (omega arith)) (each-passes n (λ i. f (suc i)) (λ k b. h (suc k) (omega arith)))

  pub one-fails : (n : ℕ) (f : ℕ → ℤ) (i : ℕ) → i < n → test (f i) ≡ false → all test (numbers_to n f) ≡ false
  one-fails zero f i b h = absurd (omega arith)
  one-fails (suc n) f zero b h = ap (all test) (next-number n f) ∙ ap (λ (t : Bool). t && all test (numbers_to n (λ i. f (suc i)))) h
  one-fails (suc n) f (suc i) b h =
      ap (all test) (next-number n f)
      ∙ ap (λ (t : Bool). test (f 0) && t) (one-fails n (λ i. f (suc i)) i (omega arith) h)
      ∙ and_none (test (f 0))

-- ---- the numbers of a value, in the part that begins with it

quarter : (count : ℕ) → 4 * count / 4 ≡ count
quarter count = mul-div_right count {m = 4} (omega arith)

-- only the bytes that they have matter: the coefficients of field 3's value are those of the record from that value on
pub coefficients-of-value : (part : List ℕ) (count : ℕ) → coefficients_of (take (4 * count) part) count ≡ coefficients_of part count
unfolding coefficients_of
coefficients-of-value part count = by-case (ltb (length part) (4 * count)) refl
  where
    by-case : (t : Bool) → ltb (length part) (4 * count) ≡ t → numbers_to count (number_at 4 (take (4 * count) part)) ≡ numbers_to count (number_at 4 part)
    by-case true e = ap (λ (l : List ℕ). numbers_to count (number_at 4 l)) (take_all (4 * count) part (let h = ltb-true (length part) (4 * count) e in omega arith))
    by-case false e =
        let whole = ltb-false (length part) (4 * count) e in
        numbers_to-same count (number_at 4 (take (4 * count) part)) (number_at 4 part)
        (λ k b. number-of-value 4 part (4 * count) k (omega arith) whole (subst (λ (m : ℕ). k < m) (sym (quarter count)) b))
