-- Lists in parts of l numbers: a loop that works on one part after the other leaves each part worked on and the rest as it was, since the parts before and after one do not change.
use Prim.Native.Nat.{ℕ, zero, suc, ◌+◌, ◌*◌, ◌-◌, ◌≤◌, ◌<◌, zero-le, suc-le-suc}
use native.Mathlib.Nat.{mul-zero, mul-suc, mul-le-mul_left, le-add_right, le_trans, le_of_eq, le_refl}
use native.Mathlib.Numerals.{add-one}
use native.Mathlib.Omega.{arith}
use mathlib.Core.Path.{◌≡◌, refl, sym, ap, ap₂, ◌∙◌, subst}
use mathlib.Core.Bool.{Bool, true, ◌&&◌}
use mathlib.Core.List.{List, [], ◌∷◌, ◌++◌, append_assoc}
use lib.IntN.{ℤ, pos, nat_abs}
use lib.ListN.{length, get_or, take, drop, length-append, length-drop}
use lib.Seq.{take-add, take-take, take_at, drop_at, drop-drop, length-take-le, get_or-take, get_or-drop, get_or-append-add}
use Rattle.integers.specs.Sum.{upto}
use Rattle.integers.specs.Test.{all}
use Rattle.integers.proofs.Sums.{upto_snoc}
use Rattle.integers.proofs.All.{and_parts, all_append, all_first}
use Rattle.polar.specs.Order.{joined}
use Rattle.polar.proofs.Order.{joined-append}
use Rattle.entries.specs.Rows.{listed, size}
use Rattle.entries.proofs.Listed.{length-listed}
use borrow.Author.Tests.{leb-true}
use borrow.Rule.Slice.PartMut.{drop_put, mid_len}
use Rattle.entries.proofs.Places.{joined-map}
use Rattle.projection.specs.Projection.{in_range}
use Rattle.nets.specs.Rows.{KeptFrom}
use Rattle.nets.specs.Levels.{replaced_list}
use Rattle.nets.specs.Parts.{part_at, in_parts, Parts}

-- ---- one part

-- the end of a part
pub part_end : (l : ℕ) {j k : ℕ} → j < k → l * j + l ≤ l * k
part_end l {j} {k} h = let up = mul-le-mul_left l h in omega (arith, up, mul-suc l j)

pub part-long : (l : ℕ) (xs : List ℤ) (j k : ℕ) → j < k → l * k ≤ length xs → length (part_at l xs j) ≡ l
part-long l xs j k h long = length-take-le l (drop (l * j) xs) (subst (λ n. l ≤ n) (sym (length-drop (l * j) xs)) (let up = part_end l h in omega (arith, up, long)))

-- the numbers of a part are those of the list from its place on
pub part-at : (l : ℕ) (xs : List ℤ) (j i : ℕ) → i < l → get_or (part_at l xs j) i (pos 0) ≡ get_or xs (l * j + i) (pos 0)
part-at l xs j i h = get_or-take l (drop (l * j) xs) i (pos 0) h ∙ get_or-drop (l * j) xs i (pos 0)

-- ---- parts worked on

module _ (f : List ℤ → List ℤ) (l : ℕ) (keeps : (ys : List ℤ) → length ys ≡ l → length (f ys) ≡ l) (xs : List ℤ) where
  -- the parts worked on, one after the other
  abbrev front : ℕ → List ℤ
  front k = joined (λ j. f (part_at l xs j)) (upto k)

  front-next : (k : ℕ) → front (suc k) ≡ front k ++ f (part_at l xs k)
  front-next k =
      ap (joined (λ j. f (part_at l xs j))) (upto_snoc k)
      ∙ joined-append (λ j. f (part_at l xs j)) (upto k) (k ∷ [])
      ∙ ap (λ ys. front k ++ ys) (append-nil (f (part_at l xs k)))
    where
      append-nil : (ys : List ℤ) → ys ++ [] ≡ ys
      append-nil [] = refl
      append-nil (y ∷ ys) = ap (λ zs. y ∷ zs) (append-nil ys)

  front_long : (k : ℕ) → l * k ≤ length xs → length (front k) ≡ l * k
  front_long zero h = sym (mul-zero l)
  front_long (suc k) h =
      ap length (front-next k)
      ∙ length-append (front k) (f (part_at l xs k))
      ∙ ap₂ ◌+◌ (front_long k (le_trans (mul-le-mul_left l (less k)) h)) (keeps (part_at l xs k) (part-long l xs k (suc k) (le_refl (suc k)) h))
      ∙ sym (mul-suc l k)
    where
      less : (n : ℕ) → n ≤ suc n
      less n = omega arith

  pub parts_none : in_parts f l 0 xs ≡ xs
  unfolding in_parts
  parts_none = ap (λ n. drop n xs) (mul-zero l)

  -- no part worked on yet has changed
  pub parts_next : (k : ℕ) → l * k ≤ length xs → part_at l (in_parts f l k xs) k ≡ part_at l xs k
  unfolding in_parts
  parts_next k h = ap (take l) (drop_at (front k) (drop (l * k) xs) (l * k) (front_long k h))

  pub parts-kept : (k : ℕ) → l * k ≤ length xs → length (in_parts f l k xs) ≡ length xs
  unfolding in_parts
  parts-kept k h = length-append (front k) (drop (l * k) xs) ∙ ap₂ ◌+◌ (front_long k h) (length-drop (l * k) xs) ∙ omega (arith, h)

  -- nothing past more parts has changed
  pub parts-past : (k parts : ℕ) → k ≤ parts → l * parts ≤ length xs → KeptFrom (l * parts) xs (in_parts f l k xs)
  unfolding in_parts
  parts-past k parts h long i past =
      ap (λ p. get_or (front k ++ drop (l * k) xs) p (pos 0)) (split ∙ ap (λ n. n + (i - l * k)) (sym (front_long k (le_trans before long))))
      ∙ get_or-append-add (front k) (drop (l * k) xs) (i - l * k) (pos 0)
      ∙ get_or-drop (l * k) xs (i - l * k) (pos 0)
      ∙ ap (λ p. get_or xs p (pos 0)) (sym split)
    where
      before : l * k ≤ l * parts
      before = mul-le-mul_left l h

      split : i ≡ l * k + (i - l * k)
      split = omega (arith, before)

  -- the next part is worked on, in its place
  pub parts_more : (k at len : ℕ) (cur ys : List ℤ) → l * suc k ≤ length xs → at ≡ l * k → len ≡ l → cur ≡ in_parts f l k xs → ys ≡ f (take len (drop at cur))
      → take at cur ++ (ys ++ drop len (drop at cur)) ≡ in_parts f l (k + 1) xs
  unfolding in_parts
  parts_more k at len cur ys h at-is len_is so_far is =
      ap (λ zs. take at cur ++ (zs ++ drop len (drop at cur))) is
      ∙ (λ i. take (at-is i) (so_far i) ++ (f (take (len_is i) (drop (at-is i) (so_far i))) ++ drop (len_is i) (drop (at-is i) (so_far i))))
      ∙ ap₂ (λ a b. a ++ (f (take l b) ++ drop l b)) (take_at (front k) (drop (l * k) xs) (l * k) whole) (drop_at (front k) (drop (l * k) xs) (l * k) whole)
      ∙ sym (append_assoc (front k) (f (part_at l xs k)) (drop l (drop (l * k) xs)))
      ∙ ap₂ ◌++◌ (sym (front-next k)) (drop-drop l (l * k) xs ∙ ap (λ n. drop n xs) (further l k))
      ∙ ap (λ n. in_parts f l n xs) (sym (add-one k))
    where
      whole : length (front k) ≡ l * k
      whole = front_long k (le_trans (mul-le-mul_left l (less k)) h)
        where
          less : (n : ℕ) → n ≤ suc n
          less n = omega arith

      further : (a b : ℕ) → a * b + a ≡ a * suc b
      further a b = sym (mul-suc a b)

-- ---- lists one after the other

-- lists that agree at each number below k, one after the other
pub joined-upto : (k : ℕ) (f g : ℕ → List ℤ) → ((j : ℕ) → j < k → f j ≡ g j) → joined f (upto k) ≡ joined g (upto k)
joined-upto zero f g h = refl
joined-upto (suc k) f g h =
    ap₂ ◌++◌ (h 0 (suc-le-suc zero-le))
    (joined-map f suc (upto k) ∙ joined-upto k (λ j. f (suc j)) (λ j. g (suc j)) (λ j b. h (suc j) (suc-le-suc b)) ∙ sym (joined-map g suc (upto k)))

-- ---- lists that begin alike

-- a part of what a list begins with is that part of the list
pub drop-take-part : (count from len : ℕ) (xs : List ℤ) → from + len ≤ count → take len (drop from (take count xs)) ≡ take len (drop from xs)
drop-take-part count zero len xs h = take-take len count xs (omega arith)
drop-take-part zero (suc from) len xs h = absurd (wrong h)
  where
    wrong : suc from + len ≤ 0 → ⊥
    wrong b = omega arith
drop-take-part (suc count) (suc from) len [] h = refl
drop-take-part (suc count) (suc from) len (x ∷ xs) h = drop-take-part count from len xs (omega arith)

-- ---- a turn of a loop over the parts

-- a net's new numbers in front of what stood past them are as many as before
pub listed-keeps : (w n m : ℕ) (g : ℕ → List ℕ → ℤ) (ys : List ℤ) → size w n m ≤ length ys → length (listed w n m g ++ drop (size w n m) ys) ≡ length ys
listed-keeps w n m g ys h = length-append (listed w n m g) (drop (size w n m) ys) ∙ ap₂ ◌+◌ (length-listed w n m g) (length-drop (size w n m) ys) ∙ omega arith

pub replaced-keeps : (n m v : ℕ) (ws ys : List ℤ) → length ys ≡ size 4 n m → length (replaced_list 4 n m ws v ys) ≡ size 4 n m
unfolding replaced_list
replaced-keeps n m v ws ys is = listed-keeps 4 n m _ ys (le_of_eq (sym is)) ∙ is

-- numbers that are all in range are so in each part
part-all : (count from len : ℕ) (xs : List ℤ) → from + len ≤ count → all in_range (take count xs) ≡ true → all in_range (take len (drop from xs)) ≡ true
part-all count from len xs h ok =
    (and_parts (all in_range (take len (drop from xs))) (all in_range (take (count - (from + len)) (drop len (drop from xs)))) (sym split ∙ rest)).0
  where
    split : all in_range (take (len + (count - (from + len))) (drop from xs)) ≡ (all in_range (take len (drop from xs)) && all in_range (take (count - (from + len)) (drop len (drop from xs))))
    split = ap (all in_range) (take-add len (count - (from + len)) (drop from xs)) ∙ all_append in_range (take len (drop from xs)) (take (count - (from + len)) (drop len (drop from xs)))

    whole : count ≡ from + (len + (count - (from + len)))
    whole = omega arith

    rest : all in_range (take (len + (count - (from + len))) (drop from xs)) ≡ true
    rest =
        (and_parts (all in_range (take from xs)) (all in_range (take (len + (count - (from + len))) (drop from xs)))
        (sym (all_append in_range (take from xs) (take (len + (count - (from + len))) (drop from xs))) ∙ ap (all in_range) (sym (take-add from (len + (count - (from + len))) xs)) ∙ ap (λ k. all in_range (take k xs)) (sym whole) ∙ ok)).1

-- the places of a part as the code works them out, k parts being done
pub record Turn (l k parts from len : ℕ) (xs cur : List ℤ) : Type 0 where
  pub at : from ≡ l * k
  pub as_many : len ≡ l
  pub ends : from + len ≤ length cur
  pub part : take len (drop from cur) ≡ part_at l xs k

module _ (f : List ℤ → List ℤ) (l : ℕ) (keeps : (ys : List ℤ) → length ys ≡ l → length (f ys) ≡ l) (xs : List ℤ) (parts : ℕ) (long : l * parts ≤ length xs) where
  pub turn : (k width : ℕ) (cur : List ℤ) → k < parts → width ≡ l → cur ≡ in_parts f l k xs → Turn l k parts (width * k) (width * k + width - width * k) xs cur
  turn k width cur below is so_far =
      record {
        at = ap (λ n. n * k) is;
        as_many = again ∙ is;
        ends = subst (λ n. n ≤ length cur) (sym (ap (λ n. width * k + n) again ∙ ap (λ n. n * k + n) is)) (subst (λ n. l * k + l ≤ n) (sym (ap length so_far ∙ parts-kept f l keeps xs k before)) (le_trans (part_end l below) long));
        part = ap₂ (λ n a. take n (drop a cur)) (again ∙ is) (ap (λ n. n * k) is) ∙ ap (part_at-of k) so_far ∙ parts_next f l keeps xs k before;
      }
    where
      again : width * k + width - width * k ≡ width
      again = omega arith

      before : l * k ≤ length xs
      before = le_trans (le_trans (le-add_right (l * k) l) (part_end l below)) long

      part_at-of : ℕ → List ℤ → List ℤ
      part_at-of j ys = part_at l ys j

-- past a part that other numbers are put in the place of, nothing changes
pub part-put : (at end : ℕ) (cur ys : List ℤ) → at ≤ end → end ≤ length cur → length ys ≡ length (take (end - at) (drop at cur)) → KeptFrom end cur (take at cur ++ (ys ++ drop (end - at) (drop at cur)))
part-put at end cur ys low ends same i past =
    ap (λ p. get_or (take at cur ++ (ys ++ drop (end - at) (drop at cur))) p (pos 0)) split
    ∙ sym (get_or-drop end (take at cur ++ (ys ++ drop (end - at) (drop at cur))) (i - end) (pos 0))
    ∙ ap (λ l. get_or l (i - end) (pos 0)) (drop_put at end cur ys low ends (same ∙ mid_len at end cur ends))
    ∙ get_or-drop end cur (i - end) (pos 0)
    ∙ ap (λ p. get_or cur p (pos 0)) (sym split)
  where
    split : i ≡ end + (i - end)
    split = omega arith

-- a part that there is ends within the room, and the parts up to it within the list
pub turn_low : (l parts k width : ℕ) {bound : ℕ} → k < parts → width ≡ l → l * parts ≤ bound → width * k + width ≤ bound
turn_low l parts k width {bound} below is room = subst (λ n. n * k + n ≤ bound) (sym is) (le_trans (part_end l below) room)

pub turn_last : (l parts k long : ℕ) → k < parts → l * parts ≤ long → l * suc k ≤ long
turn_last l parts k long below h = le_trans (mul-le-mul_left l below) h

-- a test of one number more
pub all_more : (test : ℕ → Bool) (k : ℕ) → all test (upto k) ≡ true → test k ≡ true → all test (upto (k + 1)) ≡ true
all_more test k so_far next =
    ap (λ n. all test (upto n)) (add-one k) ∙ ap (all test) (upto_snoc k) ∙ all_append test (upto k) (k ∷ []) ∙ (λ i. so_far i && (next i && true))

-- ---- parts of a net

module _ {n m k : ℕ} {xs : List ℤ} (asked : Parts n m k xs) where
  abbrev l : ℕ
  l = size 4 n m

  pub part-ranged : (j : ℕ) → j < k → all in_range (take l (part_at l xs j)) ≡ true
  part-ranged j h =
      ap (all in_range) (take-take l l (drop (l * j) xs) (le_refl l))
      ∙ part-all (l * k) (l * j) l xs (part_end l h) asked.range

  pub part-each : (j : ℕ) → j < k → (i : ℕ) → 0 ≤ i → i < l → nat_abs (get_or (part_at l xs j) i (pos 0)) ≤ 281474976710656
  part-each j h i low below =
      leb-true (nat_abs (get_or (part_at l xs j) i (pos 0))) 281474976710656
      (all_first in_range l (part_at l xs j) (part-ranged j h) i below (subst (λ c. i < c) (sym (part-long l xs j k h asked.long)) below))
