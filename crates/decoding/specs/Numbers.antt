-- Numbers in a record (docs/RECORDS.md, 'The bytes'): how bytes make a number, without a sign or with one.
-- A part of a record is a list of bytes. It holds items of n bytes each, one after the other, and item 0 begins where the part begins.
use Rattle.std.specs.Prelude.{ℕ, ◌+◌, ◌-◌, ◌*◌, ◌/◌, ◌^◌, cond, length, take, drop, ltb, ℤ, pos, neg_ℤ}
use mathlib.Core.List.{List, [], map, foldl}
use Rattle.integers.specs.Sum.{upto}

-- item k: the n bytes from n k on; no bytes where the part does not have them all
unfoldable pub item : ℕ → List ℕ → ℕ → List ℕ
item n part k = cond (ltb k (length part / n)) (take n (drop (n * k) part)) []

-- big-endian: the bytes are the digits to base 256, the highest first
unfoldable pub unsigned_of : List ℕ → ℕ
unsigned_of bytes = foldl (λ v b. v * 256 + b) 0 bytes

-- two's complement, of v in n bytes: from the half of 256 ^ n on, v stands for v - 256 ^ n
unfoldable pub twos_complement : ℕ → ℕ → ℤ
twos_complement n v = cond (ltb (2 * v) (256 ^ n)) (pos v) (neg_ℤ (pos (256 ^ n - v)))

-- the two's complement number that the bytes are
unfoldable pub signed_of : List ℕ → ℤ
unfolding unsigned_of twos_complement
signed_of bytes = twos_complement (length bytes) (unsigned_of bytes)

-- signed number k of the part's numbers of n bytes: 0 where the part does not have its bytes
unfoldable pub number_at : ℕ → List ℕ → ℕ → ℤ
unfolding item signed_of
number_at n part k = signed_of (item n part k)

-- the list f 0, f 1, .., f (n - 1)
unfoldable pub numbers_to : ℕ → (ℕ → ℤ) → List ℤ
numbers_to n f = map f (upto n)

-- the numbers of a frame, vertex by vertex, where the part begins with field 2's value: nine places, of which a curve takes four and a rectangular patch eight
unfoldable pub frame_numbers : List ℕ → List ℤ
unfolding numbers_to number_at
frame_numbers part = numbers_to 9 (number_at 2 part)

-- the first `count` coefficients, where the part begins with field 3's value
unfoldable pub coefficients_of : List ℕ → ℕ → List ℤ
unfolding numbers_to number_at
coefficients_of part count = numbers_to count (number_at 4 part)
