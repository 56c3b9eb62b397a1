-- Numbers as std reads them: a slice cut into chunks of n bytes, and a chunk as a big-endian number in two's
-- complement. A chunk is an item of the part, and what is read of it is the item's number.
use Rattle.std.proofs.Common.{◌≡◌, ℕ, zero, suc, ◌+◌, ◌-◌, ◌*◌, ◌/◌, ◌^◌, ◌<◌, Bool, true, false, cond, ltb, List, [], ◌∷◌, length, get_or, take, drop, ℤ, pos, neg_ℤ, refl, sym, ap, subst, ◌∙◌, arith}
use Rattle.std.specs.Simd.{first_chunks}
use mir.Syntax.{Width, w8, w16, w32}
use mir.Val.{Fits, bits, hbits, to_z}
use mir.Facts.{to_z_pos, to_z-neg}
use borrow.Author.Tests.{ltb-true, ltb-false}
use lib.ListN.{length-drop}
use lib.Seq.{length-take-le}
use Rattle.std.proofs.lemmas.List.{get_or-drop, drop-drop}
use Rattle.std.proofs.Math.Nat.{mul-suc}
use Rattle.decoding.proofs.Numbers.{item-end, item-there}
use Rattle.decoding.specs.Numbers.{item, unsigned_of, twos_complement, signed_of, number_at}

-- ---- two's complement

module _ (w : Width) (n : ℕ) (whole : 2 ^ bits w ≡ 256 ^ n) (halves : 2 * 2 ^ hbits w ≡ 256 ^ n) where
  stands : (v : ℕ) → v < 256 ^ n → to_z w v ≡ twos_complement n v
  unfolding twos_complement
  stands v h = by (ltb (2 * v) (256 ^ n)) refl
    where
      by : (t : Bool) → ltb (2 * v) (256 ^ n) ≡ t → to_z w v ≡ cond t (pos v) (neg_ℤ (pos (256 ^ n - v)))
      by true e = let low = ltb-true (2 * v) (256 ^ n) e in to_z_pos w (omega arith)
      by false e =
          let high = ltb-false (2 * v) (256 ^ n) e in
          let k = 256 ^ n - v - 1 in
          let there : v ≡ 2 ^ bits w - suc k = omega arith in
          let far : 256 ^ n - v ≡ suc k = omega arith in
          ap (to_z w) there ∙ to_z-neg w k (omega arith) ∙ ap (λ j. neg_ℤ (pos j)) (sym far)

-- ---- the bytes of a number

pub two-read : (b : List ℕ) → length b ≡ 2 → ((i : ℕ) → Fits w8 (get_or b i 0)) → to_z w16 (get_or b 0 0 * 256 + get_or b 1 0) ≡ signed_of b
unfolding signed_of unsigned_of
two-read [] l f = absurd (omega arith)
two-read (x ∷ []) l f = absurd (omega arith)
two-read (x ∷ y ∷ []) l f =
    let fx = f 0 in
    let fy = f 1 in
    let digits : x * 256 + y ≡ (0 * 256 + x) * 256 + y = omega arith in
    stands w16 2 refl refl (x * 256 + y) (omega arith) ∙ ap (twos_complement 2) digits
two-read (x ∷ y ∷ z ∷ b) l f = absurd (omega arith)

pub four-read : (b : List ℕ) → length b ≡ 4 → ((i : ℕ) → Fits w8 (get_or b i 0))
    → to_z w32 (get_or b 0 0 * 256 ^ 3 + get_or b 1 0 * 256 ^ 2 + get_or b 2 0 * 256 + get_or b 3 0) ≡ signed_of b
unfolding signed_of unsigned_of
four-read [] l f = absurd (omega arith)
four-read (x ∷ []) l f = absurd (omega arith)
four-read (x ∷ y ∷ []) l f = absurd (omega arith)
four-read (x ∷ y ∷ z ∷ []) l f = absurd (omega arith)
four-read (x ∷ y ∷ z ∷ u ∷ []) l f =
    let fx = f 0 in
    let fy = f 1 in
    let fz = f 2 in
    let fu = f 3 in
    let digits : x * 256 ^ 3 + y * 256 ^ 2 + z * 256 + u ≡ (((0 * 256 + x) * 256 + y) * 256 + z) * 256 + u = omega arith in
    stands w32 4 refl refl (x * 256 ^ 3 + y * 256 ^ 2 + z * 256 + u) (omega arith) ∙ ap (twos_complement 4) digits
four-read (x ∷ y ∷ z ∷ u ∷ v ∷ b) l f = absurd (omega arith)

-- ---- chunks

bytes-take : (n : ℕ) (l : List ℕ) → ((i : ℕ) → Fits w8 (get_or l i 0)) → (i : ℕ) → Fits w8 (get_or (take n l) i 0)
bytes-take zero l f i = record { fits = omega arith }
bytes-take (suc n) [] f i = record { fits = omega arith }
bytes-take (suc n) (x ∷ l) f zero = f 0
bytes-take (suc n) (x ∷ l) f (suc i) = bytes-take n l (λ j. f (suc j)) i

bytes-drop : (n : ℕ) (l : List ℕ) → ((i : ℕ) → Fits w8 (get_or l i 0)) → (i : ℕ) → Fits w8 (get_or (drop n l) i 0)
bytes-drop n l f i = subst (Fits w8) (sym (get_or-drop n l i 0)) (f (n + i))

chunk-at : (n m : ℕ) (part : List ℕ) (k : ℕ) → k < m → get_or (first_chunks n m part) k [] ≡ take n (drop (n * k) part)
chunk-at n zero part k h = absurd (omega arith)
chunk-at n (suc m) part zero h = let none : n * 0 ≡ 0 = omega arith in rw none refl
chunk-at n (suc m) part (suc k) h =
    let on : n * suc k ≡ n + n * k = omega (arith, mul-suc n k) in
    chunk-at n m (drop n part) k (omega arith) ∙ ap (take n) (drop-drop (n * k) n part ∙ ap (λ j. drop j part) (sym on))

-- A chunk of the part, as `get` finds it: it is an item, of n bytes.
pub record Chunk (n : ℕ) (part : List ℕ) (k : ℕ) (bytes : List ℕ) : Type 0 where
  pub item-is : bytes ≡ item n part k
  pub long : length bytes ≡ n
  pub fits : (i : ℕ) → Fits w8 (get_or bytes i 0)

pub chunk : (n : ℕ) (part : List ℕ) (k : ℕ) {bytes : List ℕ} → 0 < n → bytes ≡ get_or (first_chunks n (length part / n) part) k [] → k < length part / n
    → ((i : ℕ) → Fits w8 (get_or part i 0)) → Chunk n part k bytes
chunk n part k {bytes} some is there f =
    let at : bytes ≡ take n (drop (n * k) part) = is ∙ chunk-at n (length part / n) part k there in
    let ends = item-end n k (length part) some there in
    record {
      item-is = at ∙ sym (item-there n part k there);
      long = ap length at ∙ length-take-le n (drop (n * k) part) (simp length-drop (omega arith));
      fits = subst (λ b. (i : ℕ) → Fits w8 (get_or b i 0)) (sym at) (bytes-take n (drop (n * k) part) (bytes-drop (n * k) part f));
    }

-- what is read of it is the number
pub read-there : {n : ℕ} {part : List ℕ} {k : ℕ} {bytes : List ℕ} {v : ℤ} → Chunk n part k bytes → v ≡ signed_of bytes → v ≡ number_at n part k
unfolding number_at
read-there c is = is ∙ ap signed_of c.item-is
