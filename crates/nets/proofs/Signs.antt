-- Signs written entry by entry: what is written is the old number or its negative, and all of them together flip the vertex.
use Prim.Native.Nat.{ℕ, zero, suc, ◌+◌, ◌*◌, ◌-◌, ◌/◌, ◌%◌, ◌≤◌, zero-le}
use native.Mathlib.Omega.{arith}
use mathlib.Core.Path.{◌≡◌, refl, sym, ap, ap₂, ◌∙◌, subst}
use mathlib.Core.Bool.{true, false, not}
use mathlib.Core.List.{List, []}
use lib.IntN.{ℤ, pos}
use lib.ListN.{length, get_or}
use Rattle.polar.specs.Order.{counts}
use Rattle.entries.specs.Entries.{odd, signed}
use Rattle.entries.specs.Rows.{entry_at, size, rank, flipped}
use Rattle.entries.proofs.Listed.{net-ext, entry-rank, rank_below, digits-below}
use Rattle.nets.specs.Rows.{Sized, written, place_at}
use Rattle.nets.specs.Flips.{counts_at, signed_at, flipped_list}
use Rattle.nets.proofs.Lists.{length-written, written-outside, written_at, written-cong}
use Rattle.nets.proofs.Places.{by-dimension, row-digit, row_of, counts-at-rank, counts-at-place}
use Rattle.nets.proofs.Writes.{Going}

-- ---- odd counts

pub even_odd : (n : ℕ) → (n % 2 ≡ 0 → odd n ≡ false) × (n % 2 ≡ 1 → odd n ≡ true)
even_odd zero = ((λ h. refl), (λ h. absurd (wrong h)))
  where
    wrong : ◌≡◌ {A = ℕ} 0 1 → ⊥
    wrong w = omega arith
even_odd (suc n) =
    let r = even_odd n in
    ((λ h. ap not (r.1 (omega arith))), (λ h. ap not (r.0 (omega arith))))

-- ---- all entries

flip-all : (w n m v : ℕ) (xs : List ℤ) → 1 ≤ w → size w n m ≤ length xs → written xs 0 (size w n m) (signed_at w n m v xs) ≡ flipped_list w n m v xs
unfolding flipped_list
flip-all w n m v xs some room =
    net-ext w n m some (written xs 0 (size w n m) (signed_at w n m v xs)) xs (λ c. flipped v (entry_at w n m xs c)) (length-written xs 0 (size w n m) (signed_at w n m v xs)) room
    (λ c e k l t.
    let inside = digits-below w (rank n e) c (length (counts n m)) (rank_below w n m e l t) k in
    written_at xs 0 (size w n m) (signed_at w n m v xs) (w * rank n e + c) zero-le (omega arith) (omega arith)
    ∙ ap₂ (λ p x. signed (get_or (get_or (counts n m) p []) v 0) x) (row_of w (rank n e) c k) (sym (entry-rank w n m xs c e l t))
    ∙ ap (λ y. signed (get_or y v 0) (entry_at w n m xs c e)) (counts-at-rank n m e l t))
    (λ i h. written-outside xs 0 (size w n m) (signed_at w n m v xs) i (λ a b. omega arith))

-- the counts of the code
pub copies-is : (n m i k vertex r : ℕ) → 1 ≤ n → n ≤ 2 → vertex ≤ n → k ≤ (n - 1) * i
    → (vertex ≡ 0 → r ≡ m - i) → (vertex ≡ 1 → r ≡ i - k) → (vertex ≡ 2 → r ≡ k) → r ≡ get_or (counts_at n m i k) vertex 0
copies-is n m i k zero r low high top third a b c =
    a refl ∙ by-dimension (λ d. m - i ≡ get_or (counts_at d m i k) 0 0) n low high refl refl
copies-is n m i k (suc zero) r low high top third a b c =
    b refl ∙ by-dimension (λ d. k ≤ (d - 1) * i → i - k ≡ get_or (counts_at d m i k) 1 0) n low high (λ h. omega arith) (λ h. refl) third
copies-is n m i k (suc (suc zero)) r low high top third a b c =
    let two : n ≡ 2 = omega arith in
    c refl ∙ subst (λ d. k ≡ get_or (counts_at d m i k) 2 0) (sym two) refl
copies-is n m i k (suc (suc (suc u))) r low high top third a b c = absurd (wrong top high)
  where
    wrong : suc (suc (suc u)) ≤ n → n ≤ 2 → ⊥
    wrong p q = omega arith

-- ---- one entry

-- the numbers from entry p on are as they were
module _ (v : ℕ) {w n m : ℕ} {xs cur : List ℤ} {p i k : ℕ} (sized : Sized w n m) (at : Going w n m (signed_at w n m v xs) xs cur p i k) where
  pub still : (j : ℕ) → w * p ≤ j → get_or cur j (pos 0) ≡ get_or xs j (pos 0)
  still j low = ap (λ l. get_or l j (pos 0)) at.front ∙ written-outside xs 0 (w * p) (signed_at w n m v xs) j (λ a b. omega arith)

  -- so its numbers, signed by the count of the vertex, are those of the flipped net
  pub signed-entry : {ys : List ℤ} (count : ℕ) → i ≤ m → count ≡ get_or (counts_at n m i k) v 0
      → ys ≡ written cur (w * p) w (λ j. signed count (get_or cur j (pos 0))) → ys ≡ written cur (w * p) w (signed_at w n m v xs)
  signed-entry count here counted is =
      is
      ∙ written-cong cur (w * p) w (λ j. signed count (get_or cur j (pos 0))) (signed_at w n m v xs)
      (λ j low up.
      let own : j / w ≡ place_at n i k = row-digit w p j low up ∙ at.place in
      ap₂ signed (counted ∙ ap (λ e. get_or e v 0) (sym (ap (λ q. get_or (counts n m) q []) own ∙ counts-at-place n m i k sized.low sized.high here at.third))) (still j low))

-- ---- after the last entry

pub flipped-all : (w n m v : ℕ) (xs ys : List ℤ) → 1 ≤ w → size w n m ≤ length xs → ys ≡ written xs 0 (size w n m) (signed_at w n m v xs) → ys ≡ flipped_list w n m v xs
flipped-all w n m v xs ys some room is = is ∙ flip-all w n m v xs some room
