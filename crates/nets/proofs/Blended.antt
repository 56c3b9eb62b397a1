-- A blend in place gives the polar values with one copy of q: an entry's blend reads the places of the entries with one more copy of each vertex.
use Prim.Native.Nat.{ℕ, zero, suc, pred, ◌+◌, ◌*◌, ◌≤◌, ◌<◌, zero-le}
use native.Mathlib.Nat.{suc-add, add-suc, not-suc-le-zero, mul-suc, mul-le-mul_right}
use native.Mathlib.Numerals.{add-one}
use native.Mathlib.Omega.{arith}
use mathlib.Core.Path.{◌≡◌, refl, sym, ap, ap₂, ◌∙◌, subst}
use mathlib.Core.Bool.{Bool, true}
use mathlib.Core.List.{List, [], ◌∷◌}
use lib.IntN.{ℤ, pos, ◌+ℤ◌, ◌*ℤ◌}
use lib.ListN.{length, get_or, take}
use Rattle.integers.specs.Test.{within, all}
use Rattle.integers.proofs.Ring.{ring, ring-rules}
use Rattle.polar.specs.Order.{total}
use Rattle.entries.specs.Entries.{fixed, raise}
use Rattle.entries.specs.Rows.{entry_at, size, rank}
use Rattle.entries.proofs.Places.{length-counts}
use Rattle.entries.proofs.Listed.{net-ext, entry-rank, digits-below}
use Rattle.entries.proofs.Form.{total-raise, length-raise}
use Rattle.machine.specs.Calls.{weight_list}
use Rattle.machine.specs.declared.Weights.{Weights}
use Rattle.nets.specs.Rows.{written, mixed, ranged, Bounded, rows_blended, blended, Leaves}
use Rattle.nets.proofs.Lists.{length-written, written-outside, written_at, ranged-written, ranged-list}
use Rattle.entries.proofs.Lengths.{tri-suc}
use Rattle.nets.proofs.Ranks.{rank-curve, rank-patch, by_two, by_three, size_mono, size-curve, size-patch}
use Rattle.nets.proofs.PatchRows.{tri, row-end, length-rows, rows-still, rows_at}

-- the numbers of an entry of degree 1 + m with one more copy of a vertex
raised_at : (w n m : ℕ) (xs : List ℤ) (c v : ℕ) (e : List ℕ) → v < suc n → length e ≡ suc n → total e ≡ m → (p : ℕ) → w * rank n (raise v e) + c ≡ p
    → entry_at w n (suc m) xs c (raise v e) ≡ get_or xs p (pos 0)
raised_at w n m xs c v e h l t p at =
    entry-rank w n (suc m) xs c (raise v e) (length-raise v e (subst (λ k. v < k) (sym l) h) ∙ l) (total-raise v e ∙ ap suc t) ∙ ap (λ i. get_or xs i (pos 0)) at

-- the rows of a list of degree 1 + m, blended; ws are the weights
module _ (w : ℕ) (some : 1 ≤ w) (xs : List ℤ) (m : ℕ) (ws : Weights) where
  -- ---- two vertices: one row

  abbrev curve : List ℤ
  curve = written xs 0 (w * suc m) (mixed xs w w ws.r ws.s (pos 0))

  curve-entry : size w 1 (suc m) ≤ length xs → (c : ℕ) → c < w → (i j : ℕ) → total (i ∷ j ∷ []) ≡ m
      → get_or curve (w * rank 1 (i ∷ j ∷ []) + c) (pos 0) ≡ fixed 2 (weight_list ws) (entry_at w 1 (suc m) xs c) 1 (i ∷ j ∷ [])
  unfolding fixed
  curve-entry long c k i j u =
      ap (λ p. get_or curve (w * p + c) (pos 0)) (rank-curve i j)
      ∙ written_at xs 0 (w * suc m) (mixed xs w w ws.r ws.s (pos 0)) (w * j + c) zero-le (omega (arith, digits-below w j c (suc m) (omega arith) k))
      (omega (arith, size-curve w (suc m)))
      ∙ ring (ws.r ∷ ws.s ∷ get_or xs (w * j + c) (pos 0) ∷ get_or xs (w * j + c + w) (pos 0) ∷ []) (search ring-rules depth 60) tt
      ∙ ap₂ (λ p q. ws.r *ℤ p +ℤ (ws.s *ℤ q +ℤ pos 0))
      (sym (raised_at w 1 m xs c 0 (i ∷ j ∷ []) (omega arith) refl u (w * j + c) (ap (λ p. w * p + c) (rank-curve (suc i) j))))
      (sym (raised_at w 1 m xs c 1 (i ∷ j ∷ []) (omega arith) refl u (w * j + c + w) (ap (λ p. w * p + c) (rank-curve i (suc j)) ∙ omega (arith, mul-suc w j))))

  curve-blended : size w 1 (suc m) ≤ length xs → curve ≡ blended w 1 m (weight_list ws) xs
  unfolding blended
  curve-blended long =
      net-ext w 1 m some curve xs (λ c. fixed 2 (weight_list ws) (entry_at w 1 (suc m) xs c) 1) (length-written xs 0 (w * suc m) (mixed xs w w ws.r ws.s (pos 0)))
      (let less = size_mono w 1 m (suc m) (omega arith) in omega (arith, less))
      (λ c e k l u. by_two (λ y. total y ≡ m → get_or curve (w * rank 1 y + c) (pos 0) ≡ fixed 2 (weight_list ws) (entry_at w 1 (suc m) xs c) 1 y) (curve-entry long c k) e l u)
      (λ i h. written-outside xs 0 (w * suc m) (mixed xs w w ws.r ws.s (pos 0)) i (λ p q. omega (arith, size-curve w m)))

  -- ---- three vertices: a triangle of rows

  patch-entry : w * tri (suc m) ≤ length xs → (c : ℕ) → c < w → (i j k : ℕ) → total (i ∷ j ∷ k ∷ []) ≡ m
      → get_or (rows_blended w xs ws (suc m)) (w * rank 2 (i ∷ j ∷ k ∷ []) + c) (pos 0) ≡ fixed 3 (weight_list ws) (entry_at w 2 (suc m) xs c) 1 (i ∷ j ∷ k ∷ [])
  unfolding fixed
  patch-entry long c b i j k u =
      ap (λ p. get_or (rows_blended w xs ws (suc m)) (w * p + c) (pos 0)) (rank-patch i j k)
      ∙ rows_at w xs ws (suc m) (j + k) place (omega arith) long low high
      ∙ ring (ws.r ∷ ws.s ∷ ws.t ∷ get_or xs place (pos 0) ∷ get_or xs (place + w * suc (j + k)) (pos 0) ∷ get_or xs (place + (w * suc (j + k) + w)) (pos 0) ∷ []) (search ring-rules depth 60) tt
      ∙ ap₂ (λ p q. ws.r *ℤ p +ℤ q) (sym (raised_at w 2 m xs c 0 (i ∷ j ∷ k ∷ []) (omega arith) refl u place (ap (λ p. w * p + c) (rank-patch (suc i) j k))))
      (ap₂ (λ p q. ws.s *ℤ p +ℤ (ws.t *ℤ q +ℤ pos 0))
      (sym (raised_at w 2 m xs c 1 (i ∷ j ∷ k ∷ []) (omega arith) refl u (place + w * suc (j + k)) (ap (λ p. w * p + c) (rank-patch i (suc j) k ∙ ap (λ y. tri y + k) (suc-add j k)) ∙ omega (arith, next))))
      (sym (raised_at w 2 m xs c 2 (i ∷ j ∷ k ∷ []) (omega arith) refl u (place + (w * suc (j + k) + w)) (ap (λ p. w * p + c) (rank-patch i j (suc k) ∙ ap (λ y. tri y + suc k) (add-suc j k)) ∙ omega (arith, next)))))
    where
      place : ℕ
      place = w * (tri (j + k) + k) + c

      next : w * tri (suc (j + k)) ≡ w * tri (j + k) + w * suc (j + k)
      next = row-end w (j + k)

      low : w * tri (j + k) ≤ place
      low = omega arith

      high : place < w * tri (suc (j + k))
      high = digits-below w (tri (j + k) + k) c (tri (suc (j + k))) (omega (arith, tri-suc (j + k))) b

  patch-blended : w * tri (suc m) ≤ length xs → rows_blended w xs ws (suc m) ≡ blended w 2 m (weight_list ws) xs
  unfolding blended
  patch-blended long =
      net-ext w 2 m some (rows_blended w xs ws (suc m)) xs (λ c. fixed 3 (weight_list ws) (entry_at w 2 (suc m) xs c) 1) (length-rows w xs ws (suc m))
      (subst (λ y. w * y ≤ length xs) (sym (length-counts 1 m)) long)
      (λ c e k l u. by_three (λ y. total y ≡ m → get_or (rows_blended w xs ws (suc m)) (w * rank 2 y + c) (pos 0) ≡ fixed 3 (weight_list ws) (entry_at w 2 (suc m) xs c) 1 y) (patch-entry long c k) e l u)
      (λ i h. rows-still w xs ws (suc m) i (subst (λ y. w * y ≤ i) (length-counts 1 m) h))

-- ---- as the code calls them

pub bounded-less : (xs : List ℤ) (hi lo hi' W W' : ℕ) → hi' ≤ hi → W' ≤ W → Bounded xs 0 hi W → Bounded xs lo hi' W'
bounded-less xs hi lo hi' W W' h w b =
    record { bound = b.bound; each = λ i l u. b.each i zero-le (omega arith); fits = let up = mul-le-mul_right b.bound w in let f = b.fits in omega arith }

-- what a step promises of a group of dimension k
abbrev Made : ℕ → ℕ → ℕ → List ℤ → Weights → Bool → List ℤ → ℕ → Type 0
Made limit w degree xs ws b ys k = Leaves limit (size w k (pred degree)) (blended w k (pred degree) (weight_list ws) xs) b ys

module _ (limit w n : ℕ) (some : 1 ≤ w) (xs : List ℤ) (ws : Weights) (b : Bool) (ys : List ℤ) where
  -- with two vertices; r and s are the weights as the code reads them
  pub curve-made : (degree : ℕ) → n ≡ 1 → 1 ≤ degree → size w n degree ≤ length xs → (r s : ℤ) → r ≡ ws.r → s ≡ ws.s
      → b ≡ ranged limit (mixed xs w w r s (pos 0)) 0 (w * degree) → (b ≡ true → ys ≡ written xs 0 (w * degree) (mixed xs w w r s (pos 0))) → Made limit w degree xs ws b ys n
  curve-made zero one low long r s r-is s-is tested left = absurd (not-suc-le-zero low)
  curve-made (suc m) one low long r s r-is s-is tested left =
      subst (Made limit w (suc m) xs ws b ys) (sym one) (
        tested ∙ ranged-written limit xs new 0 (w * suc m) (mixed xs w w r s (pos 0)) front (sym is)
            ∙ ap (ranged limit (λ i. get_or new i (pos 0)) 0) count
            ∙ ranged-list limit new (size w 1 m) (subst (λ k. size w 1 m ≤ k) (sym same_length) (omega (arith, count, front))),
        λ ok. left ok ∙ is,
      )
    where
      new : List ℤ
      new = blended w 1 m (weight_list ws) xs

      room : size w 1 (suc m) ≤ length xs
      room = subst (λ k. size w k (suc m) ≤ length xs) one long

      count : w * suc m ≡ size w 1 m
      count = sym (size-curve w m ∙ ap (λ k. w * k) (add-one m))

      front : 0 + w * suc m ≤ length xs
      front = let less = size_mono w 1 m (suc m) (omega arith) in omega (arith, count, less, room)

      is : written xs 0 (w * suc m) (mixed xs w w r s (pos 0)) ≡ new
      is = (λ i. written xs 0 (w * suc m) (mixed xs w w (r-is i) (s-is i) (pos 0))) ∙ curve-blended w some xs m ws room

      same_length : length new ≡ length xs
      same_length = sym (ap length is) ∙ length-written xs 0 (w * suc m) (mixed xs w w r s (pos 0))

  -- with three
  pub patch-made : (degree : ℕ) → n ≡ 2 → 1 ≤ degree → size w n degree ≤ length xs → Leaves limit (w * tri degree) (rows_blended w xs ws degree) b ys → Made limit w degree xs ws b ys n
  patch-made zero two low long left = absurd (not-suc-le-zero low)
  patch-made (suc m) two low long left =
      subst (Made limit w (suc m) xs ws b ys) (sym two)
      (left.0 ∙ ap₂ (λ l k. all (within limit) (take k l)) is count, λ ok. left.1 ok ∙ is)
    where
      count : w * tri (suc m) ≡ size w 2 m
      count = sym (size-patch w m ∙ ap (λ k. w * tri k) (add-one m))

      room : w * tri (suc m) ≤ length xs
      room = let less = size_mono w 2 m (suc m) (omega arith) in let whole = subst (λ k. size w k (suc m) ≤ length xs) two long in omega (arith, count, less, whole)

      is : rows_blended w xs ws (suc m) ≡ blended w 2 m (weight_list ws) xs
      is = patch-blended w some xs m ws room
