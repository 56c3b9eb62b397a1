-- The levels of a group: h steps give the polar values with h copies of q, and their ranges are the size rule's.
use Prim.Native.Nat.{ℕ, zero, suc, pred, ◌+◌, ◌*◌, ◌-◌, ◌≤◌, ◌<◌, suc-le-suc}
use native.Mathlib.Nat.{not-suc-le-zero, le_refl, mul-le-mul_left, mul-le-mul_right, sub-zero, sub_self, add-zero, add-suc}
use native.Mathlib.Omega.{arith}
use mathlib.Core.Path.{◌≡◌, refl, sym, ap, ap₂, ◌∙◌, subst}
use mathlib.Core.Bool.{Bool, true, false}
use mathlib.Core.List.{List, [], ◌∷◌, ◌++◌, map}
use lib.IntN.{ℤ, pos, nat_abs, ◌*ℤ◌}
use lib.ListN.{length, get_or, set, take, drop, replicate, length-set, length-append, length-drop}
use lib.Seq.{take_at, get_or-append-add, get_or-drop}
use borrow.Author.Tests.{leb-true}
use Rattle.integers.specs.Sum.{upto}
use Rattle.integers.specs.Test.{all}
use Rattle.integers.proofs.Sums.{sum-upto-cong, upto_snoc, upto-below, below-upto}
use Rattle.integers.proofs.All.{one-fails, all-cong, all_map, all_append, all_first, and-true}
use Rattle.polar.specs.Order.{total, counts}
use Rattle.polar.proofs.Order.{counts-total, all-joined}
use Rattle.entries.specs.Entries.{fixed, raise}
use Rattle.entries.specs.Rows.{entry_at, listed, size, offset, rank}
use Rattle.entries.proofs.Form.{total-raise, length-raise}
use Rattle.entries.proofs.Groups.{total-set, total-zeros, length-zeros}
use Rattle.entries.proofs.Places.{length-counts}
use Rattle.entries.proofs.Listed.{length-listed, entry_listed, entry-rank, net-ext, first-digit}
use Rattle.projection.specs.Projection.{in_range}
use Rattle.nets.specs.Rows.{Bounded, blended, level}
use Rattle.nets.specs.Levels.{values_of, named_at, all_named_at}
use Rattle.nets.proofs.Ranks.{offset-mono, size_mono}

-- ---- places

-- the entry of degree 0 stands first
rank-zeros : (n : ℕ) → rank n (replicate (suc n) 0) ≡ 0
rank-zeros zero = refl
rank-zeros (suc n) = ap₂ (λ k p. offset (counts n) k + p) (total-zeros (suc n)) (rank-zeros n)

-- ---- tests of all members

-- a list whose first numbers are in range is small enough to blend
pub range-bounded : (ys : List ℤ) (k W : ℕ) → k ≤ length ys → all in_range (take k ys) ≡ true → W ≤ 12288 → Bounded ys 0 k W
range-bounded ys k W l h w =
    record {
      bound = 281474976710656;
      each = λ i lo up. leb-true (nat_abs (get_or ys i (pos 0))) 281474976710656 (all_first in_range k ys h i up (omega arith));
      fits = let p = mul-le-mul_right 281474976710656 w in omega arith;
    }

-- ---- one step

pub entry-blended : (w n d : ℕ) (ws ys : List ℤ) (c : ℕ) (e : List ℕ) → c < w → length e ≡ suc n → total e ≡ d → entry_at w n d (blended w n d ws ys) c e ≡ fixed (suc n) ws (entry_at w n (suc d) ys c) 1 e
unfolding blended
entry-blended w n d ws ys c e k l t = entry_listed w n d (λ i. fixed (suc n) ws (entry_at w n (suc d) ys i) 1) (drop (size w n d) ys) c e k l t

-- past its entries a blend keeps what stood there
pub blended-past : (w n d : ℕ) (ws ys : List ℤ) (i : ℕ) → size w n d ≤ i → get_or (blended w n d ws ys) i (pos 0) ≡ get_or ys i (pos 0)
unfolding blended
blended-past w n d ws ys i h =
    ap (λ j. get_or (front ++ drop (size w n d) ys) j (pos 0)) place_is
    ∙ get_or-append-add front (drop (size w n d) ys) (i - size w n d) (pos 0)
    ∙ get_or-drop (size w n d) ys (i - size w n d) (pos 0)
    ∙ ap (λ j. get_or ys j (pos 0)) again
  where
    front : List ℤ
    front = listed w n d (λ c. fixed (suc n) ws (entry_at w n (suc d) ys c) 1)

    place_is : i ≡ length front + (i - size w n d)
    place_is = omega (arith, length-listed w n d (λ c. fixed (suc n) ws (entry_at w n (suc d) ys c) 1))

    again : size w n d + (i - size w n d) ≡ i
    again = omega arith

-- an entry with few copies of the first vertex stands past the entries of a low degree
rank-past : (n d : ℕ) (e : List ℕ) → length e ≡ suc n → d + get_or e 0 0 < total e → length (counts n d) ≤ rank n e
rank-past n d [] l h = absurd (not-suc-le-zero h)
rank-past zero d (i ∷ e) l h = absurd (alone e l h)
  where
    alone : (r : List ℕ) → length (i ∷ r) ≡ 1 → d + i < i + total r → ⊥
    alone [] q w = omega arith
    alone (j ∷ r) q w = omega arith
rank-past (suc n) d (i ∷ e) l h =
    let up = offset-mono (counts n) (suc d) (total e) (omega arith) in
    omega (arith, up, length-counts n d)

rank-first : (n : ℕ) (e : List ℕ) → rank n (set e 0 0) ≡ rank n e
rank-first zero e = refl
rank-first (suc n) [] = refl
rank-first (suc n) (i ∷ e) = refl

module _ (w n : ℕ) (some : 1 ≤ w) where
  -- a net's numbers are its entries' numbers
  pub range-entries : (k : ℕ) (ys : List ℤ) → size w n k ≤ length ys
      → all in_range (take (size w n k) ys) ≡ all (λ e. all (λ c. in_range (entry_at w n k ys c e)) (upto w)) (counts n k)
  unfolding listed
  range-entries k ys l =
      ap (λ z. all in_range (take (size w n k) z))
      (net-ext w n k some ys ys (entry_at w n k ys) refl l (λ c e b le te. sym (entry-rank w n k ys c e le te)) (λ i h. refl))
      ∙ ap (all in_range) (take_at (listed w n k (entry_at w n k ys)) (drop (size w n k) ys) (size w n k) (length-listed w n k (entry_at w n k ys)))
      ∙ all-joined in_range (λ e. map (λ c. entry_at w n k ys c e) (upto w)) (counts n k)
      ∙ all-cong (λ e. all in_range (map (λ c. entry_at w n k ys c e) (upto w))) (λ e. all (λ c. in_range (entry_at w n k ys c e)) (upto w)) (counts n k)
      (λ e m. all_map in_range (λ c. entry_at w n k ys c e) (upto w))

  pub length-blended : (k : ℕ) (ws ys : List ℤ) → size w n k ≤ length ys → length (blended w n k ws ys) ≡ length ys
  unfolding blended
  length-blended k ws ys l =
      length-append (listed w n k (λ c. fixed (suc n) ws (entry_at w n (suc k) ys c) 1)) (drop (size w n k) ys)
      ∙ ap₂ ◌+◌ (length-listed w n k (λ c. fixed (suc n) ws (entry_at w n (suc k) ys c) 1)) (length-drop (size w n k) ys)
      ∙ omega arith

  module _ (m : ℕ) (ws xs : List ℤ) (room : size w n m ≤ length xs) where
    -- the polar values with h copies of q
    abbrev values : ℕ → ℕ → List ℕ → ℤ
    values = values_of w n m ws xs

    abbrev at : ℕ → List ℤ
    at h = level w n m ws h xs

    pub length-level : (h : ℕ) → h ≤ m → length (at h) ≡ length xs
    unfolding level
    length-level zero b = refl
    length-level (suc h) b =
        let rest = length-level h (omega arith) in
        length-blended (m - suc h) ws (at h) (let s = size_mono w n (m - suc h) m (omega arith) in omega (arith, s, rest, room)) ∙ rest

    -- each level's entries are the polar values with that many copies
    pub level-entry : (h c : ℕ) (e : List ℕ) → h ≤ m → c < w → length e ≡ suc n → h + total e ≡ m → entry_at w n (m - h) (at h) c e ≡ values c h e
    unfolding level fixed
    level-entry zero c e b k l t = ap (λ d. entry_at w n d xs c e) (sub-zero m)
    level-entry (suc h) c e b k l t =
        entry-blended w n (m - suc h) ws (at h) c e k l rest-is
        ∙ sum-upto-cong (suc n)
        (λ v p.
        ap (λ z. get_or ws v (pos 0) *ℤ z)
        (ap (λ d. entry_at w n d (at h) c (raise v e)) degree-is
        ∙ level-entry h c (raise v e) (omega arith) k (length-raise v e (subst (λ z. v < z) (sym l) p) ∙ l) (omega (arith, total-raise v e, t))))
      where
        rest-is : total e ≡ m - suc h
        rest-is = omega arith

        degree-is : suc (m - suc h) ≡ m - h
        degree-is = omega arith

    -- whether all polar values with h copies are in range
    abbrev named : ℕ → Bool
    named = named_at w n m ws xs

    -- the range of a level is that of the values
    pub level-named : (h : ℕ) → h ≤ m → all in_range (take (size w n (m - h)) (at h)) ≡ named h
    level-named h b =
        range-entries (m - h) (at h) (let s = size_mono w n (m - h) m (omega arith) in omega (arith, s, length-level h b, room))
        ∙ all-cong (λ e. all (λ c. in_range (entry_at w n (m - h) (at h) c e)) (upto w)) (λ e. all (λ c. in_range (values c h e)) (upto w)) (counts n (m - h))
        (λ e i.
        all-cong (λ c. in_range (entry_at w n (m - h) (at h) c e)) (λ c. in_range (values c h e)) (upto w)
        (λ c k.
        let r = counts-total n (m - h) e i in
        ap in_range (level-entry h c e b (upto-below w c k) r.0 (omega (arith, r.1)))))

    -- ---- along the levels

    pub named-next : (h : ℕ) → all named (upto (suc h)) ≡ true → named (suc h) ≡ true → all named (upto (suc (suc h))) ≡ true
    named-next h so_far next =
        ap (all named) (upto_snoc (suc h)) ∙ all_append named (upto (suc h)) (suc h ∷ []) ∙ and-true so_far (and-true next refl)

    pub named-first : named 0 ≡ true → all named (upto 1) ≡ true
    named-first h = and-true h refl

    pub named-fails : (h : ℕ) → h ≤ m → named h ≡ false → all_named_at w n m ws xs ≡ false
    unfolding all_named_at
    named-fails h b e = one-fails named (upto (suc m)) h (below-upto (suc m) h (suc-le-suc b)) e

    -- ---- the new net of a replaced vertex

    -- an entry is last written on the level that has as many copies of q as the entry has of the first vertex
    pub level-made : (c : ℕ) (e : List ℕ) → c < w → length e ≡ suc n → total e ≡ m → get_or (at m) (w * rank n e + c) (pos 0) ≡ values c (get_or e 0 0) (set e 0 0)
    unfolding level
    level-made c e k l t =
        ap (λ h. get_or (at h) (w * rank n e + c) (pos 0)) whole ∙ stays (m - get_or e 0 0) (omega (arith, copies))
      where
        copies : get_or e 0 0 + total (set e 0 0) ≡ m
        copies = total-set e 0 ∙ t

        whole : m ≡ get_or e 0 0 + (m - get_or e 0 0)
        whole = omega (arith, copies)

        stays : (j : ℕ) → get_or e 0 0 + j ≤ m → get_or (level w n m ws (get_or e 0 0 + j) xs) (w * rank n e + c) (pos 0) ≡ values_of w n m ws xs c (get_or e 0 0) (set e 0 0)
        stays zero b =
            ap₂ (λ h p. get_or (level w n m ws h xs) (w * p + c) (pos 0)) (add-zero (get_or e 0 0)) (sym (rank-first n e))
            ∙ sym (entry-rank w n (m - get_or e 0 0) (level w n m ws (get_or e 0 0) xs) c (set e 0 0) (length-set e 0 0 ∙ l) (omega (arith, copies)))
            ∙ level-entry (get_or e 0 0) c (set e 0 0) (omega (arith, copies)) k (length-set e 0 0 ∙ l) copies
        stays (suc j) b =
            ap (λ h. get_or (level w n m ws h xs) (w * rank n e + c) (pos 0)) (add-suc (get_or e 0 0) j)
            ∙ blended-past w n (m - suc (get_or e 0 0 + j)) ws (level w n m ws (get_or e 0 0 + j) xs) (w * rank n e + c)
            (let past = mul-le-mul_left w (rank-past n (m - suc (get_or e 0 0 + j)) e l (omega (arith, t))) in omega arith)
            ∙ stays j (omega arith)

    -- the last level has one entry, the point
    pub level-last : (c : ℕ) → c < w → get_or (at m) c (pos 0) ≡ values c m (replicate (suc n) 0)
    level-last c k =
        ap (λ i. get_or (at m) i (pos 0)) (sym place-zero)
        ∙ sym (entry-rank w n (m - m) (at m) c (replicate (suc n) 0) (length-zeros (suc n)) (total-zeros (suc n) ∙ sym (sub_self m)))
        ∙ level-entry m c (replicate (suc n) 0) (le_refl m) k (length-zeros (suc n)) (ap (λ z. m + z) (total-zeros (suc n)) ∙ add-zero m)
      where
        place-zero : w * rank n (replicate (suc n) 0) + c ≡ c
        place-zero = ap (λ p. w * p + c) (rank-zeros n) ∙ first-digit w c

    -- one level more, as the code makes it
    pub level-next : (h degree : ℕ) (ys zs : List ℤ) → h < m → ys ≡ at h → degree ≡ m - h → zs ≡ blended w n (pred degree) ws ys → zs ≡ at (suc h)
    unfolding level
    level-next h degree ys zs b inv d is = is ∙ ap₂ (λ k l. blended w n k ws l) degree-is inv
      where
        degree-is : pred degree ≡ m - suc h
        degree-is = omega arith
