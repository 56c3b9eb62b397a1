-- A net over groups, seen from its first group: a row holds the numbers of the groups after it, one number of the row for each of their entries' components. So what the code
-- does to rows is what the definitions say of groups. A net of one group has rows of four numbers.
use Prim.Native.Nat.{ℕ, zero, suc, ◌+◌, ◌*◌, ◌-◌, ◌/◌, ◌%◌, ◌<◌, suc-le-suc, zero-le}
use native.Mathlib.Nat.{mul_assoc, mul_comm, not-suc-le-zero, mul-zero, mod-lt, div-add-mod', div-lt_iff_lt-mul}
use native.Mathlib.Omega.{arith}
use mathlib.Core.Path.{◌≡◌, refl, sym, ap, ap₂, ◌∙◌, fun_ext, subst}
use mathlib.Core.Bool.{Bool, true}
use mathlib.Core.List.{List, [], ◌∷◌, ◌++◌, map, Memᴰ}
use lib.IntN.{ℤ, pos}
use lib.ListN.{length, get_or, length-map}
use lib.Seq.{ext_get_or}
use Rattle.integers.specs.Sum.{upto}
use Rattle.integers.specs.Test.{all}
use Rattle.integers.proofs.Sums.{upto-below, below-upto, length-upto}
use Rattle.integers.proofs.All.{all_map, all-cong, all-passes, all-at, both_ways}
use Rattle.polar.specs.Order.{joined, total, counts}
use Rattle.polar.specs.Groups.{Group, tail, pairs, counts_over}
use Rattle.polar.proofs.Order.{counts-total, all-joined, joined-append}
use Rattle.polar.proofs.Sigma.{at-upto}
use Rattle.projection.specs.Projection.{in_range}
use Rattle.entries.specs.Entries.{place_of, fixed, number_count, place_over, entry_over, listed_over, fixed_over, none_of_q}
use Rattle.entries.specs.Rows.{entry_at, listed}
use Rattle.entries.proofs.Places.{joined-map, member-counts, counts-at, place-rank, rank-at}
use Rattle.entries.proofs.Groups.{Counted, counted-long}
use Rattle.entries.proofs.ListedOver.{pairs-at, length_pairs, place-over, counts-over, length-listed-over, entry-listed-over}
use Rattle.entries.proofs.FirstGroup.{at-member}
use Rattle.machine.specs.Sizes.{named_by_replace, all_named}
use Rattle.nets.specs.Levels.{values_of, named_at, all_named_at}

-- ---- entries

-- an entry over groups is a number of the first group's row
pub row-entry : (g : Group) (gs : List Group) (xs : List ℤ) (c : ℕ) (e : List ℕ) (es : List (List ℕ))
    → entry_over (g ∷ gs) xs c (e ∷ es) ≡ entry_at (number_count gs) g.dimension g.degree xs (4 * place_over gs es + c) e
unfolding entry_over entry_at
row-entry g gs xs c e es =
    ap (λ i. get_or xs i (pos 0)) (digits (place_of e (counts g.dimension g.degree)) (length (counts_over gs)) (place_over gs es))
  where
    digits : (p k r : ℕ) → 4 * (p * k + r) + c ≡ 4 * k * p + (4 * r + c)
    digits p k r = let turned : 4 * k * p ≡ 4 * (p * k) = mul_assoc 4 k p ∙ ap (λ z. 4 * z) (mul_comm k p) in omega (arith, turned)

-- ---- what the entries fix

-- where q is taken in no group the entry is fixed
pub none-fixed : (gs : List Group) (weights : List (List ℤ)) (f : List (List ℕ) → ℤ) (es : List (List ℕ)) → length es ≡ length gs → fixed_over gs weights f (none_of_q es) ≡ f es
unfolding fixed_over fixed
none-fixed [] weights f [] l = refl
none-fixed [] weights f (e ∷ es) l = absurd (wrong l)
  where
    wrong : suc (length es) ≡ 0 → ⊥
    wrong w = omega arith
none-fixed (g ∷ gs) weights f [] l = absurd (wrong l)
  where
    wrong : 0 ≡ suc (length gs) → ⊥
    wrong w = omega arith
none-fixed (g ∷ gs) weights f (e ∷ es) l = none-fixed gs (tail weights) (λ rest. f (e ∷ rest)) es (down l)
  where
    down : {a b : ℕ} → suc a ≡ suc b → a ≡ b
    down p = omega arith

-- what the entries fix with q of the first group is what its rows fix
pub row-fixed : (g : Group) (gs : List Group) (ws : List ℤ) (weights : List (List ℤ)) (xs : List ℤ) (c h : ℕ) (e : List ℕ) (es : List (List ℕ)) → length es ≡ length gs
    → fixed_over (g ∷ gs) (ws ∷ weights) (entry_over (g ∷ gs) xs c) ((h ∷ e) ∷ none_of_q es)
    ≡ values_of (number_count gs) g.dimension g.degree ws xs (4 * place_over gs es + c) h e
unfolding fixed_over
row-fixed g gs ws weights xs c h e es l =
    none-fixed gs weights (λ rest. fixed (suc g.dimension) ws (λ r. entry_over (g ∷ gs) xs c (r ∷ rest)) h e) es l
    ∙ ap (λ F. fixed (suc g.dimension) ws F h e) (fun_ext (λ r. row-entry g gs xs c r es))

-- the size rule of one group level by level: h copies of q, h rising
pub by-levels : (n m : ℕ) (test : List ℕ → Bool) → all test (counts (suc n) m) ≡ all (λ h. all (λ e. test (h ∷ e)) (counts n (m - h))) (upto (suc m))
by-levels n m test =
    both_ways (all test (counts (suc n) m)) (all (λ h. all (λ e. test (h ∷ e)) (counts n (m - h))) (upto (suc m)))
    (λ ok.
    all-passes (λ h. all (λ e. test (h ∷ e)) (counts n (m - h))) (upto (suc m))
    (λ h i.
    all-passes (λ e. test (h ∷ e)) (counts n (m - h))
    (λ e j.
    let r = counts-total n (m - h) e j in
    let below = upto-below (suc m) h i in
    let whole : total (h ∷ e) ≡ m = omega (arith, r.1) in
    all-at test (counts (suc n) m) ok (h ∷ e) (member-counts (suc n) m (h ∷ e) (ap suc r.0) whole))))
    (λ ok. all-passes test (counts (suc n) m) (λ x k. let t = counts-total (suc n) m x k in by x t.0 t.1 ok))
  where
    by : (x : List ℕ) → length x ≡ suc (suc n) → total x ≡ m → all (λ h. all (λ e. test (h ∷ e)) (counts n (m - h))) (upto (suc m)) ≡ true → test x ≡ true
    by [] l t ok = absurd (wrong l)
      where
        wrong : 0 ≡ suc (suc n) → ⊥
        wrong w = omega arith
    by (h ∷ e) l t ok =
        all-at (λ r. test (h ∷ r)) (counts n (m - h))
        (all-at (λ j. all (λ r. test (j ∷ r)) (counts n (m - j))) (upto (suc m)) ok h (below-upto (suc m) h (omega arith)))
        e (member-counts n (m - h) e (omega arith) (omega arith))

-- ---- every number of a row is one of an entry

-- the entry at a place has that place
pub place-index : (gs : List Group) (p : ℕ) → p < length (counts_over gs) → place_over gs (get_or (counts_over gs) p []) ≡ p
unfolding counts_over
place-index [] zero h = refl
place-index [] (suc p) h = absurd (wrong h)
  where
    wrong : suc p < 1 → ⊥
    wrong w = omega arith
place-index (g ∷ gs) p h = ap (place_over (g ∷ gs)) (ap (λ i. get_or (pairs es (counts_over gs)) i []) (sym split) ∙ pairs-at [] (counts_over gs) es (p / k) (p % k) q-below (mod-lt p some)) ∙ ap₂ (λ a b. a * k + b) own (place-index gs (p % k) (mod-lt p some)) ∙ split
  where
    es : List (List ℕ)
    es = counts g.dimension g.degree

    k : ℕ
    k = length (counts_over gs)

    below : p < length es * k
    below = subst (λ i. p < i) (length_pairs [] (counts_over gs) es) h

    some : 0 < k
    some = positive k below
      where
        positive : (j : ℕ) → p < length es * j → 0 < j
        positive zero b = absurd (not-suc-le-zero (subst (λ i. p < i) (mul-zero (length es)) b))
        positive (suc j) b = suc-le-suc zero-le

    split : p / k * k + p % k ≡ p
    split = div-add-mod' p k

    q-below : p / k < length es
    q-below = (div-lt_iff_lt-mul some).1 below

    own : place_of (get_or es (p / k) []) es ≡ p / k
    own = let c = counts-at g.dimension g.degree (p / k) q-below in place-rank g.dimension g.degree (get_or es (p / k) []) c.0 c.1 ∙ rank-at g.dimension g.degree (p / k) q-below

-- a test of all numbers of a row is the test of the four numbers of each entry in it
pub row-test : (gs : List Group) (test : ℕ → Bool) → all (λ es. all (λ c. test (4 * place_over gs es + c)) (upto 4)) (counts_over gs) ≡ all test (upto (number_count gs))
row-test gs test =
    both_ways (all (λ es. all (λ c. test (4 * place_over gs es + c)) (upto 4)) (counts_over gs)) (all test (upto (number_count gs)))
    (λ ok.
    all-passes test (upto (number_count gs))
    (λ i m.
    let below = upto-below (number_count gs) i m in
    let p-below : i / 4 < length (counts_over gs) = omega arith in
    let c-below : i % 4 < 4 = omega arith in
    let i-is : 4 * (i / 4) + i % 4 ≡ i = omega arith in
    ap test (sym i-is ∙ ap (λ p. 4 * p + i % 4) (sym (place-index gs (i / 4) p-below)))
    ∙ all-at (λ c. test (4 * place_over gs (get_or (counts_over gs) (i / 4) []) + c)) (upto 4)
    (all-at (λ es. all (λ c. test (4 * place_over gs es + c)) (upto 4)) (counts_over gs) ok (get_or (counts_over gs) (i / 4) []) (at-member [] (counts_over gs) (i / 4) p-below))
    (i % 4) (below-upto 4 (i % 4) c-below)))
    (λ ok.
    all-passes (λ es. all (λ c. test (4 * place_over gs es + c)) (upto 4)) (counts_over gs)
    (λ es m.
    all-passes (λ c. test (4 * place_over gs es + c)) (upto 4)
    (λ c k.
    let small = upto-below 4 c k in
    let place = (place-over gs es (counts-over gs es m)).0 in
    all-at test (upto (number_count gs)) ok (4 * place_over gs es + c) (below-upto (number_count gs) (4 * place_over gs es + c) (omega arith)))))

-- The size rule of a replace in the first group is the code's: level by level, all numbers of the rows.
pub named-rows : (g : Group) (gs : List Group) (ws : List ℤ) (weights : List (List ℤ)) (xs : List ℤ)
    → all_named (named_by_replace (g ∷ gs) 0) (λ c es. fixed_over (g ∷ gs) (ws ∷ weights) (entry_over (g ∷ gs) xs c) es)
    ≡ all_named_at (number_count gs) g.dimension g.degree ws xs
unfolding all_named named_by_replace all_named_at
named-rows g gs ws weights xs =
    all-joined (λ es. all (λ c. in_range (P c es)) (upto 4)) (λ x. map (λ ys. x ∷ ys) (map none_of_q (counts_over gs))) (counts (suc n) m)
    ∙ all-cong (λ x. all (λ es. all (λ c. in_range (P c es)) (upto 4)) (map (λ ys. x ∷ ys) (map none_of_q (counts_over gs)))) by-entry (counts (suc n) m) (λ x k. one-count x)
    ∙ by-levels n m by-entry
    ∙ all-cong (λ h. all (λ e. by-entry (h ∷ e)) (counts n (m - h))) (named_at w n m ws xs) (upto (suc m))
    (λ h i.
    all-cong (λ e. by-entry (h ∷ e)) (λ e. all (λ c. in_range (values_of w n m ws xs c h e)) (upto w)) (counts n (m - h))
    (λ e j.
    all-cong (λ es. all (λ c. in_range (P c ((h ∷ e) ∷ none_of_q es))) (upto 4)) (λ es. all (λ c. in_range (values_of w n m ws xs (4 * place_over gs es + c) h e)) (upto 4)) (counts_over gs)
    (λ es k.
    all-cong (λ c. in_range (P c ((h ∷ e) ∷ none_of_q es))) (λ c. in_range (values_of w n m ws xs (4 * place_over gs es + c) h e)) (upto 4)
    (λ c q. ap in_range (row-fixed g gs ws weights xs c h e es (counted-long gs es (counts-over gs es k)))))
    ∙ row-test gs (λ i. in_range (values_of w n m ws xs i h e))))
  where
    n : ℕ
    n = g.dimension

    m : ℕ
    m = g.degree

    w : ℕ
    w = number_count gs

    P : ℕ → List (List ℕ) → ℤ
    P c es = fixed_over (g ∷ gs) (ws ∷ weights) (entry_over (g ∷ gs) xs c) es

    -- the values with the first group's counts x
    by-entry : List ℕ → Bool
    by-entry x = all (λ es. all (λ c. in_range (P c (x ∷ none_of_q es))) (upto 4)) (counts_over gs)

    one-count : (x : List ℕ) → all (λ es. all (λ c. in_range (P c es)) (upto 4)) (map (λ ys. x ∷ ys) (map none_of_q (counts_over gs))) ≡ by-entry x
    one-count x =
        all_map (λ es. all (λ c. in_range (P c es)) (upto 4)) (λ ys. x ∷ ys) (map none_of_q (counts_over gs))
        ∙ all_map (λ ys. all (λ c. in_range (P c (x ∷ ys))) (upto 4)) none_of_q (counts_over gs)

-- ---- nets as lists

-- a net by the first group's counts: for each of them the net over the groups after it
pub first-listed : (g : Group) (gs : List Group) (f : ℕ → List (List ℕ) → ℤ)
    → listed_over (g ∷ gs) f ≡ joined (λ e. listed_over gs (λ c es. f c (e ∷ es))) (counts g.dimension g.degree)
unfolding listed_over counts_over
first-listed g gs f = by (counts g.dimension g.degree)
  where
    row : List (List ℕ) → List ℤ
    row es = map (λ c. f c es) (upto 4)

    by : (xs : List (List ℕ)) → joined row (pairs xs (counts_over gs)) ≡ joined (λ e. joined (λ es. map (λ c. f c (e ∷ es)) (upto 4)) (counts_over gs)) xs
    by [] = refl
    by (x ∷ xs) =
        joined-append row (map (λ es. x ∷ es) (counts_over gs)) (pairs xs (counts_over gs))
        ∙ ap₂ ◌++◌ (joined-map row (λ es. x ∷ es) (counts_over gs)) (by xs)

-- the same as rows: number i of the row is the one of its entry
pub row_listed : (g : Group) (gs : List Group) (f : ℕ → List (List ℕ) → ℤ) (h : ℕ → List ℕ → ℤ)
    → ((c : ℕ) (e : List ℕ) (es : List (List ℕ)) → c < 4 → length e ≡ suc g.dimension → total e ≡ g.degree → Counted gs es → f c (e ∷ es) ≡ h (4 * place_over gs es + c) e)
    → listed_over (g ∷ gs) f ≡ listed (number_count gs) g.dimension g.degree h
unfolding listed entry_over
row_listed g gs f h agree = first-listed g gs f ∙ by (counts g.dimension g.degree) (λ e m. one-row e (counts-total g.dimension g.degree e m))
  where
    one-row : (e : List ℕ) → (length e ≡ suc g.dimension) × (total e ≡ g.degree) → listed_over gs (λ c es. f c (e ∷ es)) ≡ map (λ i. h i e) (upto (number_count gs))
    one-row e counted =
        ext_get_or (pos 0) (listed_over gs (λ c es. f c (e ∷ es))) (map (λ i. h i e) (upto (number_count gs)))
        (length-listed-over gs (λ c es. f c (e ∷ es)) ∙ sym (length-map (upto (number_count gs)) (λ i. h i e) ∙ length-upto (number_count gs)))
        (λ i b. at i (subst (λ k. i < k) (length-listed-over gs (λ c es. f c (e ∷ es))) b))
      where
        at : (i : ℕ) → i < number_count gs → get_or (listed_over gs (λ c es. f c (e ∷ es))) i (pos 0) ≡ get_or (map (λ j. h j e) (upto (number_count gs))) i (pos 0)
        at i b =
            let p-below : i / 4 < length (counts_over gs) = omega arith in
            let c-below : i % 4 < 4 = omega arith in
            let i-is : 4 * (i / 4) + i % 4 ≡ i = omega arith in
            let es = get_or (counts_over gs) (i / 4) [] in
            let place = place-index gs (i / 4) p-below in
            let inside = counts-over gs es (at-member [] (counts_over gs) (i / 4) p-below) in
            ap (λ j. get_or (listed_over gs (λ c fs. f c (e ∷ fs))) j (pos 0)) (sym i-is ∙ ap (λ p. 4 * p + i % 4) (sym place))
            ∙ entry-listed-over gs (λ c fs. f c (e ∷ fs)) (i % 4) es c-below inside
            ∙ agree (i % 4) e es c-below counted.0 counted.1 inside
            ∙ ap (λ j. h j e) (ap (λ p. 4 * p + i % 4) place ∙ i-is)
            ∙ sym (at-upto (number_count gs) (λ j. h j e) i b)

    by : (xs : List (List ℕ)) → ((e : List ℕ) → Memᴰ e xs → listed_over gs (λ c es. f c (e ∷ es)) ≡ map (λ i. h i e) (upto (number_count gs)))
        → joined (λ e. listed_over gs (λ c es. f c (e ∷ es))) xs ≡ joined (λ e. map (λ i. h i e) (upto (number_count gs))) xs
    by [] same = refl
    by (x ∷ xs) same = ap₂ ◌++◌ (same x (Memᴰ.head refl)) (by xs (λ e m. same e (Memᴰ.tail m)))
