-- The entries of a first net in their places. The code fixes an entry's points in the order first, third, second vertex; a form does not see the order, so the value
-- is the entry's. Rows are written from the last to the first, and all of them together are the net over the frame.
use Prim.Native.Nat.{ℕ, zero, suc, pred, ◌+◌, ◌*◌, ◌-◌, ◌/◌, ◌%◌, ◌≤◌, ◌<◌, zero-le}
use native.Mathlib.Nat.{sub-zero, sub_self, le_refl, mul-add, mul-suc, mul-zero, mul_comm, le-div_iff_mul-le, div-lt_iff_lt-mul}
use native.Mathlib.Omega.{arith}
use native.Mathlib.Decide.{dec_lt}
use mathlib.Core.Path.{◌≡◌, refl, sym, ap, ap₂, ◌∙◌, subst}
use mathlib.Core.List.{List, [], ◌∷◌, ◌++◌, append-nil}
use lib.IntN.{ℤ, pos}
use lib.ListN.{length, get_or, drop, replicate}
use lib.Seq.{ext_get_or}
use Rattle.polar.specs.Sigma.{Point}
use Rattle.polar.specs.Order.{counts}
use Rattle.polar.specs.Groups.{Group, monomials_over}
use Rattle.polar.specs.Polar.{column_terms}
use Rattle.entries.specs.Frame.{entry_points}
use Rattle.entries.specs.Form.{Form}
use Rattle.entries.specs.Rows.{listed, size, rank}
use Rattle.entries.proofs.Form.{block}
use Rattle.entries.proofs.Groups.{polar-forms}
use Rattle.entries.proofs.Listed.{entry-rank, rank_below, digits-below, first-digit, net-ext}
use Rattle.kinds.specs.Kinds.{group}
use Rattle.nets.specs.Rows.{Sized, blended, level, written, place_at}
use Rattle.nets.specs.Levels.{copied_row}
use Rattle.nets.specs.Flips.{counts_at}
use Rattle.nets.specs.Coordinates.{row_polar, Coordinates}
use Rattle.nets.specs.FirstNet.{Stepping, vertex_of, vertex_weights, Values, Holds, value_at}
use Rattle.nets.proofs.Lists.{length-written, written-outside, written_at, written-cong}
use Rattle.nets.proofs.Places.{by-dimension, row-digit, own-digit, row_of, own_of, counts-at-rank, counts-at-place, place-step, place-row, place-whole, place_inside}
use Rattle.nets.proofs.Writes.{row_more}
use Rattle.nets.proofs.Through.{VertexSteps, steps_next, steps-left, holds-level}

-- ---- writes

-- what is copied to the front is there
pub copied_at : (to from : List ℤ) (count i : ℕ) → i < count → count ≤ length to → get_or (written to 0 count (λ j. get_or from j (pos 0))) i (pos 0) ≡ get_or from i (pos 0)
copied_at to from count i b room = written_at to 0 count (λ j. get_or from j (pos 0)) i zero-le (omega arith) (omega arith)

-- writes in front of writes
written-before : (xs : List ℤ) (from a b : ℕ) (g : ℕ → ℤ) → from + a + b ≤ length xs → written (written xs (from + a) b g) from a g ≡ written xs from (a + b) g
written-before xs from a b g room =
    ext_get_or (pos 0) (written after from a g) (written xs from (a + b) g)
    (length-written after from a g ∙ length-written xs (from + a) b g ∙ sym (length-written xs from (a + b) g))
    (λ i h. by i (dec_lt i from) (dec_lt i (from + a)) (dec_lt i (from + a + b)))
  where
    after : List ℤ
    after = written xs (from + a) b g

    by : (i : ℕ) → Dec (i < from) → Dec (i < from + a) → Dec (i < from + a + b) → get_or (written after from a g) i (pos 0) ≡ get_or (written xs from (a + b) g) i (pos 0)
    by i (yes p) q r =
        written-outside after from a g i (λ u v. omega arith)
        ∙ written-outside xs (from + a) b g i (λ u v. omega arith)
        ∙ sym (written-outside xs from (a + b) g i (λ u v. omega arith))
    by i (no p) (yes q) r =
        written_at after from a g i (omega arith) q (omega (arith, length-written xs (from + a) b g))
        ∙ sym (written_at xs from (a + b) g i (omega arith) (omega arith) (omega arith))
    by i (no p) (no q) (yes r) =
        written-outside after from a g i (λ u v. absurd (q v))
        ∙ written_at xs (from + a) b g i (omega arith) r room
        ∙ sym (written_at xs from (a + b) g i (omega arith) (omega arith) (omega arith))
    by i (no p) (no q) (no r) =
        written-outside after from a g i (λ u v. absurd (q v))
        ∙ written-outside xs (from + a) b g i (λ u v. absurd (r v))
        ∙ sym (written-outside xs from (a + b) g i (λ u v. omega arith))

-- a row copied from the front, by the value of each number
pub copied-written : (w p : ℕ) (out ys : List ℤ) (g : ℕ → ℤ) → ((c : ℕ) → c < w → get_or ys c (pos 0) ≡ g c) → copied_row w out p ys 0 ≡ written out (w * p) w (λ i. g (i % w))
copied-written w p out ys g h =
    written-cong out (w * p) w (λ i. get_or ys (w * 0 + (i - w * p)) (pos 0)) (λ i. g (i % w))
    (λ i lo up. ap (λ j. get_or ys j (pos 0)) (first-digit w (i - w * p)) ∙ h (i - w * p) (omega arith) ∙ ap g (sym (own-digit w p i lo up)))

-- ---- the points of an entry

-- an entry of row i without copies of the first vertex: the third vertex's copies may stand first
row-points : {d : ℕ} {G : List Point → ℤ} → Form d G → (fr : ℕ → Point) (n i k : ℕ) → 1 ≤ n → n ≤ 2 → k ≤ (n - 1) * i
    → G (replicate k (fr 2) ++ replicate (i - k) (fr 1)) ≡ G (entry_points fr (counts_at n i i k))
row-points {d} {G} F fr n i k low high =
    by-dimension (λ j. k ≤ (j - 1) * i → G (replicate k (fr 2) ++ replicate (i - k) (fr 1)) ≡ G (entry_points fr (counts_at j i i k))) n low high
    (λ h.
    let none : k ≡ 0 = omega arith in
    ap (λ j. G (replicate j (fr 2) ++ replicate (i - j) (fr 1))) none
    ∙ ap G (ap (λ j. replicate j (fr 1)) (sub-zero i) ∙ sym (append-nil (replicate i (fr 1))))
    ∙ ap (λ j. G (replicate j (fr 0) ++ (replicate i (fr 1) ++ []))) (sym (sub_self i)))
    (λ h.
    ap (λ l. G (replicate k (fr 2) ++ l)) (sym (append-nil (replicate (i - k) (fr 1))))
    ∙ sym (block F (replicate (i - k) (fr 1)) k (fr 2) [])
    ∙ ap (λ j. G (replicate j (fr 0) ++ (replicate (i - k) (fr 1) ++ (replicate k (fr 2) ++ [])))) (sym (sub_self i)))

-- the copies of the first vertex stand in front
first-points : (fr : ℕ → Point) (n m i k : ℕ) → 1 ≤ n → n ≤ 2 → replicate (m - i) (fr 0) ++ entry_points fr (counts_at n i i k) ≡ entry_points fr (counts_at n m i k)
first-points fr n m i k low high =
    by-dimension (λ j. replicate (m - i) (fr 0) ++ entry_points fr (counts_at j i i k) ≡ entry_points fr (counts_at j m i k)) n low high
    (ap (λ j. replicate (m - i) (fr 0) ++ (replicate j (fr 0) ++ (replicate i (fr 1) ++ []))) (sub_self i))
    (ap (λ j. replicate (m - i) (fr 0) ++ (replicate j (fr 0) ++ (replicate (i - k) (fr 1) ++ (replicate k (fr 2) ++ [])))) (sub_self i))

-- the counts of the entry that place j is in
counts-here : (w n m i k j : ℕ) → 1 ≤ n → n ≤ 2 → i ≤ m → k ≤ (n - 1) * i → j / w ≡ place_at n i k → get_or (counts n m) (j / w) [] ≡ counts_at n m i k
counts-here w n m i k j low high b third at = ap (λ p. get_or (counts n m) p []) at ∙ counts-at-place n m i k low high b third

-- ---- a row

-- where the third vertex is taken there is one
pub third-vertex : (n i k : ℕ) → 1 ≤ n → n ≤ 2 → k < (n - 1) * i → 2 ≤ n
third-vertex n i k low high = by-dimension (λ j. k < (j - 1) * i → 2 ≤ j) n low high (λ h. omega arith) (λ h. le_refl 2)

-- the net with k copies of the third vertex fixed; of a curve there are none
pub holds-third : (w n i k : ℕ) (frame xs cur : List ℤ) → Stepping w n i frame xs → k ≤ (n - 1) * i → VertexSteps w n i 2 frame xs cur k → (G : Values) → Holds w n i G xs
    → Holds w n (i - k) (λ c ps. G c (replicate k (vertex_of n frame 2) ++ ps)) cur
unfolding level
holds-third w n i zero frame xs cur s third p G holds =
    subst (λ l. Holds w n (i - 0) G l) (sym p.reached) (subst (λ d. Holds w n d G xs) (sym (sub-zero i)) holds)
holds-third w n i (suc k) frame xs cur s third p G holds =
    subst (λ l. Holds w n (i - suc k) (λ c ps. G c (replicate (suc k) (vertex_of n frame 2) ++ ps)) l) (sym p.reached)
    (holds-level w n i 2 frame xs s.sized (third-vertex n i k s.sized.low s.sized.high third) s.long G holds (suc k) p.below)

-- one entry more of a row
pub entry_more : (w n i k : ℕ) (frame out cur ys : List ℤ) (G : Values) → ((c : ℕ) → Form (suc n) (G c)) → 1 ≤ n → n ≤ 2 → k ≤ (n - 1) * i
    → cur ≡ written out (w * place_at n i 0) (w * k) (value_at w n i frame G)
    → ys ≡ written cur (w * place_at n i k) w (λ j. G (j % w) (replicate k (vertex_of n frame 2) ++ replicate (i - k) (vertex_of n frame 1)))
    → ys ≡ written out (w * place_at n i 0) (w * (k + 1)) (value_at w n i frame G)
entry_more w n i k frame out cur ys G F low high third inv is =
    row_more w n i k (value_at w n i frame G) out cur ys low high third inv
    (is
    ∙ written-cong cur (w * place_at n i k) w (λ j. G (j % w) (replicate k (vertex_of n frame 2) ++ replicate (i - k) (vertex_of n frame 1))) (value_at w n i frame G)
    (λ j lo up.
    row-points (F (j % w)) (vertex_of n frame) n i k low high third
    ∙ ap (λ e. G (j % w) (entry_points (vertex_of n frame) e)) (sym (counts-here w n i i k j low high (le_refl i) third (row-digit w (place_at n i k) j lo up)))))

-- ---- the rows

-- the steps of the base, counted by the row that is next
module _ (w n m i : ℕ) (frame xs cur : List ℤ) (stepping : Stepping w n m frame xs) (below : i ≤ m) (p : VertexSteps w n m 0 frame xs cur (m - i)) where
  left : m - (m - i) ≡ i
  left = omega arith

  pub base-left : Stepping w n i frame cur
  base-left = subst (λ d. Stepping w n d frame cur) left (steps-left w n m 0 frame xs stepping cur (m - i) p)

  pub base-next : (ys : List ℤ) → 1 ≤ i → ys ≡ blended w n (pred i) (vertex_weights n frame 0) cur → length ys ≡ length cur → VertexSteps w n m 0 frame xs ys (m - (i - 1))
  base-next ys one is kept =
      subst (λ h. VertexSteps w n m 0 frame xs ys h) less
      (steps_next w n m 0 frame xs stepping cur ys (m - i) (omega arith) zero-le p (is ∙ ap (λ d. blended w n (pred d) (vertex_weights n frame 0) cur) (sym left)) kept)
    where
      less : m - i + 1 ≡ m - (i - 1)
      less = omega arith

  -- the values that it holds, with as many copies of the first vertex as row i has
  pub holds-first : (G : Values) → Holds w n m G xs → Holds w n i (λ c ps. G c (replicate (m - i) (vertex_of n frame 0) ++ ps)) cur
  holds-first G holds =
      subst (λ l. Holds w n i (λ c ps. G c (replicate (m - i) (vertex_of n frame 0) ++ ps)) l) (sym p.reached)
      (subst (λ d. Holds w n d (λ c ps. G c (replicate (m - i) (vertex_of n frame 0) ++ ps)) (level w n m (vertex_weights n frame 0) (m - i) xs)) left
      (holds-level w n m 0 frame xs stepping.sized zero-le stepping.long G holds (m - i) p.below))

-- a place of row i has the value of the whole net
row-value : (w n m i j : ℕ) (frame : List ℤ) (G : Values) → Sized w n m → i ≤ m → w * place_at n i 0 ≤ j → j < w * place_at n i 0 + w * suc ((n - 1) * i)
    → value_at w n i frame (λ c ps. G c (replicate (m - i) (vertex_of n frame 0) ++ ps)) j ≡ value_at w n m frame G j
row-value w n m i j frame G s b lo up =
    ap (λ e. G (j % w) (replicate (m - i) (vertex_of n frame 0) ++ entry_points (vertex_of n frame) e)) (counts-here w n i i k j s.low s.high (le_refl i) third at)
    ∙ ap (G (j % w)) (first-points (vertex_of n frame) n m i k s.low s.high)
    ∙ ap (λ e. G (j % w) (entry_points (vertex_of n frame) e)) (sym (counts-here w n m i k j s.low s.high b third at))
  where
    k : ℕ
    k = j / w - place_at n i 0

    -- the row of the place lies between the first of the rows and the last
    low : place_at n i 0 ≤ j / w
    low = (le-div_iff_mul-le s.some).1 (subst (λ z. z ≤ j) (mul_comm w (place_at n i 0)) lo)

    high : j / w < place_at n i 0 + suc ((n - 1) * i)
    high =
        (div-lt_iff_lt-mul s.some).1
        (subst (λ z. j < z) (sym (mul-add w (place_at n i 0) (suc ((n - 1) * i))) ∙ mul_comm w (place_at n i 0 + suc ((n - 1) * i))) up)

    third : j / w - place_at n i 0 ≤ (n - 1) * i
    third = omega (arith, low, high)

    at : j / w ≡ place_at n i (j / w - place_at n i 0)
    at = omega (arith, low, place-step n i (j / w - place_at n i 0) s.low s.high third)

-- before the last row nothing is written, and after the first all is
pub rows_last : (w n m : ℕ) (out : List ℤ) (g : ℕ → ℤ) → 1 ≤ n → n ≤ 2 → out ≡ written out (w * place_at n (m + 1) 0) (size w n m - w * place_at n (m + 1) 0) g
unfolding written
rows_last w n m out g low high = ap (λ k. written out (w * place_at n (m + 1) 0) k g) none
  where
    none : 0 ≡ size w n m - w * place_at n (m + 1) 0
    none = omega (arith, place-whole w n m low high)

pub rows_whole : (w n m : ℕ) (out : List ℤ) (g : ℕ → ℤ) → 1 ≤ n → n ≤ 2 → written out (w * place_at n 0 0) (size w n m - w * place_at n 0 0) g ≡ written out 0 (size w n m) g
rows_whole w n m out g low high =
    ap (λ p. written out p (size w n m - p) g) (ap (λ p. w * p) (by-dimension (λ d. place_at d 0 0 ≡ 0) n low high refl refl) ∙ mul-zero w) ∙ ap (λ k. written out 0 k g) (sub-zero (size w n m))

-- the rows after row i are made, and row i before them
pub row_before : (w n m i : ℕ) (frame out cur ys : List ℤ) (G : Values) → Sized w n m → i ≤ m → size w n m ≤ length out
    → cur ≡ written out (w * place_at n (i + 1) 0) (size w n m - w * place_at n (i + 1) 0) (value_at w n m frame G)
    → ys ≡ written cur (w * place_at n i 0) (w * suc ((n - 1) * i)) (value_at w n i frame (λ c ps. G c (replicate (m - i) (vertex_of n frame 0) ++ ps)))
    → ys ≡ written out (w * place_at n i 0) (size w n m - w * place_at n i 0) (value_at w n m frame G)
row_before w n m i frame out cur ys G s b room inv is =
    is
    ∙ written-cong cur from row (value_at w n i frame (λ c ps. G c (replicate (m - i) (vertex_of n frame 0) ++ ps))) whole (λ j lo up. row-value w n m i j frame G s b lo up)
    ∙ ap (λ l. written l from row whole) (inv ∙ ap₂ (λ p k. written out p k whole) next left)
    ∙ written-before out from row (size w n m - (from + row)) whole (omega (arith, room, inside))
    ∙ ap (λ k. written out from k whole) together
  where
    from : ℕ
    from = w * place_at n i 0

    row : ℕ
    row = w * suc ((n - 1) * i)

    whole : ℕ → ℤ
    whole = value_at w n m frame G

    next : w * place_at n (i + 1) 0 ≡ from + row
    next = ap (λ p. w * p) (place-row n i s.low s.high) ∙ mul-add w (place_at n i 0) (suc ((n - 1) * i))

    left : size w n m - w * place_at n (i + 1) 0 ≡ size w n m - (from + row)
    left = ap (λ p. size w n m - p) next

    inside : from + row ≤ size w n m
    inside =
        let last = place_inside n m i ((n - 1) * i) s.low s.high b (le_refl ((n - 1) * i)) w in
        let step = ap (λ p. w * p) (place-step n i ((n - 1) * i) s.low s.high (le_refl ((n - 1) * i))) ∙ mul-add w (place_at n i 0) ((n - 1) * i) in
        omega (arith, last, step, mul-suc w ((n - 1) * i))

    together : row + (size w n m - (from + row)) ≡ size w n m - from
    together = omega (arith, inside)

-- ---- the net

-- the net over the frame of the coordinates holds the polar values
pub holds-polar : (w n m : ℕ) (numbers xs : List ℤ) → Coordinates w n m numbers xs → Holds w n m (row_polar w n m numbers) xs
holds-polar w n m numbers xs coordinates =
    record {
      form = λ c. (polar-forms gs (column_terms w c (monomials_over gs) numbers)).0 [];
      entries = λ c e k l t. entry-rank w n m xs c e l t ∙ coordinates.entries c e k l t;
    }
  where
    gs : List Group
    gs = group n m ∷ []

-- all values written are the numbers of the net over the frame, in front of what stood past them
pub values_listed : (w n m : ℕ) (frame out : List ℤ) (G : Values) → 1 ≤ w → size w n m ≤ length out
    → written out 0 (size w n m) (value_at w n m frame G) ≡ listed w n m (λ c e. G c (entry_points (vertex_of n frame) e)) ++ drop (size w n m) out
values_listed w n m frame out G some room =
    net-ext w n m some (written out 0 (size w n m) whole) out (λ c e. G c (entry_points (vertex_of n frame) e)) (length-written out 0 (size w n m) whole) room
    (λ c e k l t.
    let inside = digits-below w (rank n e) c (length (counts n m)) (rank_below w n m e l t) k in
    written_at out 0 (size w n m) whole (w * rank n e + c) zero-le (omega arith) (omega (arith, room))
    ∙ ap₂ (λ p i. G i (entry_points (vertex_of n frame) (get_or (counts n m) p []))) (row_of w (rank n e) c k) (own_of w (rank n e) c k)
    ∙ ap (λ y. G c (entry_points (vertex_of n frame) y)) (counts-at-rank n m e l t))
    (λ i h. written-outside out 0 (size w n m) whole i (λ a b. omega arith))
  where
    whole : ℕ → ℤ
    whole = value_at w n m frame G
