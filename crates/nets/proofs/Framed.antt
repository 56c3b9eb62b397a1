-- From coefficients to the net over a frame, group by group. The first group's net over its frame has for each entry a row of numbers, and with the first group's points held these are
-- the coefficients of polynomials of the groups after it (entries/proofs/FirstGroup.antt); so the net over all frames is made part by part. How large the numbers grow: a form is
-- linear in each point, so each vertex of a frame multiplies the bound by at most four times the number of vertices.
use Prim.Native.Nat.{ℕ, zero, suc, ◌+◌, ◌*◌, ◌/◌, ◌%◌, ◌^◌, ◌≤◌, ◌<◌, zero-le, suc-le-suc}
use native.Mathlib.Nat.{zero-add, add-zero, one-mul, mul_assoc, mul_comm, le_of_suc-le-suc, pow-succ', pow-zero, div-add-mod, mod-lt, div-lt_iff_lt-mul}
use native.Mathlib.Omega.{arith}
use mathlib.Core.Path.{◌≡◌, refl, sym, ap, ap₂, ◌∙◌, subst}
use mathlib.Core.List.{List, [], ◌∷◌, ◌++◌, append-nil, Memᴰ}
use lib.IntN.{ℤ, pos, nat_abs, ◌*ℤ◌}
use lib.ListN.{length, get_or, drop, replicate, length-append}
use Rattle.integers.specs.Sum.{sum, upto}
use Rattle.integers.proofs.Signed.{abs-*-le}
use Rattle.polar.specs.Sigma.{Point}
use Rattle.polar.specs.Order.{joined, total, counts, monomials}
use Rattle.polar.specs.Groups.{Group, monomials_over, counts_over}
use Rattle.polar.specs.Scale.{scale}
use Rattle.polar.specs.Polar.{polar_over, column_terms, terms}
use Rattle.entries.specs.Frame.{entry_points, entry_points_over, combination, units}
use Rattle.entries.specs.Form.{Form}
use Rattle.entries.specs.Entries.{place_of, raise, number_count, listed_over}
use Rattle.entries.specs.Rows.{listed, size}
use Rattle.entries.proofs.Form.{blend, total-raise, length-raise}
use Rattle.entries.proofs.Places.{counts-at, placed}
use Rattle.entries.proofs.Groups.{polar-forms, total-zeros, length-zeros}
use Rattle.entries.proofs.Listed.{digits-below, rows_at}
use Rattle.entries.proofs.ListedOver.{listed-over-cong}
use Rattle.entries.proofs.FirstGroup.{over-columns}
use Rattle.kinds.specs.Kinds.{group}
use Rattle.kinds.specs.Frames.{frames_of}
use Rattle.kinds.proofs.Counts.{coefficients-entries}
use Rattle.nets.specs.Coordinates.{row_polar, NoneBeyond, Limited}
use Rattle.nets.specs.FirstNet.{FrameWithin, vertex_of, vertex_weights, framed}
use Rattle.nets.specs.Parts.{part_at}
use Rattle.nets.proofs.GroupRows.{first-listed, row_listed}
use Rattle.nets.proofs.Parts.{part-at}
use Rattle.nets.proofs.LaterMoves.{joined-places}
use Rattle.nets.proofs.Scaled.{polar-small}
use Rattle.nets.proofs.Through.{vertex-named, weights-within, abs-sum}

-- ---- how large the values over a frame are

-- a frame whose vertices are combinations of the points fr, with weights of at most 4
module _ (d : ℕ) (fr corner : ℕ → Point) (weights : ℕ → List ℤ) (named : (v : ℕ) → v < d → combination d (weights v) fr ≡ corner v)
    (low : (v : ℕ) → v < d → (u : ℕ) → nat_abs (get_or (weights v) u (pos 0)) ≤ 4) where
  abbrev Corner : Point → Type 0
  Corner q = (v : ℕ) × (v < d) × (corner v ≡ q)

  abbrev Corners : List Point → Type 0
  Corners [] = Unit
  Corners (q ∷ Q) = Corner q × Corners Q

  corners-more : (k : ℕ) (q : Point) (Q : List Point) → Corner q → Corners Q → Corners (replicate k q ++ Q)
  corners-more zero q Q c cs = cs
  corners-more (suc k) q Q c cs = (c, corners-more k q Q c cs)

  corners-taken : (at : ℕ → Point) (e : List ℕ) → ((v : ℕ) → v < length e → Corner (at v)) → Corners (entry_points at e)
  corners-taken at [] h = tt
  corners-taken at (k ∷ e) h = corners-more k (at 0) (entry_points (λ v. at (suc v)) e) (h 0 (suc-le-suc zero-le)) (corners-taken (λ v. at (suc v)) e (λ v p. h (suc v) (suc-le-suc p)))

  module _ {G : List Point → ℤ} (F : Form d G) (A m : ℕ) (small : (e : List ℕ) → length e ≡ d → total e ≡ m → nat_abs (G (entry_points fr e)) ≤ A) where
    grown : (Q : List Point) → Corners Q → (e : List ℕ) → length e ≡ d → length Q + total e ≡ m → nat_abs (G (Q ++ entry_points fr e)) ≤ (4 * d) ^ length Q * A
    grown [] cs e l t = subst (λ k. nat_abs (G (entry_points fr e)) ≤ k) (sym (ap (λ p. p * A) (pow-zero (4 * d)) ∙ one-mul A)) (small e l (sym (zero-add (total e)) ∙ t))
    grown (q ∷ Q) (c, cs) e l t =
        subst (λ k. nat_abs (G (q ∷ (Q ++ entry_points fr e))) ≤ k) turned
        (subst (λ x. nat_abs x ≤ d * (4 * ((4 * d) ^ length Q * A))) step
        (abs-sum (λ u. get_or (weights c.0) u (pos 0) *ℤ G (Q ++ entry_points fr (raise u e))) d (4 * ((4 * d) ^ length Q * A))
        (λ u h.
        abs-*-le (get_or (weights c.0) u (pos 0)) (G (Q ++ entry_points fr (raise u e))) (low c.0 c.1 u)
        (grown Q cs (raise u e) (length-raise u e (subst (λ k. u < k) (sym l) h) ∙ l) (omega (arith, total-raise u e, t))))))
      where
        step : sum (λ u. get_or (weights c.0) u (pos 0) *ℤ G (Q ++ entry_points fr (raise u e))) (upto d) ≡ G (q ∷ (Q ++ entry_points fr e))
        step = blend F fr (weights c.0) (λ x. G (Q ++ entry_points fr x)) Q e (λ u h. refl) ∙ ap (λ p. G (p ∷ (Q ++ entry_points fr e))) (named c.0 c.1 ∙ c.2)

        turned : d * (4 * ((4 * d) ^ length Q * A)) ≡ (4 * d) ^ suc (length Q) * A
        turned =
            sym (mul_assoc d 4 ((4 * d) ^ length Q * A))
            ∙ ap (λ k. k * ((4 * d) ^ length Q * A)) (mul_comm d 4)
            ∙ sym (mul_assoc (4 * d) ((4 * d) ^ length Q) A)
            ∙ ap (λ k. k * A) (sym (pow-succ' (4 * d) (length Q)))

    -- as many vertices as the form has points
    pub over-corners : (e : List ℕ) → length e ≡ d → total e ≡ m → nat_abs (G (entry_points corner e)) ≤ (4 * d) ^ m * A
    over-corners e l t =
        subst (λ ps. nat_abs (G ps) ≤ (4 * d) ^ m * A) (ap (λ ps. entry_points corner e ++ ps) (none-taken fr d) ∙ append-nil (entry_points corner e))
        (subst (λ k. nat_abs (G (entry_points corner e ++ entry_points fr (replicate d 0))) ≤ (4 * d) ^ k * A) (taken-long corner e ∙ t)
        (grown (entry_points corner e) (corners-taken corner e (λ v h. (v, subst (λ k. v < k) l h, refl))) (replicate d 0) (length-zeros d)
        (ap₂ ◌+◌ (taken-long corner e ∙ t) (total-zeros d) ∙ add-zero m)))
      where
        none-taken : (at : ℕ → Point) (k : ℕ) → entry_points at (replicate k 0) ≡ []
        none-taken at zero = refl
        none-taken at (suc k) = none-taken (λ v. at (suc v)) k

        taken-long : (at : ℕ → Point) (x : List ℕ) → length (entry_points at x) ≡ total x
        taken-long at [] = refl
        taken-long at (k ∷ x) = length-append (replicate k (at 0)) (entry_points (λ v. at (suc v)) x) ∙ ap₂ ◌+◌ (copies k) (taken-long (λ v. at (suc v)) x)
          where
            copies : (j : ℕ) → length (replicate j (at 0)) ≡ j
            copies zero = refl
            copies (suc j) = ap suc (copies j)

-- the numbers of a net over a frame, where no coefficient is beyond B
pub framed-small : (w n m : ℕ) (frame coefficients : List ℤ) → Limited w n m coefficients → FrameWithin n frame → (B : ℕ) → NoneBeyond B (w * length (monomials n m)) coefficients
    → NoneBeyond ((4 * suc n) ^ m * (scale n m * B)) (size w n m) (framed w n m frame coefficients)
unfolding framed listed
framed-small w n m frame coefficients limited within B each i h =
    subst (λ x. nat_abs x ≤ (4 * suc n) ^ m * (scale n m * B)) (sym (here (i / w) (i % w) p-below c-below i-is))
    (over-corners (suc n) (units n) (vertex_of n frame) (vertex_weights n frame) (λ v b. vertex-named n limited.sized.low limited.sized.high frame v (le_of_suc-le-suc b)) (λ v b u. weights-within n frame v u limited.sized.low limited.sized.high within (le_of_suc-le-suc b))
    ((polar-forms (group n m ∷ []) (column_terms w (i % w) (monomials_over (group n m ∷ [])) coefficients)).0 [])
    (scale n m * B) m (λ e l t. polar-small w n m coefficients limited B each (i % w) c-below e l t)
    (get_or (counts n m) (i / w) []) (counts-at n m (i / w) p-below).0 (counts-at n m (i / w) p-below).1)
  where
    p-below : i / w < length (counts n m)
    p-below = (div-lt_iff_lt-mul limited.sized.some).1 (subst (λ k. i < k) (mul_comm w (length (counts n m))) h)

    c-below : i % w < w
    c-below = mod-lt i limited.sized.some

    i-is : w * (i / w) + i % w ≡ i
    i-is = div-add-mod i w

    here : (p c : ℕ) → p < length (counts n m) → c < w → w * p + c ≡ i
        → get_or (framed w n m frame coefficients) i (pos 0) ≡ row_polar w n m coefficients c (entry_points (vertex_of n frame) (get_or (counts n m) p []))
    here p c a b is =
        ap (λ j. get_or (framed w n m frame coefficients) j (pos 0)) (sym is)
        ∙ rows_at w (λ k e. row_polar w n m coefficients k (entry_points (vertex_of n frame) e)) [] (counts n m) p c a b

-- ---- group by group

-- one group: its net over its frame
pub one-framed : (n m : ℕ) (frame coefficients : List ℤ)
    → listed_over (group n m ∷ []) (λ c es. polar_over (group n m ∷ []) (terms c (monomials_over (group n m ∷ [])) coefficients) (entry_points_over (frames_of (group n m ∷ []) frame) es)) ≡ framed 4 n m frame coefficients
unfolding framed frames_of counts_over
one-framed n m frame coefficients =
    row_listed (group n m) [] (λ c es. polar_over (group n m ∷ []) (terms c (monomials_over (group n m ∷ [])) coefficients) (entry_points_over (frames_of (group n m ∷ []) frame) es))
    (λ c e. row_polar 4 n m coefficients c (entry_points (vertex_of n frame) e))
    (λ c e es k l t counted. ap (λ i. row_polar 4 n m coefficients i (entry_points (vertex_of n frame) e)) (sym (zero-add c)))

-- a first group and others: the net over the groups after the first of each part of the first group's net
pub more-framed : (n m : ℕ) (gs : List Group) (frame coefficients : List ℤ)
    → listed_over (group n m ∷ gs) (λ c es. polar_over (group n m ∷ gs) (terms c (monomials_over (group n m ∷ gs)) coefficients) (entry_points_over (frames_of (group n m ∷ gs) frame) es))
    ≡ joined
    (λ k. listed_over gs (λ c es. polar_over gs (terms c (monomials_over gs) (part_at (number_count gs) (framed (number_count gs) n m frame coefficients) k)) (entry_points_over (frames_of gs (drop (suc n * suc n) frame)) es)))
    (upto (length (counts n m)))
unfolding frames_of framed listed
more-framed n m gs frame coefficients =
    first-listed (group n m) gs (λ c es. polar_over (group n m ∷ gs) (terms c (monomials_over (group n m ∷ gs)) coefficients) (entry_points_over (frames_of (group n m ∷ gs) frame) es))
    ∙ each (counts n m) (λ e q. q)
    ∙ joined-places n m (λ k. listed_over gs (λ c es. polar_over gs (terms c (monomials_over gs) (part_at w rows k)) (entry_points_over (frames_of gs (drop (suc n * suc n) frame)) es)))
  where
    w : ℕ
    w = number_count gs

    rows : List ℤ
    rows = framed w n m frame coefficients

    -- the part of an entry has the first group's polar values
    reads : (e : List ℕ) → Memᴰ e (counts n m) → (i : ℕ) → i < 4 * length (monomials_over gs)
        → get_or (part_at w rows (place_of e (counts n m))) i (pos 0) ≡ row_polar (4 * length (monomials_over gs)) n m coefficients i (entry_points (vertex_of n frame) e)
    reads e q i h =
        let r = placed e (counts n m) q in
        let below : i < w = subst (λ k. i < k) (coefficients-entries gs) h in
        part-at w rows (place_of e (counts n m)) i below
        ∙ rows_at w (λ k x. row_polar w n m coefficients k (entry_points (vertex_of n frame) x)) [] (counts n m) (place_of e (counts n m)) i r.0 below
        ∙ ap₂ (λ k x. row_polar k n m coefficients i (entry_points (vertex_of n frame) x)) (sym (coefficients-entries gs)) r.1

    each : (es : List (List ℕ)) → ((e : List ℕ) → Memᴰ e es → Memᴰ e (counts n m))
        → joined (λ e. listed_over gs (λ c fs. polar_over (group n m ∷ gs) (terms c (monomials_over (group n m ∷ gs)) coefficients) (entry_points_over (frames_of (group n m ∷ gs) frame) (e ∷ fs)))) es
        ≡ joined (λ e. listed_over gs (λ c fs. polar_over gs (terms c (monomials_over gs) (part_at w rows (place_of e (counts n m)))) (entry_points_over (frames_of gs (drop (suc n * suc n) frame)) fs))) es
    each [] inside = refl
    each (e ∷ es) inside =
        ap₂ ◌++◌
        (listed-over-cong gs _ _
        (λ c fs k counted.
        over-columns (group n m) gs (entry_points (vertex_of n frame) e) (entry_points_over (frames_of gs (drop (suc n * suc n) frame)) fs) c coefficients (part_at w rows (place_of e (counts n m)))
        (λ j b. reads e (inside e (Memᴰ.head refl)) (4 * j + c) (digits-below 4 j c (length (monomials_over gs)) b k))))
        (each es (λ x q. inside x (Memᴰ.tail q)))
