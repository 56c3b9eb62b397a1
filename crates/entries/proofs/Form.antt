-- Symmetric multilinear forms: what a net's entries fix is what the form gives.
-- Fixing the first points of a form gives a form again, so each law below is an induction on the counts, with no permutation in sight.
use Prim.Native.Nat.{ℕ, zero, suc, ◌+◌, ◌<◌}
use native.Mathlib.Nat.{suc-add, add-suc, zero-add, not-suc-le-zero, le_of_suc-le-suc}
use mathlib.Core.Path.{◌≡◌, refl, sym, ap, ◌∙◌, fun_ext}
use mathlib.Core.List.{List, [], ◌∷◌, ◌++◌, map, append_assoc}
use lib.IntN.{ℤ, pos, neg_ℤ, ◌*ℤ◌}
use lib.ListN.{length, get_or, set, replicate}
use Rattle.integers.specs.Sum.{sum, upto}
use Rattle.integers.proofs.Sums.{sum-cong, sum-upto-cong}
use Rattle.polar.specs.Sigma.{Point}
use Rattle.polar.specs.Order.{total}
use Rattle.entries.specs.Frame.{entry_points, combination}
use Rattle.entries.specs.Form.{Form}
use Rattle.entries.specs.Entries.{raise, fixed, signed}
use Rattle.entries.proofs.Signs.{signed-suc}

-- the form with the points R fixed
pub fixing : {d : ℕ} {G : List Point → ℤ} → Form d G → (R : List Point) → Form d (λ ps. G (R ++ ps))
fixing {d} {G} F R =
    record {
      front =
          λ xs p ys.
          ap G (sym (append_assoc R xs (p ∷ ys))) ∙ F.front (R ++ xs) p ys ∙ ap (λ l. G (p ∷ l)) (append_assoc R xs ys) ∙ sym (F.front R p (xs ++ ys));
      linear =
          λ ws fr ps.
          F.front R (combination d ws fr) ps ∙ F.linear ws fr (R ++ ps)
          ∙ sum-cong (λ v. ap (λ z. get_or ws v (pos 0) *ℤ z) (sym (F.front R (fr v) ps))) (upto d);
      negated = λ p ps. F.front R (map neg_ℤ p) ps ∙ F.negated p (R ++ ps) ∙ ap neg_ℤ (sym (F.front R p ps));
    }

-- copies of one point may be moved to the front
pub block : {d : ℕ} {G : List Point → ℤ} → Form d G → (R : List Point) (k : ℕ) (p : Point) (ys : List Point) → G (R ++ (replicate k p ++ ys)) ≡ G (replicate k p ++ (R ++ ys))
block F R zero p ys = refl
block F R (suc k) p ys = F.front R p (replicate k p ++ ys) ∙ block (fixing F (p ∷ [])) R k p ys

-- one more copy of a vertex is that vertex in front
pub raised : {d : ℕ} {G : List Point → ℤ} → Form d G → (fr : ℕ → Point) (v : ℕ) (e : List ℕ) → G (entry_points fr (raise v e)) ≡ G (fr v ∷ entry_points fr e)
raised F fr zero [] = refl
raised F fr zero (n ∷ e) = refl
raised F fr (suc v) [] = raised F (λ u. fr (suc u)) v []
raised F fr (suc v) (n ∷ e) =
    raised (fixing F (replicate n (fr 0))) (λ u. fr (suc u)) v e
    ∙ F.front (replicate n (fr 0)) (fr (suc v)) (entry_points (λ u. fr (suc u)) e)

pub total-raise : (v : ℕ) (e : List ℕ) → total (raise v e) ≡ suc (total e)
total-raise zero [] = refl
total-raise zero (n ∷ e) = suc-add n (total e)
total-raise (suc v) [] = zero-add _ ∙ total-raise v []
total-raise (suc v) (n ∷ e) = ap (λ k. n + k) (total-raise v e) ∙ add-suc n (total e)

pub length-raise : (v : ℕ) (e : List ℕ) → v < length e → length (raise v e) ≡ length e
length-raise zero [] h = absurd (not-suc-le-zero h)
length-raise zero (n ∷ e) h = refl
length-raise (suc v) [] h = absurd (not-suc-le-zero h)
length-raise (suc v) (n ∷ e) h = ap suc (length-raise v e (le_of_suc-le-suc h))

-- one blend: if the values with h copies of q are the form's, so are those with one more
pub blend : {d : ℕ} {G : List Point → ℤ} → Form d G → (fr : ℕ → Point) (ws : List ℤ) (f : List ℕ → ℤ) (Q : List Point) (e : List ℕ)
    → ((v : ℕ) → v < d → f (raise v e) ≡ G (Q ++ entry_points fr (raise v e)))
    → sum (λ v. get_or ws v (pos 0) *ℤ f (raise v e)) (upto d) ≡ G (combination d ws fr ∷ (Q ++ entry_points fr e))
blend {d} F fr ws f Q e agrees =
    sum-upto-cong d (λ v p. ap (λ z. get_or ws v (pos 0) *ℤ z) (agrees v p ∙ raised (fixing F Q) fr v e ∙ F.front Q (fr v) (entry_points fr e)))
    ∙ sym (F.linear ws fr (Q ++ entry_points fr e))

-- What the entries of a net fix is what the form gives: f agrees with the form on the entries of degree m.
pub fixes : {d m : ℕ} {G : List Point → ℤ} → Form d G → (fr : ℕ → Point) (ws : List ℤ) (f : List ℕ → ℤ)
    → ((e : List ℕ) → length e ≡ d → total e ≡ m → f e ≡ G (entry_points fr e))
    → (h : ℕ) (e : List ℕ) → length e ≡ d → h + total e ≡ m
    → fixed d ws f h e ≡ G (replicate h (combination d ws fr) ++ entry_points fr e)
unfolding fixed
fixes F fr ws f agrees zero e l t = agrees e l (sym (zero-add (total e)) ∙ t)
fixes {d} F fr ws f agrees (suc h) e l t =
    blend F fr ws (fixed d ws f h) (replicate h (combination d ws fr)) e
    (λ v p.
    fixes F fr ws f agrees h (raise v e) (length-raise v e (rw l p) ∙ l)
    (ap (λ k. h + k) (total-raise v e) ∙ add-suc h (total e) ∙ sym (suc-add h (total e)) ∙ t))

-- the frame with q in the place of vertex v
abbrev pub put : ℕ → Point → (ℕ → Point) → ℕ → Point
put zero q fr zero = q
put zero q fr (suc u) = fr (suc u)
put (suc v) q fr zero = fr 0
put (suc v) q fr (suc u) = put v q (λ w. fr (suc w)) u

-- over the frame with q in the place of v, the copies of v are copies of q
pub putting : {d : ℕ} {G : List Point → ℤ} → Form d G → (fr : ℕ → Point) (q : Point) (v : ℕ) (e : List ℕ)
    → G (entry_points (put v q fr) e) ≡ G (replicate (get_or e v 0) q ++ entry_points fr (set e v 0))
putting F fr q zero [] = refl
putting F fr q zero (n ∷ e) = refl
putting F fr q (suc v) [] = refl
putting F fr q (suc v) (n ∷ e) =
    putting (fixing F (replicate n (fr 0))) (λ u. fr (suc u)) q v e
    ∙ block F (replicate n (fr 0)) (get_or e v 0) q (entry_points (λ u. fr (suc u)) (set e v 0))

put_same : (v : ℕ) (fr : ℕ → Point) (u : ℕ) → put v (fr v) fr u ≡ fr u
put_same zero fr zero = refl
put_same zero fr (suc u) = refl
put_same (suc v) fr zero = refl
put_same (suc v) fr (suc u) = put_same v (λ w. fr (suc w)) u

negations : {d : ℕ} {G : List Point → ℤ} → Form d G → (p : Point) (k : ℕ) (ps : List Point)
    → G (replicate k (map neg_ℤ p) ++ ps) ≡ signed k (G (replicate k p ++ ps))
negations F p zero ps = refl
negations {d} {G} F p (suc k) ps =
    F.negated p (replicate k (map neg_ℤ p) ++ ps)
    ∙ ap neg_ℤ (negations (fixing F (p ∷ [])) p k ps)
    ∙ signed-suc k (G (p ∷ (replicate k p ++ ps)))

-- over the frame with −v in the place of v the sign changes where v is taken an odd number of times
pub flipping : {d : ℕ} {G : List Point → ℤ} → Form d G → (fr : ℕ → Point) (v : ℕ) (e : List ℕ)
    → G (entry_points (put v (map neg_ℤ (fr v)) fr) e) ≡ signed (get_or e v 0) (G (entry_points fr e))
flipping {d} {G} F fr v e =
    putting F fr (map neg_ℤ (fr v)) v e
    ∙ negations F (fr v) (get_or e v 0) (entry_points fr (set e v 0))
    ∙ ap (signed (get_or e v 0)) (sym (putting F fr (fr v) v e) ∙ ap (λ g. G (entry_points g e)) (fun_ext (put_same v fr)))
