-- The laws of one group carried to groups: with the points of the other groups held, a form over groups is a form in the points of one group,
-- so each law below is an induction on the groups with the one group's law as its step.
use Prim.Native.Nat.{ℕ, zero, suc, ◌+◌, ◌/◌, ◌<◌}
use native.Mathlib.Nat.{le_of_suc-le-suc, not-suc-le-zero, zero-add, add-zero, suc_inj, suc-ne-zero}
use native.Mathlib.Omega.{arith}
use mathlib.Core.Path.{◌≡◌, refl, sym, ap, ap₂, ◌∙◌, fun_ext, subst}
use mathlib.Core.List.{List, [], ◌∷◌, ◌++◌, map, append-nil}
use lib.IntN.{ℤ, pos, neg_ℤ, ◌*ℤ◌}
use lib.ListN.{length, get_or, set, replicate, length-set}
use Rattle.integers.specs.Sum.{sum}
use Rattle.integers.proofs.Laws.{*ℤ-assoc}
use Rattle.integers.proofs.Sums.{sum-cong}
use Rattle.integers.proofs.Ring.{ring, ring-rules}
use Rattle.polar.specs.Sigma.{Point, Exponents, σ}
use Rattle.polar.specs.Order.{total}
use Rattle.polar.specs.Groups.{Group, head, tail}
use Rattle.polar.specs.Scale.{scale_over, multinomial_over}
use Rattle.polar.specs.Polar.{Term, σOver, polar_over}
use Rattle.polar.proofs.Value.{copies}
use Rattle.entries.specs.Frame.{entry_points, combination, vertex_at, entry_points_over, points_over, frames_with_q, put_over}
use Rattle.entries.specs.Entries.{fixed, signed, fixed_over, none_of_q, as_q, only_q}
use Rattle.entries.specs.Form.{Form}
use Rattle.entries.proofs.Form.{fixes, put, putting, flipping}
use Rattle.entries.proofs.Polar.{σ-form}

-- ---- shapes

-- the counts of an entry: each group's are as many as its vertices and together its degree
abbrev pub Counted : List Group → List (List ℕ) → Type 0
Counted [] [] = Unit {0}
Counted [] (e ∷ es) = ⊥
Counted (g ∷ gs) [] = ⊥
Counted (g ∷ gs) (e ∷ es) = (length e ≡ suc g.dimension) × (total e ≡ g.degree) × Counted gs es

-- the group with q before its vertices
abbrev pub with_q : Group → Group
with_q g = record { dimension = suc g.dimension; degree = g.degree }

-- the counts of a polar value that a size rule names: q's first in each group
abbrev pub Named : List Group → List (List ℕ) → Type 0
Named gs es = Counted (map with_q gs) es

-- each of some points has d numbers
abbrev pub Wide : ℕ → List Point → Type 0
Wide d [] = Unit {0}
Wide d (p ∷ ps) = (length p ≡ d) × Wide d ps

-- a frame for each group, with all its vertices, each with all its numbers
abbrev pub Framed : List Group → List (List Point) → Type 0
Framed [] [] = Unit {0}
Framed [] (frame ∷ frames) = ⊥
Framed (g ∷ gs) [] = ⊥
Framed (g ∷ gs) (frame ∷ frames) = (length frame ≡ suc g.dimension) × Wide (suc g.dimension) frame × Framed gs frames

-- ---- forms over groups

-- a form in the points of each group, whatever the points of the others
abbrev pub Forms : List Group → (List (List Point) → ℤ) → Type 0
Forms [] G = Unit {0}
Forms (g ∷ gs) G = ((pss : List (List Point)) → Form (suc g.dimension) (λ ps. G (ps ∷ pss))) × ((ps : List Point) → Forms gs (λ pss. G (ps ∷ pss)))

-- σ over groups with a factor, summed over terms
σ-forms : {A : Type 0} (gs : List Group) (k : A → ℤ) (e : A → List Exponents) (ts : List A) → Forms gs (λ pss. sum (λ t. k t *ℤ σOver gs pss (e t)) ts)
σ-forms [] k e ts = tt
σ-forms (g ∷ gs) k e ts = (
  λ pss.
      subst (Form (suc g.dimension))
      (fun_ext (λ ps. sum-cong (λ t. aside (k t) (σOver gs pss (tail (e t))) (σ (suc g.dimension) ps (head (e t)))) ts))
      (σ-form (suc g.dimension) (λ t. k t *ℤ σOver gs pss (tail (e t))) (λ t. head (e t)) ts),
  λ ps.
      subst (Forms gs)
      (fun_ext (λ pss. sum-cong (λ t. *ℤ-assoc (k t) (σ (suc g.dimension) ps (head (e t))) (σOver gs pss (tail (e t)))) ts))
      (σ-forms gs (λ t. k t *ℤ σ (suc g.dimension) ps (head (e t))) (λ t. tail (e t)) ts),
)
  where
    aside : (a b c : ℤ) → a *ℤ b *ℤ c ≡ a *ℤ (c *ℤ b)
    aside a b c = ring (a ∷ b ∷ c ∷ []) (search ring-rules depth 60) tt

-- the scaled polar value is a form in each group's points
pub polar-forms : (gs : List Group) (ts : List Term) → Forms gs (polar_over gs ts)
unfolding polar_over
polar-forms gs ts = σ-forms gs (λ t. t.coefficient *ℤ pos (scale_over gs / multinomial_over gs t.exponents)) (λ t. t.exponents) ts

-- ---- what entries fix

-- What the entries of a net fix is what the form gives, q standing before the vertices.
pub fixes-over : (gs : List Group) (G : List (List Point) → ℤ) → Forms gs G → (frames : List (List Point)) → Framed gs frames → (weights : List (List ℤ)) (f : List (List ℕ) → ℤ)
    → ((es : List (List ℕ)) → Counted gs es → f es ≡ G (entry_points_over frames es))
    → (es : List (List ℕ)) → Named gs es
    → fixed_over gs weights f es ≡ G (entry_points_over (frames_with_q (points_over gs weights frames) frames) es)
unfolding fixed_over
fixes-over [] G F [] long weights f agrees [] named = agrees [] tt
fixes-over [] G F [] long weights f agrees (e ∷ es) named = absurd named
fixes-over [] G F (frame ∷ frames) long weights f agrees es named = absurd long
fixes-over (g ∷ gs) G F [] long weights f agrees es named = absurd long
fixes-over (g ∷ gs) G F (frame ∷ frames) long weights f agrees [] named = absurd named
fixes-over (g ∷ gs) G F (frame ∷ frames) long weights f agrees ([] ∷ es) named = absurd (suc-ne-zero _ (sym named.0))
fixes-over (g ∷ gs) G F (frame ∷ frames) long weights f agrees ((h ∷ e) ∷ es) named =
    let q = combination (suc g.dimension) (head weights) (vertex_at frame) in
    fixes-over gs (λ pss. G ((replicate h q ++ entry_points (vertex_at frame) e) ∷ pss)) (F.1 (replicate h q ++ entry_points (vertex_at frame) e)) frames long.2 (tail weights)
    (λ rest. fixed (suc g.dimension) (head weights) (λ r. f (r ∷ rest)) h e)
    (λ rest p.
    fixes (F.0 (entry_points_over frames rest)) (vertex_at frame) (head weights) (λ r. f (r ∷ rest)) (λ r l t. agrees (r ∷ rest) (l, t, p)) h e (suc_inj named.0) named.1)
    es named.2

-- ---- a vertex replaced or flipped

-- a frame as a list and as a function
pub vertex-set : (frame : List Point) (v : ℕ) (q : Point) → v < length frame → (u : ℕ) → vertex_at (set frame v q) u ≡ put v q (vertex_at frame) u
vertex-set [] v q h u = absurd (not-suc-le-zero h)
vertex-set (p ∷ frame) zero q h zero = refl
vertex-set (p ∷ frame) zero q h (suc u) = refl
vertex-set (p ∷ frame) (suc v) q h zero = refl
vertex-set (p ∷ frame) (suc v) q h (suc u) = vertex-set frame v q (le_of_suc-le-suc h) u

-- as many members as groups
pub counted-long : (gs : List Group) (es : List (List ℕ)) → Counted gs es → length es ≡ length gs
counted-long [] [] p = refl
counted-long [] (e ∷ es) p = absurd p
counted-long (g ∷ gs) [] p = absurd p
counted-long (g ∷ gs) (e ∷ es) p = ap suc (counted-long gs es p.2)

pub points-long : (gs : List Group) (weights : List (List ℤ)) (frames : List (List Point)) → length (points_over gs weights frames) ≡ length gs
points-long [] weights frames = refl
points-long (g ∷ gs) weights frames = ap suc (points-long gs (tail weights) (tail frames))

-- where no q is taken it does not matter
none-taken : (gs : List Group) (qs : List Point) (frames : List (List Point)) (es : List (List ℕ)) → length qs ≡ length gs → Framed gs frames → Counted gs es
    → entry_points_over (frames_with_q qs frames) (none_of_q es) ≡ entry_points_over frames es
none-taken [] [] [] es l long counted = refl
none-taken [] (q ∷ qs) frames es l long counted = absurd (suc-ne-zero _ l)
none-taken [] [] (frame ∷ frames) es l long counted = absurd long
none-taken (g ∷ gs) [] frames es l long counted = absurd (suc-ne-zero _ (sym l))
none-taken (g ∷ gs) (q ∷ qs) [] es l long counted = absurd long
none-taken (g ∷ gs) (q ∷ qs) (frame ∷ frames) [] l long counted = absurd counted
none-taken (g ∷ gs) (q ∷ qs) (frame ∷ frames) (e ∷ es) l long counted =
    ap (λ r. entry_points (vertex_at frame) e ∷ r) (none-taken gs qs frames es (suc_inj l) long.2 counted.2)

-- over the frames with q in the place of vertex v of group i the copies of that vertex are copies of q
pub putting-over : (gs : List Group) (G : List (List Point) → ℤ) → Forms gs G → (frames : List (List Point)) → Framed gs frames → (qs : List Point) → length qs ≡ length gs
    → (i v : ℕ) → v < length (get_or frames i []) → (es : List (List ℕ)) → Counted gs es
    → G (entry_points_over (put_over i v (get_or qs i []) frames) es) ≡ G (entry_points_over (frames_with_q qs frames) (as_q i v es))
putting-over [] G F [] long qs l i v h es counted = absurd (not-suc-le-zero h)
putting-over [] G F (frame ∷ frames) long qs l i v h es counted = absurd long
putting-over (g ∷ gs) G F [] long qs l i v h es counted = absurd long
putting-over (g ∷ gs) G F (frame ∷ frames) long [] l i v h es counted = absurd (suc-ne-zero _ (sym l))
putting-over (g ∷ gs) G F (frame ∷ frames) long (q ∷ qs) l i v h [] counted = absurd counted
putting-over (g ∷ gs) G F (frame ∷ frames) long (q ∷ qs) l zero v h (e ∷ es) counted =
    ap (λ fr. G (entry_points fr e ∷ entry_points_over frames es)) (fun_ext (vertex-set frame v q h))
    ∙ putting (F.0 (entry_points_over frames es)) (vertex_at frame) q v e
    ∙ ap (λ pss. G ((replicate (get_or e v 0) q ++ entry_points (vertex_at frame) (set e v 0)) ∷ pss)) (sym (none-taken gs qs frames es (suc_inj l) long.2 counted.2))
putting-over (g ∷ gs) G F (frame ∷ frames) long (q ∷ qs) l (suc i) v h (e ∷ es) counted =
    putting-over gs (λ pss. G (entry_points (vertex_at frame) e ∷ pss)) (F.1 (entry_points (vertex_at frame) e)) frames long.2 qs (suc_inj l) i v h es counted.2

-- over the frames with −v in the place of v the sign changes where v is taken an odd number of times
pub flipping-over : (gs : List Group) (G : List (List Point) → ℤ) → Forms gs G → (frames : List (List Point)) → Framed gs frames
    → (i v : ℕ) → v < length (get_or frames i []) → (es : List (List ℕ)) → Counted gs es
    → G (entry_points_over (put_over i v (map neg_ℤ (vertex_at (get_or frames i []) v)) frames) es)
    ≡ signed (get_or (get_or es i []) v 0) (G (entry_points_over frames es))
flipping-over [] G F [] long i v h es counted = absurd (not-suc-le-zero h)
flipping-over [] G F (frame ∷ frames) long i v h es counted = absurd long
flipping-over (g ∷ gs) G F [] long i v h es counted = absurd long
flipping-over (g ∷ gs) G F (frame ∷ frames) long i v h [] counted = absurd counted
flipping-over (g ∷ gs) G F (frame ∷ frames) long zero v h (e ∷ es) counted =
    ap (λ fr. G (entry_points fr e ∷ entry_points_over frames es)) (fun_ext (vertex-set frame v (map neg_ℤ (vertex_at frame v)) h))
    ∙ flipping (F.0 (entry_points_over frames es)) (vertex_at frame) v e
flipping-over (g ∷ gs) G F (frame ∷ frames) long (suc i) v h (e ∷ es) counted =
    flipping-over gs (λ pss. G (entry_points (vertex_at frame) e ∷ pss)) (F.1 (entry_points (vertex_at frame) e)) frames long.2 i v h es counted.2

-- ---- the counts that calls name

pub total-set : (e : List ℕ) (v : ℕ) → get_or e v 0 + total (set e v 0) ≡ total e
total-set [] v = refl
total-set (n ∷ e) zero = omega arith
total-set (n ∷ e) (suc v) = let r : get_or e v 0 + total (set e v 0) ≡ total e = total-set e v in omega arith

pub total-zeros : (k : ℕ) → total (replicate k 0) ≡ 0
total-zeros zero = refl
total-zeros (suc k) = zero-add (total (replicate k 0)) ∙ total-zeros k

pub length-zeros : (k : ℕ) → length {A = ℕ} (replicate k 0) ≡ k
length-zeros zero = refl
length-zeros (suc k) = ap suc (length-zeros k)

taken-zeros : (fr : ℕ → Point) (k : ℕ) → entry_points fr (replicate k 0) ≡ []
taken-zeros fr zero = refl
taken-zeros fr (suc k) = taken-zeros (λ v. fr (suc v)) k

pub named_none : (gs : List Group) (es : List (List ℕ)) → Counted gs es → Named gs (none_of_q es)
named_none [] [] counted = tt
named_none [] (e ∷ es) counted = absurd counted
named_none (g ∷ gs) [] counted = absurd counted
named_none (g ∷ gs) (e ∷ es) counted = (ap suc counted.0, zero-add (total e) ∙ counted.1, named_none gs es counted.2)

pub named-as : (gs : List Group) (i v : ℕ) (es : List (List ℕ)) → Counted gs es → Named gs (as_q i v es)
named-as [] i v [] counted = tt
named-as [] i v (e ∷ es) counted = absurd counted
named-as (g ∷ gs) i v [] counted = absurd counted
named-as (g ∷ gs) zero v (e ∷ es) counted = (ap suc (length-set e v 0 ∙ counted.0), total-set e v ∙ counted.1, named_none gs es counted.2)
named-as (g ∷ gs) (suc i) v (e ∷ es) counted = (ap suc counted.0, zero-add (total e) ∙ counted.1, named-as gs i v es counted.2)

pub named-only : (gs : List Group) → Named gs (only_q gs)
named-only [] = tt
named-only (g ∷ gs) = (
  ap suc (length-zeros (suc g.dimension)),
  ap (λ k. g.degree + k) (total-zeros (suc g.dimension)) ∙ add-zero g.degree,
  named-only gs,
)

-- where every point is q the points are the copies of q
pub only-taken : (gs : List Group) (qs : List Point) (frames : List (List Point)) → length qs ≡ length gs → entry_points_over (frames_with_q qs frames) (only_q gs) ≡ copies gs qs
only-taken [] [] frames l = refl
only-taken [] (q ∷ qs) frames l = absurd (suc-ne-zero _ l)
only-taken (g ∷ gs) [] frames l = absurd (suc-ne-zero _ (sym l))
only-taken (g ∷ gs) (q ∷ qs) frames l =
    ap₂ (λ ps pss. ps ∷ pss)
    (ap (λ ps. replicate g.degree q ++ ps) (taken-zeros (vertex_at (head frames)) (suc g.dimension)) ∙ append-nil (replicate g.degree q))
    (only-taken gs qs (tail frames) (suc_inj l))
