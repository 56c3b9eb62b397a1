-- What the entries of a flipped net fix: with vertex v flipped they fix what the entries before fix with v's weight negated, up to the sign of v's own copies.
-- By induction on the copies of q: one more copy is a sum over the vertices, in which the member of v alone has another sign. Over groups the same, group after group;
-- the weights of a group in which no q is taken do not matter.
use Prim.Native.Nat.{ℕ, zero, suc}
use native.Mathlib.Nat.{suc_inj, suc-ne-zero}
use native.Mathlib.Decide.{ℕ_discrete}
use mathlib.Core.Path.{◌≡◌, refl, sym, ap, ◌∙◌, fun_ext}
use mathlib.Core.Logic.{◌≢◌}
use mathlib.Core.List.{List, [], ◌∷◌, map}
use lib.IntN.{ℤ, pos, neg_ℤ, ◌*ℤ◌}
use lib.ListN.{length, get_or, set, drop}
use lib.Seq.{get_or-set_other}
use Rattle.integers.specs.Sum.{upto}
use Rattle.integers.proofs.Sums.{sum-cong}
use Rattle.integers.proofs.Laws.{*ℤ-negl, *ℤ-negr}
use Rattle.polar.specs.Groups.{Group, head, tail}
use Rattle.entries.specs.Entries.{raise, fixed, signed, fixed_over, none_of_q, as_q, flipped_over}
use Rattle.entries.specs.Rows.{flipped}
use Rattle.entries.proofs.Signs.{signed-suc, signed-neg, signed-kept, signed-sum}

-- ---- one group

-- some weights with number v of them negated
abbrev pub negated_at : ℕ → List ℤ → List ℤ
negated_at v ws = set ws v (neg_ℤ (get_or ws v (pos 0)))

pub negated-there : (v : ℕ) (ws : List ℤ) → get_or (negated_at v ws) v (pos 0) ≡ neg_ℤ (get_or ws v (pos 0))
negated-there v [] = refl
negated-there zero (x ∷ ws) = refl
negated-there (suc v) (x ∷ ws) = negated-there v ws

-- how often a vertex is taken with one more copy of a vertex: of itself, or of another one
raise-same : (v : ℕ) (e : List ℕ) → get_or (raise v e) v 0 ≡ suc (get_or e v 0)
raise-same zero [] = refl
raise-same zero (n ∷ e) = refl
raise-same (suc v) [] = raise-same v []
raise-same (suc v) (n ∷ e) = raise-same v e

raise-other : (u v : ℕ) (e : List ℕ) → u ≢ v → get_or (raise u e) v 0 ≡ get_or e v 0
raise-other zero zero e h = absurd (h refl)
raise-other zero (suc v) [] h = refl
raise-other zero (suc v) (n ∷ e) h = refl
raise-other (suc u) zero [] h = refl
raise-other (suc u) zero (n ∷ e) h = refl
raise-other (suc u) (suc v) [] h = raise-other u v [] (λ p. h (ap suc p))
raise-other (suc u) (suc v) (n ∷ e) h = raise-other u v e (λ p. h (ap suc p))

module _ (d v : ℕ) (ws : List ℤ) where
  -- one member of the sum, x being what is fixed with one more copy of u: of v it has the other sign, which its weight takes
  turned : (u : ℕ) → Dec (u ≡ v) → (e : List ℕ) (x : ℤ)
      → get_or ws u (pos 0) *ℤ signed (get_or (raise u e) v 0) x ≡ signed (get_or e v 0) (get_or (negated_at v ws) u (pos 0) *ℤ x)
  turned u (yes p) e x =
      let w = get_or ws v (pos 0) in
      let k = get_or e v 0 in
      ap (λ i. get_or ws i (pos 0) *ℤ signed (get_or (raise i e) v 0) x) p
      ∙ ap (λ j. w *ℤ signed j x) (raise-same v e)
      ∙ ap (λ z. w *ℤ z) (sym (signed-suc k x))
      ∙ *ℤ-negr w (signed k x)
      ∙ ap neg_ℤ (signed-kept (λ z. w *ℤ z) (*ℤ-negr w) k x)
      ∙ sym (signed-neg k (w *ℤ x))
      ∙ ap (signed k) (sym (*ℤ-negl w x))
      ∙ ap (λ z. signed k (z *ℤ x)) (sym (negated-there v ws))
      ∙ ap (λ i. signed k (get_or (negated_at v ws) i (pos 0) *ℤ x)) (sym p)
  turned u (no p) e x =
      ap (λ j. get_or ws u (pos 0) *ℤ signed j x) (raise-other u v e p)
      ∙ signed-kept (λ z. get_or ws u (pos 0) *ℤ z) (*ℤ-negr (get_or ws u (pos 0))) (get_or e v 0) x
      ∙ ap (λ w. signed (get_or e v 0) (w *ℤ x)) (sym (get_or-set_other ws v u (neg_ℤ (get_or ws v (pos 0))) (pos 0) p))

  pub fixed-flipped : (f : List ℕ → ℤ) (h : ℕ) (e : List ℕ) → fixed d ws (flipped v f) h e ≡ signed (get_or e v 0) (fixed d (negated_at v ws) f h e)
  unfolding fixed
  fixed-flipped f zero e = refl
  fixed-flipped f (suc h) e =
      let x : ℕ → ℤ = λ u. fixed d (negated_at v ws) f h (raise u e) in
      sum-cong (λ u. ap (λ z. get_or ws u (pos 0) *ℤ z) (fixed-flipped f h (raise u e)) ∙ turned u (ℕ_discrete u v) e (x u)) (upto d)
      ∙ signed-sum (get_or e v 0) (λ u. get_or (negated_at v ws) u (pos 0) *ℤ x u) (upto d)

-- a sign comes out of what entries fix
fixed-signed : (d : ℕ) (ws : List ℤ) (k : ℕ) (f : List ℕ → ℤ) (h : ℕ) (e : List ℕ) → fixed d ws (λ r. signed k (f r)) h e ≡ signed k (fixed d ws f h e)
unfolding fixed
fixed-signed d ws k f zero e = refl
fixed-signed d ws k f (suc h) e =
    let x : ℕ → ℤ = λ u. fixed d ws f h (raise u e) in
    sum-cong (λ u. ap (λ z. get_or ws u (pos 0) *ℤ z) (fixed-signed d ws k f h (raise u e)) ∙ signed-kept (λ z. get_or ws u (pos 0) *ℤ z) (*ℤ-negr (get_or ws u (pos 0))) k (x u)) (upto d)
    ∙ signed-sum k (λ u. get_or ws u (pos 0) *ℤ x u) (upto d)

-- ---- over groups

-- the weights of each group, with number v of group j's negated
abbrev pub negated_over : ℕ → ℕ → List (List ℤ) → List (List ℤ)
negated_over zero v weights = negated_at v (head weights) ∷ tail weights
negated_over (suc j) v weights = head weights ∷ negated_over j v (tail weights)

-- how often vertex v of group j is taken, q's own copies standing before those of the vertices
abbrev pub copies_at : ℕ → ℕ → List (List ℕ) → ℕ
copies_at j v es = get_or (drop 1 (get_or es j [])) v 0

fixed-over-signed : (gs : List Group) (weights : List (List ℤ)) (k : ℕ) (f : List (List ℕ) → ℤ) (es : List (List ℕ)) → fixed_over gs weights (λ r. signed k (f r)) es ≡ signed k (fixed_over gs weights f es)
unfolding fixed_over
fixed-over-signed [] weights k f es = refl
fixed-over-signed (g ∷ gs) weights k f es =
    ap (λ F. fixed_over gs (tail weights) F (tail es)) (fun_ext (λ rest. fixed-signed (suc g.dimension) (head weights) k (λ r. f (r ∷ rest)) (get_or (head es) 0 0) (drop 1 (head es))))
    ∙ fixed-over-signed gs (tail weights) k (λ rest. fixed (suc g.dimension) (head weights) (λ r. f (r ∷ rest)) (get_or (head es) 0 0) (drop 1 (head es))) (tail es)

pub fixed-flipped-over : (gs : List Group) (weights : List (List ℤ)) (j v : ℕ) (f : List (List ℕ) → ℤ) (es : List (List ℕ)) → length es ≡ length gs
    → fixed_over gs weights (flipped_over j v f) es ≡ signed (copies_at j v es) (fixed_over gs (negated_over j v weights) f es)
unfolding fixed_over
fixed-flipped-over [] weights j v f [] l = refl
fixed-flipped-over [] weights j v f (e ∷ es) l = absurd (suc-ne-zero _ l)
fixed-flipped-over (g ∷ gs) weights j v f [] l = absurd (suc-ne-zero _ (sym l))
fixed-flipped-over (g ∷ gs) weights zero v f (e ∷ es) l =
    let d = suc g.dimension in
    let k = get_or (drop 1 e) v 0 in
    ap (λ F. fixed_over gs (tail weights) F es) (fun_ext (λ rest. fixed-flipped d v (head weights) (λ r. f (r ∷ rest)) (get_or e 0 0) (drop 1 e)))
    ∙ fixed-over-signed gs (tail weights) k (λ rest. fixed d (negated_at v (head weights)) (λ r. f (r ∷ rest)) (get_or e 0 0) (drop 1 e)) es
fixed-flipped-over (g ∷ gs) weights (suc j) v f (e ∷ es) l =
    let d = suc g.dimension in
    ap (λ F. fixed_over gs (tail weights) F es) (fun_ext (λ rest. fixed-signed d (head weights) (get_or (get_or rest j []) v 0) (λ r. f (r ∷ rest)) (get_or e 0 0) (drop 1 e)))
    ∙ fixed-flipped-over gs (tail weights) j v (λ rest. fixed d (head weights) (λ r. f (r ∷ rest)) (get_or e 0 0) (drop 1 e)) es (suc_inj l)

-- ---- weights that do not matter

-- no q is taken in any group, or in group i alone
abbrev pub NoneOfQ : List Group → List (List ℕ) → Type 0
NoneOfQ [] es = Unit {0}
NoneOfQ (g ∷ gs) es = (get_or (head es) 0 0 ≡ 0) × NoneOfQ gs (tail es)

abbrev pub QOfOne : List Group → ℕ → List (List ℕ) → Type 0
QOfOne [] i es = Unit {0}
QOfOne (g ∷ gs) zero es = NoneOfQ gs (tail es)
QOfOne (g ∷ gs) (suc i) es = (get_or (head es) 0 0 ≡ 0) × QOfOne gs i (tail es)

-- the same weights in group i
abbrev pub SameIn : List Group → ℕ → List (List ℤ) → List (List ℤ) → Type 0
SameIn [] i weights others = Unit {0}
SameIn (g ∷ gs) zero weights others = head weights ≡ head others
SameIn (g ∷ gs) (suc i) weights others = SameIn gs i (tail weights) (tail others)

-- a group's weights do not matter where no q is taken in it
fixed-none : (gs : List Group) (weights others : List (List ℤ)) (f : List (List ℕ) → ℤ) (es : List (List ℕ)) → NoneOfQ gs es → fixed_over gs weights f es ≡ fixed_over gs others f es
unfolding fixed_over fixed
fixed-none [] weights others f es none = refl
fixed-none (g ∷ gs) weights others f es none =
    fixed-none gs (tail weights) (tail others) (λ rest. fixed (suc g.dimension) (head weights) (λ r. f (r ∷ rest)) (get_or (head es) 0 0) (drop 1 (head es))) (tail es) none.1
    ∙ ap (λ h. fixed_over gs (tail others) (λ rest. fixed (suc g.dimension) (head weights) (λ r. f (r ∷ rest)) h (drop 1 (head es))) (tail es)) none.0
    ∙ ap (λ h. fixed_over gs (tail others) (λ rest. fixed (suc g.dimension) (head others) (λ r. f (r ∷ rest)) h (drop 1 (head es))) (tail es)) (sym none.0)

pub fixed-same-in : (gs : List Group) (i : ℕ) (weights others : List (List ℤ)) → SameIn gs i weights others → (f : List (List ℕ) → ℤ) (es : List (List ℕ)) → QOfOne gs i es
    → fixed_over gs weights f es ≡ fixed_over gs others f es
unfolding fixed_over fixed
fixed-same-in [] i weights others same f es one = refl
fixed-same-in (g ∷ gs) zero weights others same f es one =
    let F : List ℤ → List (List ℕ) → ℤ = λ ws rest. fixed (suc g.dimension) ws (λ r. f (r ∷ rest)) (get_or (head es) 0 0) (drop 1 (head es)) in
    fixed-none gs (tail weights) (tail others) (F (head weights)) (tail es) one ∙ ap (λ ws. fixed_over gs (tail others) (F ws) (tail es)) same
fixed-same-in (g ∷ gs) (suc i) weights others same f es one =
    let F : List ℤ → ℕ → List (List ℕ) → ℤ = λ ws h rest. fixed (suc g.dimension) ws (λ r. f (r ∷ rest)) h (drop 1 (head es)) in
    fixed-same-in gs i (tail weights) (tail others) same (F (head weights) (get_or (head es) 0 0)) (tail es) one.1
    ∙ ap (λ h. fixed_over gs (tail others) (F (head weights) h) (tail es)) one.0
    ∙ ap (λ h. fixed_over gs (tail others) (F (head others) h) (tail es)) (sym one.0)

-- the weights of a call are the same ones in every group; with those of group j negated they are in group i what the others are everywhere
pub turned_same : (gs : List Group) (i j v : ℕ) (ws others : List ℤ) → (i ≡ j → negated_at v ws ≡ others) → (i ≢ j → ws ≡ others)
    → SameIn gs i (negated_over j v (map (λ g. ws) gs)) (map (λ g. others) gs)
turned_same [] i j v ws others here apart = tt
turned_same (g ∷ gs) zero zero v ws others here apart = here refl
turned_same (g ∷ gs) zero (suc j) v ws others here apart = apart (λ p. suc-ne-zero j (sym p))
turned_same (g ∷ gs) (suc i) zero v ws others here apart = plain gs i (apart (suc-ne-zero i))
  where
    plain : (gs : List Group) (i : ℕ) → ws ≡ others → SameIn gs i (map (λ g. ws) gs) (map (λ g. others) gs)
    plain [] i same = tt
    plain (g ∷ gs) zero same = same
    plain (g ∷ gs) (suc i) same = plain gs i same
turned_same (g ∷ gs) (suc i) (suc j) v ws others here apart = turned_same gs i j v ws others (λ p. here (ap suc p)) (λ n. apart (λ p. n (suc_inj p)))

-- ---- the counts of an entry after a replace: the copies of a vertex are q's

pub none-of-q : (gs : List Group) (es : List (List ℕ)) → NoneOfQ gs (none_of_q es)
none-of-q [] es = tt
none-of-q (g ∷ gs) [] = (refl, none-of-q gs [])
none-of-q (g ∷ gs) (e ∷ es) = (refl, none-of-q gs es)

pub q-of-one : (gs : List Group) (i v : ℕ) (es : List (List ℕ)) → QOfOne gs i (as_q i v es)
q-of-one [] i v es = tt
q-of-one (g ∷ gs) zero v [] = none-of-q gs []
q-of-one (g ∷ gs) zero v (e ∷ es) = none-of-q gs es
q-of-one (g ∷ gs) (suc i) v [] = (refl, q-of-one gs i v [])
q-of-one (g ∷ gs) (suc i) v (e ∷ es) = (refl, q-of-one gs i v es)

-- another vertex keeps its copies, and the vertex itself has none left
copies-none : (j v : ℕ) (es : List (List ℕ)) → copies_at j v (none_of_q es) ≡ get_or (get_or es j []) v 0
copies-none j v [] = refl
copies-none zero v (e ∷ es) = refl
copies-none (suc j) v (e ∷ es) = copies-none j v es

pub copies-other : (i u j v : ℕ) (es : List (List ℕ)) → (i ≡ j → u ≢ v) → copies_at j v (as_q i u es) ≡ get_or (get_or es j []) v 0
copies-other i u j v [] n = refl
copies-other zero u zero v (e ∷ es) n = get_or-set_other e u v 0 0 (λ p. n refl (sym p))
copies-other zero u (suc j) v (e ∷ es) n = copies-none j v es
copies-other (suc i) u zero v (e ∷ es) n = refl
copies-other (suc i) u (suc j) v (e ∷ es) n = copies-other i u j v es (λ p. n (ap suc p))

pub copies-same : (j v : ℕ) (es : List (List ℕ)) → copies_at j v (as_q j v es) ≡ 0
copies-same j v [] = refl
copies-same zero v (e ∷ es) = none_left v e
  where
    none_left : (v : ℕ) (e : List ℕ) → get_or (set e v 0) v 0 ≡ 0
    none_left v [] = refl
    none_left zero (n ∷ e) = refl
    none_left (suc v) (n ∷ e) = none_left v e
copies-same (suc j) v (e ∷ es) = copies-same j v es
