-- The names of the size rule are exactly what the papers say: the lists of Sizes.antt are made group by
-- group, and so the counts are taken apart and put together group by group. `counts` has every list of counts
-- with its sum, so in one group nothing is left out; over groups the lists are pairs of what the first group
-- has and what those after it have.
use Prim.Native.Nat.{ℕ, zero, suc, ◌+◌, ◌-◌, ◌<◌}
use native.Mathlib.Nat.{zero-add, suc_inj}
use native.Mathlib.Omega.{arith}
use mathlib.Core.Path.{◌≡◌, refl, sym, ap, ap₂, ◌∙◌, subst}
use mathlib.Core.Logic.{◌⊎◌, inl, inr}
use mathlib.Core.Bool.{Bool, true, false, cond}
use mathlib.Core.List.Memᴰ
use mathlib.Core.List.{List, [], ◌∷◌, map, Memᴰ}
use borrow.Author.Tests.{eqb-true}
use lib.Dec.{eqb}
use lib.IntN.{ℤ}
use lib.ListN.{length, replicate, length-replicate}
use Rattle.integers.specs.Sum.{upto}
use Rattle.integers.proofs.Sums.{upto-below}
use Rattle.polar.specs.Order.{total, counts}
use Rattle.polar.specs.Groups.{Group, pairs, counts_over}
use Rattle.polar.proofs.Order.{counts-total}
use Rattle.polar.proofs.Value.{of-pairs}
use Rattle.entries.specs.Entries.{none_of_q, as_q}
use Rattle.entries.proofs.Groups.{Counted, Named, named-as, total-zeros}
use Rattle.entries.proofs.Flips.{NoneOfQ, QOfOne}
use Rattle.entries.proofs.Places.{member-counts}
use Rattle.entries.proofs.ListedOver.{in_pairs, member-over, counts-over}
use Rattle.projection.specs.Projection.{is_zero}
use Rattle.kinds.specs.Kinds.{group}
use Rattle.machine.specs.Sizes.{named_by_replace, named_by_point, named_by}
use Rattle.machine.specs.Projected.{other_counts, line_named_at_zero, named_at_zero}
use Rattle.machine.specs.Names.{FromBoth, copies_of_q, EachGroup, ReplaceTakes, NamedByReplace, PointTakes, NamedByPoint, NamesExactly}

-- ---- every group

each_of : {P Q : ℕ → Group → List ℕ → Type 0} → ((j : ℕ) (g : Group) (e : List ℕ) → P j g e → Q j g e) → (gs : List Group) (es : List (List ℕ)) → EachGroup P gs es → EachGroup Q gs es
each_of f [] [] h = tt
each_of f [] (e ∷ es) h = absurd h
each_of f (g ∷ gs) [] h = absurd h
each_of f (g ∷ gs) (e ∷ es) h = (f 0 g e h.0, each_of (λ j. f (suc j)) gs es h.1)

-- ---- counts without q are those of the entries

abbrev WithoutQ : List Group → List (List ℕ) → Type 0
WithoutQ gs es = EachGroup (λ j g e. FromBoth g e × (copies_of_q e ≡ 0)) gs es

none-of-q : (g : Group) (e : List ℕ) → length e ≡ suc g.dimension → total e ≡ g.degree → FromBoth g (0 ∷ e) × (copies_of_q (0 ∷ e) ≡ 0)
none-of-q g e l t = (record { each = ap suc l; as_many = zero-add (total e) ∙ t }, refl)

entry-without : (gs : List Group) (es : List (List ℕ)) → Counted gs es → WithoutQ gs (none_of_q es)
entry-without [] [] c = tt
entry-without [] (e ∷ es) c = absurd c
entry-without (g ∷ gs) [] c = absurd c
entry-without (g ∷ gs) (e ∷ es) c = (none-of-q g e c.0 c.1, entry-without gs es c.2)

own-counts : (g : Group) (e : List ℕ) → FromBoth g e → copies_of_q e ≡ 0 → (c : List ℕ) × (length c ≡ suc g.dimension) × (total c ≡ g.degree) × (0 ∷ c ≡ e)
own-counts g [] h z = let l = h.each in absurd (omega arith)
own-counts g (n ∷ c) h z = (c, suc_inj h.each, sym (zero-add (total c)) ∙ subst (λ k. k + total c ≡ g.degree) z h.as_many, ap (λ k. k ∷ c) (sym z))

entry-counts : (gs : List Group) (es : List (List ℕ)) → WithoutQ gs es → (cs : List (List ℕ)) × Counted gs cs × (none_of_q cs ≡ es)
entry-counts [] [] h = ([], tt, refl)
entry-counts [] (e ∷ es) h = absurd h
entry-counts (g ∷ gs) [] h = absurd h
entry-counts (g ∷ gs) (e ∷ es) h =
    let c = own-counts g e h.0.0 h.0.1 in
    let rest = entry-counts gs es h.1 in
    (c.0 ∷ rest.0, (c.1, c.2, rest.1), ap₂ ◌∷◌ c.3 rest.2)

-- ---- a replace

to-replace : (gs : List Group) (i : ℕ) (es : List (List ℕ)) → NamedByReplace gs i es → Memᴰ es (named_by_replace gs i)
unfolding named_by_replace
to-replace [] i es h = let inside = h.0 in absurd (omega arith)
to-replace (g ∷ gs) zero [] h = absurd h.1
to-replace (g ∷ gs) (suc i) [] h = absurd h.1
to-replace (g ∷ gs) zero (e ∷ es) h =
    let rest = entry-counts gs es (each_of (λ j g e k. (k.0, k.1 (λ same. absurd (omega arith)))) gs es h.1.1) in
    in_pairs (counts (suc g.dimension) g.degree) (map none_of_q (counts_over gs))
    (member-counts (suc g.dimension) g.degree e h.1.0.0.each h.1.0.0.as_many)
    (subst (λ x. Memᴰ x (map none_of_q (counts_over gs))) rest.2 (Memᴰ.map none_of_q (member-over gs rest.0 rest.1)))
to-replace (g ∷ gs) (suc i) (e ∷ es) h =
    let c = own-counts g e h.1.0.0 (h.1.0.1 (λ same. absurd (omega arith))) in
    let inside = h.0 in
    in_pairs (none_of_q (counts g.dimension g.degree)) (named_by_replace gs i)
    (subst (λ x. Memᴰ x (none_of_q (counts g.dimension g.degree))) c.3
    (Memᴰ.map (λ (r : List ℕ). 0 ∷ r) (member-counts g.dimension g.degree c.0 c.1 c.2)))
    (to-replace gs i es (omega arith, each_of (λ j g e k. (k.0, λ other. k.1 (λ same. other (suc_inj same)))) gs es h.1.1))

from-replace : (gs : List Group) (i : ℕ) (es : List (List ℕ)) → Memᴰ es (named_by_replace gs i) → NamedByReplace gs i es
unfolding named_by_replace
from-replace [] i es m = absurd (Memᴰ.not-nil m)
from-replace (g ∷ gs) zero es m =
    let r = of-pairs (counts (suc g.dimension) g.degree) (map none_of_q (counts_over gs)) m in
    let t = counts-total (suc g.dimension) g.degree r.0 r.2 in
    let k = Memᴰ.of_map none_of_q (counts_over gs) r.3 in
    let rest = subst (WithoutQ gs) k.2 (entry-without gs k.0 (counts-over gs k.0 k.1)) in
    subst (NamedByReplace (g ∷ gs) 0) r.4
    (omega arith, ((record { each = t.0; as_many = t.1 }, λ other. absurd (other refl)), each_of (λ j g e h. (h.0, λ other. h.1)) gs r.1 rest))
from-replace (g ∷ gs) (suc i) es m =
    let r = of-pairs (none_of_q (counts g.dimension g.degree)) (named_by_replace gs i) m in
    let k = Memᴰ.of_map (λ (e : List ℕ). 0 ∷ e) (counts g.dimension g.degree) r.2 in
    let t = counts-total g.dimension g.degree k.0 k.1 in
    let own = subst (λ e. FromBoth g e × (copies_of_q e ≡ 0)) k.2 (none-of-q g k.0 t.0 t.1) in
    let later = from-replace gs i r.1 r.3 in
    let inside = later.0 in
    subst (NamedByReplace (g ∷ gs) (suc i)) r.4
    (omega arith, ((own.0, λ other. own.1), each_of (λ j g e h. (h.0, λ other. h.1 (λ same. other (ap suc same)))) gs r.1 later.1))

-- ---- a point

-- a group whose points are all q
abbrev all_q : Group → List ℕ
all_q g = g.degree ∷ replicate (suc g.dimension) 0

all-q-both : (g : Group) → FromBoth g (all_q g)
all-q-both g = record { each = ap suc (length-replicate (suc g.dimension) 0); as_many = ap (λ n. g.degree + n) (total-zeros (suc g.dimension)) ∙ omega arith }

zeros-by-total : (e : List ℕ) → total e ≡ 0 → e ≡ replicate (length e) 0
zeros-by-total [] t = refl
zeros-by-total (zero ∷ e) t = ap (λ r. 0 ∷ r) (zeros-by-total e (sym (zero-add (total e)) ∙ t))
zeros-by-total (suc n ∷ e) t = absurd (omega arith)

both-all-q : (g : Group) (e : List ℕ) → FromBoth g e → copies_of_q e ≡ g.degree → e ≡ all_q g
both-all-q g [] h q = let l = h.each in absurd (omega arith)
both-all-q g (n ∷ e) h q =
    let t = h.as_many in
    let none : total e ≡ 0 = omega arith in
    ap₂ ◌∷◌ q (zeros-by-total e none ∙ ap (λ k. replicate k 0) (suc_inj h.each))

to-point : (gs : List Group) (es : List (List ℕ)) → NamedByPoint gs es → Memᴰ es (named_by_point gs)
unfolding named_by_point
to-point [] es h = let inside = h.1 in absurd (omega arith)
to-point (g ∷ gs) [] h = absurd h.2
to-point (g ∷ gs) (e ∷ es) (zero, inside, h) =
    Memᴰ.append_left _
    (to-replace (g ∷ gs) 0 (e ∷ es) (inside, each_of {P = PointTakes 0} {Q = ReplaceTakes 0} (λ j g e k. (k.0, λ other. k.2 (positive j other))) (g ∷ gs) (e ∷ es) h))
  where
    positive : (j : ℕ) → (j ≡ 0 → ⊥) → 0 < j
    positive zero other = absurd (other refl)
    positive (suc j) other = omega arith
to-point (g ∷ gs) (e ∷ es) (suc k, inside, h) =
    Memᴰ.append_right (named_by_replace (g ∷ gs) 0)
    (in_pairs (all_q g ∷ []) (named_by_point gs) (Memᴰ.head (both-all-q g e h.0.0 (h.0.1 (omega arith))))
    (to-point gs es (k, omega arith, each_of {Q = PointTakes k} (λ j g e c. (c.0, (λ less. c.1 (omega arith)), (λ more. c.2 (omega arith)))) gs es h.1)))

from-point : (gs : List Group) (es : List (List ℕ)) → Memᴰ es (named_by_point gs) → NamedByPoint gs es
unfolding named_by_point
from-point [] es m = absurd (Memᴰ.not-nil m)
from-point (g ∷ gs) es m = by (from-point gs) (Memᴰ.append_cases (named_by_replace (g ∷ gs) 0) m)
  where
    by : ((rest : List (List ℕ)) → Memᴰ rest (named_by_point gs) → NamedByPoint gs rest)
        → Memᴰ es (named_by_replace (g ∷ gs) 0) ⊎ Memᴰ es (pairs (all_q g ∷ []) (named_by_point gs)) → NamedByPoint (g ∷ gs) es
    by later (inl k) =
        let r = from-replace (g ∷ gs) 0 es k in
        (0, r.0, each_of {P = ReplaceTakes 0} {Q = PointTakes 0} (λ j g e h. (h.0, (λ less. absurd (omega arith)), (λ more. h.1 (λ same. absurd (omega arith))))) (g ∷ gs) es r.1)
    by later (inr k) =
        let r = of-pairs (all_q g ∷ []) (named_by_point gs) k in
        let rest = later r.1 r.3 in
        let inside = rest.1 in
        let own = subst (PointTakes (suc rest.0) 0 g) (sym (Memᴰ.eq_of_singleton r.2)) (all-q-both g, (λ less. refl), (λ more. absurd (omega arith))) in
        subst (NamedByPoint (g ∷ gs)) r.4
        (suc rest.0, omega arith, (own, each_of (λ j g e h. (h.0, (λ less. h.1 (omega arith)), (λ more. h.2 (omega arith)))) gs r.1 rest.2))

-- ---- what the laws of sizes need of it

-- what is named are counts of q and the vertices
each-named : (gs : List Group) (es : List (List ℕ)) → EachGroup (λ j g e. FromBoth g e) gs es → Named gs es
each-named [] [] h = tt
each-named [] (e ∷ es) h = absurd h
each-named (g ∷ gs) [] h = absurd h
each-named (g ∷ gs) (e ∷ es) h = (h.0.each, h.0.as_many, each-named gs es h.1)

pub by-replace : (gs : List Group) (i : ℕ) (es : List (List ℕ)) → Memᴰ es (named_by_replace gs i) → Named gs es
by-replace gs i es m = each-named gs es (each_of {P = ReplaceTakes i} (λ j g e h. h.0) gs es (from-replace gs i es m).1)

pub by-point : (gs : List Group) (es : List (List ℕ)) → Memᴰ es (named_by_point gs) → Named gs es
by-point gs es m = let r = from-point gs es m in each-named gs es (each_of {P = PointTakes r.0} (λ j g e h. h.0) gs es r.2)

-- a replace names no value with q in another group
none_after : (gs : List Group) (es : List (List ℕ)) → WithoutQ gs es → NoneOfQ gs es
none_after [] es h = tt
none_after (g ∷ gs) [] h = absurd h
none_after (g ∷ gs) (e ∷ es) h = (h.0.1, none_after gs es h.1)

takes_one : (gs : List Group) (i : ℕ) (es : List (List ℕ)) → EachGroup (ReplaceTakes i) gs es → QOfOne gs i es
takes_one [] i es h = tt
takes_one (g ∷ gs) i [] h = absurd h
takes_one (g ∷ gs) zero (e ∷ es) h =
    none_after gs es (each_of {Q = λ j g e. FromBoth g e × (copies_of_q e ≡ 0)} (λ j g e k. (k.0, k.1 (λ same. absurd (omega arith)))) gs es h.1)
takes_one (g ∷ gs) (suc i) (e ∷ es) h =
    (h.0.1 (λ same. absurd (omega arith)), takes_one gs i es (each_of {Q = ReplaceTakes i} (λ j g e k. (k.0, λ other. k.1 (λ same. other (suc_inj same)))) gs es h.1))

pub one-of-q : (gs : List Group) (i : ℕ) (es : List (List ℕ)) → Memᴰ es (named_by_replace gs i) → QOfOne gs i es
one-of-q gs i es m = takes_one gs i es (from-replace gs i es m).1

-- an entry whose copies of a vertex are q's is named by the replace of that vertex
as-taken : (gs : List Group) (i v : ℕ) (es : List (List ℕ)) → Counted gs es → EachGroup (ReplaceTakes i) gs (as_q i v es)
as-taken [] i v [] c = tt
as-taken [] i v (e ∷ es) c = absurd c
as-taken (g ∷ gs) i v [] c = absurd c
as-taken (g ∷ gs) zero v (e ∷ es) c =
    let n = named-as (g ∷ gs) 0 v (e ∷ es) c in
    let rest = entry-without gs es c.2 in
    ((record { each = n.0; as_many = n.1 }, λ other. absurd (other refl)), each_of (λ j g e h. (h.0, λ other. h.1)) gs (none_of_q es) rest)
as-taken (g ∷ gs) (suc i) v (e ∷ es) c =
    let own = none-of-q g e c.0 c.1 in
    ((own.0, λ other. own.1), each_of {P = ReplaceTakes i} (λ j g e h. (h.0, λ other. h.1 (λ same. other (ap suc same)))) gs (as_q i v es) (as-taken gs i v es c.2))

pub as-named : (gs : List Group) (i v : ℕ) (es : List (List ℕ)) → i < length gs → Counted gs es → Memᴰ (as_q i v es) (named_by_replace gs i)
as-named gs i v es h counted = to-replace gs i (as_q i v es) (h, as-taken gs i v es counted)

-- ---- what is projected at a common zero

-- a point of a line names its values with copies of q and of one vertex
line-named : (m : ℕ) (s : ℤ) (es : List (List ℕ)) → Memᴰ es (line_named_at_zero m s) → Memᴰ es (named_by_point (group 1 m ∷ []))
line-named m s es k =
    let r = Memᴰ.of_map (λ d. other_counts s (m - suc d) (suc d) ∷ []) (upto m) k in
    subst (λ x. Memᴰ x (named_by_point (group 1 m ∷ []))) r.2 (by r.0 (upto-below m r.0 r.1) (is_zero s))
  where
    by : (d : ℕ) → d < m → (b : Bool) → Memᴰ (cond b ((m - suc d) ∷ 0 ∷ suc d ∷ []) ((m - suc d) ∷ suc d ∷ 0 ∷ []) ∷ []) (named_by_point (group 1 m ∷ []))
    by d low true =
        to-point (group 1 m ∷ []) _ (0, omega arith, ((record { each = refl; as_many = omega arith }, (λ less. absurd (omega arith)), (λ more. absurd (omega arith))), tt))
    by d low false =
        to-point (group 1 m ∷ []) _ (0, omega arith, ((record { each = refl; as_many = omega arith }, (λ less. absurd (omega arith)), (λ more. absurd (omega arith))), tt))

-- and over any groups a point names all of these
pub at-zero-named : (gs : List Group) (s : ℤ) (es : List (List ℕ)) → Memᴰ es (named_at_zero gs s) → Memᴰ es (named_by_point gs)
unfolding named_at_zero
at-zero-named [] s es m = absurd (Memᴰ.not-nil m)
at-zero-named (g ∷ []) s es m = by (eqb g.dimension 1) refl m
  where
    by : (b : Bool) → eqb g.dimension 1 ≡ b → Memᴰ es (cond b (line_named_at_zero g.degree s) []) → Memᴰ es (named_by_point (g ∷ []))
    by true one k = subst (λ n. Memᴰ es (named_by_point (group n g.degree ∷ []))) (sym (eqb-true g.dimension 1 one)) (line-named g.degree s es k)
    by false one k = absurd (Memᴰ.not-nil k)
at-zero-named (g ∷ h ∷ gs) s es m = absurd (Memᴰ.not-nil m)

-- ---- all of it

pub names-exactly : NamesExactly
unfolding named_by
names-exactly =
    record {
      replaced = λ gs vertex weights es. (from-replace gs _ es, to-replace gs _ es);
      point = λ gs weights es. (from-point gs es, to-point gs es);
      flipped = λ gs vertex weights es m. Memᴰ.not-nil m;
    }
