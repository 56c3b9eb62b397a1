-- What the size rule names, in the papers' words and over any list of groups: 'some polar value of m points
-- taken from the frame and q, any number of each', of a replace in a pair 'its own pair's points from that
-- pair and the new vertex, the other pair's from its frame', of a point 'first the same with q1, the first
-- pair's point, then p copies of q1 with the second pair's points from that pair and its own point'. The
-- lists of Sizes.antt, by which both machines refuse, name exactly these values and no others.
--
-- A value is given by its counts, a list for each group: how often q is taken there, and then how often each
-- vertex.
use Rattle.std.specs.Prelude.{ℕ, suc, pred, ◌<◌, ◌≡◌, ◌↔◌, length, get_or}
use mathlib.Core.List.{List, [], ◌∷◌, Memᴰ}
use Rattle.polar.specs.Order.{total}
use Rattle.polar.specs.Groups.{Group}
use Rattle.machine.specs.Calls.{group_at}
use Rattle.machine.specs.Sizes.{named_by}
use Rattle.machine.specs.declared.Weights.{Weights}
use Rattle.machine.specs.declared.Call.TheVariants.{Move, Point}

-- a group's points: as many as its degree, from q and its vertices, any number of each
pub record FromBoth (g : Group) (e : List ℕ) : Type 0 where
  pub each : length e ≡ suc (suc g.dimension)
  pub as_many : total e ≡ g.degree

abbrev pub copies_of_q : List ℕ → ℕ
copies_of_q e = get_or e 0 0

-- P holds of every group with its counts, and there are counts for each group and no more; the groups are
-- counted from 0
abbrev pub EachGroup : (ℕ → Group → List ℕ → Type 0) → List Group → List (List ℕ) → Type 0
EachGroup P [] [] = Unit {0}
EachGroup P [] (e ∷ es) = ⊥
EachGroup P (g ∷ gs) [] = ⊥
EachGroup P (g ∷ gs) (e ∷ es) = P 0 g e × EachGroup (λ j. P (suc j)) gs es

-- a replace in group i: in every other group j no point is q, 'from its frame'
abbrev pub ReplaceTakes : ℕ → ℕ → Group → List ℕ → Type 0
ReplaceTakes i j g e = FromBoth g e × ((j ≡ i → ⊥) → copies_of_q e ≡ 0)

abbrev pub NamedByReplace : List Group → ℕ → List (List ℕ) → Type 0
NamedByReplace gs i es = (i < length gs) × EachGroup (ReplaceTakes i) gs es

-- a point, at the stage of group k: in a group j before it every point is q, 'p copies of q1', and in one
-- after it none is
abbrev pub PointTakes : ℕ → ℕ → Group → List ℕ → Type 0
PointTakes k j g e = FromBoth g e × (j < k → copies_of_q e ≡ g.degree) × (k < j → copies_of_q e ≡ 0)

abbrev pub NamedByPoint : List Group → List (List ℕ) → Type 0
NamedByPoint gs es = (k : ℕ) × (k < length gs) × EachGroup (PointTakes k) gs es

pub record NamesExactly : Type 0 where
  -- the group is that of the replaced vertex
  pub replaced : (gs : List Group) (vertex : ℕ) (weights : Weights) (es : List (List ℕ))
      → Memᴰ es (named_by gs (Move 1 vertex weights)) ↔ NamedByReplace gs (group_at gs (pred vertex)) es
  pub point : (gs : List Group) (weights : Weights) (es : List (List ℕ)) → Memᴰ es (named_by gs (Point weights)) ↔ NamedByPoint gs es
  -- 'a flip has none'
  pub flipped : (gs : List Group) (vertex : ℕ) (weights : Weights) (es : List (List ℕ)) → Memᴰ es (named_by gs (Move 2 vertex weights)) → ⊥
