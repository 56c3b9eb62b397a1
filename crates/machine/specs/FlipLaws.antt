-- The order of flips and splits (docs/SPECIFICATION.md, 'Order of flips and splits'; request E10): two people flip at different moments, and this is what they may count on.
-- A split is a replace. The laws are stated once, of any step that takes calls, and then said of the step of handed nets and of that of the functions on lent places.
-- No limit on the weights is asked for: what is refused of them is refused both ways.
use Rattle.std.specs.Prelude.{ℕ, pred, ◌≤◌, ◌≡◌, ◌≢◌, true, cond, List, [], ◌∷◌, ◌++◌, eqb, ℤ, pos, neg_ℤ, length}
use Rattle.integers.specs.Test.{all}
use Rattle.polar.specs.Groups.{Group}
use Rattle.entries.specs.Entries.{number_count}
use Rattle.projection.specs.Projection.{in_range}
use Rattle.kinds.specs.Kinds.{known}
use Rattle.kinds.specs.Frames.{vertex_count, frames_of, numbers_of}
use Rattle.machine.specs.Calls.{group_at, own_at}
use Rattle.machine.specs.Steps.{Answer, Taken, Refused, Step, after, answers}
use Rattle.machine.specs.Nets.{Net, net_groups, net_in_range, step_of}
use Rattle.machine.specs.Comparison.{Polynomials}
use Rattle.machine.specs.First.{first_refusal}
use Rattle.machine.specs.Demand3.{net_reached}
use Rattle.machine.specs.Lent.{net_at, enough_places}
use Rattle.machine.specs.Carried.{lent_step}
use Rattle.machine.specs.declared.Weights.{Weights}
use Rattle.machine.specs.declared.Call.{Call}
use Rattle.machine.specs.declared.Call.TheVariants.{Move}

-- ---- the calls

abbrev pub flip : ℕ → Call
flip v = Move 2 v (record { r = pos 0; s = pos 0; t = pos 0; u = pos 0 })

abbrev pub replace : ℕ → Weights → Call
replace u w = Move 1 u w

-- ---- vertices and their weights, over the groups of a net

-- v is one of the vertices, which are counted from 1 through the groups
abbrev pub Vertex : List Group → ℕ → Type 0
Vertex gs v = (1 ≤ v) × (v ≤ vertex_count gs)

-- two vertices of one pair; a curve or patch has one group of all its vertices
abbrev pub SamePair : List Group → ℕ → ℕ → Type 0
SamePair gs u v = group_at gs (pred u) ≡ group_at gs (pred v)

-- 'with v's weight negated', of a move in v's own pair: the weight that has v's number there
abbrev pub negated : List Group → ℕ → Weights → Weights
negated gs v w =
    let sign : ℕ → ℤ → ℤ = λ k x. cond (eqb k (own_at gs (pred v))) (neg_ℤ x) x in
    record { r = sign 0 w.r; s = sign 1 w.s; t = sign 2 w.t; u = sign 3 w.u }

-- ---- the laws, of a step on a state whose net has these groups

module _ {S : Type 0} (step : S → Call → Step Answer S) (gs : List Group) (state : S) where
  -- what calls leave, and what they are answered
  abbrev pub left_by : List Call → S
  left_by calls = after step state calls

  abbrev pub answers_to : List Call → List Answer
  answers_to calls = answers step state calls

  -- Flipping v and then replacing u by w leaves what replacing u by other weights and then flipping v leaves, refused or not.
  -- The flip is taken on both ways, and the replace has one answer on both: taken, or the same refusal.
  pub record Exchanged (u v : ℕ) (w others : Weights) : Type 0 where
    pub left : left_by (flip v ∷ replace u w ∷ []) ≡ left_by (replace u others ∷ flip v ∷ [])
    pub flip_first : answers_to (flip v ∷ replace u w ∷ []) ≡ Taken ∷ answers_to (replace u others ∷ [])
    pub flip_last : answers_to (replace u others ∷ flip v ∷ []) ≡ answers_to (replace u others ∷ []) ++ (Taken ∷ [])

  -- Flipping v and then replacing v itself by w, against the replace alone by other weights: it has one answer on both ways.
  pub record Replaced (v : ℕ) (w others : Weights) : Type 0 where
    pub answered : answers_to (flip v ∷ replace v w ∷ []) ≡ Taken ∷ answers_to (replace v others ∷ [])
    -- 'flip then an accepted replace equals replace alone'
    pub accepted : answers_to (replace v others ∷ []) ≡ Taken ∷ [] → left_by (flip v ∷ replace v w ∷ []) ≡ left_by (replace v others ∷ [])
    -- 'if refused, the first way leaves the flipped net and the second the old one'
    pub refused : (k : ℕ) → answers_to (replace v others ∷ []) ≡ Refused k ∷ []
        → (left_by (flip v ∷ replace v w ∷ []) ≡ left_by (flip v ∷ [])) × (left_by (replace v others ∷ []) ≡ state)

  pub record FlipLaws : Type 0 where
    -- 'flipping twice restores the net', with its frame and the largest component that it stores
    pub twice : (v : ℕ) → Vertex gs v → left_by (flip v ∷ flip v ∷ []) ≡ state
    -- 'flips of different vertices may be taken in either order'
    pub either_order : (u v : ℕ) → Vertex gs u → Vertex gs v → u ≢ v → left_by (flip u ∷ flip v ∷ []) ≡ left_by (flip v ∷ flip u ∷ [])
    -- and no flip is refused
    pub taken : (u v : ℕ) → Vertex gs u → Vertex gs v → answers_to (flip u ∷ flip v ∷ []) ≡ Taken ∷ Taken ∷ []
    -- 'flipping v then replacing another vertex equals replacing it with v's weight negated and then flipping v'
    pub another : (u v : ℕ) → Vertex gs u → Vertex gs v → u ≢ v → SamePair gs u v → (w : Weights) → Exchanged u v w (negated gs v w)
    -- 'in different pairs nothing is negated'
    pub apart : (u v : ℕ) → Vertex gs u → Vertex gs v → (SamePair gs u v → ⊥) → (w : Weights) → Exchanged u v w w
    -- 'where the replaced vertex is v itself', with that weight negated
    pub itself : (v : ℕ) → Vertex gs v → (w : Weights) → Replaced v w (negated gs v w)

-- ---- the nets

-- 'nets with kind, degree, entries and frame in range'; the largest component that they store may be any number
pub record AllInRange (net : Net) : Type 0 where
  pub kind : known net.kind net.degree net.second ≡ true
  pub entries : net_in_range net ≡ true
  pub frame : all in_range (numbers_of net.frames) ≡ true

-- a net with all the numbers of its kind and degrees, and no more: its entries', and its frames', which are those that their numbers make
pub record Whole (net : Net) : Type 0 where
  pub entries : length net.entries ≡ number_count (net_groups net)
  pub frames : frames_of (net_groups net) (numbers_of net.frames) ≡ net.frames

-- the step of the functions on lent places, with none lent for a point's numbers: as take_move and gadwemosh_move promise it
unfoldable pub lent_move : List ℤ → Call → Step Answer (List ℤ)
lent_move lent call =
    let step = lent_step lent (record { call = call; found = [] }) in
    record { answer = step.answer.answer; left = step.left }

pub record OrderOfFlips : Type 0 where
  -- of handed nets
  pub handed : (net : Net) → Whole net → AllInRange net → FlipLaws step_of (net_groups net) net
  -- of lent places, all of them and not only a net's; what stands there as a net is always whole
  pub lent : (lent : List ℤ) → enough_places lent ≡ true → AllInRange (net_at lent) → FlipLaws lent_move (net_groups (net_at lent)) lent
  -- every net that calls reach from an accepted record is such a net
  pub reached : (f : Polynomials) (numbers : List ℤ) → first_refusal f numbers ≡ 0 → (calls : List Call) → Whole (net_reached f numbers calls) × AllInRange (net_reached f numbers calls)
