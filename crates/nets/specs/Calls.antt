-- What the private functions that make calls and first nets promise. Most of them work on the part of the lent places that holds the entries.
use Rattle.std.specs.Prelude.{ℕ, suc, ◌+◌, ◌≤◌, ◌≡◌, Bool, true, ◌&&◌, cond, List, [], ◌∷◌, eqb, ℤ, pos, nat_abs, length, get_or, take, drop}
use Rattle.integers.specs.Largest.{largest_of}
use Rattle.integers.specs.Test.{within, all}
use Rattle.projection.specs.Projection.{is_zero, in_range}
use Rattle.entries.specs.Entries.{number_count}
use Rattle.entries.specs.Rows.{size}
use Rattle.kinds.specs.Kinds.{dimension_of, later_groups, later_dimension}
use Rattle.kinds.specs.Heads.{head_groups}
use Rattle.kinds.specs.declared.Head.{Head}
use Rattle.kinds.specs.Frames.{frame_count, frames_of, numbers_of}
use Rattle.machine.specs.Refusals.{Test, ◌else◌, first_failed}
use Rattle.machine.specs.Calls.{weight_list, own_tests}
use Rattle.machine.specs.Frames.{new_numbers}
use Rattle.machine.specs.Sizes.{named_by, all_named}
use Rattle.machine.specs.Steps.{point_values}
use Rattle.machine.specs.Nets.{Net, net_groups, net_polar, net_in_range, handed_tests, accepted}
use Rattle.machine.specs.Comparison.{Polynomials}
use Rattle.machine.specs.First.{first_tests, first_net}
use Rattle.machine.specs.Lent.{put_at, put_net, unless_refused, polynomials_from}
use Rattle.machine.specs.declared.Weights.{Weights}
use Rattle.machine.specs.declared.Call.{Call}
use Rattle.nets.specs.Rows.{Sized}
use Rattle.nets.specs.Levels.{Descends, Descended}

-- the net of a head whose entries are the first numbers of some places; the functions on these places see neither its frame nor its largest component
abbrev pub net_from : Head → List ℤ → Net
net_from head places =
    record { kind = head.kind; degree = head.degree; second = head.second; frames = []; entries = take (number_count (head_groups head)) places; largest = pos 0 }

-- what the making of a call asks for: the places of the entries, a net that is not refused, and a call that is not refused for its arguments
pub record InOrder (head : Head) (places : List ℤ) (call : Call) : Type 0 where
  pub long : length places ≡ 180
  pub net-passes : first_failed (handed_tests (net_from head places)) ≡ 0
  pub call_passes : first_failed (own_tests (head_groups head) call) ≡ 0

-- every weight is within its limit, and those past the vertices of the only group are 0: the tests of number 8 that speak of weights
abbrev pub weights_fit : ℕ → List ℤ → Bool
weights_fit n ws = all (within 4096) ws && all is_zero (drop (suc n) ws)

-- the test of a call's size
abbrev pub size_test : Net → Call → List Test
size_test net call = all_named (named_by (net_groups net) call) (net_polar net call) else 10 ∷ []

-- the number of a call that only its size may refuse, and the places of the entries after it
pub record Stepped (net : Net) (call : Call) (number : ℕ) (before after : List ℤ) : Type 0 where
  pub number_is : number ≡ first_failed (size_test net call)
  pub places : after ≡ unless_refused number (put_at 0 (accepted net call).left.entries before) before

-- what going down the first group's levels asks for, and what it gives: each row has the numbers of the groups after the first
abbrev pub FirstDescends : Head → Weights → List ℤ → Type 0
FirstDescends head weights xs = Descends (number_count (later_groups head.kind head.second)) (dimension_of head.kind) head.degree weights xs

abbrev pub FirstDescended : Head → Weights → List ℤ → Bool → List ℤ → Type 0
FirstDescended head weights xs b ys = Descended (number_count (later_groups head.kind head.second)) (dimension_of head.kind) head.degree (weight_list weights) xs b ys

-- the weights of the second of two groups of two vertices
abbrev pub later_weights : Weights → List ℤ
later_weights w = w.t ∷ w.u ∷ pos 0 ∷ pos 0 ∷ []

-- what going down the second group's levels asks for, and what it gives; where there is no second group there is nothing to do
pub record LaterDescends (head : Head) (weights : Weights) (xs : List ℤ) : Type 0 where
  pub sized : (later_dimension head.kind ≡ 0 → ⊥) → Sized 4 (later_dimension head.kind) head.second
  pub long : (later_dimension head.kind ≡ 0 → ⊥) → size 4 (later_dimension head.kind) head.second ≤ length xs
  pub range : (later_dimension head.kind ≡ 0 → ⊥) → all in_range (take (size 4 (later_dimension head.kind) head.second) xs) ≡ true
  pub light : nat_abs weights.t + nat_abs weights.u ≤ 12288

pub record LaterDescended (head : Head) (weights : Weights) (xs : List ℤ) (b : Bool) (ys : List ℤ) : Type 0 where
  pub none : later_dimension head.kind ≡ 0 → (b ≡ true) × (ys ≡ xs)
  pub some : (later_dimension head.kind ≡ 0 → ⊥) → Descended 4 (later_dimension head.kind) head.second (later_weights weights) xs b ys

-- the number of a point that only its size may refuse, and the places lent for its numbers after it
pub record Pointed (net : Net) (call : Call) (number : ℕ) (before after : List ℤ) : Type 0 where
  pub number_is : number ≡ first_failed (size_test net call)
  pub places : after ≡ unless_refused number (put_at 0 (point_values (accepted net call).answer) before) before

-- ---- moves of a whole net, with its frame and its largest component

-- the net of a kind and degrees in lent places
abbrev pub net_in : Head → List ℤ → Net
net_in head lent =
    let gs = head_groups head in
    record {
      kind = head.kind;
      degree = head.degree;
      second = head.second;
      frames = frames_of gs (drop 3 lent);
      entries = take (number_count gs) (drop 12 lent);
      largest = get_or lent 192 (pos 0);
    }

-- what the making of a move asks for: places enough, and a net and arguments that are not refused
pub record MoveAsked (head : Head) (lent : List ℤ) (call : Call) : Type 0 where
  pub places : 193 ≤ length lent
  pub ordered : InOrder head (take 180 (drop 12 lent)) call
  pub near : all in_range (take (frame_count (head_groups head)) (drop 3 lent)) ≡ true

-- the number of a move that only its q and its size may refuse, and the places after it
pub record Moved (net : Net) (call : Call) (number : ℕ) (lent after : List ℤ) : Type 0 where
  pub number_is : number ≡ first_failed (all in_range (new_numbers (net_groups net) net.frames call) else 12 ∷ size_test net call)
  pub places : after
      ≡ unless_refused number (put_at 3 (numbers_of (accepted net call).left.frames) (put_at 12 (accepted net call).left.entries (put_at 192 ((accepted net call).left.largest ∷ []) lent))) lent

-- places with the entries that a move leaves; those of a replace are in range
pub record MovedEntries (head : Head) (operation : ℕ) (lent : List ℤ) : Type 0 where
  pub places : 193 ≤ length lent
  pub fit : number_count (head_groups head) ≤ 180
  pub range : operation ≡ 1 → all in_range (take (number_count (head_groups head)) (drop 12 lent)) ≡ true

-- the largest component that is then stored
abbrev pub largest_in : Head → ℕ → List ℤ → ℤ
largest_in head operation lent =
    cond (eqb operation 1) (pos (largest_of (take (number_count (head_groups head)) (drop 12 lent)))) (get_or lent 192 (pos 0))

-- ---- first nets

-- the tests of polynomials and the numbers of a frame before a net is made: those of a first net but for the last, which is of the net itself
unfoldable pub before_first : Polynomials → List ℤ → List Test
before_first f numbers = take 3 (first_tests f numbers)

-- what the making of a first net asks for: none of them fails, and the numbers of a frame and of polynomials are lent
pub record FirstAsked (head : Head) (frame coefficients : List ℤ) : Type 0 where
  pub accepted : first_failed (before_first (polynomials_from head.kind head.degree head.second coefficients) frame) ≡ 0
  pub nine : length frame ≡ 9
  pub enough : 180 ≤ length coefficients

-- the rooms in which it is made, the last of them for the entries, have places for as many numbers as the entries are
pub record Rooms (head : Head) (work cur base out : List ℤ) : Type 0 where
  pub work-room : number_count (head_groups head) ≤ length work
  pub cur-room : number_count (head_groups head) ≤ length cur
  pub base-room : number_count (head_groups head) ≤ length base
  pub out-room : number_count (head_groups head) ≤ length out

-- what storing a net with this frame and these entries asks for: they are there, the largest component is theirs, and there are places for them
pub record Stores (head : Head) (largest : ℕ) (lent frame entries : List ℤ) : Type 0 where
  pub places : 193 ≤ length lent
  pub nine : length frame ≡ 9
  pub fit : number_count (head_groups head) ≤ 180
  pub enough : number_count (head_groups head) ≤ length entries
  pub largest-is : largest ≡ largest_of (take (number_count (head_groups head)) entries)

-- the net that is stored
abbrev pub net_with : Head → List ℤ → List ℤ → Net
net_with head frame entries =
    let gs = head_groups head in
    let own = take (number_count gs) entries in
    record { kind = head.kind; degree = head.degree; second = head.second; frames = frames_of gs frame; entries = own; largest = pos (largest_of own) }

-- the number that is answered where a net is to be stored, and the places after it: a net that is not in range is not stored
pub record Stored (net : Net) (lent : List ℤ) (number : ℕ) (after : List ℤ) : Type 0 where
  pub number_is : number ≡ first_failed (net_in_range net else 7 ∷ [])
  pub places-are : after ≡ unless_refused number (put_net net lent) lent

-- the same of a first net
abbrev pub FirstStored : Polynomials → List ℤ → List ℤ → ℕ → List ℤ → Type 0
FirstStored f frame lent number after = Stored (first_net f frame) lent number after
