-- What a call does to a handed net (docs/SPECIFICATION.md, 'Moves and points', with the refusals 4, 8, 9, 10 and 12). The polar values are those that the net's own entries fix,
-- and q is over the frames that it carries.
use Rattle.std.specs.Prelude.{ℕ, pred, Bool, cond, List, [], ◌∷◌, ◌++◌, map, eqb, ℤ, pos}
use Rattle.integers.specs.Largest.{largest_of}
use Rattle.polar.specs.Groups.{Group}
use Rattle.entries.specs.Entries.{entry_over, listed_over, fixed_over, flipped_over, as_q, only_q}
use Rattle.projection.specs.Projection.{Four, in_range}
use Rattle.machine.specs.Refusals.{Test, ◌else◌, first_failed}
use Rattle.integers.specs.Test.{all}
use Rattle.kinds.specs.Kinds.{groups_of, known}
use Rattle.kinds.specs.Frames.{Frames, numbers_of}
use Rattle.machine.specs.Calls.{group_at, own_at, weights_for}
use Rattle.machine.specs.Frames.{frames_after, new_numbers}
use Rattle.machine.specs.Sizes.{call_tests}
use Rattle.machine.specs.Projected.{named_at_zero}
use Rattle.machine.specs.Steps.{Answer, Taken, four_of, found_at, Step, step_by}
use Rattle.machine.specs.declared.Weights.{Weights}
use Rattle.machine.specs.declared.Call.{Call}
use Rattle.machine.specs.declared.Call.TheVariants.{Move, Point}

-- a net: its kind, its degrees, the frames that it has reached, one for each group, four numbers x, y, z, w for each entry, in the specification's order, and the number that it
-- stores as the largest absolute component of its entries
pub record Net : Type 0 where
  pub kind : ℕ
  pub degree : ℕ
  pub second : ℕ
  pub frames : Frames
  pub entries : List ℤ
  pub largest : ℤ

abbrev pub net_groups : Net → List Group
net_groups net = groups_of net.kind net.degree net.second

-- component c of the entry with counts es
abbrev pub entry : Net → ℕ → List (List ℕ) → ℤ
entry net = entry_over (net_groups net) net.entries

-- component c of the polar value with counts es of the call's q and of the vertices in each group, as the net's entries fix it
unfoldable pub net_polar : Net → Call → ℕ → List (List ℕ) → ℤ
net_polar net call c es = fixed_over (net_groups net) (weights_for (net_groups net) call) (entry net c) es

-- the four components of it
unfoldable pub net_four : Net → Call → List (List ℕ) → Four
net_four net call es = four_of (λ c. net_polar net call c es)

-- every entry of a net is in range
abbrev pub net_in_range : Net → Bool
net_in_range net = all in_range net.entries

-- the tests of a handed net, and then those of the call on it
unfoldable pub handed_tests : Net → List Test
handed_tests net =
    -- 'kind or degree outside'
    known net.kind net.degree net.second else 4
    -- 'a handed net out of range'
    ∷ net_in_range net else 10
    ∷ []

-- 'a replace whose q, or a handed net whose frame, has a number beyond': the frame numbers that a call on a net is judged by
unfoldable pub judged_numbers : Net → Call → List ℤ
judged_numbers net call = numbers_of net.frames ++ new_numbers (net_groups net) net.frames call

unfoldable pub net_tests : Net → Call → List Test
net_tests net call = handed_tests net ++ call_tests (net_groups net) call (judged_numbers net call) (net_polar net call)

-- the entries after an accepted move: after a replace the copies of the vertex are copies of q, after a flip the sign changes where the vertex is taken an odd number of times
unfoldable pub entries_after : Net → ℕ → ℕ → Weights → List ℤ
entries_after net operation vertex weights =
    let gs = net_groups net in
    let i = group_at gs (pred vertex) in
    let v = own_at gs (pred vertex) in
    listed_over gs (λ c es. cond (eqb operation 1) (net_polar net (Move operation vertex weights) c (as_q i v es)) (flipped_over i v (entry net c) es))

-- the largest component after an accepted move: a replace works it out, whatever the net claims, and a flip hands on the number that it was given
unfoldable pub largest_after : Net → ℕ → ℕ → Weights → ℤ
largest_after net operation vertex weights = cond (eqb operation 1) (pos (largest_of (entries_after net operation vertex weights))) net.largest

-- What an accepted call answers and leaves: a move changes frames, entries and largest component, and the
-- point is the polar value whose points are all q; where that is four zeros, a curve's values with copies of
-- the other vertex are projected instead.
unfoldable pub accepted : Net → Call → Step Answer Net
accepted net (Move operation vertex weights) =
    record {
      answer = Taken;
      left =
          record {
            kind = net.kind;
            degree = net.degree;
            second = net.second;
            frames = frames_after (net_groups net) net.frames (Move operation vertex weights);
            entries = entries_after net operation vertex weights;
            largest = largest_after net operation vertex weights;
          };
    }
accepted net (Point weights) =
    let gs = net_groups net in
    record { answer = found_at (net_four net (Point weights) (only_q gs)) (map (net_four net (Point weights)) (named_at_zero gs weights.s)); left = net }

-- The step of the net machine: what the library's functions do with a call.
unfoldable pub step_of : Net → Call → Step Answer Net
step_of net call = step_by (first_failed (net_tests net call)) net (accepted net call)
