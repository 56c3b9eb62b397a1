-- What the private functions promise: parts of lines, the names of a net's entries, a net in lent places that takes calls, and the text as the net machine
-- answers it. No public contract cites this.
use Rattle.std.specs.Prelude.{ℕ, zero, suc, ◌-◌, ◌≤◌, ◌≡◌, List, [], ◌∷◌, ◌++◌, map, ℤ, length, take}
use Rattle.polar.specs.Order.{joined}
use Rattle.integers.specs.Sum.{upto}
use Rattle.polar.specs.Groups.{Group, pairs, counts_over}
use Rattle.kinds.specs.Kinds.{dimension_of, later_groups}
use Rattle.kinds.specs.declared.Head.{Head}
use Rattle.machine.specs.Refusals.{first_failed}
use Rattle.machine.specs.Steps.{refusal_number, after, answers}
use Rattle.machine.specs.Nets.{Net, handed_tests, step_of}
use Rattle.machine.specs.Lent.{net_at}
use Rattle.machine.specs.declared.Call.{Call}
use Rattle.opening.specs.Opening.{moves_of, point_of}
use Rattle.text.specs.Words.{decimal, signed_decimal}
use Rattle.text.specs.Text.{named, head_line, move_lines, entry_lines, net_lines, point_line}

-- ---- parts of lines

-- words, each after a space, and the end of the line
abbrev pub rest_of_line : List (List ℕ) → List ℕ
rest_of_line [] = 10 ∷ []
rest_of_line (w ∷ words) = (32 ∷ w) ++ rest_of_line words

abbrev pub numbers_text : List ℤ → List ℕ
numbers_text numbers = rest_of_line (map signed_decimal numbers)

-- two numbers, each after its label, and the end of the line
abbrev pub pair_text : List ℕ → ℕ → List ℕ → ℕ → List ℕ
pair_text first n second m = (first ++ decimal n) ++ ((second ++ decimal m) ++ (10 ∷ []))

-- words with a space between two
abbrev pub between : List (List ℕ) → List ℕ
between [] = []
between (w ∷ []) = w
between (w ∷ next ∷ words) = w ++ (32 ∷ between (next ∷ words))

-- ---- the line of an entry: the first group has two or three vertices, and at most one group of two comes after it

-- the counts of two vertices or of three
abbrev pub TwoOrThree : List ℕ → Type 0
TwoOrThree e = (2 ≤ length e) × (length e ≤ 3)

-- the indices of a group
abbrev pub name_text : List ℕ → List ℕ
name_text e = between (map decimal (named e))

-- a number of the group after the first, by its dimension; 0 is that of no group
abbrev pub later_text : ℕ → ℕ → List ℕ
later_text zero n = []
later_text (suc d) n = 32 ∷ decimal n

-- e are the counts of the first group, and l is the index of the group after it
abbrev pub entry_text : List ℕ → ℕ → ℕ → List ℤ → List ℕ
entry_text e later l numbers = name_text e ++ (later_text later l ++ numbers_text numbers)

-- ---- the order of the entries

-- the counts of a group of dimension 1 or 2: i of the first vertex, j of the second and k of the third
abbrev pub counts_at : ℕ → ℕ → ℕ → ℕ → List ℕ
counts_at n i j k = take (suc n) (i ∷ j ∷ k ∷ [])

-- row h: the vertices after the first are taken h times together, and this is how often the third is at most; two vertices leave no third
abbrev pub last_of : ℕ → ℕ → ℕ
last_of zero h = 0
last_of (suc zero) h = 0
last_of (suc (suc n)) h = h

-- the lines of the entries with the counts e of the first group, in the order of the groups after it
abbrev pub lines_under : List ℕ → List Group → List ℤ → List ℕ
lines_under e later numbers = entry_lines (map (λ es. e ∷ es) (counts_over later)) numbers

-- the counts of the first group in row h, k rising
abbrev pub row_of : ℕ → ℕ → ℕ → List (List ℕ)
row_of n m h = map (λ k. counts_at n (m - h) (h - k) k) (upto (suc (last_of n h)))

-- the lines of its entries
abbrev pub row_lines : Head → ℕ → List ℤ → List ℕ
row_lines head h numbers = entry_lines (pairs (row_of (dimension_of head.kind) head.degree h) (counts_over (later_groups head.kind head.second))) numbers

-- ---- a net in lent places

-- a net stands in the places, and no list of calls leaves one that is refused as handed
pub record Stands (lent : List ℤ) : Type 0 where
  pub long : length lent ≡ 193
  pub handed : (calls : List Call) → first_failed (handed_tests (after step_of (net_at lent) calls)) ≡ 0

-- the calls are made: the net that they leave stands in the places
pub record Made (calls : List Call) (lent left : List ℤ) : Type 0 where
  pub net : net_at left ≡ after step_of (net_at lent) calls
  pub stands : Stands left

-- one call is made: its number, 0 where it is taken, and the net that it leaves
pub record Answered (call : Call) (lent left : List ℤ) (number : ℕ) : Type 0 where
  pub numbered : number ≡ refusal_number (step_of (net_at lent) call).answer
  pub made : Made (call ∷ []) lent left

-- the lines of all moves, and the line of the point
abbrev pub moves_text : List ℤ → List ℕ → List ℕ
moves_text lent value = move_lines 1 (answers step_of (net_at lent) (moves_of value))

abbrev pub point_text : List ℤ → List ℕ → List ℕ
point_text lent value = joined point_line (answers step_of (net_at lent) (point_of value))

-- ---- the text of an accepted record as the net machine answers it

abbrev pub net_head : Net → List ℕ
net_head net = head_line net.kind net.degree net.second

unfoldable pub net_text : Net → List Call → List Call → List ℕ
net_text net moves points =
    let reached = after step_of net moves in
    net_head net
    ++ (move_lines 1 (answers step_of net moves) ++ (net_lines reached ++ joined point_line (answers step_of reached points)))
