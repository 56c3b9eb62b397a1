-- No text that netprint writes is longer than 4183 bytes. A line is as long as its words with one more byte for each, so a bound on every word bounds the line;
-- and there are at most 32 lines of moves, one of a frame, 45 of entries and one of a point after the first.
use Prim.Native.Nat.{ℕ, zero, suc, ◌+◌, ◌*◌, ◌^◌, ◌≤◌, ◌<◌}
use native.Mathlib.Nat.{suc-mul, add-mul, min-le_left, mul-le-mul, le_trans}
use native.Mathlib.Omega.{arith}
use mathlib.Core.Path.{◌≡◌, refl, sym, ap, ◌∙◌, subst}
use mathlib.Core.Bool.{Bool, true, false, ◌&&◌, cond}
use mathlib.Core.List.{List, [], ◌∷◌, ◌++◌, map, Memᴰ, map-append}
use borrow.Author.Tests.{leb-true, ne_eqb}
use lib.Dec.{leb, lit≤}
use lib.IntN.{ℤ, pos, nat_abs}
use lib.ListN.{length, take, drop, length-append, length-take, take-append-drop}
use lib.Signed.{quot_z}
use lib.Ieee.{binary64, to_bits}
use Rattle.integers.specs.Test.{all}
use Rattle.integers.proofs.All.{and_parts, all_append}
use Rattle.polar.specs.Order.{joined, total}
use Rattle.polar.specs.Groups.{Group, counts_over}
use Rattle.polar.specs.Scale.{product}
use Rattle.entries.proofs.Groups.{Counted}
use Rattle.entries.proofs.ListedOver.{counts-over}
use Rattle.projection.specs.Projection.{limit, in_range, all_in_range, is_zero, all_zero, is_negative, first_nonzero, negated_if, gcd_of, coords_of, direction_of, projection_by, projection_of, Four, is_four_zeros, without_length, found_projection}
use Rattle.projection.specs.declared.Coords.{Coords}
use Rattle.projection.specs.declared.Projection.TheVariants.{Finite}
use Rattle.projection.proofs.Gcd.{gcd-up-to}
use Rattle.projection.proofs.Signed.{within, nat_abs-negated, quot-small}
use Rattle.kinds.specs.Kinds.{groups_of, dimension_of, later_groups, known}
use Rattle.kinds.specs.Frames.{Frames, numbers_of}
use Rattle.kinds.specs.Scales.{scale_of, scale_row, at_degree, row_number}
use Rattle.kinds.proofs.Limits.{by-known}
use Rattle.kinds.proofs.Counts.{entries_fit, frame-few}
use Rattle.kinds.proofs.Frames.{length-numbers}
use Rattle.kinds.proofs.Scales.{up-to, scale-read, row_low}
use Rattle.machine.specs.Refusals.{Test, ◌else◌, first_failed}
use Rattle.machine.specs.Calls.{own_tests}
use Rattle.machine.specs.Sizes.{before_size, call_tests}
use Rattle.machine.specs.Steps.{refusal_number, found_at, step_by, after, answers}
use Rattle.machine.specs.Nets.{Net, net_groups, net_in_range}
use Rattle.machine.specs.Comparison.{Polynomials, groups, machine_tests, machine_accepted, machine_step, net_over}
use Rattle.machine.specs.declared.Call.{Call}
use Rattle.machine.specs.declared.Call.TheVariants as call
use Rattle.machine.proofs.Over.{Reached}
use Rattle.machine.proofs.Demand3.{along}
use Rattle.text.specs.Words.{decimal, signed_decimal, line}
use Rattle.text.specs.Text.{word, refused_line, head_line, move_line, move_lines, named, indices, entry_line, entry_lines, frame_line, net_lines, point_refused_line, coordinate_word, projection_line, point_line, accepted_text}
use Rattle.text.specs.Longest.{longest_text}
use Rattle.text.proofs.Decimal.{length-decimal, length-u64, length-component, length-hex_bits}

-- ---- a line by its words

-- the bytes of the words, one more after each
abbrev spaced : List (List ℕ) → ℕ
spaced [] = 0
spaced (w ∷ ws) = suc (length w) + spaced ws

line-spaced : (w : List ℕ) (ws : List (List ℕ)) → length (line (w ∷ ws)) ≡ spaced (w ∷ ws)
unfolding line
line-spaced w [] = omega (arith, length-append w (10 ∷ []))
line-spaced w (next ∷ ws) = omega (arith, length-append w (32 ∷ line (next ∷ ws)), line-spaced next ws)

-- a line with no word is its line feed
line-room : (n : ℕ) (ws : List (List ℕ)) → spaced ws ≤ n → 1 ≤ n → length (line ws) ≤ n
unfolding line
line-room n [] h one = one
line-room n (w ∷ ws) h one = omega (arith, line-spaced w ws)

spaced-append : (a b : List (List ℕ)) → spaced (a ++ b) ≡ spaced a + spaced b
spaced-append [] b = omega arith
spaced-append (w ∷ a) b = omega (arith, spaced-append a b)

-- ---- a refused record

pub refused-room : (number offset : ℕ) → number < 256 → offset < 2 ^ 64
    → length (refused_line number offset) ≤ longest_text
unfolding refused_line
refused-room number offset small fits =
    let n = length-decimal number 3 (omega arith) (omega arith) in
    let o = length-u64 offset fits in
    let words = word "refused" ∷ decimal number ∷ word "at" ∷ decimal offset ∷ [] in
    line-room longest_text words (omega arith) (omega arith)

-- ---- the first line

-- no scale has more than four digits: the numbers of a row, or two of the first five of the row of dimension 1
scale-few : (kind degree second : ℕ) → known kind degree second ≡ true → scale_of kind degree second ≤ 2520
scale-few kind degree second h =
    subst (λ n. n ≤ 2520) (sym (scale-read kind degree second h))
    (by-known (λ k p q. at_degree (scale_row (dimension_of k)) p * product (map row_number (later_groups k q)) ≤ 2520)
    (λ p m. omega (arith, row_low 1 p)) (λ p m. omega (arith, row_low 2 p)) (λ p q m n. two p q m.high n.high) kind degree second h)
  where
    small : (m : ℕ) → m < 6 → at_degree (scale_row 1) m ≤ 12
    small = up-to 12 (at_degree (scale_row 1)) 6 refl

    two : (p q : ℕ) → p ≤ 5 → q ≤ 5 → at_degree (scale_row 1) p * (at_degree (scale_row 1) q * 1) ≤ 2520
    two p q a b =
        let first = small p (omega arith) in
        let second : at_degree (scale_row 1) q * 1 ≤ 12 = omega (arith, small q (omega arith)) in
        le_trans (mul-le-mul first second) (lit≤ tt)

-- a word, degrees and a scale
words-room : (w : List ℕ) (degrees : List (List ℕ)) (scale : ℕ) → length w + spaced degrees ≤ 8 → scale ≤ 2520 → length (line (w ∷ (degrees ++ (decimal scale ∷ [])))) ≤ 14
words-room w degrees scale short most =
    let s = length-decimal scale 4 (omega arith) (omega arith) in
    line-room 14 (w ∷ (degrees ++ (decimal scale ∷ []))) (omega (arith, spaced-append degrees (decimal scale ∷ []))) (omega arith)

-- one degree of at most two digits, or two of one digit after a shorter word
head-room : (kind degree second : ℕ) → known kind degree second ≡ true → length (head_line kind degree second) ≤ 14
unfolding head_line
head-room kind degree second h =
    by-known (λ k p q. scale_of k p q ≤ 2520 → length (head_line k p q) ≤ 14)
    (λ p m. words-room (word "curve") (decimal p ∷ []) (scale_of 1 p 0) (omega (arith, length-decimal p 2 (omega (arith, m.high)) (omega arith))))
    (λ p m. words-room (word "patch") (decimal p ∷ []) (scale_of 2 p 0) (omega (arith, length-decimal p 1 (omega (arith, m.high)) (omega arith))))
    (λ p q m n.
    words-room (word "rect") (decimal p ∷ decimal q ∷ []) (scale_of 3 p q)
    (omega (arith, length-decimal p 1 (omega (arith, m.high)) (omega arith), length-decimal q 1 (omega (arith, n.high)) (omega arith))))
    kind degree second h (scale-few kind degree second h)

-- ---- a call's refusal is a number of the table up to 12

-- no row of a table has a number above n
abbrev up_to : ℕ → List Test → Bool
up_to n [] = true
up_to n (test else k ∷ tests) = leb k n && up_to n tests

first-up : (n : ℕ) (tests : List Test) → up_to n tests ≡ true → first_failed tests ≤ n
first-up n [] h = omega arith
first-up n (true else k ∷ tests) h = first-up n tests (and_parts (leb k n) (up_to n tests) h).1
first-up n (false else k ∷ tests) h = leb-true k n (and_parts (leb k n) (up_to n tests) h).0

refusal-small : (f : Polynomials) (frames : Frames) (c : Call) → first_failed (machine_tests f frames c) ≤ 12
unfolding machine_tests call_tests before_size own_tests
refusal-small f frames (call.Move operation vertex weights) = first-up 12 (machine_tests f frames (call.Move operation vertex weights)) refl
refusal-small f frames (call.Point weights) = first-up 12 (machine_tests f frames (call.Point weights)) refl

-- ---- the moves

move-room : (k number : ℕ) → k < 100 → number ≤ 12 → length (move_line k number) ≤ 19
unfolding move_line
move-room k zero h small = omega arith
move-room k (suc number) h small =
    let i = length-decimal k 2 (omega arith) (omega arith) in
    let n = length-decimal (suc number) 2 (omega arith) (omega arith) in
    line-room 19 (word "move" ∷ decimal k ∷ word "refused" ∷ decimal (suc number) ∷ []) (omega arith) (omega arith)

-- an answer has the number of the refusal, and that of an accepted call has none
number_small : (j : ℕ) (f : Polynomials) (frames : Frames) (c : Call) → j ≤ 12 → refusal_number (step_by j frames (machine_accepted f frames c)).answer ≤ 12
unfolding step_by machine_accepted found_at
number_small zero f frames (call.Move operation vertex weights) h = h
number_small zero f frames (call.Point weights) h = h
number_small (suc j) f frames c h = h

moves-room : (f : Polynomials) (frames : Frames) (k : ℕ) (calls : List Call) → k + length calls ≤ 100 → length (move_lines k (answers (machine_step f) frames calls)) ≤ length calls * 19
unfolding move_lines answers machine_step
moves-room f frames k [] h = omega arith
moves-room f frames k (c ∷ cs) h =
    let step = machine_step f frames c in
    let first = move-room k (refusal_number step.answer) (omega arith) (number_small (first_failed (machine_tests f frames c)) f frames c (refusal-small f frames c)) in
    let rest = moves-room f step.left (suc k) cs (omega arith) in
    omega (arith, length-append (move_line k (refusal_number step.answer)) (move_lines (suc k) (answers (machine_step f) step.left cs)))

-- ---- an entry

-- no count is longer in base ten than their total may be
counts-room : (k : ℕ) (e : List ℕ) → total e < 10 ^ k → 0 < k → spaced (map decimal e) ≤ length e * suc k
counts-room k [] below some = omega arith
counts-room k (i ∷ e) below some =
    let first = length-decimal i k (omega arith) some in
    let rest = counts-room k e (omega arith) some in
    omega (arith, suc-mul (length e) (suc k))

-- how many indices a group has, by its dimension, and how many all groups have
abbrev index_count : ℕ → ℕ
index_count zero = 1
index_count (suc zero) = 1
index_count (suc (suc n)) = suc (suc (suc n))

abbrev index_counts : List Group → ℕ
index_counts [] = 0
index_counts (g ∷ gs) = index_count g.dimension + index_counts gs

-- no degree has more than k digits
abbrev Below : ℕ → List Group → Type 0
Below k [] = Unit {0}
Below k (g ∷ gs) = (g.degree < 10 ^ k) × Below k gs

-- group after group
indices-spaced : (e : List ℕ) (es : List (List ℕ)) → spaced (map decimal (indices (e ∷ es))) ≡ spaced (map decimal (named e)) + spaced (map decimal (indices es))
indices-spaced e es = ap spaced (map-append decimal (named e) (indices es)) ∙ spaced-append (map decimal (named e)) (map decimal (indices es))

module _ (k : ℕ) (some : 0 < k) where
  all_room : (n : ℕ) (e : List ℕ) → length e ≡ suc n → (suc n ≡ 2 → ⊥) → total e < 10 ^ k → spaced (map decimal (named e)) ≤ suc n * suc k
  all_room n e h other below =
      subst (λ b. spaced (map decimal (cond b (drop 1 e) e)) ≤ suc n * suc k) (sym (ne_eqb (length e) 2 (λ two. other (sym h ∙ two))))
      (subst (λ m. spaced (map decimal e) ≤ m * suc k) h (counts-room k e below some))

  -- the second of two counts, or all
  named-room : (n : ℕ) (e : List ℕ) → length e ≡ suc n → total e < 10 ^ k → spaced (map decimal (named e)) ≤ index_count n * suc k
  named-room zero e h below = all_room 0 e h (λ two. omega arith) below
  named-room (suc zero) [] h below = absurd (omega arith)
  named-room (suc zero) (i ∷ []) h below = absurd (omega arith)
  named-room (suc zero) (i ∷ j ∷ []) h below = omega (arith, counts-room k (j ∷ []) (omega arith) some)
  named-room (suc zero) (i ∷ j ∷ x ∷ e) h below = absurd (omega arith)
  named-room (suc (suc n)) e h below = all_room (suc (suc n)) e h (λ two. omega arith) below

  names-room : (gs : List Group) (es : List (List ℕ)) → Below k gs → Counted gs es → spaced (map decimal (indices es)) ≤ index_counts gs * suc k
  names-room [] [] small counted = omega arith
  names-room [] (e ∷ es) small counted = absurd counted
  names-room (g ∷ gs) [] small counted = absurd counted
  names-room (g ∷ gs) (e ∷ es) small counted =
      omega (
        arith,
        indices-spaced e es,
        named-room g.dimension e counted.0 (subst (λ m. m < 10 ^ k) (sym counted.1) small.0),
        names-room gs es small.1 counted.2,
        add-mul (index_count g.dimension) (index_counts gs) (suc k),
      )

-- one number of at most two digits, three of one digit, or two of one digit
indices-room : (kind degree second : ℕ) → known kind degree second ≡ true → (es : List (List ℕ)) → Counted (groups_of kind degree second) es → spaced (map decimal (indices es)) ≤ 6
indices-room kind degree second h es =
    by-known (λ k p q. Counted (groups_of k p q) es → spaced (map decimal (indices es)) ≤ 6)
    (λ p m counted. le_trans (names-room 2 (lit≤ tt) (groups_of 1 p 0) es (omega (arith, m.high), tt) counted) (lit≤ tt))
    (λ p m counted. le_trans (names-room 1 (lit≤ tt) (groups_of 2 p 0) es (omega (arith, m.high), tt) counted) (lit≤ tt))
    (λ p q m n counted. le_trans (names-room 1 (lit≤ tt) (groups_of 3 p q) es (omega (arith, m.high), (omega (arith, n.high), tt)) counted) (lit≤ tt))
    kind degree second h

-- sixteen bytes and a space for each number in range
numbers-room : (xs : List ℤ) → all in_range xs ≡ true → spaced (map signed_decimal xs) ≤ length xs * 17
numbers-room [] h = omega arith
numbers-room (x ∷ xs) h =
    let both = and_parts (in_range x) (all in_range xs) h in
    let first = length-component x (leb-true (nat_abs x) limit both.0) in
    let rest = numbers-room xs both.1 in
    omega arith

entry-room : (kind degree second : ℕ) → known kind degree second ≡ true → (es : List (List ℕ)) → Counted (groups_of kind degree second) es
    → (xs : List ℤ) → length xs ≤ 4 → all in_range xs ≡ true → length (entry_line es xs) ≤ 74
unfolding entry_line
entry-room kind degree second h es counted xs four fits =
    let i = indices-room kind degree second h es counted in
    let n = numbers-room xs fits in
    line-room 74 (map decimal (indices es) ++ map signed_decimal xs) (omega (arith, spaced-append (map decimal (indices es)) (map signed_decimal xs))) (omega arith)

-- ---- the net

-- the next four numbers are in range, and so are those after them
next-four : (xs : List ℤ) → all in_range xs ≡ true → (all in_range (take 4 xs) ≡ true) × (all in_range (drop 4 xs) ≡ true)
next-four xs h =
    and_parts (all in_range (take 4 xs)) (all in_range (drop 4 xs)) (sym (all_append in_range (take 4 xs) (drop 4 xs)) ∙ ap (all in_range) (take-append-drop 4 xs) ∙ h)

entries-room : (kind degree second : ℕ) → known kind degree second ≡ true → (ess : List (List (List ℕ)))
    → ((es : List (List ℕ)) → Memᴰ es ess → Counted (groups_of kind degree second) es) → (xs : List ℤ) → all in_range xs ≡ true
    → length (entry_lines ess xs) ≤ length ess * 74
unfolding entry_lines
entries-room kind degree second h [] each xs fits = omega arith
entries-room kind degree second h (es ∷ ess) each xs fits =
    let both = next-four xs fits in
    let four : length (take 4 xs) ≤ 4 = subst (λ k. k ≤ 4) (sym (length-take 4 xs)) (min-le_left 4 (length xs)) in
    let first = entry-room kind degree second h es (each es (Memᴰ.head refl)) (take 4 xs) four both.0 in
    let rest = entries-room kind degree second h ess (λ x m. each x (Memᴰ.tail m)) (drop 4 xs) both.1 in
    omega (arith, length-append (entry_line es (take 4 xs)) (entry_lines ess (drop 4 xs)))

-- nine numbers of a frame at most
frame-room : (net : Net) → length (numbers_of net.frames) ≤ 9 → all in_range (numbers_of net.frames) ≡ true → length (frame_line net) ≤ 159
unfolding frame_line
frame-room net nine near =
    let n = numbers-room (numbers_of net.frames) near in
    line-room 159 (word "frame" ∷ map signed_decimal (numbers_of net.frames)) (omega arith) (omega arith)

-- and 45 entries
net-room : (net : Net) → known net.kind net.degree net.second ≡ true → net_in_range net ≡ true → length (numbers_of net.frames) ≤ 9 → all in_range (numbers_of net.frames) ≡ true
    → length (net_lines net) ≤ 3489
unfolding net_lines
net-room net right fits nine near =
    let entries = entry_lines (counts_over (net_groups net)) net.entries in
    omega (
      arith,
      length-append (frame_line net) entries,
      frame-room net nine near,
      entries_fit net.kind net.degree net.second right,
      entries-room net.kind net.degree net.second right (counts_over (net_groups net)) (counts-over (net_groups net)) net.entries fits,
    )

-- ---- the point

refused-point-room : (number : ℕ) → number ≤ 12 → length (point_refused_line number) ≤ 72
unfolding point_refused_line
refused-point-room number small =
    let n = length-decimal number 2 (omega arith) (omega arith) in
    line-room 72 (word "point" ∷ word "refused" ∷ decimal number ∷ []) (omega arith) (omega arith)

-- a number of a direction is no longer than the component that it comes from may be, and neither is the length
reduced-room : (b : Bool) (v d : ℤ) → nat_abs v ≤ limit → length (signed_decimal (negated_if b (quot_z v d))) ≤ 16
reduced-room b v d h = length-component (negated_if b (quot_z v d)) (omega (arith, nat_abs-negated b (quot_z v d), quot-small v d))

direction-room : (x y z n : ℤ) → nat_abs x ≤ limit → nat_abs y ≤ limit → nat_abs z ≤ limit → nat_abs n ≤ limit
    → let d = direction_of x y z in
    length (line (word "far" ∷ signed_decimal d.x ∷ signed_decimal d.y ∷ signed_decimal d.z ∷ signed_decimal n ∷ [])) ≤ 72
unfolding direction_of
direction-room x y z n a b c h =
    let g = pos (gcd_of x y z) in
    let negative = is_negative (first_nonzero x y z) in
    line-room 72
    (word "far" ∷ signed_decimal (negated_if negative (quot_z x g)) ∷ signed_decimal (negated_if negative (quot_z y g)) ∷ signed_decimal (negated_if negative (quot_z z g)) ∷ signed_decimal n ∷ [])
    (omega (arith, reduced-room negative x g a, reduced-room negative y g b, reduced-room negative z g c, length-component n h))
    (omega arith)

finite-room : (p : Coords) → length (projection_line (Finite p)) ≤ 72
unfolding projection_line
finite-room p =
    line-room 72 (word "at" ∷ coordinate_word p.x ∷ coordinate_word p.y ∷ coordinate_word p.z ∷ [])
    (omega (arith, length-hex_bits (to_bits binary64 p.x), length-hex_bits (to_bits binary64 p.y), length-hex_bits (to_bits binary64 p.z)))
    (omega arith)

-- a found point, whether a direction has a length of its own or not
left-room : (p left : Four) → length (projection_line (found_projection p left)) ≤ 72
unfolding found_projection projection_of projection_by projection_line direction_of
left-room p left = by (is_four_zeros p) (all_in_range x y z w) (is_zero w) (all_zero x y z) refl
  where
    x : ℤ
    x = left.x

    y : ℤ
    y = left.y

    z : ℤ
    z = left.z

    w : ℤ
    w = left.w

    by : (e a b c : Bool) → all_in_range x y z w ≡ a → length (projection_line (cond e (without_length (projection_by a b c x y z w)) (projection_by a b c x y z w))) ≤ 72
    by true false b c h = refused-point-room 10 (omega arith)
    by true true false c h = finite-room (coords_of x y z w)
    by true true true false h = let in-range = within x y z w h in direction-room x y z (pos 1) in-range.0 in-range.1 in-range.2 (lit≤ tt)
    by true true true true h = line-room 72 (word "nowhere" ∷ []) (omega arith) (omega arith)
    by false false b c h = refused-point-room 10 (omega arith)
    by false true false c h = finite-room (coords_of x y z w)
    by false true true false h =
        let in-range = within x y z w h in
        direction-room x y z (pos (gcd_of x y z)) in-range.0 in-range.1 in-range.2 (gcd-up-to limit (nat_abs x ∷ nat_abs y ∷ nat_abs z ∷ []) (in-range.0, (in-range.1, (in-range.2, tt))))
    by false true true true h = line-room 72 (word "nowhere" ∷ []) (omega arith) (omega arith)

point-room : (j : ℕ) (f : Polynomials) (frames : Frames) (c : Call) → j ≤ 12 → length (point_line (step_by j frames (machine_accepted f frames c)).answer) ≤ 72
unfolding step_by machine_accepted found_at point_line
point-room zero f frames (call.Move operation vertex weights) h = omega arith
point-room zero f frames (call.Point weights) h = left-room _ _
point-room (suc j) f frames c h = refused-point-room (suc j) h

points-room : (f : Polynomials) (frames : Frames) (calls : List Call) → length (joined point_line (answers (machine_step f) frames calls)) ≤ length calls * 72
unfolding answers machine_step
points-room f frames [] = omega arith
points-room f frames (c ∷ cs) =
    let step = machine_step f frames c in
    let first = point-room (first_failed (machine_tests f frames c)) f frames c (refusal-small f frames c) in
    let rest = points-room f step.left cs in
    omega (arith, length-append (point_line step.answer) (joined point_line (answers (machine_step f) step.left cs)))

-- ---- the whole text

reached-net-room : (f : Polynomials) (frames : Frames) → Reached f frames → length (net_lines (net_over f frames)) ≤ 3489
unfolding net_over
reached-net-room f frames at =
    let nine : length (numbers_of frames) ≤ 9 = omega (arith, length-numbers (groups f) frames at.long, frame-few f.kind f.degree f.second) in
    net-room (net_over f frames) at.right at.fits nine at.near

-- 14 + 608 + 159 + 3330 + 72 bytes at most
pub accepted-room : (f : Polynomials) (frames : Frames) → Reached f frames → (moves points : List Call) → length moves ≤ 32 → length points ≤ 1
    → length (accepted_text f frames moves points) ≤ longest_text
unfolding accepted_text
accepted-room f frames at moves points some one =
    let reached = after (machine_step f) frames moves in
    let head = head_line f.kind f.degree f.second in
    let told = move_lines 1 (answers (machine_step f) frames moves) in
    let net = net_lines (net_over f reached) in
    let point = joined point_line (answers (machine_step f) reached points) in
    let a = head-room f.kind f.degree f.second at.right in
    let b = moves-room f frames 1 moves (omega arith) in
    let c = reached-net-room f reached (along f frames at moves).reached in
    let d = points-room f reached points in
    omega (arith, length-append head (told ++ (net ++ point)), length-append told (net ++ point), length-append net point)
