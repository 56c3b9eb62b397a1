-- What the code makes of a call that is not refused for its arguments is what the definition says. Seen from the first group the net is one of rows (FirstMoves.antt), from the second
-- it is in parts (LaterMoves.antt); the size rule, the entries left and the point are those of the rows and of the parts.
use Prim.Native.Nat.{ℕ, suc, pred, ◌+◌, ◌*◌, ◌-◌, ◌≤◌, ◌<◌}
use native.Mathlib.Nat.{zero-add, le_trans, le_of_eq, le-mul_of_pos_right, mul-suc, mul-le-mul_left}
use native.Mathlib.Numerals.{add-one}
use native.Mathlib.Omega.{arith}
use native.Mathlib.Decide.{dec_le}
use mathlib.Core.Path.{◌≡◌, refl, sym, ap, ap₂, ◌∙◌, subst}
use mathlib.Core.Bool.{Bool, true, false, ◌&&◌, cond}
use mathlib.Core.List.{List, [], ◌∷◌, ◌++◌, append-nil}
use lib.Dec.{leb, lit≤}
use borrow.Author.Tests.{leb-true}
use lib.IntN.{ℤ, pos, nat_abs}
use lib.ListN.{length, get_or, take, drop}
use lib.Seq.{take_all, drop-length}
use Rattle.integers.specs.Test.{within, all}
use Rattle.integers.specs.Sum.{upto}
use Rattle.integers.proofs.Sums.{upto-below}
use Rattle.integers.proofs.All.{and_parts, all_first, all_map, all-cong}
use Rattle.polar.specs.Order.{joined, counts}
use Rattle.polar.specs.Groups.{Group, counts_over}
use Rattle.projection.specs.Projection.{in_range}
use Rattle.entries.specs.Entries.{number_count}
use Rattle.entries.specs.Rows.{entry_at, listed, size, replaced, flipped}
use Rattle.entries.proofs.Lengths.{length-one}
use Rattle.entries.proofs.ListedOver.{length-listed-over}
use Rattle.kinds.specs.Kinds.{group, dimension_of, later_groups, later_dimension, known}
use Rattle.kinds.specs.Frames.{vertex_count}
use Rattle.machine.specs.Refusals.{◌else◌, first_failed}
use Rattle.machine.proofs.Refusals.{test_at, row-passes}
use Rattle.machine.specs.Calls.{weight_list, own_tests}
use Rattle.machine.specs.Sizes.{named_by, all_named}
use Rattle.machine.specs.Nets.{net_groups, net_polar, handed_tests, entries_after, accepted}
use Rattle.machine.specs.Lent.{put_at, unless_refused}
use Rattle.machine.specs.declared.Weights.{Weights}
use Rattle.machine.specs.declared.Call.{Call}
use Rattle.machine.specs.declared.Call.TheVariants.{Move}
use Rattle.kinds.specs.Heads.{head_groups}
use Rattle.kinds.specs.declared.Head.{Head}
use Rattle.nets.specs.Rows.{weight_sum, Sized}
use Rattle.nets.specs.Levels.{all_named_at, replaced_list, Descends, Replaces}
use Rattle.nets.specs.Flips.{flipped_list, InRange, Flips}
use Rattle.nets.specs.Parts.{part_at, parts_of, in_parts, Parts, PartsReplaced, AllOrNone}
use Rattle.nets.specs.Calls.{net_from, InOrder, size_test, Stepped}
use Rattle.kinds.proofs.Limits.{groups-of, later-none, later-one, pairs-only}
use Rattle.kinds.proofs.Counts.{row-size, known-size, size_fits}
use Rattle.nets.proofs.FirstMoves.{known-sized, size_by, moved_by, replace-size, replace-moved, flip-size, flip-moved}
use Rattle.nets.proofs.LaterMoves.{later-size, later-moved}
use Rattle.nets.proofs.Parts.{part-long, drop-take-part, joined-upto}
use Rattle.nets.proofs.Steps.{handed-passed, arguments-passed}

-- ---- weights within their limit

pub light : (w : Weights) → all (within 4096) (weight_list w) ≡ true → (weight_sum w ≤ 12288) × (nat_abs w.t + nat_abs w.u ≤ 12288)
light w h =
    let r = and_parts (within 4096 w.r) (within 4096 w.s && (within 4096 w.t && (within 4096 w.u && true))) h in
    let s = and_parts (within 4096 w.s) (within 4096 w.t && (within 4096 w.u && true)) r.1 in
    let t = and_parts (within 4096 w.t) (within 4096 w.u && true) s.1 in
    let u = and_parts (within 4096 w.u) true t.1 in
    let third = leb-true (nat_abs w.t) 4096 t.0 in
    (omega (arith, leb-true (nat_abs w.r) 4096 r.0, leb-true (nat_abs w.s) 4096 s.0, third), omega (arith, third, leb-true (nat_abs w.u) 4096 u.0))

-- ---- a handed net that is not refused

pub handed-known : (head : Head) (places : List ℤ) → first_failed (handed_tests (net_from head places)) ≡ 0 → known head.kind head.degree head.second ≡ true
unfolding handed_tests
handed-known head places passed = row-passes (handed_tests (net_from head places)) (handed-passed (net_from head places) passed) 0

-- ---- a call in order

-- the first group, and the numbers of a row
abbrev pub row_numbers : ℕ → ℕ → ℕ
row_numbers kind second = number_count (later_groups kind second)

-- without a second group a row has four
pub row-of-four : (kind second : ℕ) → later_dimension kind ≡ 0 → row_numbers kind second ≡ 4
unfolding counts_over
row-of-four kind second none = ap number_count (later-none kind second none)

-- and so where the first group has three vertices
pub row-of-three : (kind second : ℕ) → dimension_of kind ≡ 2 → row_numbers kind second ≡ 4
row-of-three kind second three = by (dec_le (later_dimension kind) 0)
  where
    by : Dec (later_dimension kind ≤ 0) → row_numbers kind second ≡ 4
    by (yes p) = row-of-four kind second (omega arith)
    by (no p) = let two = (pairs-only kind (λ none. p (le_of_eq none))).1 in absurd (omega arith)

module _ {head : Head} {places : List ℤ} {call : Call} (ordered : InOrder head places call) where
  abbrev pub n : ℕ
  n = dimension_of head.kind

  abbrev pub w : ℕ
  w = row_numbers head.kind head.second

  abbrev pub over : List Group
  over = group n head.degree ∷ later_groups head.kind head.second

  abbrev pub used : List ℤ
  used = take (size w n head.degree) places

  pub right : known head.kind head.degree head.second ≡ true
  right = handed-known head places ordered.net-passes

  pub groups-are : head_groups head ≡ over
  groups-are = groups-of head.kind head.degree head.second right

  pub entries-used : (net_from head places).entries ≡ used
  entries-used = ap (λ k. take k places) (known-size head.kind head.degree head.second right)

  -- what the functions on rows ask for
  pub net-count : number_count (head_groups head) ≡ size w n head.degree
  net-count = known-size head.kind head.degree head.second right

  pub net-sized : Sized w n head.degree
  net-sized = known-sized head.kind head.degree head.second right

  pub net-long : size w n head.degree ≤ length places
  net-long = subst (λ k. size w n head.degree ≤ k) (sym ordered.long) (size_fits head.kind head.degree head.second right)

  pub net-ranged : all in_range used ≡ true
  unfolding handed_tests
  net-ranged = ap (all in_range) (sym entries-used) ∙ row-passes (handed_tests (net_from head places)) (handed-passed (net_from head places) ordered.net-passes) 1

  pub net-each : InRange places 0 (size w n head.degree)
  net-each i low below =
      leb-true (nat_abs (get_or places i (pos 0))) 281474976710656
      (all_first in_range (size w n head.degree) places net-ranged i below (let room = net-long in omega arith))

  pub row_in : (i : ℕ) → test_at (own_tests (head_groups head) call) i ≡ true
  row_in = row-passes (own_tests (head_groups head) call) (arguments-passed (head_groups head) call ordered.call_passes)

  -- the size rule decides
  size_is : all_named (named_by (net_groups (net_from head places)) call) (net_polar (net_from head places) call) ≡ size_by over call used
  unfolding net_polar
  size_is = ap₂ (λ g xs. size_by g call xs) groups-are entries-used

  pub number_by : (b : Bool) → size_by over call used ≡ b → first_failed (size_test (net_from head places) call) ≡ first_failed (b else 10 ∷ [])
  number_by b h = ap (λ t. first_failed (t else 10 ∷ [])) (size_is ∙ h)

  -- ---- the head.second group's parts of the entries

  module _ (some : later_dimension head.kind ≡ 0 → ⊥) where
    abbrev l : ℕ
    l = later_dimension head.kind

    pub part-size : size 4 l head.second ≡ w
    unfolding counts_over
    part-size = sym (ap number_count (later-one head.kind head.second some) ∙ row-size l head.second [])

    entries-first : length (counts n head.degree) ≡ head.degree + 1
    entries-first = ap (λ d. length (counts d head.degree)) (pairs-only head.kind some).1 ∙ length-one head.degree ∙ sym (add-one head.degree)

    all-parts : size 4 l head.second * (head.degree + 1) ≡ size w n head.degree
    all-parts = ap₂ ◌*◌ part-size (sym entries-first)

    pub later-sized : Sized 4 l head.second
    later-sized =
        let one = (pairs-only head.kind some).0 in
        record {
          some = lit≤ tt;
          low = subst (λ d. 1 ≤ d) (sym one) (lit≤ tt);
          high = subst (λ d. d ≤ 2) (sym one) (lit≤ tt);
          room = subst (λ k. k ≤ 180) (sym part-size) (le_trans (le-mul_of_pos_right w (subst (λ k. 0 < k) (sym entries-first) (omega arith))) (size_fits head.kind head.degree head.second right));
        }

    pub net-parts : Parts l head.second (head.degree + 1) places
    net-parts =
        record {
          sized = later-sized;
          room = subst (λ k. k ≤ 180) (sym all-parts) (size_fits head.kind head.degree head.second right);
          long = subst (λ k. k ≤ length places) (sym all-parts) net-long;
          range = ap (λ k. all in_range (take k places)) all-parts ∙ net-ranged;
        }

    -- a part of the entries in use
    part-used : (j : ℕ) → j < head.degree + 1 → part_at w used j ≡ part_at (size 4 l head.second) places j
    part-used j h =
        drop-take-part (size w n head.degree) (w * j) w places inside
        ∙ ap (λ k. part_at k places j) (sym part-size)
      where
        inside : w * j + w ≤ size w n head.degree
        inside = let up = mul-le-mul_left w (subst (λ k. j < k) (sym entries-first) h) in omega (arith, up, mul-suc w j)

-- ---- a move

module _ {head : Head} {places : List ℤ} {operation vertex : ℕ} {weights : Weights} (ordered : InOrder head places (Move operation vertex weights)) where
  pub move-light : weight_sum weights ≤ 12288
  unfolding own_tests
  move-light = (light weights (row_in ordered 2)).0

  vertex-in : (1 ≤ vertex) × (vertex ≤ vertex_count (over ordered))
  unfolding own_tests
  vertex-in =
      let both = and_parts (leb 1 vertex) (leb vertex (vertex_count (head_groups head))) (row_in ordered 1) in
      (leb-true 1 vertex both.0, subst (λ gs. vertex ≤ vertex_count gs) (groups-are ordered) (leb-true vertex (vertex_count (head_groups head)) both.1))

  pub move-low : 1 ≤ vertex
  move-low = vertex-in.0

  pub move-high : pred vertex < vertex_count (head_groups head)
  move-high = let both = vertex-in in subst (λ gs. pred vertex < vertex_count gs) (sym (groups-are ordered)) (let low = both.0 in let high = both.1 in omega arith)

  before-one : pred vertex ≡ vertex - 1
  before-one = let low = move-low in omega arith

  abbrev left : List ℤ
  left = (accepted (net_from head places) (Move operation vertex weights)).left.entries

  move-left : left ≡ moved_by (over ordered) operation vertex weights (used ordered)
  unfolding accepted entries_after net_polar
  move-left = ap₂ (λ g xs. moved_by g operation vertex weights xs) (groups-are ordered) (entries-used ordered)

  left-long : length left ≡ size (w ordered) (n ordered) head.degree
  left-long = ap length move-left ∙ length-listed-over (over ordered) _ ∙ row-size (n ordered) head.degree (later_groups head.kind head.second)

  -- entries are put before what stood past them
  put-left : (es : List ℤ) → left ≡ es → es ++ drop (size (w ordered) (n ordered) head.degree) places ≡ put_at 0 left places
  put-left es is = ap₂ (λ xs k. xs ++ drop k places) (sym is) (sym (zero-add (length left) ∙ left-long))

  -- ---- a replace

  replace-made : operation ≡ 1 → (b : Bool) (k : ℕ) (after : List ℤ) → k ≡ first_failed (b else 10 ∷ []) → b ≡ size_by (over ordered) (Move operation vertex weights) (used ordered)
      → after ≡ cond b (put_at 0 left places) places → Stepped (net_from head places) (Move operation vertex weights) k places after
  replace-made first b k after number sized made = record { number_is = number ∙ sym (number_by ordered b (sym sized)); places = made ∙ by b ∙ ap (λ j. unless_refused j (put_at 0 left places) places) (sym number) }
    where
      by : (t : Bool) → cond t (put_at 0 left places) places ≡ unless_refused (first_failed (t else 10 ∷ [])) (put_at 0 left places) places
      by true = refl
      by false = refl

  pub flip-made : (operation ≡ 1 → ⊥) → (after : List ℤ) → after ≡ put_at 0 left places → Stepped (net_from head places) (Move operation vertex weights) 0 places after
  flip-made other after is = record { number_is = sym (number_by ordered true (flip-size (over ordered) operation vertex weights (used ordered) other)); places = is }

  -- ---- in the first group

  module _ (low : vertex - 1 ≤ n ordered) where
    own-low : pred vertex ≤ n ordered
    own-low = subst (λ v. v ≤ n ordered) (sym before-one) low

    rows-sized : (first : operation ≡ 1) (b : Bool) → b ≡ all_named_at (w ordered) (n ordered) head.degree (weight_list weights) places → b ≡ size_by (over ordered) (Move operation vertex weights) (used ordered)
    rows-sized first b is = is ∙ sym (replace-size (n ordered) head.degree (later_groups head.kind head.second) operation vertex weights places own-low first)

    rows_replaced : operation ≡ 1 → (b : Bool) (after : List ℤ) → after ≡ cond b (replaced_list (w ordered) (n ordered) head.degree (weight_list weights) (vertex - 1) places) places
        → after ≡ cond b (put_at 0 left places) places
    unfolding replaced_list
    rows_replaced first b after is =
        is
        ∙ ap (λ xs. cond b xs places)
        (ap (λ v. replaced_list (w ordered) (n ordered) head.degree (weight_list weights) v places) (sym before-one)
        ∙ put-left (listed (w ordered) (n ordered) head.degree (λ c. replaced (suc (n ordered)) (weight_list weights) (pred vertex) (entry_at (w ordered) (n ordered) head.degree places c)))
        (move-left ∙ replace-moved (n ordered) head.degree (later_groups head.kind head.second) operation vertex weights places own-low first))

    rows-flipped : (operation ≡ 1 → ⊥) → (after : List ℤ) → after ≡ flipped_list (w ordered) (n ordered) head.degree (vertex - 1) places → after ≡ put_at 0 left places
    unfolding flipped_list
    rows-flipped other after is =
        is
        ∙ ap (λ v. flipped_list (w ordered) (n ordered) head.degree v places) (sym before-one)
        ∙ put-left (listed (w ordered) (n ordered) head.degree (λ c. flipped (pred vertex) (entry_at (w ordered) (n ordered) head.degree places c)))
        (move-left ∙ flip-moved (n ordered) head.degree (later_groups head.kind head.second) operation vertex weights places own-low other)

    -- rows of v numbers in dimension d, which are the net's: what the functions on them ask for, and what their work is for the call
    module _ (v d : ℕ) (v-is : v ≡ w ordered) (d-is : d ≡ n ordered) where
      pub replace-asked : Descends v d head.degree weights places × (vertex - 1 ≤ d)
      replace-asked =
          subst (λ j. Descends v j head.degree weights places × (vertex - 1 ≤ j)) (sym d-is) (
            subst (λ j. Descends j (n ordered) head.degree weights places) (sym v-is) (record { sized = net-sized ordered; long = net-long ordered; range = net-ranged ordered; light = move-light }),
            low,
          )

      pub replace-stepped : operation ≡ 1 → (b : Bool) (k : ℕ) (ys : List ℤ) → k ≡ first_failed (b else 10 ∷ []) → Replaces v d head.degree (weight_list weights) (vertex - 1) places b ys
          → Stepped (net_from head places) (Move operation vertex weights) k places ys
      replace-stepped first b k ys number says =
          let is = subst (λ j. Replaces (w ordered) j head.degree (weight_list weights) (vertex - 1) places b ys) d-is (subst (λ j. Replaces j d head.degree (weight_list weights) (vertex - 1) places b ys) v-is says) in
          replace-made first b k ys number (rows-sized first b is.0) (rows_replaced first b ys is.1)

      pub flip-asked : Flips v d head.degree (vertex - 1) places
      flip-asked =
          subst (λ j. Flips v j head.degree (vertex - 1) places) (sym d-is)
          (subst (λ j. Flips j (n ordered) head.degree (vertex - 1) places) (sym v-is) (record { sized = net-sized ordered; vertex = low; long = net-long ordered; range = net-each ordered }))

      pub flip-stepped : (operation ≡ 1 → ⊥) → (ys : List ℤ) → ys ≡ flipped_list v d head.degree (vertex - 1) places → Stepped (net_from head places) (Move operation vertex weights) 0 places ys
      flip-stepped other ys is = flip-made other ys (rows-flipped other ys (is ∙ ap₂ (λ i j. flipped_list i j head.degree (vertex - 1) places) v-is d-is))

  -- ---- in the head.second group

  -- without one the vertex is of the first
  pub own-only : later_dimension head.kind ≡ 0 → vertex - 1 ≤ n ordered
  own-only none =
      let high = subst (λ gs. vertex ≤ vertex_count (group (n ordered) head.degree ∷ gs)) (later-none head.kind head.second none) vertex-in.1 in
      let low = move-low in
      omega arith

  module _ (past : n ordered < vertex - 1) where
    -- there is one, since the vertex is
    pub second_group : later_dimension head.kind ≡ 0 → ⊥
    second_group none = let low = own-only none in omega arith

    far : n ordered < pred vertex
    far = subst (λ v. n ordered < v) (sym before-one) past

    abbrev rest : ℕ
    rest = vertex - suc (n ordered)

    -- its number in its group
    own_is : vertex - 1 - 2 ≡ pred rest
    own_is = let one = (pairs-only head.kind second_group).1 in let low = move-low in omega arith

    pub past_two : 2 ≤ vertex - 1
    past_two = let one = (pairs-only head.kind second_group).1 in omega arith

    pub own-high : vertex - 1 - 2 ≤ later_dimension head.kind
    own-high =
        let high = subst (λ gs. vertex ≤ vertex_count (group (n ordered) head.degree ∷ gs)) (later-one head.kind head.second second_group) vertex-in.1 in
        let one = (pairs-only head.kind second_group).1 in
        let low = move-low in
        omega arith

    own_in : pred rest ≤ later_dimension head.kind
    own_in = subst (λ v. v ≤ later_dimension head.kind) own_is own-high

    abbrev part : ℕ → List ℤ
    part = part_at (size 4 (later_dimension head.kind) head.second) places

    part-whole : (j : ℕ) → j < head.degree + 1 → length (part j) ≡ size 4 (later_dimension head.kind) head.second
    part-whole j h = part-long (size 4 (later_dimension head.kind) head.second) places j (head.degree + 1) h (net-parts ordered second_group).long

    part-taken : (j : ℕ) → j < head.degree + 1 → take (size 4 (later_dimension head.kind) head.second) (part j) ≡ part j
    part-taken j h = take_all (size 4 (later_dimension head.kind) head.second) (part j) (le_of_eq (part-whole j h))

    -- the same move on a part
    abbrev group-later : List Group
    group-later = group (later_dimension head.kind) head.second ∷ []

    parts-sized : operation ≡ 1 → (b : Bool) → b ≡ all (all_named_at 4 (later_dimension head.kind) head.second (weight_list weights)) (parts_of (size 4 (later_dimension head.kind) head.second) (head.degree + 1) places)
        → b ≡ size_by (over ordered) (Move operation vertex weights) (used ordered)
    unfolding counts_over
    parts-sized first b is =
        is
        ∙ all_map (all_named_at 4 (later_dimension head.kind) head.second (weight_list weights)) part (upto (head.degree + 1))
        ∙ sym
        (later-size (n ordered) head.degree (later_groups head.kind head.second) (used ordered) operation vertex weights far first
        ∙ ap (λ k. all (λ j. size_by (later_groups head.kind head.second) (Move operation rest weights) (part_at (w ordered) (used ordered) j)) (upto k)) (entries-first ordered second_group)
        ∙ all-cong (λ j. size_by (later_groups head.kind head.second) (Move operation rest weights) (part_at (w ordered) (used ordered) j)) (λ j. all_named_at 4 (later_dimension head.kind) head.second (weight_list weights) (part j)) (upto (head.degree + 1))
        (λ j m.
        let h = upto-below (head.degree + 1) j m in
        ap₂ (λ gs xs. size_by gs (Move operation rest weights) xs) (later-one head.kind head.second second_group) (part-used ordered second_group j h ∙ sym (part-taken j h))
        ∙ replace-size (later_dimension head.kind) head.second [] operation rest weights (part j) own_in first))

    -- what a move makes of each part, f being what it makes of one
    module _ (f : List ℤ → List ℤ) (makes : (j : ℕ) → j < head.degree + 1 → f (part j) ≡ moved_by group-later operation rest weights (part j)) where
      pub parts-made : in_parts f (size 4 (later_dimension head.kind) head.second) (head.degree + 1) places ≡ put_at 0 left places
      unfolding in_parts
      parts-made =
          ap (λ k. joined (λ j. f (part j)) (upto (head.degree + 1)) ++ drop k places) (all-parts ordered second_group)
          ∙ put-left (joined (λ j. f (part j)) (upto (head.degree + 1)))
          (move-left
          ∙ later-moved (n ordered) head.degree (later_groups head.kind head.second) (used ordered) operation vertex weights far
          ∙ ap (λ k. joined (λ j. moved_by (later_groups head.kind head.second) operation rest weights (part_at (w ordered) (used ordered) j)) (upto k)) (entries-first ordered second_group)
          ∙ joined-upto (head.degree + 1) (λ j. moved_by (later_groups head.kind head.second) operation rest weights (part_at (w ordered) (used ordered) j)) (λ j. f (part j))
          (λ j h. ap₂ (λ gs xs. moved_by gs operation rest weights xs) (later-one head.kind head.second second_group) (part-used ordered second_group j h) ∙ sym (makes j h)))

    none-past : (j : ℕ) → j < head.degree + 1 → drop (size 4 (later_dimension head.kind) head.second) (part j) ≡ []
    none-past j h = ap (λ k. drop k (part j)) (sym (part-whole j h)) ∙ drop-length (part j)

    parts-replaced : operation ≡ 1 → (b : Bool) (after : List ℤ)
        → after ≡ cond b (in_parts (replaced_list 4 (later_dimension head.kind) head.second (weight_list weights) (vertex - 1 - 2)) (size 4 (later_dimension head.kind) head.second) (head.degree + 1) places) places
        → after ≡ cond b (put_at 0 left places) places
    unfolding replaced_list counts_over
    parts-replaced first b after is =
        is
        ∙ ap (λ xs. cond b xs places)
        (parts-made (replaced_list 4 (later_dimension head.kind) head.second (weight_list weights) (vertex - 1 - 2))
        (λ j h.
        ap (λ v. replaced_list 4 (later_dimension head.kind) head.second (weight_list weights) v (part j)) own_is
        ∙ ap (λ ys. listed 4 (later_dimension head.kind) head.second (λ c. replaced (suc (later_dimension head.kind)) (weight_list weights) (pred rest) (entry_at 4 (later_dimension head.kind) head.second (part j) c)) ++ ys) (none-past j h)
        ∙ append-nil _
        ∙ sym (ap (moved_by group-later operation rest weights) (sym (part-taken j h)) ∙ replace-moved (later_dimension head.kind) head.second [] operation rest weights (part j) own_in first)))

    -- the group has two vertices
    two-later : later_dimension head.kind ≡ 1
    two-later = (pairs-only head.kind second_group).0

    -- what replacing it in each part asks for, and that its answer and its numbers are those of the definition
    pub parts-asked : PartsReplaced head.second (vertex - 1 - 2) (head.degree + 1) weights places
    parts-asked =
        record {
          parts = subst (λ d. Parts d head.second (head.degree + 1) places) two-later (net-parts ordered second_group);
          vertex = subst (λ d. vertex - 1 - 2 ≤ d) two-later own-high;
          light = move-light;
        }

    pub parts-stepped : operation ≡ 1 → (b : Bool) (k : ℕ) (ys : List ℤ) → k ≡ first_failed (b else 10 ∷ []) → AllOrNone head.second (weight_list weights) (vertex - 1 - 2) (head.degree + 1) places b ys
        → Stepped (net_from head places) (Move operation vertex weights) k places ys
    parts-stepped first b k ys number says =
        let is =
        subst
        (λ d. (b ≡ all (all_named_at 4 d head.second (weight_list weights)) (parts_of (size 4 d head.second) (head.degree + 1) places)) × (ys ≡ cond b (in_parts (replaced_list 4 d head.second (weight_list weights) (vertex - 1 - 2)) (size 4 d head.second) (head.degree + 1) places) places))
        (sym two-later) says in
        replace-made first b k ys number (parts-sized first b is.0) (parts-replaced first b ys is.1)

    pub parts-flipped : (operation ≡ 1 → ⊥) → (after : List ℤ) → after ≡ in_parts (flipped_list 4 (later_dimension head.kind) head.second (vertex - 1 - 2)) (size 4 (later_dimension head.kind) head.second) (head.degree + 1) places
        → after ≡ put_at 0 left places
    unfolding flipped_list counts_over
    parts-flipped other after is =
        is
        ∙ parts-made (flipped_list 4 (later_dimension head.kind) head.second (vertex - 1 - 2))
        (λ j h.
        ap (λ v. flipped_list 4 (later_dimension head.kind) head.second v (part j)) own_is
        ∙ ap (λ ys. listed 4 (later_dimension head.kind) head.second (λ c. flipped (pred rest) (entry_at 4 (later_dimension head.kind) head.second (part j) c)) ++ ys) (none-past j h)
        ∙ append-nil _
        ∙ sym (ap (moved_by group-later operation rest weights) (sym (part-taken j h)) ∙ flip-moved (later_dimension head.kind) head.second [] operation rest weights (part j) own_in other))
