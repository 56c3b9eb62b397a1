-- The making of a first net, test by test in the order of the code: what the accepted kind, frame and coefficients give it, that the values made are the entries of the
-- net over the frame, and what is answered and left in the lent places.
use Prim.Native.Nat.{ℕ, zero, suc, ◌+◌, ◌*◌, ◌-◌, ◌^◌, ◌≤◌, ◌<◌, suc-le-suc}
use native.Mathlib.Nat.{zero-add, le_refl, le_trans, le_of_eq, le-add_right, lt_of_lt_of_le, mul-suc, mul-le-mul, mul-le-mul_left, le-mul_of_pos_right, pow-le-pow_right}
use native.Mathlib.Numerals.{add-one}
use native.Mathlib.Omega.{arith}
use mathlib.Core.Path.{◌≡◌, refl, sym, ap, ap₂, ◌∙◌, subst, fun_ext}
use mathlib.Core.Bool.{Bool, true, ◌&&◌, not}
use mathlib.Core.List.{List, [], ◌∷◌, ◌++◌}
use lib.Dec.{leb, lit≤}
use lib.IntN.{ℤ, pos, nat_abs}
use lib.ListN.{length, get_or, take, drop, length-append, length-drop, take-append-drop}
use lib.Seq.{take-nil, take_all, take_at, drop_at, drop-drop, take-append-le, drop-append-le, length-take-le, get_or-take}
use borrow.Author.Tests.{leb-true, le-leb, lt-leb}
use Rattle.integers.specs.Largest.{largest_of}
use Rattle.integers.specs.Test.{within, all}
use Rattle.integers.proofs.All.{and_parts, all_first}
use Rattle.integers.proofs.Largest.{largest-within}
use Rattle.polar.specs.Sigma.{Exponents}
use Rattle.integers.specs.Sum.{upto}
use Rattle.polar.specs.Order.{joined, counts, monomials}
use Rattle.polar.specs.Scale.{scale}
use Rattle.polar.specs.Groups.{Group, monomials_over, counts_over}
use Rattle.polar.specs.Polar.{polar_over, terms}
use Rattle.entries.specs.Frame.{entry_points_over}
use Rattle.entries.specs.Entries.{number_count, listed_over}
use Rattle.entries.specs.Rows.{size}
use Rattle.entries.proofs.Lengths.{length-one, monomials-counts}
use Rattle.entries.proofs.Listed.{length-listed, digits-below}
use Rattle.entries.proofs.ListedOver.{length-listed-over, listed-over-cong}
use Rattle.projection.specs.Projection.{is_zero}
use Rattle.kinds.specs.Kinds.{group, dimension_of, later_groups, later_dimension, known}
use Rattle.kinds.specs.Frames.{frame_of, determinant, frame_allowed, frame_count, frames_of, frames_allowed}
use Rattle.kinds.proofs.Limits.{UpTo, by-known, limits, groups-of, later-none, later-one, pairs-only}
use Rattle.kinds.proofs.Counts.{coefficients-entries, row-size, known-size, size_fits, frame-few}
use Rattle.kinds.proofs.Frames.{numbers-back}
use Rattle.kinds.proofs.Scales.{row_low, first-scale, later-scale, pair-scale}
use Rattle.machine.specs.Refusals.{◌else◌, first_failed}
use Rattle.machine.specs.Nets.{Net, net_in_range}
use Rattle.machine.specs.Comparison.{Polynomials, groups, polar_of, net_over}
use Rattle.machine.specs.First.{first_tests, first_net}
use Rattle.machine.specs.Lent.{put_at, put_net, enough_places, unless_refused, polynomials_from, made_number, made_places}
use Rattle.machine.proofs.Refusals.{none-failed, passed_first, refused-first, row-passes}
use Rattle.machine.proofs.Lent.{part-put}
use Rattle.kinds.specs.Heads.{head_groups}
use Rattle.kinds.specs.declared.Head.{Head}
use Rattle.nets.specs.Rows.{Sized, written}
use Rattle.nets.specs.Parts.{part_at, in_parts}
use Rattle.nets.specs.Coordinates.{NoneBeyond, Limited}
use Rattle.nets.specs.FirstNet.{FrameWithin, framed, framed_list, Framing, PartsFramed}
use Rattle.nets.specs.Calls.{net_with, before_first, Stores, Stored, FirstStored}
use Rattle.nets.proofs.Lists.{written-front}
use Rattle.nets.proofs.FirstMoves.{known-sized}
use Rattle.nets.proofs.Parts.{part-long, part-at, joined-upto}
use Rattle.nets.proofs.Framed.{framed-small, one-framed, more-framed}

-- ---- what is accepted

-- the tests before a net is made, by their results
pub judged-by : (f : Polynomials) (numbers : List ℤ) {a b c : Bool} → known f.kind f.degree f.second ≡ a → frames_allowed (groups f) numbers ≡ b → all (within 1048576) f.coefficients ≡ c
    → first_failed (a else 4 ∷ b else 5 ∷ c else 6 ∷ []) ≡ first_failed (before_first f numbers)
unfolding before_first first_tests
judged-by f numbers p q r = sym (λ i. first_failed (p i else 4 ∷ q i else 5 ∷ r i else 6 ∷ []))

module _ (f : Polynomials) (numbers : List ℤ) (none : first_failed (before_first f numbers) ≡ 0) where
  pub first-known : known f.kind f.degree f.second ≡ true
  unfolding before_first first_tests
  first-known = row-passes (before_first f numbers) ((none-failed (before_first f numbers) refl).0 none) 0

  pub first-framed : frames_allowed (groups f) numbers ≡ true
  unfolding before_first first_tests
  first-framed = row-passes (before_first f numbers) ((none-failed (before_first f numbers) refl).0 none) 1

  pub first-within : all (within 1048576) f.coefficients ≡ true
  unfolding before_first first_tests
  first-within = row-passes (before_first f numbers) ((none-failed (before_first f numbers) refl).0 none) 2

-- the first terms of a list of coefficients need no more of it than their own
front-four : (j : ℕ) (l : List ℤ) → drop 4 (take (suc (suc (suc (suc j)))) l) ≡ take j (drop 4 l)
front-four j [] = sym (take-nil j)
front-four j (a ∷ []) = sym (take-nil j)
front-four j (a ∷ b ∷ []) = sym (take-nil j)
front-four j (a ∷ b ∷ c ∷ []) = sym (take-nil j)
front-four j (a ∷ b ∷ c ∷ d ∷ l) = refl

terms-taken : (c : ℕ) → c < 4 → (es : List (List Exponents)) (numbers : List ℤ) → terms c es (take (4 * length es) numbers) ≡ terms c es numbers
terms-taken c h [] numbers = refl
terms-taken c h (e ∷ es) numbers =
    ap (λ k. terms c (e ∷ es) (take k numbers)) four-more
    ∙ ap₂ (λ a ts. record { exponents = e; coefficient = a } ∷ ts) (get_or-take (suc (suc (suc (suc (4 * length es))))) numbers c (pos 0) (omega arith))
    (ap (terms c es) (front-four (4 * length es) numbers) ∙ terms-taken c h es (drop 4 numbers))
  where
    four-more : 4 * suc (length es) ≡ suc (suc (suc (suc (4 * length es))))
    four-more = omega arith

-- ---- sizes: every number on the way fits 64 bits

-- a power of a bound times another
grown : {a b x y n : ℕ} → 0 < n → a ≤ b → x ≤ y → n ^ a * (x * 1048576) ≤ n ^ b * (y * 1048576)
grown some up less = mul-le-mul (pow-le-pow_right some up) (mul-le-mul less (le_refl 1048576))

-- the first group's numbers, from coefficients up to 2 to the 20th
first_fits : (kind p q : ℕ) → known kind p q ≡ true → (4 * suc (dimension_of kind)) ^ p * (scale (dimension_of kind) p * 1048576) < 2 ^ 63
first_fits = by-known (λ kind p q. (4 * suc (dimension_of kind)) ^ p * (scale (dimension_of kind) p * 1048576) < 2 ^ 63)
    (λ p m. let top = grown {n = 8} (lit≤ tt) m.high (few 1 p 0 (curve m)) in omega (arith, top))
    (λ p m. let top = grown {n = 12} (lit≤ tt) m.high (few 2 p 0 (patch m)) in omega (arith, top))
    (λ p q m d. let top = grown {n = 8} (lit≤ tt) m.high (pair-scale p m) in omega (arith, top))
  where
    few : (kind p q : ℕ) → known kind p q ≡ true → scale (dimension_of kind) p ≤ 2520
    few kind p q h = subst (λ k. k ≤ 2520) (first-scale kind p q h) (row_low (dimension_of kind) p)

    curve : {p : ℕ} → UpTo 10 p → known 1 p 0 ≡ true
    curve {p} m = ap₂ (λ a b. (a && b) && true) (le-leb 1 p m.low) (le-leb p 10 m.high)

    patch : {p : ℕ} → UpTo 8 p → known 2 p 0 ≡ true
    patch {p} m = ap₂ (λ a b. (a && b) && true) (le-leb 1 p m.low) (le-leb p 8 m.high)

-- where there is a second group they are no more than 2 to the 35th times 12, and the second group's numbers fit too
first-up : (kind p q : ℕ) → known kind p q ≡ true → (later_dimension kind ≡ 0 → ⊥) → (4 * suc (dimension_of kind)) ^ p * (scale (dimension_of kind) p * 1048576) ≤ 412316860416
first-up = by-known (λ kind p q. (later_dimension kind ≡ 0 → ⊥) → (4 * suc (dimension_of kind)) ^ p * (scale (dimension_of kind) p * 1048576) ≤ 412316860416)
    (λ p m some. absurd (some refl))
    (λ p m some. absurd (some refl))
    (λ p q m d some. le_trans (grown {n = 8} (lit≤ tt) m.high (pair-scale p m)) (lit≤ tt))

later-fits : (kind p q : ℕ) → known kind p q ≡ true → (later_dimension kind ≡ 0 → ⊥) → (4 * suc (later_dimension kind)) ^ q * (scale (later_dimension kind) q * 412316860416) < 2 ^ 63
later-fits = by-known (λ kind p q. (later_dimension kind ≡ 0 → ⊥) → (4 * suc (later_dimension kind)) ^ q * (scale (later_dimension kind) q * 412316860416) < 2 ^ 63)
    (λ p m some. absurd (some refl))
    (λ p m some. absurd (some refl))
    (λ p q m d some.
    let top = mul-le-mul (pow-le-pow_right {n = 8} (lit≤ tt) d.high) (mul-le-mul (pair-scale q d) (le_refl 412316860416)) in
    omega (arith, top))

-- ---- a known kind

module _ (head : Head) (right : known head.kind head.degree head.second ≡ true) where
  abbrev n : ℕ
  n = dimension_of head.kind

  abbrev later : List Group
  later = later_groups head.kind head.second

  -- how many numbers a row has, seen from the first group
  abbrev w : ℕ
  w = number_count later

  -- as many coefficients as numbers
  coefficients-size : 4 * length (monomials_over (head_groups head)) ≡ size w n head.degree
  coefficients-size = coefficients-entries (head_groups head) ∙ known-size head.kind head.degree head.second right

  monomials-size : (v d m : ℕ) → v * length (monomials d m) ≡ size v d m
  monomials-size v d m = ap (λ k. v * k) (monomials-counts d m)

  abbrev l : ℕ
  l = later_dimension head.kind

  -- ---- the second group's parts of what the first group's making leaves

  module _ (frame coefficients : List ℤ) (some : later_dimension head.kind ≡ 0 → ⊥) (room out : List ℤ) (places : size w n head.degree ≤ length room) (made : out ≡ framed_list w n head.degree frame coefficients room) where
    abbrev rows : List ℤ
    rows = framed w n head.degree frame coefficients

    rows_long : length rows ≡ size w n head.degree
    unfolding framed
    rows_long = length-listed w n head.degree _

    -- a part of the second group
    pub part-size : size 4 l head.second ≡ w
    unfolding counts_over
    part-size = sym (ap number_count (later-one head.kind head.second some) ∙ row-size (later_dimension head.kind) head.second [])

    entries-first : length (counts n head.degree) ≡ head.degree + 1
    entries-first = ap (λ d. length (counts d head.degree)) (pairs-only head.kind some).1 ∙ length-one head.degree ∙ sym (add-one head.degree)

    pub parts-room : size 4 l head.second * (head.degree + 1) ≡ size w n head.degree
    parts-room = ap₂ ◌*◌ part-size (sym entries-first)

    -- its numbers are those of the rows
    part-is : (j : ℕ) → j < head.degree + 1 → part_at (size 4 l head.second) out j ≡ part_at w rows j
    part-is j h =
        ap₂ (λ k xs. part_at k xs j) part-size made
        ∙ ap (take w) (drop-append-le (w * j) rows (drop (size w n head.degree) room) (subst (λ k. w * j ≤ k) (sym rows_long) (le_trans (le-add_right (w * j) w) inside)))
        ∙ take-append-le w (drop (w * j) rows) (drop (size w n head.degree) room) (subst (λ k. w ≤ k) (sym (length-drop (w * j) rows ∙ ap (λ k. k - w * j) rows_long)) (omega (arith, inside)))
      where
        inside : w * j + w ≤ size w n head.degree
        inside = let up = mul-le-mul_left w (subst (λ k. j < k) (sym entries-first) h) in omega (arith, up, mul-suc w j)

    pub parts_in : size 4 l head.second * (head.degree + 1) ≤ length out
    parts_in =
        subst (λ k. size 4 l head.second * (head.degree + 1) ≤ k) (sym (ap length made ∙ length-append rows (drop (size w n head.degree) room) ∙ ap₂ ◌+◌ rows_long (length-drop (size w n head.degree) room)))
        (subst (λ k. k ≤ size w n head.degree + (length room - size w n head.degree)) (sym parts-room) (omega arith))

  -- ---- what is accepted is within the limits

  -- the first group has four numbers, and the others are the second group's
  pub others-are : (frame : List ℤ) → length frame ≡ 9 → (later_dimension head.kind ≡ 0 → ⊥) → take 5 (drop 4 frame) ≡ drop (suc n * suc n) frame
  others-are frame nine some = take_all 5 (drop 4 frame) (simp length-drop (omega arith)) ∙ ap (λ d. drop (suc d * suc d) frame) (sym (pairs-only head.kind some).1)

  module _ (frame : List ℤ) (nine : length frame ≡ 9) (ok : frames_allowed (head_groups head) frame ≡ true) where
    -- the first frame and the others
    frame-parts : (frame_allowed (suc n) frame ≡ true) × (frames_allowed later (drop (suc n * suc n) frame) ≡ true)
    unfolding frames_allowed
    frame-parts = and_parts (frame_allowed (suc n) frame) (frames_allowed later (drop (suc n * suc n) frame)) (subst (λ gs. frames_allowed gs frame ≡ true) (groups-of head.kind head.degree head.second right) ok)

    -- a frame that is accepted is within its limit
    within-limit : (d : ℕ) (numbers : List ℤ) → suc d * suc d ≤ length numbers → frame_allowed (suc d) numbers ≡ true → FrameWithin d numbers
    unfolding frame_allowed
    within-limit d numbers room allowed =
        let low = (and_parts (all (within 4) (take (suc d * suc d) numbers)) (not (is_zero (determinant (suc d) (frame_of (suc d) numbers)))) allowed).0 in
        record { long = room; each = λ i b. leb-true (nat_abs (get_or numbers i (pos 0))) 4 (all_first (within 4) (suc d * suc d) numbers low i b (lt_of_lt_of_le b room)) }

    first-corners : FrameWithin n frame
    first-corners =
        let few = suc-le-suc (limits head.kind head.degree head.second right).dimension-few in
        within-limit n frame (subst (λ k. suc n * suc n ≤ k) (sym nine) (mul-le-mul few few)) frame-parts.0

    module _ (some : later_dimension head.kind ≡ 0 → ⊥) where
      later-corners : FrameWithin l (take 5 (drop 4 frame))
      unfolding frames_allowed
      later-corners =
          subst (FrameWithin l) (sym (others-are frame nine some))
          (within-limit l (drop (suc n * suc n) frame) room
          (and_parts (frame_allowed (suc l) (drop (suc n * suc n) frame)) true (subst (λ gs. frames_allowed gs (drop (suc n * suc n) frame) ≡ true) (later-one head.kind head.second some) frame-parts.1)).0)
        where
          room : suc l * suc l ≤ length (drop (suc n * suc n) frame)
          room =
              subst (λ k. suc l * suc l ≤ k) (sym (length-drop (suc n * suc n) frame))
              (subst (λ d. suc d * suc d ≤ length frame - suc n * suc n) (sym (pairs-only head.kind some).0)
              (subst (λ d. 4 ≤ length frame - suc d * suc d) (sym (pairs-only head.kind some).1) (subst (λ k. 4 ≤ k - 4) (sym nine) (lit≤ tt))))

    module _ (coefficients : List ℤ) (long : 180 ≤ length coefficients) (low : all (within 1048576) (take (4 * length (monomials_over (head_groups head))) coefficients) ≡ true) where
      coefficients-room : w * length (monomials n head.degree) ≤ length coefficients
      coefficients-room = le_trans (subst (λ k. k ≤ 180) (sym (monomials-size w n head.degree)) (size_fits head.kind head.degree head.second right)) long

      coefficients-up : NoneBeyond 1048576 (w * length (monomials n head.degree)) coefficients
      coefficients-up i b =
          leb-true (nat_abs (get_or coefficients i (pos 0))) 1048576
          (all_first (within 1048576) (w * length (monomials n head.degree)) coefficients (subst (λ k. all (within 1048576) (take k coefficients) ≡ true) (coefficients-size ∙ sym (monomials-size w n head.degree)) low) i b
          (lt_of_lt_of_le b coefficients-room))

      pub first-limited : Limited w n head.degree coefficients
      first-limited =
          let lim = limits head.kind head.degree head.second right in
          record {
            sized = known-sized head.kind head.degree head.second right;
            low = lim.degree-low;
            high = omega (arith, lim.degree-below);
            scaled = subst (λ k. k ≤ 2520) (first-scale head.kind head.degree head.second right) (row_low n head.degree);
            long = coefficients-room;
            each = λ i b. le_trans (coefficients-up i b) (lit≤ tt);
          }

      pub first-framing : Framing w n head.degree frame coefficients
      first-framing =
          record {
            limited = first-limited;
            read = first-scale head.kind head.degree head.second right;
            corners = first-corners;
            bound = 1048576;
            each = coefficients-up;
            fits = first_fits head.kind head.degree head.second right;
          }

      -- ---- the second group, out being what the first group's making left

      module _ (some : later_dimension head.kind ≡ 0 → ⊥) (room out : List ℤ) (places : size w n head.degree ≤ length room) (made : out ≡ framed_list w n head.degree frame coefficients room) where
        part_up : (j : ℕ) → j < head.degree + 1 → NoneBeyond 412316860416 (4 * length (monomials l head.second)) (part_at (size 4 l head.second) out j)
        part_up j h i b =
            subst (λ x. nat_abs x ≤ 412316860416) (sym (ap (λ xs. get_or xs i (pos 0)) ((part-is frame coefficients some room out places made) j h) ∙ part-at w (rows frame coefficients some room out places made) j i below))
            (le_trans (framed-small w n head.degree frame coefficients first-limited first-corners 1048576 coefficients-up (w * j + i) inside) (first-up head.kind head.degree head.second right some))
          where
            below : i < w
            below = subst (λ k. i < k) (monomials-size 4 l head.second ∙ (part-size frame coefficients some room out places made)) b

            inside : w * j + i < size w n head.degree
            inside = digits-below w j i (length (counts n head.degree)) (subst (λ k. j < k) (sym (entries-first frame coefficients some room out places made)) h) below

        pub later-sized : Sized 4 l head.second
        later-sized =
            let one = (pairs-only head.kind some).0 in
            record {
              some = lit≤ tt;
              low = subst (λ d. 1 ≤ d) (sym one) (lit≤ tt);
              high = subst (λ d. d ≤ 2) (sym one) (lit≤ tt);
              room = subst (λ k. k ≤ 180) (sym (part-size frame coefficients some room out places made)) (le_trans (le-mul_of_pos_right w (subst (λ k. 0 < k) (sym (entries-first frame coefficients some room out places made)) (omega arith))) (size_fits head.kind head.degree head.second right));
            }

        part-limited : (j : ℕ) → j < head.degree + 1 → Limited 4 l head.second (part_at (size 4 l head.second) out j)
        part-limited j h =
            let lim = limits head.kind head.degree head.second right in
            let one = (pairs-only head.kind some).0 in
            record {
              sized = later-sized;
              low = lim.second-low (subst (λ d. 1 ≤ d) (sym one) (lit≤ tt));
              high = omega (arith, lim.second_below);
              scaled = subst (λ k. k ≤ 2520) (later-scale head.kind head.degree head.second right some) (row_low l head.second);
              long = le_of_eq (monomials-size 4 l head.second ∙ sym (part-long (size 4 l head.second) out j (head.degree + 1) h (parts_in frame coefficients some room out places made)));
              each = λ i b. le_trans (part_up j h i b) (lit≤ tt);
            }

        pub later-framing : PartsFramed l head.second (head.degree + 1) (take 5 (drop 4 frame)) out
        later-framing =
            record {
              sized = later-sized;
              room = subst (λ k. k ≤ 180) (sym (parts-room frame coefficients some room out places made)) (size_fits head.kind head.degree head.second right);
              long = (parts_in frame coefficients some room out places made);
              part =
                  λ j h. record {
                    limited = part-limited j h;
                    read = later-scale head.kind head.degree head.second right some;
                    corners = later-corners some;
                    bound = 412316860416;
                    each = part_up j h;
                    fits = later-fits head.kind head.degree head.second right some;
                  };
            }

  -- ---- the net

  module _ (frame coefficients : List ℤ) where
    abbrev net : Net
    net = first_net (polynomials_from head.kind head.degree head.second coefficients) frame

    abbrev over : List Group → List ℤ
    over gs = listed_over gs (λ c es. polar_over gs (terms c (monomials_over gs) coefficients) (entry_points_over (frames_of gs frame) es))

    -- its entries are the polar values, of coefficients that may have more after them
    first-entries : net.entries ≡ over (group n head.degree ∷ later)
    unfolding net_over polar_of
    first-entries =
        listed-over-cong (head_groups head) _ _
        (λ c es k counted. ap (λ ts. polar_over (head_groups head) ts (entry_points_over (frames_of (head_groups head) frame) es)) (terms-taken c k (monomials_over (head_groups head)) coefficients))
        ∙ ap over (groups-of head.kind head.degree head.second right)

    first_count : length net.entries ≡ number_count (head_groups head)
    unfolding net_over
    first_count = length-listed-over (head_groups head) _

    -- entries in front of what stood past them
    put_front : (out : List ℤ) (es : List ℤ) → net.entries ≡ es → es ++ drop (size w n head.degree) out ≡ put_at 0 net.entries out
    put_front out es is =
        ap₂ (λ xs k. xs ++ drop k out) (sym is) (sym (zero-add (length net.entries) ∙ first_count ∙ known-size head.kind head.degree head.second right))

    -- one group: what its making leaves
    pub one-made : later_dimension head.kind ≡ 0 → (out ys : List ℤ) → ys ≡ framed_list w n head.degree frame coefficients out → ys ≡ put_at 0 net.entries out
    unfolding counts_over
    one-made none out ys is =
        is
        ∙ put_front out (framed w n head.degree frame coefficients)
        (first-entries ∙ ap (λ gs. over (group n head.degree ∷ gs)) (later-none head.kind head.second none) ∙ one-framed n head.degree frame coefficients
        ∙ ap (λ gs. framed (number_count gs) n head.degree frame coefficients) (sym (later-none head.kind head.second none)))

    -- two groups: what the second group's making leaves of it
    pub two_made : (some : later_dimension head.kind ≡ 0 → ⊥) (room out ys : List ℤ) → length frame ≡ 9 → size w n head.degree ≤ length room → out ≡ framed_list w n head.degree frame coefficients room
        → ys ≡ in_parts (framed 4 (later_dimension head.kind) head.second (take 5 (drop 4 frame))) (size 4 (later_dimension head.kind) head.second) (head.degree + 1) out → ys ≡ put_at 0 net.entries room
    unfolding in_parts
    two_made some room out ys nine places made is =
        is
        ∙ ap₂ ◌++◌ (each (head.degree + 1) (λ j h. h) ∙ ap (λ k. joined (λ j. framed 4 l head.second (drop (suc n * suc n) frame) (part_at w (framed w n head.degree frame coefficients) j)) (upto k)) (sym (entries-first frame coefficients some room out places made)))
        (ap₂ drop (parts-room frame coefficients some room out places made) made ∙ drop_at (framed w n head.degree frame coefficients) (drop (size w n head.degree) room) (size w n head.degree) (rows_long frame coefficients some room out places made))
        ∙ put_front room _
        (first-entries
        ∙ ap (λ gs. over (group n head.degree ∷ gs)) (later-one head.kind head.second some)
        ∙ more-framed n head.degree (group l head.second ∷ []) frame coefficients
        ∙ ap (λ f. joined f (upto (length (counts n head.degree)))) (fun_ext (λ k. one-framed l head.second (drop (suc n * suc n) frame) _))
        ∙ ap (λ gs. joined (λ j. framed 4 l head.second (drop (suc n * suc n) frame) (part_at (number_count gs) (framed (number_count gs) n head.degree frame coefficients) j)) (upto (length (counts n head.degree)))) (sym (later-one head.kind head.second some)))
      where
        each : (k : ℕ) → ((j : ℕ) → j < k → j < head.degree + 1)
            → joined (λ j. framed 4 l head.second (take 5 (drop 4 frame)) (part_at (size 4 l head.second) out j)) (upto k)
            ≡ joined (λ j. framed 4 l head.second (drop (suc n * suc n) frame) (part_at w (framed w n head.degree frame coefficients) j)) (upto k)
        each k inside =
            joined-upto k (λ j. framed 4 l head.second (take 5 (drop 4 frame)) (part_at (size 4 l head.second) out j)) (λ j. framed 4 l head.second (drop (suc n * suc n) frame) (part_at w (framed w n head.degree frame coefficients) j))
            (λ j h. ap₂ (framed 4 l head.second) (others-are frame nine some) (part-is frame coefficients some room out places made j (inside j h)))

    -- and their largest component is that of the net
    pub first-largest : (out ys : List ℤ) (count largest : ℕ) → count ≡ number_count (head_groups head) → ys ≡ put_at 0 net.entries out → largest ≡ largest_of (take count ys)
        → largest ≡ largest_of net.entries
    first-largest out ys count largest counted is found =
        found ∙ ap (λ l. largest_of (take count l)) is ∙ ap largest_of (take_at net.entries (drop (0 + length net.entries) out) count (first_count ∙ sym counted))

-- ---- the answers in the order of the tests

module _ (kind degree second : ℕ) (frame coefficients lent : List ℤ) where
  abbrev f : Polynomials
  f = polynomials_from kind degree second coefficients

  abbrev made : Net
  made = first_net f (take 9 frame)

  -- what is answered, and what stands in the lent places afterwards
  abbrev Answered : ℕ → List ℤ → Type 0
  Answered k ys = (k ≡ made_number kind degree second frame coefficients lent) × (ys ≡ made_places kind degree second frame coefficients lent)

  answered : (k : ℕ) (ys : List ℤ) → made_number kind degree second frame coefficients lent ≡ k → ys ≡ unless_refused k (put_net made lent) lent → Answered k ys
  unfolding made_places
  answered k ys e is = (sym e, is ∙ ap (λ j. unless_refused j (put_net made lent) lent) (sym e))

  by-places : {a b c : Bool} → leb 9 (length frame) ≡ a → leb 180 (length coefficients) ≡ b → enough_places lent ≡ c
      → made_number kind degree second frame coefficients lent ≡ first_failed (a else 11 ∷ b else 11 ∷ c else 11 ∷ first_tests f (take 9 frame))
  unfolding made_number
  by-places x y z = λ i. first_failed (x i else 11 ∷ y i else 11 ∷ z i else 11 ∷ first_tests f (take 9 frame))

  pub frame-short : length frame < 9 → Answered 11 lent
  frame-short h = answered 11 lent (by-places (lt-leb 9 (length frame) h) refl refl) refl

  module _ (framed : 9 ≤ length frame) where
    pub coefficients-short : length coefficients < 180 → Answered 11 lent
    coefficients-short h = answered 11 lent (by-places (le-leb 9 (length frame) framed) (lt-leb 180 (length coefficients) h) refl) refl

    module _ (long : 180 ≤ length coefficients) where
      pub places-short : length lent < 193 → Answered 11 lent
      places-short h = answered 11 lent (by-places (le-leb 9 (length frame) framed) (le-leb 180 (length coefficients) long) (lt-leb 193 (length lent) h)) refl

      module _ (room : 193 ≤ length lent) where
        enough : enough_places lent ≡ true
        enough = le-leb 193 (length lent) room

        -- the number is what was judged, and after it the net's range
        by-judged : made_number kind degree second frame coefficients lent ≡ first_failed (before_first f (take 9 frame) ++ (net_in_range made else 7 ∷ []))
        unfolding before_first first_tests
        by-judged = by-places (le-leb 9 (length frame) framed) (le-leb 180 (length coefficients) long) enough

        pub judged-refused : (k : ℕ) → k ≡ first_failed (before_first f (take 9 frame)) → (k ≡ 0 → ⊥) → Answered k lent
        judged-refused zero e some = absurd (some refl)
        judged-refused (suc k) e some = answered (suc k) lent (by-judged ∙ refused-first (before_first f (take 9 frame)) (net_in_range made else 7 ∷ []) (λ h. some (e ∙ h)) ∙ sym e) refl

        module _ (none : first_failed (before_first f (take 9 frame)) ≡ 0) where
          by-range : {b : Bool} → net_in_range made ≡ b → made_number kind degree second frame coefficients lent ≡ first_failed (b else 7 ∷ [])
          unfolding before_first first_tests
          by-range e =
              by-judged ∙ passed_first (before_first f (take 9 frame)) (net_in_range made else 7 ∷ []) ((none-failed (before_first f (take 9 frame)) refl).0 none)
              ∙ ap (λ b. first_failed (b else 7 ∷ [])) e

          -- what the making answers and stores
          pub net-stored : (k : ℕ) (ys : List ℤ) → FirstStored f (take 9 frame) lent k ys → Answered k ys
          net-stored k ys is = answered k ys (by-range refl ∙ sym is.number_is) is.places-are

-- ---- storing

-- numbers copied into a part of the places, which has room for them
pub part-copied : (at n : ℕ) (lent xs : List ℤ) (count : ℕ) → at + n ≤ length lent → count ≤ n → count ≤ length xs
    → take at lent ++ (written (take n (drop at lent)) 0 count (λ i. get_or xs i (pos 0)) ++ drop n (drop at lent)) ≡ put_at at (take count xs) lent
part-copied at n lent xs count room fits long =
    ap₂ (λ l r. take at lent ++ (l ++ r))
    (ap (λ l. written (take n (drop at lent)) 0 count (λ i. get_or l i (pos 0))) (sym (take-append-drop count xs))
    ∙ written-front (take n (drop at lent)) (take count xs) (drop count xs) count (sym own-count) (subst (λ k. count ≤ k) (sym part-long) fits))
    (drop-drop n at lent)
    ∙ part-put at n lent room (take count xs) (subst (λ k. k ≤ n) (sym own-count) fits)
  where
    own-count : length (take count xs) ≡ count
    own-count = length-take-le count xs long

    part-long : length (take n (drop at lent)) ≡ n
    part-long = length-take-le n (drop at lent) (simp length-drop (omega arith))

module _ (head : Head) (largest : ℕ) (lent frame entries : List ℤ) (asked : Stores head largest lent frame entries) where
  abbrev gs : List Group
  gs = head_groups head

  -- the net is in range where its largest component is
  pub range-is : leb largest 281474976710656 ≡ net_in_range (net_with head frame entries)
  range-is = ap (λ l. leb l 281474976710656) asked.largest-is ∙ sym (largest-within 281474976710656 (take (number_count gs) entries))

  -- the largest component is put, the entries are copied into their part of the places, the frame's numbers into theirs, and the head is put
  pub net-put : (base some more ys : List ℤ) → base ≡ put_at 192 (pos largest ∷ []) lent → some ≡ put_at 12 (take (number_count gs) entries) base → more ≡ put_at 3 (take (frame_count gs) frame) some
      → ys ≡ put_at 0 (pos head.kind ∷ pos head.degree ∷ pos head.second ∷ []) more → ys ≡ put_net (net_with head frame entries) lent
  unfolding put_net
  net-put base some more ys base-is some_is more-is is =
      is
      ∙ ap (put_at 0 (pos head.kind ∷ pos head.degree ∷ pos head.second ∷ []))
      (more-is
      ∙ ap₂ (λ numbers l. put_at 3 numbers l) (sym (numbers-back gs frame (subst (λ k. frame_count gs ≤ k) (sym asked.nine) (frame-few head.kind head.degree head.second))))
      (some_is ∙ ap (put_at 12 (take (number_count gs) entries)) (base-is ∙ ap (λ l. put_at 192 (pos l ∷ []) lent) asked.largest-is)))

-- a first net that is made in a room is stored as it is
module _ (head : Head) (right : known head.kind head.degree head.second ≡ true) (frame coefficients room out : List ℤ)
    (made-is : out ≡ put_at 0 (first_net (polynomials_from head.kind head.degree head.second coefficients) frame).entries room) where
  abbrev asked : Polynomials
  asked = polynomials_from head.kind head.degree head.second coefficients

  pub own-entries : take (number_count (head_groups head)) out ≡ (first_net asked frame).entries
  own-entries =
      ap (take (number_count (head_groups head))) made-is
      ∙ take_at (first_net asked frame).entries (drop (0 + length (first_net asked frame).entries) room) (number_count (head_groups head)) (first_count head right frame coefficients)

  own-net : net_with head frame out ≡ first_net asked frame
  unfolding net_over
  own-net = ap (λ l. record { kind = head.kind; degree = head.degree; second = head.second; frames = frames_of (head_groups head) frame; entries = l; largest = pos (largest_of l) }) own-entries

  pub first-stored : (lent ys : List ℤ) (k : ℕ) → Stored (net_with head frame out) lent k ys → FirstStored asked frame lent k ys
  first-stored lent ys k is = subst (λ net. Stored net lent k ys) own-net is
