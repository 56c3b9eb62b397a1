-- A net that is put into lent places is read back from them, and no other place changes. By the laws of numbers put into places, and the limits of the kinds.
use Prim.Native.Nat.{ℕ, zero, suc, ◌+◌, ◌-◌, ◌≤◌, ◌<◌}
use native.Mathlib.Nat.{sub-zero, zero-sub, suc-sub-suc}
use native.Mathlib.Omega.{arith}
use mathlib.Core.Path.{◌≡◌, refl, sym, ap, ap₂, ◌∙◌, subst}
use mathlib.Core.Bool.{Bool, true, false, cond}
use mathlib.Core.List.{List, [], ◌∷◌, ◌++◌, append_assoc}
use lib.Dec.{leb, lit≤}
use lib.IntN.{ℤ, pos, negsuc}
use lib.ListN.{length, get_or, set, take, drop, length-append, length-drop, take-append-drop}
use lib.Seq.{take-append-add, take-nil, drop-cons, take_at, drop_at, take-take, drop-drop, take-append-le, drop-append-le, drop-append-add, length-take-le, get_or-drop, slice}
use borrow.Author.Tests.{leb-true, le-leb}
use Rattle.entries.specs.Entries.{number_count}
use Rattle.entries.proofs.Groups.{Framed}
use Rattle.entries.proofs.ListedOver.{length-listed-over}
use Rattle.integers.proofs.All.{clash}
use Rattle.kinds.specs.Kinds.{groups_of, known}
use Rattle.kinds.specs.Frames.{frame_count, frames_of, numbers_of}
use Rattle.kinds.proofs.Limits.{limits}
use Rattle.kinds.proofs.Counts.{entries_fit, frame-few}
use Rattle.kinds.proofs.Frames.{framed-numbers, length-numbers, frames-back, numbers-back}
use Rattle.machine.specs.Refusals.{◌else◌}
use Rattle.machine.specs.Calls.{own_tests}
use Rattle.machine.specs.Sizes.{before_size, call_tests}
use Rattle.machine.specs.Steps.{point_values, found_at}
use Rattle.machine.specs.Nets.{Net, net_groups, handed_tests, judged_numbers, net_tests, entries_after, accepted}
use Rattle.machine.specs.Lent.{byte_of, net_at, put_at, put_net, enough_places, unless_refused, room, call_number, call_places, call_found}
use Rattle.machine.specs.declared.Weights.{Weights}
use Rattle.machine.specs.declared.Call.{Call}
use Rattle.machine.specs.declared.Call.TheVariants as call
use Rattle.machine.proofs.Refusals.{none-failed, row-passes}
use Rattle.machine.proofs.Frames.{framed-after}

-- ---- places

-- numbers written one by one, from place k on
abbrev pub set_from : {A : Type 0} → ℕ → List A → List A → List A
set_from k [] xs = xs
set_from k (a ∷ ys) xs = set_from (suc k) ys (set xs k a)

-- from the front on they are put there: past the first one, the same is done to the rest of the list
set_past : {A : Type 0} (k : ℕ) (ys : List A) (x : A) (xs : List A) → set_from (suc k) ys (x ∷ xs) ≡ x ∷ set_from k ys xs
set_past k [] x xs = refl
set_past k (a ∷ ys) x xs = set_past (suc k) ys x (set xs k a)

pub front-put : {A : Type 0} (ys xs : List A) → length ys ≤ length xs → set_from 0 ys xs ≡ put_at 0 ys xs
front-put [] xs h = refl
front-put (a ∷ ys) [] h = absurd (omega arith)
front-put (a ∷ ys) (x ∷ xs) h =
    let past : suc (0 + length ys) ≡ 0 + suc (length ys) = omega arith in
    set_past 0 ys a xs ∙ ap (λ l. a ∷ l) (front-put ys xs (omega arith)) ∙ ap (λ k. a ∷ (ys ++ drop k (x ∷ xs))) past

-- from any place on
pub set-put : {A : Type 0} (at : ℕ) (ys xs : List A) → at + length ys ≤ length xs → set_from at ys xs ≡ put_at at ys xs
set-put zero ys xs h = front-put ys xs (omega arith)
set-put (suc k) ys [] h = absurd (omega arith)
set-put (suc k) ys (x ∷ xs) h =
    let past : suc (k + length ys) ≡ suc k + length ys = omega arith in
    set_past k ys x xs ∙ ap (λ l. x ∷ l) (set-put k ys xs (omega arith)) ∙ ap (λ j. x ∷ (take k xs ++ (ys ++ drop j (x ∷ xs)))) past

-- ---- numbers put into places

pub drop-take : (n m : ℕ) (l : List ℤ) → drop n (take m l) ≡ take (m - n) (drop n l)
drop-take zero m l = ap (λ k. take k l) (sym (sub-zero m))
drop-take (suc n) zero l = ap (λ k. take k (drop (suc n) l)) (sym (zero-sub (suc n)))
drop-take (suc n) (suc m) [] = sym (take-nil (suc m - suc n))
drop-take (suc n) (suc m) (x ∷ l) = drop-take n m l ∙ ap (λ k. take k (drop n l)) (sym (suc-sub-suc m n))

module _ (at : ℕ) (xs lent : List ℤ) (fits : at + length xs ≤ length lent) where
  front : length (take at lent) ≡ at
  front = length-take-le at lent (omega arith)

  -- no place is lost
  pub put-length : length (put_at at xs lent) ≡ length lent
  put-length = let f = front in simp (length-append, length-drop) (omega arith)

  -- they stand there
  pub put-own : drop at (put_at at xs lent) ≡ xs ++ drop (at + length xs) lent
  put-own = drop_at (take at lent) (xs ++ drop (at + length xs) lent) at front

  -- and no other place changes: neither before them nor behind them
  pub put-before : (n : ℕ) → n ≤ at → take n (put_at at xs lent) ≡ take n lent
  put-before n h = take-append-le n (take at lent) (xs ++ drop (at + length xs) lent) (subst (λ k. n ≤ k) (sym front) h) ∙ take-take n at lent h

  pub put-behind : (n : ℕ) → at + length xs ≤ n → drop n (put_at at xs lent) ≡ drop n lent
  put-behind n h =
      let k = n - (at + length xs) in
      let n-is : n ≡ at + (length xs + (n - (at + length xs))) = omega arith in
      let so : at + length xs + (n - (at + length xs)) ≡ n = omega arith in
      ap (λ j. drop j (put_at at xs lent)) n-is
      ∙ sym (drop-drop (length xs + k) at (put_at at xs lent))
      ∙ ap (drop (length xs + k)) put-own
      ∙ drop-append-add xs (drop (at + length xs) lent) k
      ∙ drop-drop k (at + length xs) lent
      ∙ ap (λ j. drop j lent) so

  pub put-between : (n m : ℕ) → at + length xs ≤ n → slice n m (put_at at xs lent) ≡ slice n m lent
  put-between n m h = drop-take n m (put_at at xs lent) ∙ ap (take (m - n)) (put-behind n h) ∙ sym (drop-take n m lent)

-- numbers put over as many others
put-over : (at : ℕ) (xs ys lent : List ℤ) → length xs ≡ length ys → at + length ys ≤ length lent → put_at at xs (put_at at ys lent) ≡ put_at at xs lent
put-over at xs ys lent same fits =
    ap₂ (λ l r. l ++ (xs ++ r)) (put-before at ys lent fits at (omega arith)) (put-behind at ys lent fits (at + length xs) (omega arith))

-- to put numbers where they stand changes nothing
put_same : (at n : ℕ) (lent : List ℤ) → at + n ≤ length lent → put_at at (take n (drop at lent)) lent ≡ lent
put_same at n lent fits =
    ap (λ k. take at lent ++ (take n (drop at lent) ++ drop (at + k) lent)) (length-take-le n (drop at lent) (simp length-drop (omega arith)))
    ∙ ap (λ l. take at lent ++ l) (ap (λ l. take n (drop at lent) ++ l) (sym (drop-drop n at lent)) ∙ take-append-drop n (drop at lent))
    ∙ take-append-drop at lent

pub put-here : (at : ℕ) (lent : List ℤ) → at < length lent → put_at at (get_or lent at (pos 0) ∷ []) lent ≡ lent
put-here at lent there =
    let one : at + 1 ≤ length lent = omega arith in
    ap (λ xs. put_at at xs lent) (sym (ap (take 1) (drop-cons lent at (pos 0) there))) ∙ put_same at 1 lent one

-- numbers put into the first of two lists, or into the second
pub put_first : (at : ℕ) (xs A B : List ℤ) → at + length xs ≤ length A → put_at at xs (A ++ B) ≡ put_at at xs A ++ B
put_first at xs A B h =
    ap₂ (λ l r. l ++ (xs ++ r)) (take-append-le at A B (omega arith)) (drop-append-le (at + length xs) A B h)
    ∙ sym (append_assoc (take at A) (xs ++ drop (at + length xs) A) B ∙ ap (λ l. take at A ++ l) (append_assoc xs (drop (at + length xs) A) B))

pub put_second : (at : ℕ) (xs A B : List ℤ) → put_at (length A + at) xs (A ++ B) ≡ A ++ put_at at xs B
put_second at xs A B =
    let further : length A + at + length xs ≡ length A + (at + length xs) = omega arith in
    ap₂ (λ l r. l ++ (xs ++ r)) (take-append-add A B at) (ap (λ k. drop k (A ++ B)) further ∙ drop-append-add A B (at + length xs))
    ∙ append_assoc A (take at B) (xs ++ drop (at + length xs) B)

-- numbers put into places that are apart, in either order
pub put-apart : (at by : ℕ) (xs ys lent : List ℤ) → at + length xs ≤ by → by ≤ length lent → put_at by ys (put_at at xs lent) ≡ put_at at xs (put_at by ys lent)
put-apart at by xs ys lent apart room =
    ap (λ l. put_at by ys (put_at at xs l)) (sym whole)
    ∙ ap (put_at by ys) (put_first at xs A B inside)
    ∙ behind (put_at at xs A) (put-length at xs A inside ∙ front_long)
    ∙ sym (ap (λ l. put_at at xs (put_at by ys l)) (sym whole) ∙ ap (put_at at xs) (behind A front_long) ∙ put_first at xs A (put_at 0 ys B) inside)
  where
    A : List ℤ
    A = take by lent

    B : List ℤ
    B = drop by lent

    whole : A ++ B ≡ lent
    whole = take-append-drop by lent

    front_long : length A ≡ by
    front_long = length-take-le by lent room

    inside : at + length xs ≤ length A
    inside = omega (arith, front_long)

    behind : (C : List ℤ) → length C ≡ by → put_at by ys (C ++ B) ≡ C ++ put_at 0 ys B
    behind C long = let here : by ≡ length C + 0 = omega arith in ap (λ k. put_at k ys (C ++ B)) here ∙ put_second 0 ys C B

put-past : (at by : ℕ) (xs ys lent : List ℤ) {rest : List ℤ} → at + length xs ≤ by → by ≤ length lent → put_at by ys lent ≡ rest → put_at by ys (put_at at xs lent) ≡ put_at at xs rest
put-past at by xs ys lent apart room is = put-apart at by xs ys lent apart room ∙ ap (put_at at xs) is

-- numbers put into a part that is put where it stands
pub put-within : (at k n : ℕ) (xs lent : List ℤ) → at + n ≤ length lent → k + length xs ≤ n → put_at at (put_at k xs (take n (drop at lent))) lent ≡ put_at (at + k) xs lent
put-within at k n xs lent fits inside =
    ap (λ j. take at lent ++ (put_at k xs part ++ drop (at + j) lent)) (put-length k xs part (omega (arith, part-long)) ∙ part-long)
    ∙ sym
    (ap₂ (λ j l. put_at (j + k) xs l) (sym front_long) whole
    ∙ put_second k xs (take at lent) (part ++ drop (at + n) lent)
    ∙ ap (λ l. take at lent ++ l) (put_first k xs part (drop (at + n) lent) (omega (arith, part-long))))
  where
    part : List ℤ
    part = take n (drop at lent)

    part-long : length part ≡ n
    part-long = length-take-le n (drop at lent) (simp length-drop (omega arith))

    front_long : length (take at lent) ≡ at
    front_long = length-take-le at lent (omega arith)

    whole : lent ≡ take at lent ++ (part ++ drop (at + n) lent)
    whole = sym (ap (λ l. take at lent ++ l) (ap (λ l. part ++ l) (sym (drop-drop n at lent)) ∙ take-append-drop n (drop at lent)) ∙ take-append-drop at lent)

-- ---- nets

byte-back : (n : ℕ) → n < 256 → byte_of (pos n) ≡ n
byte-back n h = ap (λ b. cond b n 255) (le-leb n 255 (omega arith))

-- a net whose kind and degrees are known, with all numbers of its frames and its right number of entries
pub record Sound (net : Net) : Type 0 where
  pub right : known net.kind net.degree net.second ≡ true
  pub framed : Framed (net_groups net) net.frames
  pub exact : length net.entries ≡ number_count (net_groups net)

-- an accepted call leaves such a net
pub accepted-sound : (net : Net) (c : Call) → Sound net → Sound (accepted net c).left
unfolding accepted entries_after
accepted-sound net (call.Move operation vertex weights) sound =
    record {
      right = sound.right;
      framed = framed-after (net_groups net) net.frames (call.Move operation vertex weights) sound.framed;
      exact = length-listed-over (net_groups net) _;
    }
accepted-sound net (call.Point weights) sound = sound

module _ (net : Net) (lent : List ℤ) (enough : enough_places lent ≡ true) (sound : Sound net) where
  long : 193 ≤ length lent
  long = leb-true 193 (length lent) enough

  abbrev head : List ℤ
  head = pos net.kind ∷ pos net.degree ∷ pos net.second ∷ []

  abbrev numbers : List ℤ
  numbers = numbers_of net.frames

  -- the places with the largest component, with the entries too, and with the frames' numbers too
  abbrev one : List ℤ
  one = put_at 192 (net.largest ∷ []) lent

  abbrev two : List ℤ
  two = put_at 12 net.entries one

  abbrev three : List ℤ
  three = put_at 3 numbers two

  entries-count : length net.entries ≤ 180
  entries-count = let fit = entries_fit net.kind net.degree net.second sound.right in let e = sound.exact in omega arith

  numbers-are : length numbers ≡ frame_count (net_groups net)
  numbers-are = length-numbers (net_groups net) net.frames sound.framed

  numbers-count : length numbers ≤ 9
  numbers-count = let fit = frame-few net.kind net.degree net.second in let e = numbers-are in omega arith

  -- they have room
  one-long : length one ≡ length lent
  one-long = put-length 192 (net.largest ∷ []) lent long

  two_fits : 12 + length net.entries ≤ length one
  two_fits = let l = long in let e = one-long in let n = entries-count in omega arith

  two-long : length two ≡ length lent
  two-long = put-length 12 net.entries one two_fits ∙ one-long

  three-fits : 3 + length numbers ≤ length two
  three-fits = let l = long in let e = two-long in let n = numbers-count in omega arith

  three-long : length three ≡ length lent
  three-long = put-length 3 numbers two three-fits ∙ two-long

  head-fits : 0 + length head ≤ length three
  head-fits = let l = long in let e = three-long in omega arith

  -- from the entries on the places are those that hold no frame yet
  behind : (n : ℕ) → 12 ≤ n → drop n (put_net net lent) ≡ drop n two
  unfolding put_net
  behind n h = let c = numbers-count in put-behind 0 head three head-fits n (omega arith) ∙ put-behind 3 numbers two three-fits n (omega arith)

  -- no place is lost
  pub put-long : length (put_net net lent) ≡ length lent
  unfolding put_net
  put-long = put-length 0 head three head-fits ∙ three-long

  -- the net is read back
  frames-read : frames_of (net_groups net) (drop 3 (put_net net lent)) ≡ net.frames
  unfolding put_net
  frames-read =
      ap (frames_of (net_groups net)) (put-behind 0 head three head-fits 3 (lit≤ tt) ∙ put-own 3 numbers two three-fits)
      ∙ frames-back (net_groups net) net.frames (drop (3 + length numbers) two) sound.framed

  entries-read : take (number_count (net_groups net)) (drop 12 (put_net net lent)) ≡ net.entries
  entries-read =
      ap (take (number_count (net_groups net))) (behind 12 (lit≤ tt) ∙ put-own 12 net.entries one two_fits)
      ∙ take_at net.entries (drop (12 + length net.entries) one) (number_count (net_groups net)) sound.exact

  largest-read : get_or (put_net net lent) 192 (pos 0) ≡ net.largest
  largest-read =
      let n = entries-count in
      sym (get_or-drop 192 (put_net net lent) 0 (pos 0))
      ∙ ap (λ l. get_or l 0 (pos 0)) (behind 192 (lit≤ tt) ∙ put-behind 12 net.entries one two_fits 192 (omega arith) ∙ put-own 192 (net.largest ∷ []) lent long)

  pub read_back : net_at (put_net net lent) ≡ net
  unfolding net_at put_net
  read_back =
      let l = limits net.kind net.degree net.second sound.right in
      let k = byte-back net.kind (omega arith) in
      let p = byte-back net.degree (omega arith) in
      let q = byte-back net.second (omega arith) in
      (λ i.
      record {
        kind = k i;
        degree = p i;
        second = q i;
        frames = frames_of (groups_of (k i) (p i) (q i)) (drop 3 (put_net net lent));
        entries = take (number_count (groups_of (k i) (p i) (q i))) (drop 12 (put_net net lent));
        largest = get_or (put_net net lent) 192 (pos 0);
      })
      ∙ (λ i. record { kind = net.kind; degree = net.degree; second = net.second; frames = frames-read i; entries = entries-read i; largest = largest-read i })

  -- no other place changes
  pub put-others : slice (3 + frame_count (net_groups net)) 12 (put_net net lent) ++ (slice (12 + number_count (net_groups net)) 192 (put_net net lent) ++ drop 193 (put_net net lent))
      ≡ slice (3 + frame_count (net_groups net)) 12 lent ++ (slice (12 + number_count (net_groups net)) 192 lent ++ drop 193 lent)
  unfolding put_net
  put-others =
      let n = numbers-are in
      let e = sound.exact in
      let c = numbers-count in
      let k = entries-count in
      let f = 3 + frame_count (net_groups net) in
      let m = 12 + number_count (net_groups net) in
      let own = net.largest ∷ [] in
      ap₂ ◌++◌
      (put-between 0 head three head-fits f 12 (omega arith)
      ∙ put-between 3 numbers two three-fits f 12 (omega arith)
      ∙ ap (drop f) (put-before 12 net.entries one two_fits 12 (lit≤ tt) ∙ put-before 192 own lent long 12 (lit≤ tt)))
      (ap₂ ◌++◌
      (put-between 0 head three head-fits m 192 (omega arith)
      ∙ put-between 3 numbers two three-fits m 192 (omega arith)
      ∙ put-between 12 net.entries one two_fits m 192 (omega arith)
      ∙ ap (drop m) (put-before 192 own lent long 192 (lit≤ tt)))
      (behind 193 (lit≤ tt) ∙ put-behind 12 net.entries one two_fits 193 (omega arith) ∙ put-behind 192 own lent long 193 (lit≤ tt)))

  -- where the head stands there already, only the frames' numbers, the entries and the largest component are put: so a call writes nothing else
  pub put-moved : head ≡ take 3 lent → put_net net lent ≡ three
  unfolding put_net
  put-moved h =
      ap (λ l. l ++ drop 3 three)
      (h ∙ sym (put-before 3 numbers two three-fits 3 (lit≤ tt) ∙ put-before 12 net.entries one two_fits 3 (lit≤ tt) ∙ put-before 192 (net.largest ∷ []) lent long 3 (lit≤ tt)))
      ∙ take-append-drop 3 three

  -- another net with as many numbers, put over it: nothing of the first is left
  pub put-again : (other : Net) → length (numbers_of other.frames) ≡ length numbers → length other.entries ≡ length net.entries → put_net other (put_net net lent) ≡ put_net other lent
  unfolding put_net
  put-again other same_numbers same_entries =
      ap (λ l. put_at 0 first (put_at 3 vertices (put_at 12 other.entries l))) largest-in
      ∙ ap (λ l. put_at 0 first (put_at 3 vertices l)) entries-in
      ∙ ap (put_at 0 first) vertices-in
      ∙ put-over 0 first head (put_at 3 vertices inner) refl (let l = long in let e = framed vertices inner same_numbers inner-long in omega arith)
    where
      first : List ℤ
      first = pos other.kind ∷ pos other.degree ∷ pos other.second ∷ []

      vertices : List ℤ
      vertices = numbers_of other.frames

      -- as many places after frame numbers or entries are put in
      framed : (xs l : List ℤ) → length xs ≡ length numbers → length l ≡ length lent → length (put_at 3 xs l) ≡ length lent
      framed xs l many e = put-length 3 xs l (let c = numbers-count in let f = long in omega arith) ∙ e

      filled : (xs l : List ℤ) → length xs ≡ length net.entries → length l ≡ length lent → length (put_at 12 xs l) ≡ length lent
      filled xs l many e = put-length 12 xs l (let c = entries-count in let f = long in omega arith) ∙ e

      -- the places with the other net's largest component, and with its entries too
      outer : List ℤ
      outer = put_at 192 (other.largest ∷ []) lent

      outer-long : length outer ≡ length lent
      outer-long = put-length 192 (other.largest ∷ []) lent long

      inner : List ℤ
      inner = put_at 12 other.entries outer

      inner-long : length inner ≡ length lent
      inner-long = filled other.entries outer same_entries outer-long

      largest-in : put_at 192 (other.largest ∷ []) (put_at 0 head three) ≡ put_at 0 head (put_at 3 numbers (put_at 12 net.entries outer))
      largest-in =
          put-past 0 192 head (other.largest ∷ []) three (lit≤ tt) (let l = long in let e = three-long in omega arith)
          (put-past 3 192 numbers (other.largest ∷ []) two (let c = numbers-count in omega arith) (let l = long in let e = two-long in omega arith)
          (put-past 12 192 net.entries (other.largest ∷ []) one (let c = entries-count in omega arith) (let l = long in let e = one-long in omega arith)
          (put-over 192 (other.largest ∷ []) (net.largest ∷ []) lent refl long)))

      entries-in : put_at 12 other.entries (put_at 0 head (put_at 3 numbers (put_at 12 net.entries outer))) ≡ put_at 0 head (put_at 3 numbers inner)
      entries-in =
          let stood = filled net.entries outer refl outer-long in
          put-past 0 12 head other.entries (put_at 3 numbers (put_at 12 net.entries outer)) (lit≤ tt) (let l = long in let e = framed numbers (put_at 12 net.entries outer) refl stood in omega arith)
          (put-past 3 12 numbers other.entries (put_at 12 net.entries outer) (let c = numbers-count in omega arith) (let l = long in omega arith)
          (put-over 12 other.entries net.entries outer same_entries (let l = long in let e = outer-long in let c = entries-count in omega arith)))

      vertices-in : put_at 3 vertices (put_at 0 head (put_at 3 numbers inner)) ≡ put_at 0 head (put_at 3 vertices inner)
      vertices-in =
          put-past 0 3 head vertices (put_at 3 numbers inner) (lit≤ tt) (let l = long in let e = framed numbers inner refl inner-long in omega arith)
          (put-over 3 vertices numbers inner same_numbers (let l = long in let e = inner-long in let c = numbers-count in omega arith))

-- ---- the net that stands there

-- a byte below 255 is what stands there
byte-stood : (x : ℤ) → byte_of x < 255 → pos (byte_of x) ≡ x
byte-stood (pos n) h = by (leb n 255) h
  where
    by : (b : Bool) → cond b n 255 < 255 → pos (cond b n 255) ≡ pos n
    by true l = refl
    by false l = absurd (omega arith)
byte-stood (negsuc n) h = absurd (wrong h)
  where
    wrong : 255 < 255 → ⊥
    wrong w = omega arith

-- where it is known its kind and degrees are the first three numbers
pub head-stood : (lent : List ℤ) → enough_places lent ≡ true → known (net_at lent).kind (net_at lent).degree (net_at lent).second ≡ true
    → pos (net_at lent).kind ∷ pos (net_at lent).degree ∷ pos (net_at lent).second ∷ [] ≡ take 3 lent
unfolding net_at
head-stood [] enough right = absurd (clash enough refl)
head-stood (x ∷ []) enough right = absurd (clash enough refl)
head-stood (x ∷ y ∷ []) enough right = absurd (clash enough refl)
head-stood (x ∷ y ∷ z ∷ lent) enough right =
    let l = limits (byte_of x) (byte_of y) (byte_of z) right in
    let k = byte-stood x (omega arith) in
    let p = byte-stood y (omega arith) in
    let q = byte-stood z (omega arith) in
    λ i. k i ∷ p i ∷ q i ∷ []

-- and it is sound
pub stood-sound : (lent : List ℤ) → enough_places lent ≡ true → known (net_at lent).kind (net_at lent).degree (net_at lent).second ≡ true → Sound (net_at lent)
unfolding net_at
stood-sound lent enough right =
    let gs = net_groups (net_at lent) in
    let l = leb-true 193 (length lent) enough in
    let fit = entries_fit (net_at lent).kind (net_at lent).degree (net_at lent).second right in
    record { right = right; framed = framed-numbers gs (drop 3 lent); exact = length-take-le (number_count gs) (drop 12 lent) (simp length-drop (omega arith)) }

-- to put it back changes nothing: so a point writes nothing there
pub put_back : (lent : List ℤ) → enough_places lent ≡ true → known (net_at lent).kind (net_at lent).degree (net_at lent).second ≡ true → put_net (net_at lent) lent ≡ lent
unfolding net_at
put_back lent enough right =
    let gs = net_groups (net_at lent) in
    let l = leb-true 193 (length lent) enough in
    let fit = entries_fit (net_at lent).kind (net_at lent).degree (net_at lent).second right in
    let near = frame-few (net_at lent).kind (net_at lent).degree (net_at lent).second in
    let one = put-here 192 lent l in
    let two = put_same 12 (number_count gs) lent (omega arith) in
    let three = ap (λ xs. put_at 3 xs lent) (numbers-back gs (drop 3 lent) (simp length-drop (omega arith))) ∙ put_same 3 (frame_count gs) lent (omega arith) in
    put-moved (net_at lent) lent enough (stood-sound lent enough right) (head-stood lent enough right)
    ∙ ap (λ l. put_at 3 (numbers_of (net_at lent).frames) (put_at 12 (net_at lent).entries l)) one
    ∙ ap (put_at 3 (numbers_of (net_at lent).frames)) two
    ∙ three

-- ---- a point leaves all places

-- a point that is found puts back the net that it read, and a refused one puts nothing
point-taken : (w : Weights) (lent found : List ℤ) → call_number (call.Point w) lent found ≡ 0 → put_net (accepted (net_at lent) (call.Point w)).left lent ≡ lent
unfolding call_number net_tests handed_tests judged_numbers call_tests before_size own_tests accepted
point-taken w lent found none =
    let tests = enough_places lent else 11 ∷ room (call.Point w) found else 11 ∷ net_tests (net_at lent) (call.Point w) in
    let passed = (none-failed tests refl).0 none in
    put_back lent (row-passes tests passed 0) (row-passes tests passed 2)

pub point-stands : (w : Weights) (lent found : List ℤ) → call_places (call.Point w) lent found ≡ lent
unfolding call_places
point-stands w lent found = by (call_number (call.Point w) lent found) refl
  where
    by : (k : ℕ) → call_number (call.Point w) lent found ≡ k → unless_refused k (put_net (accepted (net_at lent) (call.Point w)).left lent) lent ≡ lent
    by zero e = point-taken w lent found e
    by (suc k) e = refl

-- and it writes eight numbers: the places lent for them stay as many
pub found-length : (w : Weights) (lent found : List ℤ) → 8 ≤ length found → length (call_found (call.Point w) lent found) ≡ length found
unfolding call_found accepted found_at
found-length w lent found enough = by (call_number (call.Point w) lent found)
  where
    by : (k : ℕ) → length (unless_refused k (put_at 0 (point_values (accepted (net_at lent) (call.Point w)).answer) found) found) ≡ length found
    by zero = put-length 0 (point_values (accepted (net_at lent) (call.Point w)).answer) found enough
    by (suc k) = refl

-- ---- a part of the places that the code lends on: n places from `at` on

module _ (at n : ℕ) (lent : List ℤ) (enough : at + n ≤ length lent) where
  -- its first numbers are those of the places
  pub part-read : (k : ℕ) → k ≤ n → take k (take n (drop at lent)) ≡ take k (drop at lent)
  part-read k h = take-take k n (drop at lent) h

  -- numbers written over its first ones are put into the places
  pub part-put : (xs : List ℤ) → length xs ≤ n → take at lent ++ ((xs ++ drop (length xs) (take n (drop at lent))) ++ drop (at + n) lent) ≡ put_at at xs lent
  part-put xs h =
      ap (λ l. take at lent ++ l) (append_assoc xs (drop (length xs) (take n (drop at lent))) (drop (at + n) lent) ∙ ap (λ l. xs ++ l) rest)
    where
      long : length xs ≤ length (take n (drop at lent))
      long = subst (λ k. length xs ≤ k) (sym (length-take-le n (drop at lent) (simp length-drop (omega arith)))) h

      rest : drop (length xs) (take n (drop at lent)) ++ drop (at + n) lent ≡ drop (at + length xs) lent
      rest =
          ap (λ l. drop (length xs) (take n (drop at lent)) ++ l) (sym (drop-drop n at lent))
          ∙ sym (drop-append-le (length xs) (take n (drop at lent)) (drop n (drop at lent)) long)
          ∙ ap (drop (length xs)) (take-append-drop n (drop at lent))
          ∙ drop-drop (length xs) at lent
