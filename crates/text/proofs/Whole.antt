-- The whole text: the net machine's answers are the comparison machine's, so the text that the code puts together is the one defined; and it always has room.
use Prim.Native.Nat.{ℕ, zero, suc, ◌+◌, ◌/◌, ◌%◌, ◌≤◌, ◌<◌}
use native.Mathlib.Omega.{arith}
use mathlib.Core.Path.{◌≡◌, refl, sym, ap, ap₂, ◌∙◌, subst}
use mathlib.Core.Bool.{Bool, true, false, cond}
use mathlib.Core.List.{List, [], ◌∷◌, ◌++◌}
use Rattle.std.specs.Prelude.{Ok, Err}
use lib.Dec.{eqb, leb}
use lib.IntN.{ℤ}
use lib.ListN.{length, take, drop, length-take, length-append, length-map}
use lib.Seq.{take-append_seam, length-take-le}
use borrow.Author.Tests.{leb-true, le-leb, lt-leb}
use Rattle.integers.specs.Sum.{upto}
use Rattle.integers.proofs.Sums.{length-upto}
use Rattle.integers.proofs.All.{and_parts, and-true}
use Rattle.polar.specs.Order.{joined}
use Rattle.kinds.specs.Frames.{Frames}
use Rattle.machine.specs.Refusals.{first_failed}
use Rattle.machine.specs.Steps.{after, answers}
use Rattle.machine.specs.Nets.{handed_tests, step_of}
use Rattle.machine.specs.Comparison.{Polynomials, machine_step, net_over}
use Rattle.machine.specs.Lent.{net_at, put_net, enough_places, unless_refused}
use Rattle.machine.specs.declared.Call.{Call}
use Rattle.machine.specs.declared.Call.TheVariants as call
use Rattle.machine.proofs.Refusals.{none-failed}
use Rattle.machine.proofs.Over.{Reached}
use Rattle.machine.proofs.Demand3.{along, start-reached}
use Rattle.machine.proofs.Lent.{read_back, put-long}
use Rattle.machine.proofs.Carried.{reached-sound}
use Rattle.decoding.specs.Moves.{weights_of, call_at}
use Rattle.records.specs.Reading.{Reading, Fields, Refused, bytes_of, reading_of, no_fields}
use Rattle.records.proofs.Accepted.{accepted-sound}
use Rattle.opening.proofs.Records.{accepted-numbers, opened-wide}
use Rattle.opening.specs.Opening.{Opened, reading_layout, layout_read, polynomials_in, numbers_in, frames_from, first_net_from, opened_with, opened_layout, moves_of, moves_in, point_of, point_in, refusal_in, opened_in, places_in}
use Rattle.text.specs.Words.{over}
use Rattle.text.specs.Text.{refused_line, head_line, move_lines, net_lines, point_line, accepted_text, text_by, text_of, fits, written_of, buffer_of}
use Rattle.text.specs.Longest.{longest_text}
use Rattle.text.specs.Parts.{Stands, net_text}
use Rattle.text.specs.Told.{BufferVerdict, written, refused, Told}
use Rattle.machine.specs.declared.Refusal.TheVariants as refusal
use Rattle.text.proofs.Room.{accepted-room}

-- ---- the two machines give the same text

machine-text : (f : Polynomials) (frames : Frames) → Reached f frames → (moves points : List Call) → net_text (net_over f frames) moves points ≡ accepted_text f frames moves points
unfolding net_text accepted_text net_over
machine-text f frames at moves points =
    let one = along f frames at moves in
    let later = ap (λ n. answers step_of n points) one.nets ∙ (along f (after (machine_step f) frames moves) one.reached points).answered in
    λ i. head_line f.kind f.degree f.second ++ (move_lines 1 (one.answered i) ++ (net_lines (one.nets i) ++ joined point_line (later i)))

-- the net over frames that are reached is none that is refused as handed
reached-handed : (f : Polynomials) (frames : Frames) → Reached f frames → first_failed (handed_tests (net_over f frames)) ≡ 0
unfolding handed_tests net_over
reached-handed f frames at = (none-failed (handed_tests (net_over f frames)) refl).1 (and-true at.right (and-true at.fits refl))

-- ---- how many moves and points a record has

moves-short : (s : List ℕ) → (opened_layout s).moves.length ≤ 256
unfolding opened_layout layout_read
moves-short s = by (refusal_in s).number (reading_of s) refl
  where
    by : (k : ℕ) (r : Reading) → reading_of s ≡ r → (unless_refused k (reading_layout r s) (no_fields s)).moves.length ≤ 256
    by zero (Fields l) e =
        leb-true l.moves.length 256 (and_parts (eqb (l.moves.length % 8) 0) (leb l.moves.length 256) (accepted-sound s l e).moves_long).1
    by zero (Refused r) e = omega arith
    by (suc k) r e = omega arith

moves-few : (s : List ℕ) → length (moves_in s) ≤ 32
unfolding moves_in
moves-few s =
    let short = moves-short s in
    let moves = (opened_layout s).moves in
    let value = bytes_of moves s in
    let cut = length-take moves.length (drop moves.start s) in
    let many = length-map (upto (length value / 8)) (call_at value) ∙ length-upto (length value / 8) in
    omega (arith, short, cut, many)

point-few : (s : List ℕ) → length (point_in s) ≤ 1
unfolding point_in
point-few s = let value = bytes_of (opened_layout s).point s in by (eqb (length value) 0) (call.Point (weights_of value))
  where
    by : (b : Bool) (c : Call) → length (cond b [] (c ∷ [])) ≤ 1
    by true c = omega arith
    by false c = omega arith

-- ---- an accepted record

module _ (s : List ℕ) (ok : (refusal_in s).number ≡ 0) where
  at-start : Reached (polynomials_in s) (frames_from s)
  at-start = start-reached (polynomials_in s) (numbers_in s) (accepted-numbers s ok)

  -- its first net put into places takes calls
  first-stands : (lent : List ℤ) → length lent ≡ 193 → enough_places lent ≡ true → (net_at (put_net (first_net_from s) lent) ≡ first_net_from s) × Stands (put_net (first_net_from s) lent)
  first-stands lent long enough =
      let sound = reached-sound (polynomials_in s) (frames_from s) at-start in
      let back = read_back (first_net_from s) lent enough sound in (
        back,
        record {
          long = put-long (first_net_from s) lent enough sound ∙ long;
          handed =
              λ calls.
              ap (λ n. first_failed (handed_tests (after step_of n calls))) back
              ∙ ap (λ n. first_failed (handed_tests n)) (along (polynomials_in s) (frames_from s) at-start calls).nets
              ∙ reached-handed (polynomials_in s) (after (machine_step (polynomials_in s)) (frames_from s) calls) (along (polynomials_in s) (frames_from s) at-start calls).reached;
        },
      )

  text-of : net_text (first_net_from s) (moves_in s) (point_in s) ≡ text_of s
  unfolding text_of
  text-of = machine-text (polynomials_in s) (frames_from s) at-start (moves_in s) (point_in s) ∙ sym (ap (λ k. text_by k s) ok)

  pub text-room : length (text_of s) ≤ longest_text
  unfolding text_of
  text-room =
      subst (λ k. length (text_by k s) ≤ longest_text) (sym ok)
      (accepted-room (polynomials_in s) (frames_from s) at-start (moves_in s) (point_in s) (moves-few s) (point-few s))

-- ---- a record as the code has opened it, in 193 places

module _ (s : List ℕ) (lent : List ℤ) {net : List ℤ} {o : Opened} (long : length lent ≡ 193) (is : (o ≡ opened_in s lent) × (net ≡ places_in s lent)) where
  enough : enough_places lent ≡ true
  enough = le-leb 193 (length lent) (omega (arith, long))

  opened-is : o ≡ opened_with (refusal_in s) s
  opened-is = is.0 ∙ opened-wide s lent enough

  number_is : o.refusal.number ≡ (refusal_in s).number
  number_is = ap (λ x. x.refusal.number) opened-is

  module _ (ok : o.refusal.number ≡ 0) where
    accepted : (refusal_in s).number ≡ 0
    accepted = sym number_is ∙ ok

    places-are : net ≡ put_net (first_net_from s) lent
    unfolding places_in
    places-are = is.1 ∙ ap (λ k. unless_refused k (put_net (first_net_from s) lent) lent) (sym (ap (λ x. x.refusal.number) is.0) ∙ ok)

    pub opened-stands : Stands net
    opened-stands = subst Stands (sym places-are) (first-stands s accepted lent long enough).1

    pub opened-text : net_text (net_at net) (moves_of (bytes_of o.layout.moves s)) (point_of (bytes_of o.layout.point s)) ≡ text_of s
    unfolding moves_in point_in opened_layout
    opened-text =
        let first : net_at net ≡ first_net_from s = ap net_at places-are ∙ (first-stands s accepted lent long enough).0 in
        (λ i. net_text (first i) (moves_of (bytes_of (opened-is i).layout.moves s)) (point_of (bytes_of (opened-is i).layout.point s))) ∙ text-of s accepted

    pub opened-room : length (text_of s) ≤ longest_text
    opened-room = text-room s accepted

  pub refused-text : (o.refusal.number ≡ 0 → ⊥) → refused_line o.refusal.number o.refusal.offset ≡ text_of s
  unfolding text_of
  refused-text some = ap (λ (x : Opened). refused_line x.refusal.number x.refusal.offset) opened-is ∙ by (refusal_in s).number (λ z. some (number_is ∙ z))
    where
      by : (n : ℕ) → (n ≡ 0 → ⊥) → refused_line n (refusal_in s).offset ≡ text_by n s
      by zero h = absurd (h refl)
      by (suc k) h = refl

-- ---- from the made text to the lent buffer

-- a text at the front of a buffer is its first bytes
pub made-front : (old text : List ℕ) {new : List ℕ} {n : ℕ} → new ≡ over old 0 text → n ≡ length text → (take n new ≡ text) × (n ≤ length new)
unfolding over
made-front old text {new} {n} buffer long =
    let sizes = ap length buffer ∙ length-append text (drop (0 + length text) old) in (
      ap₂ take long buffer ∙ take-append_seam text (drop (0 + length text) old),
      omega (arith, long, sizes),
    )

-- a buffer that is shorter than the text
pub written-short : (text out : List ℕ) (n : ℕ) → n ≡ length text → length out < n → (Err refusal.Short ≡ written_of text out) × (Told text out out (Err refusal.Short) × (out ≡ buffer_of text out))
unfolding written_of buffer_of
written-short text out n long short =
    let no : fits text out ≡ false = lt-leb (length text) (length out) (omega (arith, long, short)) in (
      sym (ap (λ b. cond b (Ok (length text)) (Err refusal.Short)) no),
      (record { verdict = refused (omega (arith, long, short)); within = (omega arith, refl) }, sym (ap (λ b. cond b (text ++ drop (length text) out) out) no)),
    )

-- a buffer that is not
pub written-whole : (text out new : List ℕ) (n : ℕ) → n ≡ length text → n ≤ length out → new ≡ over out 0 text
    → (Ok n ≡ written_of text out) × (Told text out new (Ok n) × (new ≡ buffer_of text out))
unfolding written_of buffer_of over
written-whole text out new n long room is =
    let yes : fits text out ≡ true = le-leb (length text) (length out) (omega (arith, long, room)) in
    let all : 0 + length text ≡ length text = omega arith in
    let sizes = ap length is ∙ length-append text (drop (0 + length text) out) in
    let within : n ≤ length new = omega (arith, long, sizes) in (
      ap Ok long ∙ sym (ap (λ b. cond b (Ok (length text)) (Err refusal.Short)) yes),
      (
        record { verdict = subst (BufferVerdict text out 0) (sym long) (written (omega (arith, long, room))); within = (within, sym (length-take-le n new within)) },
        is ∙ ap (λ k. text ++ drop k out) all ∙ sym (ap (λ b. cond b (text ++ drop (length text) out) out) yes),
      ),
    )
