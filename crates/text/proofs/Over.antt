-- Texts written into a buffer one after the other are their concatenation written once. The idea: at the second text's place the first half of the buffer is
-- `take at old ++ a`, whose length is that place, so the second write leaves it whole.
use Prim.Native.Nat.{ℕ, suc, ◌+◌, ◌≤◌, ◌<◌}
use native.Mathlib.Nat.{add-zero, add_assoc}
use native.Mathlib.Omega.{arith}
use mathlib.Core.Path.{◌≡◌, refl, sym, ap, ap₂, ◌∙◌}
use mathlib.Core.List.{List, [], ◌∷◌, ◌++◌, append_assoc}
use lib.ListN.{length, take, drop, set, length-append, length-drop, take-append-drop}
use lib.Seq.{length-take-le, take-length, take_at, drop_at, drop-append-add, drop-drop, append_snoc, set_split, take-set-le, paste}
use Rattle.text.specs.Words.{over, Room, Writes}
use Rattle.text.specs.declared.words.Page.{Page}

-- ---- an empty text, and the length

pub over-nil : (old : List ℕ) (at : ℕ) → over old at [] ≡ old
unfolding over
over-nil old at = ap (λ (k : ℕ). take at old ++ drop k old) (add-zero at) ∙ take-append-drop at old

pub length_over : (old : List ℕ) (at : ℕ) (text : List ℕ) → at + length text ≤ length old → length (over old at text) ≡ length old
unfolding over
length_over old at text room =
    length-append (take at old) (text ++ drop (at + length text) old)
    ∙ ap₂ ◌+◌ (length-take-le at old (omega arith)) (length-append text (drop (at + length text) old) ∙ ap (λ (k : ℕ). length text + k) (length-drop (at + length text) old))
    ∙ omega arith

-- ---- two texts in a row

-- before the second text: the old front and the first text
front : (old : List ℕ) (at : ℕ) (a : List ℕ) → at ≤ length old → length (take at old ++ a) ≡ at + length a
front old at a room = length-append (take at old) a ∙ ap (λ (k : ℕ). k + length a) (length-take-le at old room)

-- behind the second text: n places further on the buffer is as it was
behind : (old : List ℕ) (place : ℕ) (head : List ℕ) (n : ℕ) → length head ≡ place → drop (place + n) (head ++ drop place old) ≡ drop (place + n) old
behind old place head n seam =
    ap (λ (k : ℕ). drop (k + n) (head ++ drop place old)) (sym seam) ∙ drop-append-add head (drop place old) n ∙ drop-drop n place old

pub over-over : (old : List ℕ) (at : ℕ) (a b : List ℕ) → at + length a + length b ≤ length old
    → over (over old at a) (at + length a) b ≡ over old at (a ++ b)
unfolding over
over-over old at a b room =
    let place = at + length a in
    let head = take at old ++ a in
    let rest = drop (place + length b) old in
    let seam : length head ≡ place = front old at a (omega arith) in
    ap (λ (l : List ℕ). take place l ++ (b ++ drop (place + length b) l)) (sym (append_assoc (take at old) a (drop place old)))
    ∙ ap₂ (λ (u v : List ℕ). u ++ (b ++ v)) (take_at head (drop place old) place seam) (behind old place head (length b) seam)
    ∙ append_assoc (take at old) a (b ++ rest)
    ∙ ap (λ (l : List ℕ). take at old ++ l) (sym (append_assoc a b rest))
    ∙ ap (λ (k : ℕ). take at old ++ ((a ++ b) ++ drop k old)) (add_assoc at (length a) (length b) ∙ ap (λ (k : ℕ). at + k) (sym (length-append a b)))

-- ---- a text that is copied

-- the whole word, copied byte by byte
pub copied : (old : List ℕ) (at : ℕ) (word : List ℕ) → paste old at word (length word) ≡ over old at word
unfolding over
copied old at word =
    ap (λ (l : List ℕ). take at old ++ l ++ drop (at + length word) old) (take-length word)
    ∙ append_assoc (take at old) word (drop (at + length word) old)

-- ---- a text that is written from its end

-- its last byte first, then the rest before it
pub over_last : (old : List ℕ) (at : ℕ) (a : List ℕ) (b : ℕ) → at + length a < length old → over (set old (at + length a) b) at a ≡ over old at (a ++ (b ∷ []))
unfolding over
over_last old at a b room =
    let place = at + length a in
    let tail : drop place (set old place b) ≡ b ∷ drop (suc place) old
    = ap (drop place) (set_split old place b room) ∙ drop_at (take place old) (b ∷ drop (suc place) old) place (length-take-le place old (omega arith)) in
    let end : suc place ≡ at + length (a ++ (b ∷ [])) = omega (arith, length-append a (b ∷ [])) in
    ap₂ (λ (u v : List ℕ). u ++ (a ++ v)) (take-set-le at old place b (omega arith)) tail
    ∙ ap (λ (l : List ℕ). take at old ++ l) (sym (append_snoc a b (drop (suc place) old)) ∙ ap (λ (k : ℕ). (a ++ (b ∷ [])) ++ drop k old) end)

-- a text of one byte
pub over-one : (old : List ℕ) (at b : ℕ) → at < length old → set old at b ≡ over old at (b ∷ [])
over-one old at b room =
    ap (λ (k : ℕ). set old k b) (sym (add-zero at))
    ∙ sym (over-nil (set old (at + 0) b) at)
    ∙ over_last old at [] b (omega arith)

-- ---- writers in a row

-- before the first of them nothing is written
pub nothing_written : (p : Page) → Writes p p []
nothing_written p = record { same_buffer = refl; size = refl; buffer = sym (over-nil p.out.now p.at); place = sym (add-zero p.at) }

-- where two texts have room, the first has
pub first-room : {p : Page} {a : List ℕ} (b : List ℕ) → Room p (a ++ b) → Room p a
first-room {a = a} b room = let r = room.fits in record { fits = omega (arith, r, length-append a b) }

module _ {p q : Page} {a : List ℕ} (first : Writes p q a) where
  -- when the first is written, the second has room after it
  pub then-room : {b : List ℕ} → Room p (a ++ b) → Room q b
  then-room {b} room =
      let r = room.fits in
      record { fits = omega (arith, r, length-append a b, first.size, first.place) }

  -- what one writes and the next writes after it is written in a row
  pub in_a_row : {b : List ℕ} {new : Page} → Writes q new b → Room p (a ++ b) → Writes p new (a ++ b)
  in_a_row {b} second room =
      let r = room.fits in
      record {
        same_buffer = second.same_buffer ∙ first.same_buffer;
        size = second.size ∙ first.size;
        buffer =
            second.buffer
            ∙ ap₂ (λ (l : List ℕ) (k : ℕ). over l k b) first.buffer first.place
            ∙ over-over p.out.now p.at a b (omega (arith, r, length-append a b));
        place = second.place ∙ ap (λ (k : ℕ). k + length b) first.place ∙ add_assoc p.at (length a) (length b) ∙ ap (λ (k : ℕ). p.at + k) (sym (length-append a b));
      }
