-- `flip_parts` meets its contract: after k turns the first k parts are flipped.
use Prim.Native.Nat.{ℕ, ◌+◌, ◌*◌, ◌-◌, ◌<◌}
use native.Mathlib.Nat.{le_of_eq}
use native.Mathlib.Omega.{arith}
use mathlib.Core.Path.{◌≡◌, sym, ◌∙◌, subst}
use mathlib.Core.List.{List}
use lib.IntN.{ℤ}
use lib.ListN.{length, take, drop}
use borrow.Rule.Slice.PartMut.{put_mid}
use Rattle.entries.specs.Rows.{size}
use Rattle.nets.specs.Flips.{flipped_list, Flips}
use Rattle.nets.specs.Parts.{in_parts, PartsFlipped}
use Rattle.nets.proofs.Parts.{Turn, turn, turn_last, part-long, part-each, parts_none, parts_more, listed-keeps}
use Rattle.nets.proofs.calls.flip_parts.Goals as goal

keeps : (n m v : ℕ) (ys : List ℤ) → length ys ≡ size 4 n m → length (flipped_list 4 n m v ys) ≡ size 4 n m
unfolding flipped_list
keeps n m v ys is = listed-keeps 4 n m _ ys (le_of_eq (sym is)) ∙ is

-- a turn, in which part k is worked on
module _ {n m v parts k width : ℕ} {xs cur : List ℤ} (asked : PartsFlipped n m v parts xs) (below : k < parts) (is : width ≡ size 4 n m)
    (so_far : cur ≡ in_parts (flipped_list 4 n m v) (size 4 n m) k xs) where
  here : Turn (size 4 n m) k parts (width * k) (width * k + width - width * k) xs cur
  here = turn (flipped_list 4 n m v) (size 4 n m) (keeps n m v) xs parts asked.parts.long k width cur below is so_far

  asks : Flips 4 n m v (take (width * k + width - width * k) (drop (width * k) cur))
  asks =
      subst (Flips 4 n m v) (sym here.part)
      (record {
        sized = asked.parts.sized;
        vertex = asked.vertex;
        long = le_of_eq (sym (part-long (size 4 n m) xs k parts below asked.parts.long));
        range = part-each asked.parts k below;
      })

  more : {ys : List ℤ} → ys ≡ flipped_list 4 n m v (take (width * k + width - width * k) (drop (width * k) cur))
      → put_mid (width * k) (width * k + width - width * k) cur ys ≡ in_parts (flipped_list 4 n m v) (size 4 n m) (k + 1) xs
  more made =
      parts_more (flipped_list 4 n m v) (size 4 n m) (keeps n m v) xs k _ _ cur _
      (turn_last (size 4 n m) parts k (length xs) below asked.parts.long) here.at here.as_many so_far made

pub loop-k-init : goal.loop-k-init
loop-k-init c =
    let a = c.args in
    sym (parts_none (flipped_list 4 a.dimension a.degree a.vertex) (size 4 a.dimension a.degree) (keeps a.dimension a.degree a.vertex) a.entries.now)

pub flip_entries-requires : goal.flip_entries-requires
flip_entries-requires c = asks c.requires (omega arith) c.numbers-length.ensures c.loop-k.invariant

pub loop-k-preserved : goal.loop-k-preserved
loop-k-preserved c = more c.requires (omega arith) c.numbers-length.ensures c.loop-k.invariant c.flip_entries.ensures
