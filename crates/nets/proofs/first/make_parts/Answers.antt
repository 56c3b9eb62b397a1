-- `make_parts` meets its contract: after k turns the first k parts are the nets over the frame, and the rooms are as long as they were.
use Prim.Native.Nat.{ℕ, ◌+◌, ◌*◌, ◌-◌, ◌≤◌}
use native.Mathlib.Nat.{le_of_eq}
use mathlib.Core.Path.{◌≡◌, refl, sym, ap, ◌∙◌, subst}
use mathlib.Core.List.{List, append-nil, ◌++◌}
use lib.IntN.{ℤ}
use lib.ListN.{length, take, drop}
use lib.Seq.{drop-length}
use Rattle.entries.specs.Rows.{size}
use Rattle.entries.proofs.Listed.{length-listed}
use Rattle.nets.specs.FirstNet.{framed, Framing}
use Rattle.nets.specs.Parts.{part_at}
use Rattle.nets.proofs.Parts.{Turn, turn, turn_last, part-long, parts_none, parts_more}
use Rattle.nets.proofs.first.make_parts.Goals as goal
use Rattle.nets.proofs.first.make_parts.Goals.{In-loop-k}

keeps : (n m : ℕ) (frame ys : List ℤ) → length ys ≡ size 4 n m → length (framed 4 n m frame ys) ≡ size 4 n m
unfolding framed
keeps n m frame ys is = length-listed 4 n m _

pub loop-k-init : goal.loop-k-init
loop-k-init c =
    let a = c.args in
    (sym (parts_none (framed 4 a.dimension a.degree a.frame.now) (size 4 a.dimension a.degree) (keeps a.dimension a.degree a.frame.now) a.out.now), refl, refl, refl)

-- a turn, in which part k is worked on
module _ (c : In-loop-k) where
  abbrev l : ℕ
  l = size 4 c.args.dimension c.args.degree

  abbrev width : ℕ
  width = c.numbers-length.result

  here : Turn l c.loop-k.k c.args.parts (width * c.loop-k.k) (width * c.loop-k.k + width - width * c.loop-k.k) c.args.out.now c.loop-k.out
  here =
      turn (framed 4 c.args.dimension c.args.degree c.args.frame.now) l (keeps c.args.dimension c.args.degree c.args.frame.now) c.args.out.now c.args.parts
      c.requires.0.long c.loop-k.k width c.loop-k.out c.loop-k-test.true c.numbers-length.ensures c.loop-k.invariant.0

  whole : length (part_at l c.args.out.now c.loop-k.k) ≡ l
  whole = part-long l c.args.out.now c.loop-k.k c.args.parts c.loop-k-test.true c.requires.0.long

pub make_part-requires : goal.make_part-requires
make_part-requires c =
    let a = c.args in
    let t = (goal.at.make_part-requires c).In-loop-k in
    let inv = c.loop-k.invariant in (
      subst (Framing 4 a.dimension a.degree a.frame.now) (sym (here t).part) (c.requires.0.part c.loop-k.k c.loop-k-test.true),
      le_of_eq (sym (ap length (here t).part ∙ whole t)),
      record {
        work-room = subst (λ k. l t ≤ k) (sym inv.1) c.requires.1.work-room;
        cur-room = subst (λ k. l t ≤ k) (sym inv.2) c.requires.1.cur-room;
        base-room = subst (λ k. l t ≤ k) (sym inv.3) c.requires.1.base-room;
      },
    )

pub loop-k-preserved : goal.loop-k-preserved
loop-k-preserved c =
    let a = c.args in
    let t = (goal.at.loop-k-preserved c).In-loop-k in
    let loop = c.loop-k in
    let put = c.make_part in
    let part = take (width t * loop.k + width t - width t * loop.k) (drop (width t * loop.k) loop.out) in
    let part-is = ap length (here t).part ∙ whole t in (
      parts_more (framed 4 a.dimension a.degree a.frame.now) (l t) (keeps a.dimension a.degree a.frame.now) a.out.now loop.k (width t * loop.k) (width t * loop.k + width t - width t * loop.k)
          loop.out put.new.part (turn_last (l t) a.parts loop.k (length a.out.now) c.loop-k-test.true c.requires.0.long) (here t).at (here t).as_many loop.invariant.0
          (put.ensures ∙ ap (λ ys. framed 4 a.dimension a.degree a.frame.now part ++ ys) (ap (λ k. drop k part) (sym part-is) ∙ drop-length part) ∙ append-nil (framed 4 a.dimension a.degree a.frame.now part)),
      put.auto.work ∙ loop.invariant.1,
      put.auto.cur ∙ loop.invariant.2,
      put.auto.base ∙ loop.invariant.3,
    )
