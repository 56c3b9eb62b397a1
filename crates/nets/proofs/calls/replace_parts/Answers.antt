-- `replace_parts` meets its contract: after k turns the vertex is replaced in the first k parts, whose named polar values
-- are all in range.
use borrow.Author.Rules.{rules}
use Prim.Native.Nat.{ℕ, ◌+◌, ◌*◌, ◌-◌, ◌≤◌, ◌<◌}
use native.Mathlib.Nat.{le_refl, le_trans, le_of_eq}
use native.Mathlib.Omega.{arith}
use mathlib.Core.Path.{◌≡◌, refl, sym, ap, ◌∙◌, subst}
use mathlib.Core.Bool.{Bool, true, false}
use mathlib.Core.List.{List}
use lib.IntN.{ℤ, pos}
use lib.ListN.{length, get_or, take, drop}
use borrow.Rule.Slice.PartMut.{put_mid}
use Rattle.integers.specs.Sum.{upto}
use Rattle.integers.specs.Test.{all}
use Rattle.integers.proofs.All.{all_map, clash, one-fails}
use Rattle.integers.proofs.Sums.{below-upto}
use Rattle.entries.specs.Rows.{size}
use Rattle.machine.specs.Calls.{weight_list}
use Rattle.machine.specs.declared.Weights.{Weights}
use Rattle.nets.specs.Levels.{Descends, ReplacedInPlace, all_named_at, replaced_list}
use Rattle.nets.specs.Parts.{part_at, all_parts, replaced_parts, PartsReplaced, ReplacesParts}
use Rattle.nets.proofs.Parts.{Turn, turn, turn_low, turn_last, part-long, part-put, part-ranged, parts_none, parts-past, parts_more, replaced-keeps, all_more}
use Rattle.nets.proofs.calls.replace_parts.Goals as goal

module _ {m v parts : ℕ} {weights : Weights} {xs : List ℤ} (asked : PartsReplaced m v parts weights xs) where
  abbrev l : ℕ
  l = size 4 1 m

  abbrev ws : List ℤ
  ws = weight_list weights

  -- what is made of a part, and whether its named polar values are in range
  abbrev made : List ℤ → List ℤ
  made = replaced_list 4 1 m ws v

  abbrev named : ℕ → Bool
  named j = all_named_at 4 1 m ws (part_at l xs j)

  as_long : (ys : List ℤ) → length ys ≡ l → length (made ys) ≡ l
  as_long = replaced-keeps 1 m v ws

  whole : all named (upto parts) ≡ all_parts m ws parts xs
  whole = sym (all_map (all_named_at 4 1 m ws) (part_at l xs) (upto parts))

  none : xs ≡ replaced_parts m ws v 0 xs
  none = sym (parts_none made l as_long xs)

  -- after all parts
  done : {cur : List ℤ} → cur ≡ replaced_parts m ws v parts xs → all named (upto parts) ≡ true → ReplacesParts m ws v parts xs true cur
  done is ok =
      record {
        named = sym ok ∙ whole;
        made = λ yes-it-is. is;
        past = λ i p. ap (λ ys. get_or ys i (pos 0)) is ∙ parts-past made l as_long xs parts parts (le_refl parts) asked.parts.long i p;
      }

  -- a turn, in which part k is worked on
  module _ {k width : ℕ} {cur : List ℤ} (below : k < parts) (width_is : width ≡ l) (is : cur ≡ replaced_parts m ws v k xs) where
    low : width * k + width ≤ 180
    low = turn_low l parts k width below width_is asked.parts.room

    here : Turn l k parts (width * k) (width * k + width - width * k) xs cur
    here = turn made l as_long xs parts asked.parts.long k width cur below width_is is

    asks : Descends 4 1 m weights (take (width * k + width - width * k) (drop (width * k) cur)) × (v ≤ 1)
    asks = (
      subst (Descends 4 1 m weights) (sym here.part)
          (record {
            sized = asked.parts.sized;
            long = le_of_eq (sym (part-long l xs k parts below asked.parts.long));
            range = part-ranged asked.parts k below;
            light = asked.light;
          }),
      asked.vertex,
    )

    -- what the replace found of the part
    module _ {b : Bool} {ys : List ℤ} (says : ReplacedInPlace 4 1 m ws v (take (width * k + width - width * k) (drop (width * k) cur)) b ys) where
      found : b ≡ named k
      found = says.named ∙ ap (all_named_at 4 1 m ws) here.part

      refused : b ≡ false → ReplacesParts m ws v parts xs false (put_mid (width * k) (width * k + width - width * k) cur ys)
      refused out =
          record {
            named = sym (one-fails named (upto parts) k (below-upto parts k below) (sym found ∙ out)) ∙ whole;
            made = λ yes-it-is. absurd (clash yes-it-is refl);
            past = λ i p.
                part-put (width * k) (width * k + width) cur ys (omega arith) (omega (arith, here.ends)) says.kept i
                (le_trans (turn_low l parts k width below width_is (le_refl (l * parts))) p)
                ∙ ap (λ zs. get_or zs i (pos 0)) is
                ∙ parts-past made l as_long xs k parts (omega arith) asked.parts.long i p;
          }

      more : b ≡ true → put_mid (width * k) (width * k + width - width * k) cur ys ≡ replaced_parts m ws v (k + 1) xs
      more ok =
          parts_more made l as_long xs k _ _ cur ys (turn_last l parts k (length xs) below asked.parts.long) here.at here.as_many is (says.last ok)

pub loop-k-init : goal.loop-k-init
loop-k-init c = record { made = none c.requires; named = refl }

pub overflow_mul-from : goal.overflow_mul-from
overflow_mul-from c =
    let few = low c.requires (omega arith) c.numbers-length.ensures c.loop-k.invariant.made in
    record { fits = omega arith }

pub overflow_add-from : goal.overflow_add-from
overflow_add-from c =
    let few = low c.requires (omega arith) c.numbers-length.ensures c.loop-k.invariant.made in
    record { fits = omega arith }

pub offset_bounds-entries-from : goal.offset_bounds-entries-from
offset_bounds-entries-from c =
    let few = low c.requires (omega arith) c.numbers-length.ensures c.loop-k.invariant.made in
    search rules

pub slice_bounds-descend_line-end : goal.slice_bounds-descend_line-end
slice_bounds-descend_line-end c =
    let ends = (here c.requires (omega arith) c.numbers-length.ensures c.loop-k.invariant.made).ends in
    search rules

pub descend_line-requires : goal.descend_line-requires
descend_line-requires c = asks c.requires (omega arith) c.numbers-length.ensures c.loop-k.invariant.made

pub returns-then-not-descend_line : goal.returns-then-not-descend_line
returns-then-not-descend_line c =
    refused c.requires (omega arith) c.numbers-length.ensures c.loop-k.invariant.made c.descend_line.ensures c.if-not-descend_line.true

pub loop-k-preserved : goal.loop-k-preserved
loop-k-preserved c =
    record {
      made = more c.requires (omega arith) c.numbers-length.ensures c.loop-k.invariant.made c.descend_line.ensures c.if-not-descend_line.false;
      named = all_more (named c.requires) c.loop-k.k c.loop-k.invariant.named
          (sym (found c.requires (omega arith) c.numbers-length.ensures c.loop-k.invariant.made c.descend_line.ensures) ∙ c.if-not-descend_line.false);
    }

pub returns : goal.returns
returns c = let all-done : c.loop-k.k ≡ c.args.parts = omega arith in done c.requires (rw all-done at c.loop-k.invariant.made) (rw all-done at c.loop-k.invariant.named)
