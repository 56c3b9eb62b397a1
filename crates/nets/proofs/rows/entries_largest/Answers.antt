-- `entries_largest` meets its contract: the largest so far and that of what is left are the largest of the whole.
use Prim.Native.Nat.{ℕ, max, ◌+◌, ◌*◌}
use native.Mathlib.Omega.{arith}
use mathlib.Core.Path.{◌≡◌, sym, ap, ap₂, ◌∙◌}
use mathlib.Core.List.{[], ◌∷◌}
use lib.IntN.{pos}
use lib.ListN.{drop, get_or}
use Rattle.std.proofs.lemmas.Grind.{common_steps}
use Rattle.integers.specs.Largest.{largest_of}
use Rattle.integers.proofs.Largest.{largest-append}
use Rattle.integers.proofs.Signed.{seen}
use Rattle.nets.proofs.WholeEntries.{whole-inside, entry-read}
use Rattle.nets.proofs.rows.entries_largest.Goals as goal

join : (a b c : ℕ) → max a (max b c) ≡ max (max a b) c
join a b c = omega arith

pub loop-entry-preserved : goal.loop-entry-preserved
loop-entry-preserved c =
    let xs = c.args.numbers.now in
    let l = c.loop-entry in
    let i = 4 * l.entry in
    let rest = entry-read xs i (whole-inside c.requires c.loop-entry-test.true) (omega arith) (omega arith) (omega arith) (omega arith) in
    let four = seen (get_or xs i (pos 0)) ∷ seen (get_or xs (i + 1) (pos 0)) ∷ seen (get_or xs (i + 2) (pos 0)) ∷ seen (get_or xs (i + 3) (pos 0)) ∷ [] in
    let most : c.max-largest.result ≡ max l.largest c.four_largest-four.result = grind (arith, common_steps) in
    let next : i + 4 ≡ 4 * (l.entry + 1) = omega arith in
    l.invariant ∙ ap (λ ys. max l.largest (largest_of ys)) rest ∙ ap (max l.largest) (largest-append four (drop (i + 4) xs)) ∙ join l.largest _ _
    ∙ ap₂ (λ m k. max m (largest_of (drop k xs))) (sym (most ∙ ap (max l.largest) c.four_largest-four.ensures)) next
