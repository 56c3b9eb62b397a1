-- `entries_within` meets its contract: what is left to test of the list decides the whole test.
use Prim.Native.Nat.{◌+◌, ◌*◌}
use native.Mathlib.Omega.{arith}
use mathlib.Core.Path.{◌≡◌, sym, ap, ◌∙◌}
use mathlib.Core.Bool.{◌&&◌}
use lib.ListN.{drop}
use Rattle.integers.specs.Test.{within, all}
use Rattle.nets.proofs.WholeEntries.{whole-inside, test_next}
use Rattle.nets.proofs.rows.entries_within.Goals as goal

pub returns-then-not-four_within : goal.returns-then-not-four_within
returns-then-not-four_within c =
    let xs = c.args.numbers.now in
    let i = 4 * c.loop-entry.entry in
    let test = test_next (within c.args.limit) xs i (whole-inside c.requires c.loop-entry-test.true) (omega arith) (omega arith) (omega arith) (omega arith) in
    let none = sym c.four_within.ensures ∙ c.if-not-four_within.true in
    sym (c.loop-entry.invariant ∙ test ∙ ap (λ b. b && all (within c.args.limit) (drop (i + 4) xs)) none)

pub loop-entry-preserved : goal.loop-entry-preserved
loop-entry-preserved c =
    let xs = c.args.numbers.now in
    let i = 4 * c.loop-entry.entry in
    let test = test_next (within c.args.limit) xs i (whole-inside c.requires c.loop-entry-test.true) (omega arith) (omega arith) (omega arith) (omega arith) in
    let four = sym c.four_within.ensures ∙ c.if-not-four_within.false in
    let next : i + 4 ≡ 4 * (c.loop-entry.entry + 1) = omega arith in
    c.loop-entry.invariant ∙ test ∙ ap (λ b. b && all (within c.args.limit) (drop (i + 4) xs)) four ∙ ap (λ k. all (within c.args.limit) (drop k xs)) next
