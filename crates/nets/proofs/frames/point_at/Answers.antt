-- `point_at` meets its contract: q's numbers in a group of two or of three vertices.
use borrow.Author.Rules.{rules}
use Prim.Native.Nat.{ℕ, ◌+◌, ◌*◌, ◌≤◌, ◌<◌}
use native.Mathlib.Omega.{arith}
use mathlib.Core.Path.{◌≡◌, refl, sym, ap, subst}
use mathlib.Core.List.{List}
use lib.IntN.{ℤ, nat_abs}
use lib.ListN.{length}
use Rattle.machine.specs.declared.Weights.{Weights}
use Rattle.integers.proofs.Signed.{back_fits}
use Rattle.nets.specs.Frames.{Small, Blends}
use Rattle.nets.proofs.Vertices.{point-two, point-three}
use Rattle.nets.proofs.frames.point_at.Goals as goal

module _ {xs : List ℤ} {start count : ℕ} {weights : Weights} (asked : Blends xs start count weights) where
  -- a number of the group's frame
  small : (i k : ℕ) → i ≡ start + k → k < count * count → Small xs i
  small i k is h = subst (Small xs) (sym is) (asked.small k h)

  -- two vertices: number j of q
  two-asked : count ≡ 2 → (at j : ℕ) → at ≡ start + j → j < 2 → (at + 3 ≤ length xs) × (nat_abs weights.r + nat_abs weights.s ≤ 12288) × Small xs at × Small xs (at + 2)
  two-asked is at j here h =
      let four : count * count ≡ 4 = ap (λ n. n * n) is in
      (omega (arith, asked.long), omega (arith, asked.light), small at j here (omega arith), small (at + 2) (j + 2) (omega arith) (omega arith))

  three : (count ≡ 2 → ⊥) → count ≡ 3
  three other = omega (arith, asked.two, asked.three)

  -- three
  three-asked : (count ≡ 2 → ⊥) → (at j : ℕ) → at ≡ start + j → j < 3
      → (at + 7 ≤ length xs) × (nat_abs weights.r + nat_abs weights.s + nat_abs weights.t ≤ 12288) × Small xs at × Small xs (at + 3) × Small xs (at + 6)
  three-asked other at j here h =
      let nine : count * count ≡ 9 = ap (λ n. n * n) (three other) in
      (omega (arith, asked.long), asked.light, small at j here (omega arith), small (at + 3) (j + 3) (omega arith) (omega arith), small (at + 6) (j + 6) (omega arith) (omega arith))

pub of_two-requires : goal.of_two-requires
of_two-requires c =
    let r = back_fits {z = c.args.weights.r} (search rules) in
    let s = back_fits {z = c.args.weights.s} (search rules) in
    rw (r, s) (two-asked c.requires c.if-count-eq2.true c.args.own.start 0 (omega arith) (omega arith))

pub of_two-requires-then-count-eq2 : goal.of_two-requires-then-count-eq2
of_two-requires-then-count-eq2 c =
    let r = back_fits {z = c.args.weights.r} (search rules) in
    let s = back_fits {z = c.args.weights.s} (search rules) in
    rw (r, s) (two-asked c.requires c.if-count-eq2.true (c.args.own.start + 1) 1 refl (omega arith))

pub returns-then-count-eq2 : goal.returns-then-count-eq2
returns-then-count-eq2 c =
    let a = c.args in
    let r = back_fits {z = a.weights.r} (search rules) in
    let s = back_fits {z = a.weights.s} (search rules) in
    let first = back_fits {z = c.of_two.result} (search rules) in
    let second = back_fits {z = c.of_two-then-count-eq2.result} (search rules) in
    rw (first, second, c.of_two.ensures, c.of_two-then-count-eq2.ensures, r, s) (sym (point-two a.net.now a.own.start a.weights a.own.count c.if-count-eq2.true))

pub of_three-requires : goal.of_three-requires
of_three-requires c =
    let r = back_fits {z = c.args.weights.r} (search rules) in
    let s = back_fits {z = c.args.weights.s} (search rules) in
    let t = back_fits {z = c.args.weights.t} (search rules) in
    rw (r, s, t) (three-asked c.requires c.if-count-eq2.false c.args.own.start 0 (omega arith) (omega arith))

pub of_three-requires-2 : goal.of_three-requires-2
of_three-requires-2 c =
    let r = back_fits {z = c.args.weights.r} (search rules) in
    let s = back_fits {z = c.args.weights.s} (search rules) in
    let t = back_fits {z = c.args.weights.t} (search rules) in
    rw (r, s, t) (three-asked c.requires c.if-count-eq2.false (c.args.own.start + 1) 1 refl (omega arith))

pub of_three-requires-3 : goal.of_three-requires-3
of_three-requires-3 c =
    let r = back_fits {z = c.args.weights.r} (search rules) in
    let s = back_fits {z = c.args.weights.s} (search rules) in
    let t = back_fits {z = c.args.weights.t} (search rules) in
    rw (r, s, t) (three-asked c.requires c.if-count-eq2.false (c.args.own.start + 2) 2 refl (omega arith))

pub returns : goal.returns
returns c =
    let a = c.args in
    let r = back_fits {z = a.weights.r} (search rules) in
    let s = back_fits {z = a.weights.s} (search rules) in
    let t = back_fits {z = a.weights.t} (search rules) in
    let first = back_fits {z = c.of_three.result} (search rules) in
    let second = back_fits {z = c.of_three-2.result} (search rules) in
    let third = back_fits {z = c.of_three-3.result} (search rules) in
    rw (first, second, third, c.of_three.ensures, c.of_three-2.ensures, c.of_three-3.ensures, r, s, t) (sym (point-three a.net.now a.own.start a.weights a.own.count (three c.requires c.if-count-eq2.false)))
