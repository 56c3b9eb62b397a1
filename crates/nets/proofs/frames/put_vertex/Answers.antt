-- `put_vertex` meets its contract: two or three writes, one after the other.
use borrow.Author.Rules.{rules}
use Prim.Native.Nat.{ℕ, suc, ◌+◌, ◌*◌, ◌≤◌}
use native.Mathlib.Omega.{arith}
use mathlib.Core.Path.{◌≡◌, sym, ap, ◌∙◌}
use mathlib.Core.List.{List, [], ◌∷◌}
use lib.IntN.{ℤ}
use lib.ListN.{length, set, take}
use Rattle.integers.proofs.Signed.{back_fits}
use Rattle.machine.specs.Lent.{put_at}
use Rattle.machine.proofs.Lent.{set-put}
use Rattle.nets.proofs.frames.put_vertex.Goals as goal

two-put : (xs : List ℤ) (at count : ℕ) (x y z : ℤ) → count ≡ 2 → at + count ≤ length xs → set (set xs at x) (at + 1) y ≡ put_at at (take count (x ∷ y ∷ z ∷ [])) xs
two-put xs at count x y z two room =
    let next : at + 1 ≡ suc at = omega arith in
    ap (λ k. set (set xs at x) k y) next ∙ set-put at (x ∷ y ∷ []) xs (omega arith) ∙ ap (λ k. put_at at (take k (x ∷ y ∷ z ∷ [])) xs) (sym two)

three-put : (xs : List ℤ) (at count : ℕ) (x y z : ℤ) → count ≡ 3 → at + count ≤ length xs → set (set (set xs at x) (at + 1) y) (at + 2) z ≡ put_at at (take count (x ∷ y ∷ z ∷ [])) xs
three-put xs at count x y z three room =
    let next : at + 1 ≡ suc at = omega arith in
    let last : at + 2 ≡ suc (suc at) = omega arith in
    (λ i. set (set (set xs at x) (next i) y) (last i) z) ∙ set-put at (x ∷ y ∷ z ∷ []) xs (omega arith) ∙ ap (λ k. put_at at (take k (x ∷ y ∷ z ∷ [])) xs) (sym three)

pub returns-then-own-eq2 : goal.returns-then-own-eq2
returns-then-own-eq2 c =
    let o = c.args.own in
    let v = c.args.vertex in
    let first = back_fits {z = v.first} (search rules) in
    let second = back_fits {z = v.second} (search rules) in
    (λ i. set (set c.args.net.now (o.start + o.count * o.index) (first i)) (o.start + o.count * o.index + 1) (second i))
    ∙ two-put c.args.net.now (o.start + o.count * o.index) o.count v.first v.second v.third c.if-own-eq2.true c.requires.2

pub returns : goal.returns
returns c =
    let o = c.args.own in
    let v = c.args.vertex in
    let first = back_fits {z = v.first} (search rules) in
    let second = back_fits {z = v.second} (search rules) in
    let third = back_fits {z = v.third} (search rules) in
    let three : o.count ≡ 3 = omega (arith, c.requires.0, c.requires.1, c.if-own-eq2.false) in
    (λ i. set (set (set c.args.net.now (o.start + o.count * o.index) (first i)) (o.start + o.count * o.index + 1) (second i)) (o.start + o.count * o.index + 2) (third i))
    ∙ three-put c.args.net.now (o.start + o.count * o.index) o.count v.first v.second v.third three c.requires.2
