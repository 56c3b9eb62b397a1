-- `sign_numbers` meets its contract: the numbers at and past i are as they were.
use borrow.Author.Rules.{sfits_of}
use Prim.Native.Nat.{◌*◌, ◌≤◌}
use native.Mathlib.Nat.{sub_self, le_refl}
use native.Mathlib.Omega.{arith}
use mathlib.Core.Path.{refl, sym, ap, ◌∙◌, subst}
use lib.IntN.{pos, nat_abs}
use lib.ListN.{get_or}
use Rattle.integers.proofs.Signed.{seen, back_fits}
use Rattle.entries.specs.Entries.{signed}
use Rattle.nets.specs.Rows.{written}
use Rattle.nets.proofs.Row.{element}
use Rattle.nets.proofs.Lists.{write-next, write-still}
use Rattle.nets.proofs.flips.sign_numbers.Goals as goal

pub loop-i-init : goal.loop-i-init
unfolding written
loop-i-init c = rw sub_self refl

pub sign-requires : goal.sign-requires
sign-requires c =
    let a = c.args in
    let l = c.loop-i in
    let low : a.width * a.p ≤ l.i = omega arith in
    let was = element (get_or l.xs l.i (pos 0)) (omega arith) ∙ write-still a.xs.now l.xs (a.width * a.p) l.i l.i (λ j. signed a.count (get_or a.xs.now j (pos 0))) low (le_refl l.i) l.invariant in
    subst (λ v. nat_abs v ≤ 281474976710656) (sym was) (c.requires.1 l.i low c.loop-i-test.true)

pub loop-i-preserved : goal.loop-i-preserved
loop-i-preserved c =
    let a = c.args in
    let l = c.loop-i in
    let low : a.width * a.p ≤ l.i = omega arith in
    let was = element (get_or l.xs l.i (pos 0)) (omega arith) ∙ write-still a.xs.now l.xs (a.width * a.p) l.i l.i (λ j. signed a.count (get_or a.xs.now j (pos 0))) low (le_refl l.i) l.invariant in
    write-next a.xs.now l.xs (a.width * a.p) l.i (seen c.sign.result) (λ j. signed a.count (get_or a.xs.now j (pos 0))) low l.invariant
    (back_fits (sfits_of c.sign.type_inv) ∙ c.sign.ensures ∙ ap (signed a.count) was)
