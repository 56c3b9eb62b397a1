-- `move_bytes` meets its contract: a move that the part has ends within it, and of another one nothing is left at the end.
use mathlib.Core.Path.{refl, sym, ◌∙◌, ap}
use Prim.Native.Nat.{ℕ, ◌*◌, ◌/◌}
use native.Mathlib.Nat.{add-sub_cancel_left}
use native.Mathlib.Omega.{arith}
use lib.ListN.{length, take, drop}
use Rattle.decoding.proofs.Numbers.{item-there, item-lacking, none_left}
use borrow.Author.Tests.{lt-ltb, le-ltb}
use Rattle.decoding.proofs.move_bytes.Goals as goal

pub returns-then-part-k : goal.returns-then-part-k
returns-then-part-k c =
    let a = c.args in
    let lacking = c.if-part-k.true in record { bytes = none_left a.part.now ∙ sym (item-lacking 8 a.part.now a.k lacking); place = record { block = refl; offset = rw (le-ltb a.k (length a.part.now / 8) lacking) (omega arith) } }

pub returns : goal.returns
returns c =
    let a = c.args in
    let there = c.if-part-k.false in record { bytes = ap (λ (n : ℕ). take n (drop (8 * a.k) a.part.now)) (add-sub_cancel_left (8 * a.k) 8) ∙ sym (item-there 8 a.part.now a.k there); place = record { block = refl; offset = rw (lt-ltb a.k (length a.part.now / 8) there) (omega arith) } }
