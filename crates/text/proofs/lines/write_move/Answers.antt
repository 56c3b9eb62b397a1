-- `write_move` meets its contract: a taken move has no line, and a refused one has its two numbers.
use mathlib.Core.Path.{◌≡◌, sym, ap, ◌∙◌}
use Prim.Native.Nat.{ℕ}
use Rattle.std.specs.Prelude.{Result, Err, ⊤}
use Rattle.machine.specs.Numbers.{number_of, answered}
use Rattle.machine.specs.declared.Refusal.{Refusal}
use Rattle.machine.proofs.Numbers.{never_zero}
use Rattle.text.specs.Text.{word, move_line}
use Rattle.text.specs.Parts.{pair_text}
use Rattle.text.proofs.InParts.{move-line, move-none}
use Rattle.text.proofs.Over.{nothing_written}
use Rattle.text.proofs.Then.{room_as, wrote_as}
use Rattle.text.proofs.lines.write_move.Goals as goal

-- the line of a refused move, whose number is read off its refusal
line : (k : ℕ) {n : ℕ} {r : Refusal} {answer : Result ⊤ Refusal} → answer ≡ Err r → n ≡ number_of r → move_line k (answered answer) ≡ pair_text (word "move ") k (word " refused ") n
line k {n} {r} is number = ap (move_line k) (ap answered is ∙ sym number) ∙ move-line k n (λ z. never_zero r (sym number ∙ z))

pub returns-in_default : goal.returns-in_default
returns-in_default c = wrote_as (sym (move-none c.args.k _ (ap answered c.in_default.is))) (nothing_written c.args.page.now)

pub put_pair-requires : goal.put_pair-requires
put_pair-requires c = room_as (line c.args.k c.in-Err.is c.from-number.ensures) c.requires

pub returns : goal.returns
returns c = wrote_as (sym (line c.args.k c.in-Err.is c.from-number.ensures)) c.put_pair.ensures
