-- `put_line` meets its contract: before each number, what is left to write are the numbers from there on and the end of the line.
use lib.ListN.{drop}
use Rattle.text.specs.Parts.{numbers_text}
use Rattle.text.proofs.Then.{Left}
use Rattle.text.proofs.words.Page.put_line.Given as goal

abbrev pub invariant-loop-number : goal.invariant-loop-number
invariant-loop-number l = Left l.initial.self (numbers_text l.numbers) l.self (numbers_text (drop l.number-index l.numbers))
