-- At the end every place holds its number.
use Rattle.std.proofs.Common.{ap, ◌∙◌, arith}
use Rattle.decoding.proofs.Numbers.{numbers_to-by}
use Rattle.decoding.specs.Numbers.{number_at, numbers_to}
use Rattle.decoding.proofs.read_coefficients.Goals as goal

pub returns : goal.returns
returns c =
    let f = number_at 4 c.args.part.now in
    let filled = c.loop-k.invariant in
    numbers_to-by c.loop-k.out f (λ j h. filled.1 j (omega arith)) ∙ ap (λ n. numbers_to n f) filled.0
