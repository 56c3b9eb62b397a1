-- `make_first` meets its contract: the rooms are long enough, the small ones where the test says so, and the others for every known kind.
use native.Mathlib.Omega.{arith}
use Rattle.kinds.proofs.Counts.{entries_fit}
use Rattle.machine.specs.Lent.{polynomials_from}
use Rattle.nets.proofs.FirstSteps.{first-known}
use Rattle.nets.proofs.make_first.Goals as goal

pub make_in-requires : goal.make_in-requires
make_in-requires c = (c.requires.0, c.requires.1, omega (arith, c.number_count.ensures.entries), omega arith)

pub make_in-requires-2 : goal.make_in-requires-2
make_in-requires-2 c =
    let h = c.args.head in
    let right = first-known (polynomials_from h.kind h.degree h.second c.args.coefficients.now) c.args.frame.now c.requires.0.accepted in
    (c.requires.0, c.requires.1, entries_fit h.kind h.degree h.second right, omega arith)
