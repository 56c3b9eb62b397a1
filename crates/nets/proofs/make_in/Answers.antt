-- `make_in` meets its contract: what is made in the room is the first net, and it is stored as it is.
use native.Mathlib.Nat.{le_trans, le_of_eq}
use mathlib.Core.Path.{sym, ap, ◌∙◌}
use lib.ListN.{length-replicate}
use lib.IntN.{pos}
use Rattle.integers.specs.Largest.{largest_of}
use Rattle.kinds.proofs.Counts.{entries_fit}
use Rattle.machine.specs.Lent.{polynomials_from}
use Rattle.nets.proofs.FirstSteps.{first-known, own-entries, first-stored}
use Rattle.nets.proofs.make_in.Goals as goal

pub make_entries-largest-requires : goal.make_entries-largest-requires
make_entries-largest-requires g c =
    let room = le_trans c.requires.2 (le_of_eq (sym (length-replicate g.row.N (pos 0)))) in
    (c.requires.0, record { work-room = room; cur-room = room; base-room = room; out-room = room })

pub store-requires : goal.store-requires
store-requires g c =
    let a = c.args in
    let h = a.head in
    let asked = c.requires.0 in
    let made = c.make_entries-largest in
    let right = first-known (polynomials_from h.kind h.degree h.second a.coefficients.now) a.frame.now asked.accepted in
    record {
      places = c.requires.1;
      nine = asked.nine;
      fit = entries_fit h.kind h.degree h.second right;
      enough = le_trans c.requires.2 (le_of_eq (sym (made.auto.out ∙ length-replicate g.row.N (pos 0))));
      largest-is = made.ensures.largest ∙ ap largest_of (sym (own-entries h right a.frame.now a.coefficients.now _ made.new.out made.ensures.made));
    }

pub returns : goal.returns
returns g c =
    let a = c.args in
    let h = a.head in
    let made = c.make_entries-largest in
    let right = first-known (polynomials_from h.kind h.degree h.second a.coefficients.now) a.frame.now c.requires.0.accepted in
    first-stored h right a.frame.now a.coefficients.now _ made.new.out made.ensures.made a.net.now c.store.new.net _ c.store.ensures
