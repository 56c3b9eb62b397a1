-- `make_first` meets its contract: field 2's value has the frame, and the part that begins with field 3's
-- value the coefficients, which are read into the first places of an array of zeros.
use Rattle.std.proofs.Common.{◌-◌, ◌≤◌, ◌++◌, drop, arith, ap, ◌∙◌}
use lib.IntN.{pos}
use lib.ListN.{replicate}
use borrow.Rule.Slice.PartMut.{same_len_mid}
use Rattle.machine.specs.Numbers.{answered}
use Rattle.decoding.specs.Numbers.{frame_numbers}
use Rattle.kinds.proofs.Counts.{entries_fit}
use Rattle.opening.proofs.FirstNet.{filled, first_made}
use Rattle.opening.proofs.make_first.Goals as goal

-- the coefficients have room
pub slice_bounds-coefficients-end : goal.slice_bounds-coefficients-end
slice_bounds-coefficients-end c =
    let h = c.args.layout.said in omega (arith, c.number_count-count.ensures.entries, entries_fit h.kind h.degree h.second c.requires.1)

pub returns : goal.returns
returns c =
    let l = c.args.layout in
    let h = l.said in
    let s = c.args.input.now in
    let n = c.number_count-count.result in
    let room : n ≤ 180 = omega (arith, c.number_count-count.ensures.entries, entries_fit h.kind h.degree h.second c.requires.1) in
    let zeros = replicate 180 (pos 0) in
    let out = c.read_coefficients.new.out in
    let rest = drop (n - 0) zeros in
    first_made l s c.frame_numbers-frame.result (out ++ rest) rest c.args.net.now n c.number_count-count.ensures
    (c.frame_numbers-frame.ensures ∙ ap frame_numbers c.value.ensures.bytes)
    (ap (λ l. l ++ rest) (filled zeros out c.part_from.result.now s l.coefficients.start n room c.part_from.ensures.bytes c.read_coefficients.ensures))
    (same_len_mid 0 (n - 0) zeros out c.read_coefficients.auto.out)
    c.requires.0 (answered c.first_net.result) c.first_net.new.net c.first_net.ensures.number c.first_net.ensures.places
