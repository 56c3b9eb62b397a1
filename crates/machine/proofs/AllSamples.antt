-- Every sample and every instance holds: one test that is computed over each table, and a law that turns it
-- into what each row says.
use mathlib.Core.Path.{◌≡◌, refl}
use mathlib.Core.Bool.{Bool, true, ◌&&◌}
use mathlib.Core.List.{map, Memᴰ}
use lib.Dec.{eqb}
use lib.IntN.{pos}
use borrow.Author.Tests.{eqb-true}
use Rattle.integers.specs.Test.{eq_z, all}
use Rattle.integers.specs.Instances.{AllRight}
use Rattle.integers.proofs.Signed.{eq_z→eq}
use Rattle.integers.proofs.Instances.{same_by, same_lists, agrees_by, all_right}
use Rattle.polar.specs.Sigma.{σ}
use Rattle.polar.specs.Order.{joined, monomials, counts}
use Rattle.polar.specs.Scale.{multinomial, least_common_multiple, scale}
use Rattle.polar.specs.Groups.{monomials_over, counts_over}
use Rattle.polar.specs.Polar.{polar_over, value_over}
use Rattle.entries.specs.Entries.{listed_over, fixed, fixed_over, entry_over}
use Rattle.projection.specs.Projection.{projection_of, coordinate_bits, first_not_zeros, found_projection}
use Rattle.integers.proofs.All.{all-at, and_parts}
use Rattle.kinds.specs.Frames.{frame_of, frame_allowed, frames_of, frames_allowed, numbers_of}
use Rattle.machine.specs.Calls.{own_tests}
use Rattle.machine.specs.Frames.{points_of, frames_after, new_numbers}
use Rattle.machine.specs.Sizes.{named_by_replace, named_by_point, named_by, all_named, before_size, call_tests}
use Rattle.machine.specs.Projected.{named_at_zero}
use Rattle.machine.specs.Steps.{found_at, step_by, after, answers}
use Rattle.machine.specs.Comparison.{groups, net_over, machine_tests, machine_step, machine_accepted, machine_polar, machine_four, polar_of, scaled_value}
use Rattle.machine.specs.Nets.{handed_tests, judged_numbers, net_tests, net_polar, net_four, entries_after, largest_after, accepted, step_of}
use Rattle.machine.specs.Lent.{net_at, put_net, call_number, call_places, made_number}
use Rattle.machine.specs.First.{first_tests, first_refusal}
use Rattle.machine.specs.Samples.{Sample, answer_row, net_of, SampleHolds, samples, instances}

module _ (s : Sample) where
  abbrev made : Bool
  made = eqb (first_refusal s.polynomials s.frame) 0

  abbrev reached : Bool
  reached = same_by eq_z (numbers_of (net_of s).frames) s.reached

  abbrev net : Bool
  net = same_by eq_z (net_of s).entries (joined (λ row. row) s.net)

  abbrev largest : Bool
  largest = eq_z (net_of s).largest (pos s.largest)

  abbrev answered : Bool
  answered = same_by (same_by eq_z) (map answer_row (answers (machine_step s.polynomials) (frames_of (groups s.polynomials) s.frame) s.calls)) s.answers

  abbrev checked : Bool
  checked = made && (reached && (net && (largest && answered)))

  checked-holds : checked ≡ true → SampleHolds s
  checked-holds h =
      let first = and_parts made (reached && (net && (largest && answered))) h in
      let second = and_parts reached (net && (largest && answered)) first.1 in
      let third = and_parts net (largest && answered) second.1 in
      let rest = and_parts largest answered third.1 in
      record {
        accepted = eqb-true (first_refusal s.polynomials s.frame) 0 first.0;
        reached = same_lists eq_z eq_z→eq _ _ second.0;
        net = same_lists eq_z eq_z→eq _ _ third.0;
        largest = eq_z→eq _ _ rest.0;
        answered = same_lists (same_by eq_z) (same_lists eq_z eq_z→eq) _ _ rest.1;
      }

table-checked : all checked samples ≡ true
unfolding machine_four named_at_zero first_not_zeros found_projection net_over after answers step_by machine_step machine_tests machine_accepted machine_polar points_of frames_after new_numbers own_tests polar_of scaled_value before_size named_by named_by_replace named_by_point all_named call_tests found_at first_refusal first_tests frame_of frame_allowed frames_of frames_allowed σ monomials counts monomials_over counts_over multinomial least_common_multiple scale polar_over value_over listed_over projection_of coordinate_bits
table-checked = refl

-- every row of the table holds
pub every-sample : (s : Sample) → Memᴰ s samples → SampleHolds s
every-sample s m = checked-holds s (all-at checked samples table-checked s m)

-- ---- single instances

instances-agree : all (agrees_by eq_z) instances ≡ true
unfolding net_over polar_of points_of new_numbers own_tests before_size named_by named_by_replace named_by_point all_named call_tests first_refusal first_tests frame_of frame_allowed frames_of frames_allowed σ monomials counts monomials_over counts_over multinomial least_common_multiple scale polar_over listed_over net_tests handed_tests judged_numbers net_polar fixed_over entry_over fixed call_number made_number net_at entries_after largest_after accepted step_by step_of frames_after put_net call_places net_four named_at_zero first_not_zeros found_at found_projection projection_of coordinate_bits
instances-agree = refl

-- every instance is right
pub every-instance : AllRight instances
every-instance = all_right instances instances-agree
