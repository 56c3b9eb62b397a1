-- Every instance of the table is right: one test that is computed over its rows.
use native.Mathlib.Omega.{arith}
use mathlib.Core.Path.{◌≡◌, refl}
use mathlib.Core.Bool.{true}
use lib.Dec.{eqb}
use lib.Ieee.{to_bits}
use Rattle.integers.specs.Test.{all}
use Rattle.integers.specs.Instances.{AllRight}
use Rattle.integers.proofs.Instances.{agrees_by, all-right-natural}
use Rattle.polar.specs.Sigma.{σ}
use Rattle.polar.specs.Order.{monomials, counts}
use Rattle.polar.specs.Groups.{monomials_over, counts_over}
use Rattle.polar.specs.Scale.{multinomial, least_common_multiple, scale}
use Rattle.polar.specs.Polar.{polar_over, value_over}
use Rattle.entries.specs.Entries.{listed_over}
use Rattle.projection.specs.Projection.{quotient_of, coords_of, projection_of, first_not_zeros, found_projection}
use Rattle.kinds.specs.Frames.{frame_of, frame_allowed, frames_of, frames_allowed}
use Rattle.kinds.specs.Scales.{scale_of}
use Rattle.machine.specs.Calls.{own_tests}
use Rattle.machine.specs.Frames.{points_of, frames_after, new_numbers}
use Rattle.machine.specs.Sizes.{named_by_replace, named_by_point, named_by, all_named, before_size, call_tests}
use Rattle.machine.specs.Projected.{named_at_zero}
use Rattle.machine.specs.Steps.{found_at, step_by, after, answers}
use Rattle.machine.specs.Comparison.{net_over, machine_tests, machine_step, machine_accepted}
use Rattle.machine.specs.Comparison.{machine_polar, polar_of, scaled_value, machine_four}
use Rattle.machine.specs.First.{first_tests, first_refusal}
use Rattle.decoding.specs.Numbers.{frame_numbers, coefficients_of}
use Rattle.decoding.specs.Moves.{call_at}
use Rattle.records.specs.Reading.{reading_of}
use Rattle.opening.specs.Opening.{
  layout_read,
  polynomials_in,
  numbers_in,
  refusal_in,
  opened_layout,
  moves_in,
  point_in,
}
use Rattle.text.specs.Words.{decimal, decimal_by, signed_decimal, hex_bits, line}
use Rattle.text.specs.Text.{
  refused_line,
  head_line,
  move_line,
  move_lines,
  frame_line,
  entry_line,
  entry_lines,
  net_lines,
  point_refused_line,
  projection_line,
  point_line,
  accepted_text,
  text_of,
  written_of,
  buffer_of,
}
use Rattle.text.specs.Told.{written, refused}
use Rattle.text.specs.Samples.{BufferVerdicts, instances}

instances-agree : all (agrees_by eqb) instances ≡ true
unfolding decimal decimal_by signed_decimal hex_bits line refused_line head_line move_line move_lines frame_line entry_line entry_lines net_lines point_refused_line projection_line point_line accepted_text text_of written_of buffer_of σ monomials counts monomials_over counts_over multinomial least_common_multiple scale polar_over value_over listed_over quotient_of coords_of projection_of frame_of frame_allowed frames_of frames_allowed scale_of own_tests points_of frames_after new_numbers named_by_replace named_by_point named_by all_named before_size call_tests found_at step_by after answers net_over machine_tests machine_step machine_accepted machine_polar polar_of scaled_value first_tests first_refusal frame_numbers coefficients_of reading_of layout_read polynomials_in numbers_in refusal_in opened_layout moves_in point_in to_bits call_at machine_four named_at_zero first_not_zeros found_projection
instances-agree = refl

pub every-instance : AllRight instances
every-instance = all-right-natural instances instances-agree

pub buffer-verdicts : BufferVerdicts
buffer-verdicts =
    record {
      short = refused (omega arith);
      exact = written (omega arith);
      longer = written (omega arith);
    }
