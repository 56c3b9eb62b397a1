-- Every instance of the exported functions is right: one test that is computed over the rows of the table.
use mathlib.Core.Path.{◌≡◌, refl}
use mathlib.Core.Bool.{true}
use Rattle.integers.specs.Test.{eq_z, all}
use Rattle.integers.specs.Instances.{AllRight}
use Rattle.integers.proofs.Instances.{agrees_by, all_right}
use Rattle.polar.specs.Sigma.{σ}
use Rattle.polar.specs.Order.{monomials, counts}
use Rattle.polar.specs.Scale.{multinomial, least_common_multiple, scale}
use Rattle.polar.specs.Groups.{monomials_over, counts_over}
use Rattle.polar.specs.Polar.{polar_over}
use Rattle.entries.specs.Entries.{listed_over, fixed, fixed_over, entry_over}
use Rattle.projection.specs.Projection.{projection_of, coordinate_bits, first_not_zeros, found_projection}
use Rattle.kinds.specs.Frames.{frame_of, frame_allowed, frames_of, frames_allowed}
use Rattle.machine.specs.Calls.{own_tests}
use Rattle.machine.specs.Frames.{points_of, frames_after, new_numbers}
use Rattle.machine.specs.Sizes.{named_by_replace, named_by_point, named_by, all_named, before_size, call_tests}
use Rattle.machine.specs.Projected.{named_at_zero}
use Rattle.machine.specs.Steps.{found_at}
use Rattle.machine.specs.Comparison.{net_over, polar_of}
use Rattle.machine.specs.Nets.{handed_tests, judged_numbers, net_tests, net_polar, net_four, entries_after, largest_after, accepted}
use Rattle.machine.specs.First.{first_tests, first_refusal}
use Rattle.machine.specs.Lent.{net_at, put_net, call_number, call_places, call_found, made_number, made_places}
use Rattle.decoding.specs.Numbers.{frame_numbers, coefficients_of}
use Rattle.records.specs.Reading.{reading_of}
use Rattle.opening.specs.Opening.{layout_read, polynomials_in, numbers_in, refusal_in, opened_layout, field_extent, opened_in, places_in}
use Rattle.text.specs.Words.{line, decimal, decimal_by}
use Rattle.text.specs.Text.{refused_line, text_of, written_of, buffer_of}
use Rattle.gadwemosh.specs.Projections.{projection_returned, found_returned}
use Rattle.gadwemosh.specs.Samples.{instances}

computed : all (agrees_by eq_z) instances ≡ true
unfolding σ monomials counts monomials_over counts_over multinomial least_common_multiple scale polar_over listed_over fixed fixed_over entry_over projection_of coordinate_bits frame_of frame_allowed frames_of frames_allowed own_tests points_of frames_after new_numbers named_by named_by_replace named_by_point all_named before_size call_tests found_at net_over polar_of handed_tests judged_numbers net_tests net_polar entries_after largest_after accepted first_tests first_refusal net_at put_net call_number call_places call_found made_number made_places frame_numbers coefficients_of reading_of layout_read polynomials_in numbers_in refusal_in opened_layout field_extent opened_in places_in line decimal decimal_by refused_line text_of written_of buffer_of projection_returned net_four named_at_zero first_not_zeros found_projection found_returned
computed = refl

pub every-instance : AllRight instances
every-instance = all_right instances computed
