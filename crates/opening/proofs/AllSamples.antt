-- Every lookup and refusal of the table is right: one test that is computed over its rows.
use mathlib.Core.Path.{◌≡◌, refl}
use mathlib.Core.Bool.{true}
use lib.Dec.{eqb}
use Rattle.integers.specs.Test.{all}
use Rattle.integers.specs.Instances.{AllRight}
use Rattle.integers.proofs.Instances.{agrees_by, all-right-natural}
use Rattle.polar.specs.Sigma.{σ}
use Rattle.polar.specs.Order.{monomials, counts}
use Rattle.polar.specs.Scale.{multinomial, least_common_multiple, scale}
use Rattle.polar.specs.Groups.{monomials_over, counts_over}
use Rattle.polar.specs.Polar.{polar_over}
use Rattle.entries.specs.Entries.{listed_over}
use Rattle.kinds.specs.Frames.{frame_of, frame_allowed, frames_of, frames_allowed}
use Rattle.machine.specs.Comparison.{net_over, polar_of}
use Rattle.machine.specs.First.{first_tests, first_refusal}
use Rattle.decoding.specs.Numbers.{frame_numbers, coefficients_of}
use Rattle.records.specs.Reading.{reading_of}
use Rattle.opening.specs.Opening.{
  layout_read,
  polynomials_in,
  numbers_in,
  refusal_in,
  opened_layout,
  field_extent,
}
use Rattle.opening.specs.Samples.{lookup, refusal, instances}

instances-agree : all (agrees_by eqb) instances ≡ true
unfolding lookup refusal reading_of layout_read polynomials_in numbers_in refusal_in opened_layout field_extent first_refusal first_tests net_over polar_of σ monomials counts monomials_over counts_over multinomial least_common_multiple scale polar_over listed_over frame_of frame_allowed frames_of frames_allowed frame_numbers coefficients_of
instances-agree = refl

pub every-instance : AllRight instances
every-instance = all-right-natural instances instances-agree
