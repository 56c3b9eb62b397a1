-- Every reading of the table is right: one test that is computed over its rows.
use mathlib.Core.Path.{◌≡◌, refl}
use mathlib.Core.Bool.{true}
use lib.Dec.{eqb}
use Rattle.integers.specs.Test.{all}
use Rattle.integers.specs.Instances.{AllRight}
use Rattle.integers.proofs.Instances.{agrees_by, all-right-natural}
use Rattle.polar.specs.Order.{monomials}
use Rattle.polar.specs.Groups.{monomials_over}
use Rattle.kinds.specs.Frames.{frame_of, frame_allowed, frames_allowed}
use Rattle.decoding.specs.Numbers.{frame_numbers, coefficients_of}
use Rattle.records.specs.Samples.{reading, instances}

instances-agree : all (agrees_by eqb) instances ≡ true
unfolding reading frames_allowed frame_allowed frame_numbers frame_of monomials_over monomials coefficients_of
instances-agree = refl

pub every-instance : AllRight instances
every-instance = all-right-natural instances instances-agree
