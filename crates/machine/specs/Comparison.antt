-- The comparison machine of demand 3: it keeps the record's polynomials and exact, unbounded frames, one for each group, and sees no net.
use Rattle.std.specs.Prelude.{ℕ, List, map, ℤ, pos, ◌*ℤ◌}
use Rattle.integers.specs.Largest.{largest_of}
use Rattle.polar.specs.Sigma.{Point}
use Rattle.polar.specs.Groups.{Group, monomials_over}
use Rattle.polar.specs.Scale.{scale_over}
use Rattle.polar.specs.Polar.{polar_over, value_over, terms}
use Rattle.entries.specs.Frame.{entry_points_over, frames_with_q}
use Rattle.entries.specs.Entries.{listed_over}
use Rattle.projection.specs.Projection.{Four}
use Rattle.machine.specs.Refusals.{Test, first_failed}
use Rattle.kinds.specs.Kinds.{groups_of}
use Rattle.kinds.specs.Frames.{Frames}
use Rattle.machine.specs.Frames.{points_of, frames_after, new_numbers}
use Rattle.machine.specs.Sizes.{before_size, call_tests}
use Rattle.machine.specs.Projected.{named_at_zero}
use Rattle.machine.specs.Steps.{Answer, Taken, four_of, found_at, Step, step_by}
use Rattle.machine.specs.Nets.{Net}
use Rattle.machine.specs.declared.Call.{Call}
use Rattle.machine.specs.declared.Call.TheVariants as call

-- the record's polynomials: kind, degrees, and the coefficients, four to a monomial
pub record Polynomials : Type 0 where
  pub kind : ℕ
  pub degree : ℕ
  pub second : ℕ
  pub coefficients : List ℤ

abbrev pub groups : Polynomials → List Group
groups f = groups_of f.kind f.degree f.second

-- the scaled polar value of a list of points for each group, component c
unfoldable pub polar_of : Polynomials → ℕ → List (List Point) → ℤ
polar_of f c pss = polar_over (groups f) (terms c (monomials_over (groups f)) f.coefficients) pss

-- L × F(q), component c, of a point for each group
unfoldable pub scaled_value : Polynomials → List Point → ℕ → ℤ
scaled_value f qs c = pos (scale_over (groups f)) *ℤ value_over (groups f) (terms c (monomials_over (groups f)) f.coefficients) qs

-- the net over frames: it carries them, every entry is its polar value, and it stores the largest component of the entries
unfoldable pub net_over : Polynomials → Frames → Net
net_over f frames =
    let entries = listed_over (groups f) (λ c es. polar_of f c (entry_points_over frames es)) in
    record {
      kind = f.kind;
      degree = f.degree;
      second = f.second;
      frames = frames;
      entries = entries;
      largest = pos (largest_of entries);
    }

-- ---- a call

-- component i of the polar value with counts es of the call's q and of the vertices in each group
unfoldable pub machine_polar : Polynomials → Frames → Call → ℕ → List (List ℕ) → ℤ
machine_polar f frames c i es = polar_of f i (entry_points_over (frames_with_q (points_of (groups f) frames c) frames) es)

-- the four components of it
unfoldable pub machine_four : Polynomials → Frames → Call → List (List ℕ) → Four
machine_four f frames c es = four_of (λ i. machine_polar f frames c i es)

-- the tests of a call before that of its size, and all of them: 'the comparison machine answers 12 too, by the q of its own frame'
unfoldable pub machine_before : Polynomials → Frames → Call → List Test
machine_before f frames c = before_size (groups f) c (new_numbers (groups f) frames c)

unfoldable pub machine_tests : Polynomials → Frames → Call → List Test
machine_tests f frames c = call_tests (groups f) c (new_numbers (groups f) frames c) (machine_polar f frames c)

-- an accepted move changes the frames; an accepted point answers L × F(q) with its projection, or, on a curve
-- through a common zero, with that of what is left there
unfoldable pub machine_accepted : Polynomials → Frames → Call → Step Answer Frames
machine_accepted f frames (call.Move operation vertex weights) = record { answer = Taken; left = frames_after (groups f) frames (call.Move operation vertex weights) }
machine_accepted f frames (call.Point weights) =
    let point = four_of (scaled_value f (points_of (groups f) frames (call.Point weights))) in
    record { answer = found_at point (map (machine_four f frames (call.Point weights)) (named_at_zero (groups f) weights.s)); left = frames }

unfoldable pub machine_step : Polynomials → Frames → Call → Step Answer Frames
machine_step f frames c = step_by (first_failed (machine_tests f frames c)) frames (machine_accepted f frames c)
