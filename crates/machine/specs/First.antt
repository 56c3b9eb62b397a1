-- The first net of polynomials over a frame, and what is refused of them (docs/SPECIFICATION.md, 'Frames and first nets', with the refusals 4, 5, 6 and 7).
use Rattle.std.specs.Prelude.{ℕ, List, [], ◌∷◌, ℤ}
use Rattle.integers.specs.Test.{within, all}
use Rattle.kinds.specs.Kinds.{known}
use Rattle.kinds.specs.Frames.{frames_of, frames_allowed}
use Rattle.machine.specs.Refusals.{Test, ◌else◌, first_failed}
use Rattle.machine.specs.Nets.{Net, net_in_range}
use Rattle.machine.specs.Comparison.{Polynomials, groups, net_over}

-- the first net of polynomials over the frames of the numbers
abbrev pub first_net : Polynomials → List ℤ → Net
first_net f numbers = net_over f (frames_of (groups f) numbers)

-- the tests of polynomials and the numbers of a frame
unfoldable pub first_tests : Polynomials → List ℤ → List Test
first_tests f numbers =
    -- 'kind or degree outside'
    known f.kind f.degree f.second else 4
    -- 'frame number outside, or determinant 0'
    ∷ frames_allowed (groups f) numbers else 5
    -- 'coefficient outside'
    ∷ all (within 1048576) f.coefficients else 6
    -- 'first net out of range'
    ∷ net_in_range (first_net f numbers) else 7
    ∷ []

unfoldable pub first_refusal : Polynomials → List ℤ → ℕ
first_refusal f numbers = first_failed (first_tests f numbers)
