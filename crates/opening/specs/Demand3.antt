-- Demand 3 (docs/SPECIFICATION.md, 'The three demands') from the bytes of a record on.
--
-- s are any bytes; they are an accepted record where `refusal_in` has number 0. The first net of its
-- polynomials over its frame is what `open` puts into the lent places.
use Rattle.std.specs.Prelude.{ℕ, ◌≡◌, List}
use Rattle.machine.specs.Demand3.{Guaranteed}
use Rattle.machine.specs.declared.Call.{Call}
use Rattle.opening.specs.Opening.{polynomials_in, numbers_in, refusal_in}

abbrev pub Demand3FromBytes : Type 0
Demand3FromBytes = (s : List ℕ) → (refusal_in s).number ≡ 0 → (calls : List Call) → Guaranteed (polynomials_in s) (numbers_in s) calls
