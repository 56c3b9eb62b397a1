-- Demand 3 from the bytes on: an accepted record's numbers are accepted, so that the theorem about every list
-- of calls speaks of its first net.
use Rattle.machine.proofs.Demand3.{demand-3}
use Rattle.opening.specs.Opening.{polynomials_in, numbers_in}
use Rattle.opening.specs.Demand3.{Demand3FromBytes}
use Rattle.opening.proofs.Records.{accepted-numbers}

pub demand-3-from-bytes : Demand3FromBytes
demand-3-from-bytes s accepted calls = demand-3 (polynomials_in s) (numbers_in s) (accepted-numbers s accepted) calls
