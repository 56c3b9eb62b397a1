-- The bytes that were read are the first of the buffer, and the reader has lost them. A read that gives bytes
-- leaves fewer places, so the reads end.
use Rattle.std.proofs.Common.{◌≡◌, ◌-◌, ◌<◌, ◌≤◌, length, take}
use Rattle.std.specs.Io.KnownBytes.{Consumes}
use Rattle.netprint.proofs.read_input.Given as goal

abbrev pub invariant-loop-last : goal.invariant-loop-last
invariant-loop-last g l =
    (length l.input ≡ length l.initial.input) × (l.done ≤ length l.input)
    × (0 < length l.input → l.done < length l.input)
    × Consumes (g.R.Read.remaining l.initial.from) (g.R.Read.remaining l.from) (take l.done l.input)

abbrev pub decreases-loop-last : goal.decreases-loop-last
decreases-loop-last g l = length l.input - l.done
