-- `number_count` meets its contract, by the kind; the degrees are bytes, so nothing wraps.
use Prim.Native.Nat.{◌+◌, ◌*◌}
use Rattle.kinds.specs.Heads.{head_groups}
use Rattle.kinds.proofs.Counts.{counted, curve-count, patch-count, rectangle-count, other-count}
use Rattle.kinds.proofs.Head.number_count.Goals as goal

pub returns-in-1 : goal.returns-in-1
returns-in-1 c =
    let a = c.args in
    counted (head_groups a.self) (4 * (a.self.degree + 1)) (curve-count a.self.kind a.self.degree a.self.second c.in-1.is)

pub returns-in-2 : goal.returns-in-2
returns-in-2 c =
    let a = c.args in
    counted (head_groups a.self) (2 * (a.self.degree + 1) * (a.self.degree + 2)) (patch-count a.self.kind a.self.degree a.self.second c.in-2.is)

pub returns-in-3 : goal.returns-in-3
returns-in-3 c =
    let a = c.args in
    counted (head_groups a.self) (4 * (a.self.degree + 1) * (a.self.second + 1)) (rectangle-count a.self.kind a.self.degree a.self.second c.in-3.is)

pub returns-in_default : goal.returns-in_default
returns-in_default c =
    let a = c.args in
    let rest = c.in_default.in_default-own.rest in
    counted (head_groups a.self) 4 (other-count a.self.kind a.self.degree a.self.second (rest.0.0.1, rest.0.1, rest.1))
