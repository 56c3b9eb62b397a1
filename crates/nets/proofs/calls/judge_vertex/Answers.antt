-- `judge_vertex` meets its contract: a vertex of the first group is judged as if the group were alone, which it is
-- where there is no second, and one past it in the second group.
use native.Mathlib.Omega.{arith}
use mathlib.Core.Logic.{inl, inr}
use Rattle.kinds.specs.Kinds.{later_groups}
use Rattle.kinds.proofs.Limits.{groups-some, later-none, later-one, pairs-only}
use Rattle.nets.proofs.Judging.{first-vertex, later-vertex}
use Rattle.nets.proofs.calls.judge_vertex.Goals as goal

pub returns-then-later-eq0 : goal.returns-then-later-eq0
returns-then-later-eq0 c p q =
    let a = c.args in
    let groups = groups-some a.kind p q (λ none. omega arith) in
    let judged = c.judge_move.ensures p in
    elim c.then-later-eq0.either [
      | inl none ↦ let alone = later-none a.kind q (omega arith) in cc
      | inr low ↦
          let two = (pairs-only a.kind (λ none. omega arith)).1 in
          let first = first-vertex 1 p (later_groups a.kind q) a.operation a.vertex a.weights low.1 in
          cc
    ]

pub returns : goal.returns
returns c p q =
    let a = c.args in
    let groups = groups-some a.kind p q (λ none. omega arith) in
    let some = later-one a.kind q (λ none. omega arith) in
    let two = (pairs-only a.kind (λ none. omega arith)).1 in
    let judged = c.judge_move-2.ensures q in
    let past = later-vertex 1 p (later_groups a.kind q) a.operation a.vertex a.weights (omega arith) in
    cc
