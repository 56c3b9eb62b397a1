-- A read takes what it gives of the bytes that are left, and at its answer 0 none are left.
use Rattle.std.proofs.Common.{rules, arith, ◌+◌, ◌≤◌, length, ◌∙◌}
use Rattle.netprint.proofs.Known.{gave-some, moved-within, consumes-more, read-of}
use Rattle.netprint.proofs.read_input.Goals as goal

pub returns-then-more-eq0-clause-read : goal.returns-then-more-eq0-clause-read
returns-then-more-eq0-clause-read g c some =
    let l = c.loop-last in
    let on = c.read_on-last in
    let more = c.unwrap_or-more.ensures ∙ gave-some on.result in
    let within : l.done + c.unwrap_or-more.result ≤ length on.new.input = moved-within on.result more l.invariant.1 on.auto.input on.ensures.moved in
    read-of _ _ _ on.new.input within
    (consumes-more _ _ _ l.input on.new.input l.done c.unwrap_or-more.result on.result more on.ensures.kept l.invariant.3 on.ensures.bytes)
    (λ z. on.ensures.end z (l.invariant.2 (omega (arith, some, l.invariant.0))))

pub loop-last-preserved : goal.loop-last-preserved
loop-last-preserved g c =
    let l = c.loop-last in
    let on = c.read_on-last in
    let more = c.unwrap_or-more.ensures ∙ gave-some on.result in
    let within : l.done + c.unwrap_or-more.result ≤ length on.new.input = moved-within on.result more l.invariant.1 on.auto.input on.ensures.moved in (
      search rules,
      within,
      search rules,
      consumes-more _ _ _ l.input on.new.input l.done c.unwrap_or-more.result on.result more on.ensures.kept l.invariant.3 on.ensures.bytes,
    )
