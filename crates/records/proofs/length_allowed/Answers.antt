-- `length_allowed` meets its contract: each arm is the row of its field. Kind and degrees are bytes, so
-- nothing wraps.
use Prim.Native.Nat.{◌<◌}
use Rattle.std.proofs.Common.{arith, rules}
use Rattle.kinds.proofs.Counts.{count_low, frame-few, vertices-few}
use Rattle.records.proofs.length_allowed.Goals as goal

pub overflow_mul-result : goal.overflow_mul-result
overflow_mul-result c = let h = c.args.head in record { fits = omega (arith, frame-few h.kind h.degree h.second, c.frame_count.ensures h.degree h.second) }

pub overflow_mul-result-in-Coefficients : goal.overflow_mul-result-in-Coefficients
overflow_mul-result-in-Coefficients c =
    let h = c.args.head in
    let wide : h.degree < 256 = search rules in
    let second : h.second < 256 = search rules in
    record { fits = omega (arith, count_low h.kind wide second, c.number_count.ensures.entries) }

pub overflow_mul-result-in-Point : goal.overflow_mul-result-in-Point
overflow_mul-result-in-Point c = let h = c.args.head in record { fits = omega (arith, vertices-few h.kind h.degree h.second, c.vertex_count.ensures h.degree h.second) }
