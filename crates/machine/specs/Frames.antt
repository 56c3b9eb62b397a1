-- The q of a call, and what a call does to frames (docs/SPECIFICATION.md, 'Moves and points', with the refusal 12). Both machines share these: the net machine takes the frames that a
-- handed net carries, the comparison machine exact ones of its own.
use Rattle.std.specs.Prelude.{pred, cond, List, [], map, eqb, ℤ, neg_ℤ, get_or}
use Rattle.polar.specs.Sigma.{Point}
use Rattle.polar.specs.Groups.{Group}
use Rattle.entries.specs.Frame.{vertex_at, points_over, put_over}
use Rattle.kinds.specs.Frames.{Frames}
use Rattle.machine.specs.Calls.{group_at, own_at, weights_for}
use Rattle.machine.specs.declared.Call.{Call}
use Rattle.machine.specs.declared.Call.TheVariants as call

-- the q of each group
unfoldable pub points_of : List Group → Frames → Call → List Point
points_of gs frames c = points_over gs (weights_for gs c) frames

-- the frames after an accepted call: a replace puts q in the vertex's place, a flip its negative, and a point leaves them
unfoldable pub frames_after : List Group → Frames → Call → Frames
frames_after gs frames (call.Move operation vertex weights) =
    let i = group_at gs (pred vertex) in
    let v = own_at gs (pred vertex) in
    let q = get_or (points_of gs frames (call.Move operation vertex weights)) i [] in
    put_over i v (cond (eqb operation 1) q (map neg_ℤ (vertex_at (get_or frames i []) v))) frames
frames_after gs frames (call.Point weights) = frames

-- 'a replace whose q has a number beyond 2 to the 48th': the numbers of that q; neither a flip nor a point has any
unfoldable pub new_numbers : List Group → Frames → Call → List ℤ
new_numbers gs frames (call.Move operation vertex weights) =
    cond (eqb operation 1) (get_or (points_of gs frames (call.Move operation vertex weights)) (group_at gs (pred vertex)) []) []
new_numbers gs frames (call.Point weights) = []
