-- What is left of a line at a common zero, as the code finds it: the entries are copied into a room, and one
-- vertex is replaced by q there.
use Prim.Native.Nat.{ℕ, ◌+◌, ◌*◌, ◌≤◌}
use mathlib.Core.Path.{◌≡◌, sym, ap, ◌∙◌, subst}
use mathlib.Core.Bool.{Bool, true, false, cond}
use mathlib.Core.List.{List}
use lib.Dec.{lit≤}
use lib.IntN.{ℤ, pos}
use lib.ListN.{length, get_or, take, drop}
use Rattle.integers.specs.Test.{all}
use Rattle.entries.specs.Rows.{entry_at, size, replaced}
use Rattle.entries.proofs.Listed.{entry_listed}
use Rattle.projection.specs.Projection.{is_zero, in_range}
use Rattle.machine.specs.Calls.{weight_list}
use Rattle.machine.specs.declared.Weights.{Weights}
use Rattle.nets.specs.Rows.{written}
use Rattle.nets.specs.Levels.{replaced_list, Descends, ReplacedInPlace}
use Rattle.nets.specs.Zeros.{replaced_vertex, places_projected, line_projected, LineAsked}
use Rattle.nets.proofs.Lists.{length-written, copied-front}
use Rattle.nets.proofs.Ranks.{size-curve}
use Rattle.nets.proofs.GroupPoint.{named-front}
use Rattle.nets.proofs.ZeroLine.{line_same, places-line}

module _ {m : ℕ} {w : Weights} {xs free : List ℤ} (asked : LineAsked m w xs free) where
  abbrev ws : List ℤ
  ws = weight_list w

  -- there is room for the entries, and they are there
  pub line-fits : (4 * (m + 1) ≤ length free) × (4 * (m + 1) ≤ length xs)
  line-fits = (subst (λ k. k ≤ length free) (size-curve 4 m) asked.free, subst (λ k. k ≤ length xs) (size-curve 4 m) asked.ready.long)

  -- they are copied, and the vertex v of the copy is replaced
  module _ {room : List ℤ} (is : room ≡ written free 0 (4 * (m + 1)) (λ i. get_or xs i (pos 0))) {v : ℕ} (vertex : v ≡ replaced_vertex w) where
    copied : take (size 4 1 m) room ≡ take (size 4 1 m) xs
    copied =
        ap (λ k. take k room) (size-curve 4 m)
        ∙ ap (take (4 * (m + 1))) is
        ∙ copied-front free xs (4 * (m + 1)) line-fits.0 line-fits.1
        ∙ ap (λ k. take k xs) (sym (size-curve 4 m))

    room-long : length room ≡ length free
    room-long = ap length is ∙ length-written free 0 (4 * (m + 1)) (λ i. get_or xs i (pos 0))

    pub room-asked : Descends 4 1 m w room × (v ≤ 1)
    room-asked = (
      record { sized = asked.ready.sized; long = subst (λ k. size 4 1 m ≤ k) (sym room-long) asked.free; range = ap (all in_range) copied ∙ asked.ready.range; light = asked.ready.light },
      subst (λ u. u ≤ 1) (sym vertex) (by (is_zero w.s)),
    )
      where
        by : (b : Bool) → cond b 0 1 ≤ 1
        by true = lit≤ tt
        by false = lit≤ tt

    -- nothing is out of range, and what is left stands there
    pub room-left : {b : Bool} {after : List ℤ} → ReplacedInPlace 4 1 m ws v room b after → (4 * (m + 1) ≤ length after) × (places_projected v m after ≡ line_projected m w xs)
    unfolding replaced_list
    room-left {b} {after} done = (
      subst (λ k. 4 * (m + 1) ≤ k) (sym (done.kept ∙ room-long)) line-fits.0,
      ap (λ u. places_projected u m after) vertex
          ∙ places-line m w room after
          (λ c e k l t.
          ap (λ ys. entry_at 4 1 m ys c e) (done.last named ∙ ap (λ u. replaced_list 4 1 m ws u room) vertex)
          ∙ entry_listed 4 1 m (λ i. replaced 2 ws (replaced_vertex w) (entry_at 4 1 m room i)) (drop (size 4 1 m) room) c e k l t)
          ∙ line_same m w room xs copied,
    )
      where
        named : b ≡ true
        named = done.named ∙ named-front 4 1 m ws room xs copied ∙ asked.named
