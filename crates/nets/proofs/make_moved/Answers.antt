-- `make_moved` meets its contract: the new vertex is tested, the entries are made in their part, and the largest component and the vertex are put.
use borrow.Author.Rules.{rules}
use Prim.Native.Nat.{ℕ}
use native.Mathlib.Omega.{arith}
use mathlib.Core.Path.{◌≡◌, refl, sym, ap, ◌∙◌}
use Rattle.kinds.specs.Kinds.{groups_of}
use Rattle.kinds.specs.Frames.{vertex_count}
use Rattle.kinds.proofs.Limits.{by_kind, limits}
use Rattle.machine.specs.Numbers.{number_of, answered}
use Rattle.machine.proofs.Numbers.{never_zero}
use Rattle.nets.proofs.Made.{right, move-low, move-high}
use Rattle.nets.proofs.Moves.{new-asked, vertex-room, moved-beyond, moved-kept, entries-moved, moved_made}
use Rattle.nets.proofs.make_moved.Goals as goal

-- the degrees do not change how many vertices there are
vertices-same : (kind p q m n : ℕ) → vertex_count (groups_of kind p q) ≡ vertex_count (groups_of kind m n)
vertices-same kind p q m n = by_kind (λ k. vertex_count (groups_of k p q) ≡ vertex_count (groups_of k m n)) refl refl refl refl (λ k. refl) kind

pub own_vertex-own-requires : goal.own_vertex-own-requires
own_vertex-own-requires c =
    let o = c.requires.ordered in
    let h = c.args.head in
    let high = move-high o in (
      move-low o,
      (limits h.kind h.degree h.second (right o)).dimension-low,
      λ p q. let same = vertices-same h.kind p q h.degree h.second in omega arith,
    )

pub new_vertex-moved-requires : goal.new_vertex-moved-requires
new_vertex-moved-requires c =
    let h = c.args.head in
    new-asked c.requires _ _ _ (c.own_vertex-own.ensures h.degree h.second)

pub returns-then-not-is_within : goal.returns-then-not-is_within
returns-then-not-is_within c =
    let h = c.args.head in
    moved-beyond c.requires _ _ _ (c.own_vertex-own.ensures h.degree h.second) _ c.new_vertex-moved.ensures (sym c.is_within.ensures ∙ c.if-not-is_within.true)

pub make_move-requires : goal.make_move-requires
make_move-requires c = c.requires.ordered

pub returns-in_err-make_move : goal.returns-in_err-make_move
returns-in_err-make_move c =
    let h = c.args.head in
    let e = c.in_err-make_move in
    let said : answered c.from_residual.result ≡ number_of e.field-0.0 = search rules in
    rw said
    (moved-kept c.requires _ _ _ (c.own_vertex-own.ensures h.degree h.second) _ c.new_vertex-moved.ensures (sym c.is_within.ensures ∙ c.if-not-is_within.false)
    (number_of e.field-0.0) c.make_move.new.entries e.ensures (never_zero e.field-0.0))

-- the places with the new entries
pub move_largest-requires : goal.move_largest-requires
move_largest-requires c =
    let h = c.args.head in
    let m = c.make_move in
    entries-moved c.requires _ _ _ (c.own_vertex-own.ensures h.degree h.second) _ c.new_vertex-moved.ensures (sym c.is_within.ensures ∙ c.if-not-is_within.false) (answered m.result) m.new.entries m.ensures (ap answered c.in_ok-make_move.was)

-- the vertex stands among the first twelve places
pub put_vertex-requires : goal.put_vertex-requires
put_vertex-requires c =
    let h = c.args.head in
    let r = c.own_vertex-own.result in
    let fits = vertex-room c.requires r.start r.count r.index (c.own_vertex-own.ensures h.degree h.second) in
    (fits.0, fits.1, omega (arith, c.move_largest.auto.net))

pub returns : goal.returns
returns c =
    let h = c.args.head in
    let m = c.make_move in
    moved_made c.requires _ _ _ (c.own_vertex-own.ensures h.degree h.second) _ c.new_vertex-moved.ensures (sym c.is_within.ensures ∙ c.if-not-is_within.false)
    (answered m.result) m.new.entries m.ensures (ap answered c.in_ok-make_move.was) c.move_largest.new.net c.put_vertex.new.net c.move_largest.ensures c.put_vertex.ensures
