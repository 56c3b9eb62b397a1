-- `put_entry` meets its contract: `work` gets the net's numbers, so it holds the values of every form that the net holds.
use Prim.Native.Nat.{ℕ, ◌-◌, ◌≤◌, ◌<◌}
use native.Mathlib.Nat.{le_trans}
use native.Mathlib.Omega.{arith}
use mathlib.Core.Path.{◌≡◌, sym, ap, ◌∙◌, subst}
use mathlib.Core.List.{List}
use lib.IntN.{ℤ, pos}
use lib.ListN.{length, get_or}
use Rattle.entries.specs.Rows.{size}
use Rattle.nets.proofs.Ranks.{size_mono}
use Rattle.nets.proofs.Through.{small_same, holds_same}
use Rattle.nets.proofs.FirstRows.{copied_at}
use Rattle.nets.proofs.first.put_entry.Goals as goal
use Rattle.nets.proofs.first.put_entry.Goals.{After-copy}

-- there is room in `work`, which gets the numbers of the net
room : (w n i k : ℕ) (work : List ℤ) → size w n i ≤ length work → size w n (i - k) ≤ length work
room w n i k work whole = le_trans (size_mono w n (i - k) i (omega arith)) whole

same : (c : After-copy)
    → let a = c.args in
    (i : ℕ) → i < size a.width a.dimension (a.i - a.k) → get_or c.copy.new.to i (pos 0) ≡ get_or a.cur.now i (pos 0)
same c i b =
    let a = c.args in
    let count = c.numbers-count in
    ap (λ l. get_or l i (pos 0)) c.copy.ensures
    ∙ copied_at a.work.now a.cur.now count.result i (subst (λ k. i < k) (sym count.ensures) b)
    (subst (λ k. k ≤ length a.work.now) (sym count.ensures) (room a.width a.dimension a.i a.k a.work.now c.requires.3))

pub copy-requires : goal.copy-requires
copy-requires c =
    (subst (λ k. k ≤ length c.args.work.now) (sym c.numbers-count.ensures) (room c.args.width c.args.dimension c.args.i c.args.k c.args.work.now c.requires.3), subst (λ k. k ≤ length c.args.cur.now) (sym c.numbers-count.ensures) c.requires.4.long)

pub last_entry-requires : goal.last_entry-requires
last_entry-requires c =
    let a = c.args in
    let z = c.copy in (
      c.requires.0,
      c.requires.1,
      c.requires.2,
      record {
        sized = c.requires.4.sized;
        long = subst (λ k. size a.width a.dimension (a.i - a.k) ≤ k) (sym z.auto.to) (room a.width a.dimension a.i a.k a.work.now c.requires.3);
        corners = c.requires.4.corners;
        small = small_same a.width a.dimension (a.i - a.k) a.cur.now z.new.to (same (goal.at.last_entry-requires c).After-copy) c.requires.4.small;
      },
    )

pub returns : goal.returns
returns c G holds =
    let a = c.args in
    let z = c.copy in
    c.last_entry.ensures G (holds_same a.width a.dimension (a.i - a.k) G a.cur.now z.new.to (same (goal.at.returns c).After-copy) holds)
