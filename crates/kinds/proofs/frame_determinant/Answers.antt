-- By the dimension: the numbers of the frame are within 4, so each is handed on as it is, and the formula is
-- the determinant.
use Rattle.std.proofs.Common.{◌≡◌, ◌≤◌, ◌*◌, suc, length, subst, arith, rules}
use Rattle.kinds.proofs.Determinants.{two-asks, two-determinant, frame-asks, three-determinant}
use Rattle.kinds.proofs.frame_determinant.Goals as goal

pub two_rows-requires : goal.two_rows-requires
two_rows-requires c = two-asks c.args.dimension c.args.numbers.now c.requires.2 c.requires.3 c.if-dimension-eq1.true

pub returns-then-dimension-eq1 : goal.returns-then-dimension-eq1
returns-then-dimension-eq1 c =
    two-determinant c.args.dimension c.args.numbers.now c.requires.2 c.requires.3 c.if-dimension-eq1.true
    c.two_rows.result c.two_rows.type_inv c.two_rows.ensures

-- not 1, so 2
two : (c : goal.Else-dimension-eq1) → c.args.dimension ≡ 2
two c = let n = c.args.dimension in let low = c.requires.0 in let high = c.requires.1 in let other = c.if-dimension-eq1.false in omega arith

pub three_rows-requires : goal.three_rows-requires
three_rows-requires c =
    let low = c.requires.0 in
    let high = c.requires.1 in
    let other = c.if-dimension-eq1.false in
    frame-asks c.args.dimension c.args.numbers.now c.requires.2 c.requires.3 (omega arith)

pub returns : goal.returns
returns c =
    let low = c.requires.0 in
    let high = c.requires.1 in
    let other = c.if-dimension-eq1.false in
    three-determinant c.args.dimension c.args.numbers.now c.requires.2 c.requires.3 (omega arith)
    c.three_rows.result c.three_rows.type_inv c.three_rows.ensures

pub bounds-numbers-0-2 : goal.bounds-numbers-0-2
bounds-numbers-0-2 c =
    let enough = subst (λ n. suc n * suc n ≤ length c.args.numbers.now) (two c) c.requires.2 in
    search rules
