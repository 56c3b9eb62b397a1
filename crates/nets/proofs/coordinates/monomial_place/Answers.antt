-- `monomial_place` meets its contract: h(h + 2(m − h) + 3)/2 monomials in two coordinates stand before row h.
use native.Mathlib.Omega.{arith}
use mathlib.Core.Path.{◌≡◌, sym, ap, ◌∙◌}
use Rattle.polar.specs.Order.{monomials}
use Rattle.entries.specs.Entries.{place_of}
use Rattle.entries.proofs.Standard.{place-one}
use Rattle.nets.specs.Coordinates.{exponents_at}
use Rattle.nets.proofs.Scaled.{patch-place}
use Rattle.nets.proofs.coordinates.monomial_place.Goals as goal

pub returns-then-dimension-eq1 : goal.returns-then-dimension-eq1
returns-then-dimension-eq1 c =
    sym (place-one c.args.degree c.args.h (omega (arith, c.requires.whole)))
    ∙ ap (λ k. place_of (exponents_at k c.args.h c.args.l) (monomials k c.args.degree)) (sym c.if-dimension-eq1.true)

pub returns : goal.returns
returns c =
    let two : 2 ≡ c.args.dimension = omega (arith, c.requires.low, c.requires.high, c.if-dimension-eq1.false) in
    patch-place c.args.degree c.args.h c.args.l c.requires.whole
    ∙ ap (λ k. place_of (exponents_at k c.args.h c.args.l) (monomials k c.args.degree)) two
