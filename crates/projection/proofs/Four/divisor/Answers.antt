-- The greatest common divisor of y and z stands for both (`gcd-cons`), and it is no larger than the numbers,
-- so it fits.
use Rattle.std.proofs.Common.{◌≡◌, pos, nat_abs, ap, ◌∙◌, [], ◌∷◌, subst, sym}
use Rattle.std.proofs.lemmas.Int.{to_z-of_z}
use mir.Syntax.{w64}
use mir.Val.{SFits}
use Rattle.projection.specs.Gcd.{gcd}
use Rattle.projection.specs.Projection.{gcd_of}
use Rattle.projection.proofs.Gcd.{gcd-cons}
use Rattle.projection.proofs.Directions.{divisor-small}
use Rattle.projection.proofs.Signed.{in-range-fits}
use Rattle.projection.proofs.Four.divisor.Goals as goal

result-is : (c : goal.After-gcd_of_two) → c.gcd_of_two.result ≡ gcd_of c.args.self.x c.args.self.y c.args.self.z
result-is c =
    let p = c.args.self in
    let r = c.requires in
    let x-is = c.unsigned_abs-3.ensures.value ∙ ap nat_abs (to_z-of_z w64 p.x (in-range-fits p.x r.0)) in
    let y-is = c.unsigned_abs.ensures.value ∙ ap nat_abs (to_z-of_z w64 p.y (in-range-fits p.y r.1)) in
    let z-is = c.unsigned_abs-2.ensures.value ∙ ap nat_abs (to_z-of_z w64 p.z (in-range-fits p.z r.2)) in
    let last-is = c.gcd_of_two-last_two.ensures ∙ (λ i. gcd (y-is i ∷ z-is i ∷ [])) in
    c.gcd_of_two.ensures ∙ (λ i. gcd (x-is i ∷ last-is i ∷ [])) ∙ gcd-cons (nat_abs p.x) (nat_abs p.y ∷ nat_abs p.z ∷ [])

pub overflow_cast-result : goal.overflow_cast-result
overflow_cast-result c =
    let p = c.args.self in
    let small = divisor-small p.x p.y p.z c.requires.0 c.requires.1 c.requires.2 in
    subst (λ n. SFits w64 (pos n)) (sym (result-is c)) (in-range-fits _ small)

pub returns : goal.returns
returns c = to_z-of_z w64 _ (overflow_cast-result c) ∙ ap pos (result-is c)
