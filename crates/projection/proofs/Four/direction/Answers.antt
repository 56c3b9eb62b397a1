-- The divisor is not 0, since one of the numbers is not, so each division is allowed; and the sign of what
-- divides is the sign of the quotient (`divided`).
use Rattle.std.proofs.Common.{◌≡◌, ◌≤◌, false, ℤ, Bool, nat_abs, pos, sym, subst, ◌∙◌}
use Rattle.std.proofs.lemmas.Int.{to_z-of_z}
use mir.Syntax.{w64}
use mir.Val.{to_z, of_z}
use Rattle.projection.specs.Projection.{Four, limit, all_zero, is_negative, first_nonzero, negated_if, gcd_of, direction_of}
use Rattle.projection.proofs.Directions.{divisor-positive, divisor-small}
use Rattle.projection.proofs.Signed.{in-range-fits, Divided, divided}
use Rattle.projection.proofs.Four.direction.Goals as goal

-- the divisor is read back
length-small : (p : Four) {length : ℤ} → length ≡ pos (gcd_of p.x p.y p.z) → nat_abs p.x ≤ limit → nat_abs p.y ≤ limit → nat_abs p.z ≤ limit
    → (nat_abs length ≤ limit) × (to_z w64 (of_z w64 length) ≡ length)
length-small p e x y z =
    let small = subst (λ v. nat_abs v ≤ limit) (sym e) (divisor-small p.x p.y p.z x y z) in
    (small, to_z-of_z w64 _ (in-range-fits _ small))

pub negated_if-signed-requires : goal.negated_if-signed-requires
negated_if-signed-requires c =
    let r = c.requires in
    let length = length-small c.args.self c.divisor-length.ensures r.0 r.1 r.2 in
    subst (λ v. nat_abs v ≤ limit) (sym length.1) length.0

-- each component by what divides, which is the divisor with the sign
by_signed : (p : Four) {length d : ℤ} {negative : Bool}
    → length ≡ pos (gcd_of p.x p.y p.z)
    → negative ≡ is_negative (first_nonzero p.x p.y p.z)
    → d ≡ negated_if negative (to_z w64 (of_z w64 length))
    → (nat_abs p.x ≤ limit) × (nat_abs p.y ≤ limit) × (nat_abs p.z ≤ limit) × (all_zero p.x p.y p.z ≡ false)
    → (v : ℤ) → nat_abs v ≤ limit → Divided v d (is_negative (first_nonzero p.x p.y p.z)) (gcd_of p.x p.y p.z)
by_signed p {length} {d} {negative} e n s r v h =
    let back = (length-small p e r.0 r.1 r.2).1 ∙ e in
    divided v (is_negative (first_nonzero p.x p.y p.z)) (gcd_of p.x p.y p.z) (s ∙ (λ i. negated_if (n i) (back i)))
    (divisor-positive p.x p.y p.z r.3) (divisor-small p.x p.y p.z r.0 r.1 r.2) h

pub nonzero_div-result : goal.nonzero_div-result
nonzero_div-result c =
    (by_signed c.args.self c.divisor-length.ensures c.leads_negative-negative.ensures c.negated_if-signed.ensures c.requires c.args.self.x c.requires.0).allowed

pub nonzero_div-result-2 : goal.nonzero_div-result-2
nonzero_div-result-2 c =
    (by_signed c.args.self c.divisor-length.ensures c.leads_negative-negative.ensures c.negated_if-signed.ensures c.requires c.args.self.y c.requires.1).allowed

pub nonzero_div-result-3 : goal.nonzero_div-result-3
nonzero_div-result-3 c =
    (by_signed c.args.self c.divisor-length.ensures c.leads_negative-negative.ensures c.negated_if-signed.ensures c.requires c.args.self.z c.requires.2).allowed

pub returns : goal.returns
unfolding direction_of
returns c =
    let p = c.args.self in
    let r = c.requires in
    let by = by_signed p c.divisor-length.ensures c.leads_negative-negative.ensures c.negated_if-signed.ensures r in
    let length-is = (length-small p c.divisor-length.ensures r.0 r.1 r.2).1 ∙ c.divisor-length.ensures in
    λ i. record { x = (by p.x r.0).is i; y = (by p.y r.1).is i; z = (by p.z r.2).is i; length = length-is i }
