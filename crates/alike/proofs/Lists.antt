-- Two lists that are alike to a third are alike: the fractions are multiplied crosswise.
use mathlib.Core.Path.{◌≡◌, refl, sym, ap, ap₂, ◌∙◌}
use mathlib.Core.List.{List, [], ◌∷◌, map}
use lib.IntN.{ℤ, ◌*ℤ◌}
use Rattle.integers.proofs.Laws.{*ℤ-assoc}
use Rattle.integers.proofs.Ring.{ring, ring-rules, product-nonzero}
use Rattle.alike.specs.Alike.{Alike}

times-times : (a b : ℤ) (xs : List ℤ) → map (λ x. a *ℤ b *ℤ x) xs ≡ map (λ x. a *ℤ x) (map (λ x. b *ℤ x) xs)
times-times a b [] = refl
times-times a b (x ∷ xs) = ap₂ ◌∷◌ (*ℤ-assoc a b x) (times-times a b xs)

either_order : (a b : ℤ) (xs : List ℤ) → map (λ x. a *ℤ x) (map (λ x. b *ℤ x) xs) ≡ map (λ x. b *ℤ x) (map (λ x. a *ℤ x) xs)
either_order a b [] = refl
either_order a b (x ∷ xs) = ap₂ ◌∷◌ (ring (a ∷ b ∷ x ∷ []) (search ring-rules depth 60) tt) (either_order a b xs)

pub alike_both : {xs ys zs : List ℤ} → Alike xs zs → Alike ys zs → Alike xs ys
alike_both {xs} {ys} {zs} p q =
    record {
      over = q.under *ℤ p.over;
      under = p.under *ℤ q.over;
      over_nonzero = product-nonzero q.under p.over q.under_nonzero p.over_nonzero;
      under_nonzero = product-nonzero p.under q.over p.under_nonzero q.over_nonzero;
      takes =
          times-times q.under p.over xs
          ∙ ap (map (λ x. q.under *ℤ x)) p.takes
          ∙ either_order q.under p.under zs
          ∙ ap (map (λ x. p.under *ℤ x)) (sym q.takes)
          ∙ sym (times-times p.under q.over ys);
    }
