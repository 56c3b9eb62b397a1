-- σ with a factor, summed over terms, is a symmetric multilinear form, since σ is one.
use Prim.Native.Nat.{ℕ}
use mathlib.Core.Path.{◌≡◌, sym, ap, ◌∙◌}
use mathlib.Core.List.{List, [], ◌∷◌}
use lib.IntN.{ℤ, pos, ◌*ℤ◌}
use lib.ListN.{get_or}
use Rattle.integers.specs.Sum.{sum, upto}
use Rattle.integers.proofs.Laws.{*ℤ-negr}
use Rattle.integers.proofs.Sums.{sum-cong, sum-swap, sum-*l, sum-neg}
use Rattle.integers.proofs.Ring.{ring, ring-rules}
use Rattle.polar.specs.Sigma.{Exponents, σ}
use Rattle.polar.proofs.Sigma.{σ-front, σ-linear, σ-negated}
use Rattle.entries.specs.Form.{Form}

turn : (a b c : ℤ) → a *ℤ (b *ℤ c) ≡ b *ℤ (a *ℤ c)
turn a b c = ring (a ∷ b ∷ c ∷ []) (search ring-rules depth 60) tt

pub σ-form : {A : Type 0} (d : ℕ) (k : A → ℤ) (e : A → Exponents) (ts : List A) → Form d (λ ps. sum (λ t. k t *ℤ σ d ps (e t)) ts)
σ-form d k e ts =
    record {
      front = λ xs p ys. sum-cong (λ t. ap (λ s. k t *ℤ s) (σ-front d xs p ys (e t))) ts;
      linear =
          λ ws fr ps.
          sum-cong
          (λ t.
          ap (λ s. k t *ℤ s) (σ-linear d (λ v. get_or ws v (pos 0)) fr ps (e t))
          ∙ sym (sum-*l (k t) (λ v. get_or ws v (pos 0) *ℤ σ d (fr v ∷ ps) (e t)) (upto d)))
          ts
          ∙ sum-swap (λ t v. k t *ℤ (get_or ws v (pos 0) *ℤ σ d (fr v ∷ ps) (e t))) ts (upto d)
          ∙ sum-cong
          (λ v.
          sum-cong (λ t. turn (k t) (get_or ws v (pos 0)) (σ d (fr v ∷ ps) (e t))) ts
          ∙ sum-*l (get_or ws v (pos 0)) (λ t. k t *ℤ σ d (fr v ∷ ps) (e t)) ts)
          (upto d);
      negated =
          λ p ps.
          sum-cong (λ t. ap (λ s. k t *ℤ s) (σ-negated d p ps (e t)) ∙ *ℤ-negr (k t) (σ d (p ∷ ps) (e t))) ts
          ∙ sum-neg (λ t. k t *ℤ σ d (p ∷ ps) (e t)) ts;
    }
