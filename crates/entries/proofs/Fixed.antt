-- What the polar values that entries fix depend on: nothing but the entries and the weights of the vertices. By induction on the copies of q, and then on the groups.
use Prim.Native.Nat.{ℕ, zero, suc, ◌+◌, ◌<◌}
use native.Mathlib.Nat.{zero-add, suc-add, add-suc, suc_inj, suc-ne-zero}
use mathlib.Core.Path.{◌≡◌, refl, sym, ap, ap₂, ◌∙◌, subst}
use mathlib.Core.List.{List, [], ◌∷◌}
use lib.IntN.{ℤ, pos, ◌*ℤ◌}
use lib.ListN.{length, get_or}
use Rattle.integers.proofs.Sums.{sum-upto-cong}
use Rattle.polar.specs.Order.{total}
use Rattle.polar.specs.Groups.{Group, head, tail}
use Rattle.entries.specs.Entries.{raise, fixed, fixed_over}
use Rattle.entries.proofs.Form.{total-raise, length-raise}
use Rattle.entries.proofs.Groups.{Counted, Named}

-- entries that agree, with weights that agree on the vertices, fix the same polar values
pub fixed-cong : (d m : ℕ) (ws us : List ℤ) → ((v : ℕ) → v < d → get_or ws v (pos 0) ≡ get_or us v (pos 0)) → (f g : List ℕ → ℤ) → ((e : List ℕ) → length e ≡ d → total e ≡ m → f e ≡ g e)
    → (h : ℕ) (e : List ℕ) → length e ≡ d → h + total e ≡ m → fixed d ws f h e ≡ fixed d us g h e
unfolding fixed
fixed-cong d m ws us same f g agree zero e l t = agree e l (sym (zero-add (total e)) ∙ t)
fixed-cong d m ws us same f g agree (suc h) e l t =
    sum-upto-cong d
    (λ v p.
    ap₂ (λ w z. w *ℤ z) (same v p)
    (fixed-cong d m ws us same f g agree h (raise v e) (length-raise v e (subst (λ k. v < k) (sym l) p) ∙ l) (ap (λ k. h + k) (total-raise v e) ∙ add-suc h (total e) ∙ sym (suc-add h (total e)) ∙ t)))

pub fixed-over-cong : (gs : List Group) (weights : List (List ℤ)) (f g : List (List ℕ) → ℤ) → ((es : List (List ℕ)) → Counted gs es → f es ≡ g es)
    → (es : List (List ℕ)) → Named gs es → fixed_over gs weights f es ≡ fixed_over gs weights g es
unfolding fixed_over
fixed-over-cong [] weights f g agree es named = agree [] tt
fixed-over-cong (k ∷ gs) weights f g agree [] named = absurd named
fixed-over-cong (k ∷ gs) weights f g agree ([] ∷ es) named = absurd (suc-ne-zero _ (sym named.0))
fixed-over-cong (k ∷ gs) weights f g agree ((h ∷ e) ∷ es) named =
    let d = suc k.dimension in
    fixed-over-cong gs (tail weights) (λ rest. fixed d (head weights) (λ r. f (r ∷ rest)) h e) (λ rest. fixed d (head weights) (λ r. g (r ∷ rest)) h e)
    (λ rest p.
    fixed-cong d k.degree (head weights) (head weights) (λ v q. refl) (λ r. f (r ∷ rest)) (λ r. g (r ∷ rest)) (λ r l t. agree (r ∷ rest) (l, t, p)) h e (suc_inj named.0) named.1)
    es named.2
