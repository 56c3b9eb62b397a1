-- The closure keeps the part and gives number k at each k, so the array holds the first nine numbers.
use Rattle.std.proofs.Common.{◌≡◌, ℕ, zero, suc, ◌+◌, ◌≤◌, ◌<◌, Bool, true, false, refl, List, get_or, ℤ, pos, sym, subst, ap, ◌∙◌, eqb, arith, rules, tests}
use Rattle.std.specs.Array.{IsFromFnResultFrom}
use Rattle.std.specs.Fn.{Called}
use denote.Param.Members.{Mut}
use borrow.Author.Tests.{eqb-true, eqb-false}
use Rattle.decoding.specs.Numbers.{number_at, numbers_to, frame_numbers}
use Rattle.decoding.proofs.Numbers.{numbers_to-by}
use Rattle.decoding.proofs.frame_numbers.Goals as goal

-- where each call of f keeps f and gives h k at k
made : {F : Type 0} {g : Mut F (ℕ × Unit {0}) ℤ} (f : F) (ys : List ℤ) (i n : ℕ) → IsFromFnResultFrom g f ys i n → (h : ℕ → ℤ)
    → ((y : ℤ) (q : F) (k : ℕ) → Called g f (k, tt) y q → (q ≡ f) × (y ≡ h k)) → (k : ℕ) → i ≤ k → k < i + n → get_or ys k (pos 0) ≡ h k
made f ys i zero m h same k a b = absurd (omega arith)
made {F} {g} f ys i (suc n) (r, y, at, call, rest) h same k a b =
    let step = same y r i call in
    let on = subst (λ q. IsFromFnResultFrom g q ys (i + 1) n) step.0 rest in
    by (eqb k i) refl (at.1 (pos 0) ∙ step.1) (made f ys (i + 1) n on h same k)
  where
    by : (t : Bool) → eqb k i ≡ t → get_or ys i (pos 0) ≡ h i → (i + 1 ≤ k → k < i + 1 + n → get_or ys k (pos 0) ≡ h k) → get_or ys k (pos 0) ≡ h k
    by true e here later = subst (λ j. get_or ys j (pos 0) ≡ h j) (sym (eqb-true k i e)) here
    by false e here later = let other = eqb-false k i e in later (omega arith) (omega arith)

pub returns : goal.returns
unfolding frame_numbers
returns c =
    let items = c.from_fn.ensures.items in
    let f = number_at 2 c.args.part.now in
    let each = made _ _ 0 9 items.each f (λ y q k call. search (rules, tests)) in
    numbers_to-by c.from_fn.result f (λ k b. each k (omega arith) (omega (arith, items.long))) ∙ ap (λ n. numbers_to n f) items.long
