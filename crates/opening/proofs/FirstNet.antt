-- The first net by a layout: `first_net` is handed the numbers of the frame and the coefficients with places behind them, and makes the net of the record's polynomials.
use Prim.Native.Nat.{ℕ, ◌-◌, ◌≤◌}
use native.Mathlib.Omega.{arith}
use mathlib.Core.Path.{◌≡◌, sym, ap, ap₂, ◌∙◌}
use mathlib.Core.Bool.{true, ◌&&◌}
use mathlib.Core.List.{List, [], ◌∷◌, ◌++◌}
use lib.Dec.{leb}
use lib.IntN.{ℤ}
use lib.ListN.{length, take, drop}
use lib.Seq.{take_all, take_at, length-take-le}
use Rattle.kinds.specs.Counts.{NumberCount}
use Rattle.machine.specs.Refusals.{◌else◌, first_failed}
use Rattle.machine.specs.Comparison.{Polynomials}
use Rattle.machine.specs.First.{first_net, first_tests, first_refusal}
use Rattle.machine.specs.Lent.{put_net, enough_places, unless_refused, polynomials_from, made_number, made_places}
use Rattle.machine.proofs.Refusals.{passed_first}
use Rattle.decoding.specs.Numbers.{number_at, numbers_to, frame_numbers, coefficients_of}
use Rattle.decoding.proofs.Numbers.{length-numbers_to}
use Rattle.records.specs.Reading.{bytes_of}
use Rattle.records.specs.Causes.{layout_groups}
use Rattle.records.specs.declared.Layout.{Layout}
use Rattle.opening.specs.Opening.{polynomials_at, numbers_at, FirstMade}

-- coefficients read into the first n places
pub filled : (places out : List ℤ) (part whole : List ℕ) (start n : ℕ) → n ≤ length places → part ≡ drop start whole
    → out ≡ numbers_to (length (take (n - 0) (drop 0 places))) (number_at 4 part) → out ≡ numbers_to n (number_at 4 (drop start whole))
filled places out part whole start n room is read =
    let same : n - 0 ≡ n = omega arith in
    read ∙ ap₂ (λ k p. numbers_to k (number_at 4 p)) (ap (λ k. length (take k places)) same ∙ length-take-le n places room) is

module _ (l : Layout) (s : List ℕ) (frame coefficients rest lent : List ℤ) (n : ℕ) (count : NumberCount (layout_groups l) n) where
  -- the coefficients are those of the layout, as many as kind and degrees have
  polynomials-given : coefficients ≡ numbers_to n (number_at 4 (drop l.coefficients.start s)) ++ rest → polynomials_from l.said.kind l.said.degree l.said.second coefficients ≡ polynomials_at l s
  unfolding coefficients_of
  polynomials-given is =
      ap (λ cs. polynomials_from l.said.kind l.said.degree l.said.second cs) is
      ∙ ap with-coefficients (take_at (numbers_to n number) rest _ (length-numbers_to n number ∙ count.coefficients) ∙ ap (λ k. numbers_to k number) count.coefficients)
    where
      number : ℕ → ℤ
      number = number_at 4 (drop l.coefficients.start s)

      with-coefficients : List ℤ → Polynomials
      with-coefficients cs = record { kind = l.said.kind; degree = l.said.degree; second = l.said.second; coefficients = cs }

  -- the frame has nine numbers
  nine : frame ≡ numbers_at l s → length frame ≡ 9
  unfolding frame_numbers
  nine is = ap length is ∙ length-numbers_to 9 (number_at 2 (bytes_of l.frame s))

  pub first_made : frame ≡ numbers_at l s → coefficients ≡ numbers_to n (number_at 4 (drop l.coefficients.start s)) ++ rest → length coefficients ≡ 180 → enough_places lent ≡ true
      → (number : ℕ) (left : List ℤ) → number ≡ made_number l.said.kind l.said.degree l.said.second frame coefficients lent → left ≡ made_places l.said.kind l.said.degree l.said.second frame coefficients lent
      → FirstMade l s lent number left
  unfolding made_number made_places first_refusal
  first_made frame_is coefficients-are long enough number left answered stands =
      record {
        number =
            answered
            ∙ passed_first (leb 9 (length frame) else 11 ∷ leb 180 (length coefficients) else 11 ∷ enough_places lent else 11 ∷ [])
            (first_tests (polynomials_from l.said.kind l.said.degree l.said.second coefficients) (take 9 frame))
            (λ i. leb 9 (nine frame_is i) && (leb 180 (long i) && (enough i && true)))
            ∙ ap₂ (λ f ns. first_failed (first_tests f ns)) polynomials numbers;
        places = stands ∙ (λ i. unless_refused (sym answered i) (put_net (first_net (polynomials i) (numbers i)) lent) lent);
      }
    where
      polynomials : polynomials_from l.said.kind l.said.degree l.said.second coefficients ≡ polynomials_at l s
      polynomials = polynomials-given coefficients-are

      numbers : take 9 frame ≡ numbers_at l s
      numbers = take_all 9 frame (omega (arith, nine frame_is)) ∙ frame_is
