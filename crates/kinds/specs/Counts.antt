-- How many numbers a net and its polynomials have.
use Rattle.std.specs.Prelude.{ℕ, ◌*◌, ◌≡◌, List, length}
use Rattle.polar.specs.Groups.{Group, monomials_over}
use Rattle.entries.specs.Entries.{number_count}

-- the numbers of the entries, four to an entry, and as many coefficients, four to a monomial
pub record NumberCount (gs : List Group) (r : ℕ) : Type 0 where
  pub entries : r ≡ number_count gs
  pub coefficients : r ≡ 4 * length (monomials_over gs)
