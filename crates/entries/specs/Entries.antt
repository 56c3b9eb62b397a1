-- The entries of a net as a list of numbers, and the polar values that they fix (docs/SPECIFICATION.md, 'Frames and first nets' and 'Moves and points').
-- A net holds four numbers, x, y, z, w, for each of its entries, in the order of `counts_over`.
use Rattle.std.specs.Prelude.{ℕ, zero, suc, ◌+◌, ◌*◌, Bool, true, false, not, cond, List, [], ◌∷◌, map, ℤ, pos, neg_ℤ, ◌*ℤ◌, eqb, length, get_or, set, drop, replicate}
use Rattle.integers.specs.Sum.{sum, upto}
use Rattle.polar.specs.Order.{joined, counts}
use Rattle.polar.specs.Groups.{Group, head, tail, counts_over}

-- whether two lists of numbers are the same
abbrev pub same : List ℕ → List ℕ → Bool
same [] [] = true
same [] (y ∷ ys) = false
same (x ∷ xs) [] = false
same (x ∷ xs) (y ∷ ys) = cond (eqb x y) (same xs ys) false

-- the place of e in a list, counted from 0
abbrev pub place_of : List ℕ → List (List ℕ) → ℕ
place_of e [] = 0
place_of e (x ∷ xs) = cond (same e x) 0 (suc (place_of e xs))

-- one more copy of vertex v
abbrev pub raise : ℕ → List ℕ → List ℕ
raise zero [] = 1 ∷ []
raise zero (n ∷ e) = suc n ∷ e
raise (suc v) [] = 0 ∷ raise v []
raise (suc v) (n ∷ e) = n ∷ raise v e

-- The polar values that a net's entries fix. f is one component of the entries; h copies of q, which the weights name, and e of the d vertices.
-- One with q in a place is the sum, over the vertices, of the weight times the one with that vertex there.
unfoldable pub fixed : ℕ → List ℤ → (List ℕ → ℤ) → ℕ → List ℕ → ℤ
fixed d ws f zero e = f e
fixed d ws f (suc h) e = sum (λ v. get_or ws v (pos 0) *ℤ fixed d ws f h (raise v e)) (upto d)

abbrev pub odd : ℕ → Bool
odd zero = false
odd (suc n) = not (odd n)

-- a number with its sign changed n times
abbrev pub signed : ℕ → ℤ → ℤ
signed n x = cond (odd n) (neg_ℤ x) x

-- ---- over groups: the counts of an entry are a list of counts for each group

-- how many numbers a net has, four for each entry
abbrev pub number_count : List Group → ℕ
number_count gs = 4 * length (counts_over gs)

-- the place of an entry: the entries go by the first group's counts, and with the same ones of it by those of the groups after it
abbrev pub place_over : List Group → List (List ℕ) → ℕ
place_over [] es = 0
place_over (g ∷ gs) es = place_of (head es) (counts g.dimension g.degree) * length (counts_over gs) + place_over gs (tail es)

-- component c of the entry with counts es, of a net's numbers
unfoldable pub entry_over : List Group → List ℤ → ℕ → List (List ℕ) → ℤ
entry_over gs numbers c es = get_or numbers (4 * place_over gs es + c) (pos 0)

-- the numbers of the net whose component c of the entry with counts es is f c es
unfoldable pub listed_over : List Group → (ℕ → List (List ℕ) → ℤ) → List ℤ
listed_over gs f = joined (λ es. map (λ c. f c es) (upto 4)) (counts_over gs)

-- The polar values that a net's entries fix. f is one component of the entries. In each group a point q is
-- taken besides the vertices, which the group's weights name: the counts of a group say first how often q is
-- taken, then how often each vertex. An example, a curve of degree 2 whose entries have the component 1 at r
-- r, 2 at r s and 5 at s s, with the weights 2 and 3, so q = 2 r + 3 s. One copy of q with r, counts 1 1 0,
-- is 2 × 1 + 3 × 2 = 8; with s, counts 1 0 1, 2 × 2 + 3 × 5 = 19; two copies, counts 2 0 0, are 2 × 8 + 3 ×
-- 19 = 73; counts 0 1 1 are the entry 2 itself.
unfoldable pub fixed_over : List Group → List (List ℤ) → (List (List ℕ) → ℤ) → List (List ℕ) → ℤ
fixed_over [] weights f es = f []
fixed_over (g ∷ gs) weights f es =
    fixed_over gs (tail weights) (λ rest. fixed (suc g.dimension) (head weights) (λ e. f (e ∷ rest)) (get_or (head es) 0 0) (drop 1 (head es))) (tail es)

-- an entry's counts, q being taken in no group
abbrev pub none_of_q : List (List ℕ) → List (List ℕ)
none_of_q es = map (λ e. 0 ∷ e) es

-- the same, but the copies of vertex v of group i are copies of its q
abbrev pub as_q : ℕ → ℕ → List (List ℕ) → List (List ℕ)
as_q i v [] = []
as_q zero v (e ∷ es) = (get_or e v 0 ∷ set e v 0) ∷ none_of_q es
as_q (suc i) v (e ∷ es) = (0 ∷ e) ∷ as_q i v es

-- every point is q
abbrev pub only_q : List Group → List (List ℕ)
only_q gs = map (λ g. g.degree ∷ replicate (suc g.dimension) 0) gs

-- after vertex v of group i is flipped: the sign changes where it is taken an odd number of times
abbrev pub flipped_over : ℕ → ℕ → (List (List ℕ) → ℤ) → List (List ℕ) → ℤ
flipped_over i v f es = signed (get_or (get_or es i []) v 0) (f es)
