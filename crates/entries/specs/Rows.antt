-- One group's net whose entries are rows of w numbers, in the order of `counts n m`: what the functions of the crate nets work on. A net of one group has rows of four
-- numbers; seen from its first group, a net of several groups has in each row the numbers of the groups after it. No public contract cites this file.
use Rattle.std.specs.Prelude.{ℕ, zero, suc, ◌+◌, ◌*◌, List, [], ◌∷◌, map, ℤ, pos, length, get_or, set}
use Rattle.integers.specs.Sum.{upto}
use Rattle.polar.specs.Order.{joined, total, counts}
use Rattle.entries.specs.Entries.{place_of, fixed, signed}

-- number c of the row of the entry with counts e
unfoldable pub entry_at : ℕ → ℕ → ℕ → List ℤ → ℕ → List ℕ → ℤ
entry_at w n m numbers c e = get_or numbers (w * place_of e (counts n m) + c) (pos 0)

-- the numbers of the net whose number c of the entry with counts e is g c e
unfoldable pub listed : ℕ → ℕ → ℕ → (ℕ → List ℕ → ℤ) → List ℤ
listed w n m g = joined (λ e. map (λ c. g c e) (upto w)) (counts n m)

-- how many numbers there are
abbrev pub size : ℕ → ℕ → ℕ → ℕ
size w n m = w * length (counts n m)

-- ---- places

-- how many lists stand before row k of rows one after the other
abbrev pub offset : (ℕ → List (List ℕ)) → ℕ → ℕ
offset f zero = 0
offset f (suc k) = length (f 0) + offset (λ j. f (suc j)) k

-- the place of an entry, worked out from its counts
abbrev pub rank : ℕ → List ℕ → ℕ
rank zero e = 0
rank (suc n) [] = 0
rank (suc n) (i ∷ e) = offset (counts n) (total e) + rank n e

-- ---- moves

-- after vertex v is replaced by q: the copies of v are copies of q
abbrev pub replaced : ℕ → List ℤ → ℕ → (List ℕ → ℤ) → List ℕ → ℤ
replaced d ws v f e = fixed d ws f (get_or e v 0) (set e v 0)

-- after vertex v is flipped: the sign changes where v is taken an odd number of times
abbrev pub flipped : ℕ → (List ℕ → ℤ) → List ℕ → ℤ
flipped v f e = signed (get_or e v 0) (f e)
