-- Words and numbers as bytes, and a text written into a lent buffer. A text is a list of bytes; 48 is the code of the digit 0.
use Rattle.std.specs.Prelude.{ℕ, zero, suc, ◌+◌, ◌/◌, ◌%◌, ◌≤◌, ◌≡◌, cond, List, [], ◌∷◌, ◌++◌, ltb, ℤ, pos, negsuc, length, take, drop}
use Rattle.io.specs.Digits.{last_digits}
use Rattle.text.specs.declared.words.Page.{Page}

-- ---- the buffer

-- the buffer with the text written from place `at` on: what stands before the text and after it is as it was
unfoldable pub over : List ℕ → ℕ → List ℕ → List ℕ
over old at text = take at old ++ (text ++ drop (at + length text) old)

-- a text has room on the page, from its place on
pub record Room (page : Page) (text : List ℕ) : Type 0 where
  pub fits : page.at + length text ≤ length page.out.now

-- What a writer leaves of a page: its buffer is the same one and as long, the text is in it from the old place on, and the place is behind the text.
pub record Writes (old new : Page) (text : List ℕ) : Type 0 where
  pub same_buffer : new.out.ghost_name ≡ old.out.ghost_name
  pub size : length new.out.now ≡ length old.out.now
  pub buffer : new.out.now ≡ over old.out.now old.at text
  pub place : new.at ≡ old.at + length text

-- ---- numbers

-- a digit's code
abbrev pub digit : ℕ → ℕ
digit d = 48 + d

-- The digits of n, at most `most` of them: a number below ten is its own digit, and another is the digits of its tenth, then its last digit.
unfoldable pub decimal_by : ℕ → ℕ → List ℕ
decimal_by zero n = []
decimal_by (suc most) n = cond (ltb n 10) (digit n ∷ []) (decimal_by most (n / 10) ++ (digit (n % 10) ∷ []))

-- n in base ten, with no zero in front; 0 is one digit. No number has more digits than one above itself, so `most` cuts nothing off
-- (`decimal-large` in proofs/Decimal.antt).
unfoldable pub decimal : ℕ → List ℕ
decimal n = decimal_by (suc n) n

-- the same with a minus sign (45) before the absolute value of a negative number
unfoldable pub signed_decimal : ℤ → List ℕ
signed_decimal (pos n) = decimal n
signed_decimal (negsuc n) = 45 ∷ decimal (suc n)

-- a pattern of 64 bits as 16 digits in base sixteen, `a` to `f` in lower case
unfoldable pub hex_bits : ℕ → List ℕ
hex_bits n = last_digits 16 16 n

-- ---- lines

-- the words with a space (32) between two, then a line feed (10)
unfoldable pub line : List (List ℕ) → List ℕ
line [] = 10 ∷ []
line (word ∷ []) = word ++ (10 ∷ [])
line (word ∷ next ∷ words) = word ++ (32 ∷ line (next ∷ words))
