-- Lines as the code puts them together: the same bytes in parts. A line is its first word, each other word after a space, and a line feed. In the first line there is a degree,
-- and in the name of an entry an index, of the group after the first where there is one.
use Prim.Native.Nat.{ℕ, zero, suc, ◌-◌}
use native.Mathlib.Omega.{arith}
use borrow.Author.Tests.{ne_eqb}
use mathlib.Core.Path.{◌≡◌, refl, sym, ap, ◌∙◌}
use mathlib.Core.Bool.{true, cond}
use mathlib.Core.List.{List, [], ◌∷◌, ◌++◌, map, append_assoc}
use lib.Dec.{eqb}
use lib.IntN.{ℤ}
use lib.ListN.{length, get_or}
use Rattle.polar.specs.Groups.{Group}
use Rattle.kinds.specs.Kinds.{later_groups, later_dimension, known}
use Rattle.kinds.specs.declared.Head.{Head}
use Rattle.kinds.specs.Scales.{scale_of}
use Rattle.kinds.proofs.Limits.{groups-of, by_kind}
use Rattle.text.specs.Words.{decimal, signed_decimal, line}
use Rattle.text.specs.Text.{word, refused_line, kind_word, head_line, move_line, entry_line}
use Rattle.text.specs.Parts.{rest_of_line, pair_text, between, TwoOrThree, name_text, later_text, entry_text}

-- ---- any line

pub line_first : (w : List ℕ) (words : List (List ℕ)) → line (w ∷ words) ≡ w ++ rest_of_line words
unfolding line
line_first w [] = refl
line_first w (v ∷ words) = ap (λ l. w ++ (32 ∷ l)) (line_first v words)

line-split : (w : List ℕ) (some more : List (List ℕ)) → between (w ∷ some) ++ rest_of_line more ≡ line ((w ∷ some) ++ more)
unfolding line
line-split w [] more = sym (line_first w more)
line-split w (v ∷ some) more = append_assoc w (32 ∷ between (v ∷ some)) (rest_of_line more) ∙ ap (λ l. w ++ (32 ∷ l)) (line-split v some more)

-- ---- two numbers after their labels

pub refused-line : (number offset : ℕ) → refused_line number offset ≡ pair_text (word "refused ") number (word " at ") offset
unfolding refused_line line
refused-line number offset = refl

-- a refused move has a line, a taken one has none
pub move-line : (k number : ℕ) → (number ≡ 0 → ⊥) → move_line k number ≡ pair_text (word "move ") k (word " refused ") number
unfolding move_line line
move-line k zero h = absurd (h refl)
move-line k (suc number) h = refl

pub move-none : (k number : ℕ) → number ≡ 0 → move_line k number ≡ []
unfolding move_line
move-none k number h = ap (move_line k) h

-- ---- the first line

pub word-curve : (kind : ℕ) → kind ≡ 1 → word "curve" ≡ kind_word kind
word-curve kind h = sym (ap kind_word h)

pub word-patch : (kind : ℕ) → kind ≡ 2 → word "patch" ≡ kind_word kind
word-patch kind h = sym (ap kind_word h)

pub word-rect : (kind : ℕ) → (kind ≡ 1 → ⊥) → (kind ≡ 2 → ⊥) → word "rect" ≡ kind_word kind
word-rect kind one two =
    sym
    (ap (λ b. cond b (word "curve") (cond (eqb kind 2) (word "patch") (word "rect"))) (ne_eqb kind 1 one)
    ∙ ap (λ b. cond b (word "patch") (word "rect")) (ne_eqb kind 2 two))

-- the degrees of the groups after the first, and what follows them
later-degrees : (kind second : ℕ) (more : List (List ℕ))
    → rest_of_line (map (λ (g : Group). decimal g.degree) (later_groups kind second) ++ more) ≡ later_text (later_dimension kind) second ++ rest_of_line more
later-degrees kind second more =
    by_kind (λ k. rest_of_line (map (λ (g : Group). decimal g.degree) (later_groups k second) ++ more) ≡ later_text (later_dimension k) second ++ rest_of_line more)
    refl refl refl refl (λ k. refl) kind

-- n being the scale
pub head-line : (h : Head) {n : ℕ} → known h.kind h.degree h.second ≡ true → n ≡ scale_of h.kind h.degree h.second
    → head_line h.kind h.degree h.second ≡ kind_word h.kind ++ ((32 ∷ decimal h.degree) ++ (later_text (later_dimension h.kind) h.second ++ ((32 ∷ decimal n) ++ (10 ∷ []))))
unfolding head_line
head-line h right e =
    let scale = scale_of h.kind h.degree h.second in
    ap (λ gs. line (kind_word h.kind ∷ (map (λ (g : Group). decimal g.degree) gs ++ (decimal scale ∷ [])))) (groups-of h.kind h.degree h.second right)
    ∙ line_first (kind_word h.kind) (decimal h.degree ∷ (map (λ (g : Group). decimal g.degree) (later_groups h.kind h.second) ++ (decimal scale ∷ [])))
    ∙ ap (λ l. kind_word h.kind ++ ((32 ∷ decimal h.degree) ++ l)) (later-degrees h.kind h.second (decimal scale ∷ []))
    ∙ ap (λ k. kind_word h.kind ++ ((32 ∷ decimal h.degree) ++ (later_text (later_dimension h.kind) h.second ++ ((32 ∷ decimal k) ++ (10 ∷ []))))) (sym e)

-- ---- a number of the group after the first

pub later-none : (n l : ℕ) → n ≡ 0 → later_text n l ≡ []
later-none n l h = ap (λ d. later_text d l) h

pub later-some : (n l : ℕ) → (n ≡ 0 → ⊥) → later_text n l ≡ 32 ∷ decimal l
later-some zero l h = absurd (h refl)
later-some (suc n) l h = refl

-- ---- an entry

by-counts : (P : List ℕ → Type 0) → ((i j : ℕ) → P (i ∷ j ∷ [])) → ((i j k : ℕ) → P (i ∷ j ∷ k ∷ [])) → (e : List ℕ) → TwoOrThree e → P e
by-counts P two three [] few = absurd (omega (arith, few.0))
by-counts P two three (i ∷ []) few = absurd (omega (arith, few.0))
by-counts P two three (i ∷ j ∷ []) few = two i j
by-counts P two three (i ∷ j ∷ k ∷ []) few = three i j k
by-counts P two three (i ∷ j ∷ k ∷ x ∷ e) few = absurd (omega (arith, few.1))

pub name-two : (e : List ℕ) → TwoOrThree e → length e ≡ 2 → decimal (get_or e 1 0) ≡ name_text e
name-two = by-counts (λ e. length e ≡ 2 → decimal (get_or e 1 0) ≡ name_text e) (λ i j h. refl) (λ i j k h. absurd (wrong h))
  where
    wrong : ◌≡◌ {A = ℕ} 3 2 → ⊥
    wrong h = omega arith

pub name-three : (e : List ℕ) → TwoOrThree e → (length e ≡ 2 → ⊥) → name_text e ≡ decimal (get_or e 0 0) ++ ((32 ∷ decimal (get_or e 1 0)) ++ (32 ∷ decimal (get_or e 2 0)))
name-three =
    by-counts (λ e. (length e ≡ 2 → ⊥) → name_text e ≡ decimal (get_or e 0 0) ++ ((32 ∷ decimal (get_or e 1 0)) ++ (32 ∷ decimal (get_or e 2 0))))
    (λ i j h. absurd (h refl)) (λ i j k h. refl)

-- the counts of the group after the first where l are of its second vertex, by its dimension; 0 is that of no group
abbrev pub later_at : ℕ → ℕ → ℕ → List (List ℕ)
later_at zero q l = []
later_at (suc n) q l = ((q - l) ∷ l ∷ []) ∷ []

-- the entry's name and its numbers are its line
pub entry-text : (n q l : ℕ) (xs : List ℤ) (e : List ℕ) → TwoOrThree e → entry_text e n l xs ≡ entry_line (e ∷ later_at n q l) xs
unfolding entry_line
entry-text zero q l xs =
    by-counts (λ e. entry_text e 0 l xs ≡ entry_line (e ∷ []) xs)
    (λ i j. line-split (decimal j) [] (map signed_decimal xs))
    (λ i j k. line-split (decimal i) (decimal j ∷ decimal k ∷ []) (map signed_decimal xs))
entry-text (suc n) q l xs =
    by-counts (λ e. entry_text e 1 l xs ≡ entry_line (e ∷ ((q - l) ∷ l ∷ []) ∷ []) xs)
    (λ i j. line-split (decimal j) [] (decimal l ∷ map signed_decimal xs))
    (λ i j k. line-split (decimal i) (decimal j ∷ decimal k ∷ []) (decimal l ∷ map signed_decimal xs))
