-- The largest component after an accepted move: a replace works it out, and a flip changes signs alone, which the largest absolute value does not see.
use Prim.Native.Nat.{ℕ, pred, max}
use mathlib.Core.Path.{◌≡◌, refl, sym, ap, ap₂, ◌∙◌}
use mathlib.Core.Bool.{Bool, true, false, cond}
use mathlib.Core.List.{List, [], ◌∷◌, map}
use lib.Dec.{eqb}
use lib.IntN.{ℤ, pos, nat_abs}
use lib.ListN.{length, get_or}
use Rattle.integers.specs.Sum.{upto}
use Rattle.integers.specs.Largest.{largest_of}
use Rattle.integers.proofs.Laws.{nat_abs-neg}
use Rattle.integers.proofs.Largest.{largest-append, largest-same}
use Rattle.polar.specs.Order.{joined}
use Rattle.polar.specs.Groups.{Group, counts_over}
use Rattle.entries.specs.Entries.{number_count, entry_over, listed_over, flipped_over}
use Rattle.entries.proofs.Signs.{signed-unseen}
use Rattle.entries.proofs.ListedOver.{listed-again}
use Rattle.machine.specs.Calls.{group_at, own_at}
use Rattle.machine.specs.Nets.{Net, net_groups, entry, entries_after, largest_after}
use Rattle.machine.specs.Largest.{StoresLargest}
use Rattle.machine.specs.declared.Weights.{Weights}

-- ---- a flip

-- rows whose numbers differ by sign alone
rows_same : {A : Type 0} (f g : ℕ → A → ℤ) (es : List A) → ((c : ℕ) (e : A) → nat_abs (f c e) ≡ nat_abs (g c e))
    → largest_of (joined (λ e. map (λ c. f c e) (upto 4)) es) ≡ largest_of (joined (λ e. map (λ c. g c e) (upto 4)) es)
rows_same f g [] h = refl
rows_same f g (e ∷ es) h =
    largest-append (map (λ c. f c e) (upto 4)) (joined (λ e. map (λ c. f c e) (upto 4)) es)
    ∙ ap₂ max (largest-same (λ c. f c e) (λ c. g c e) (upto 4) (λ c. h c e)) (rows_same f g es h)
    ∙ sym (largest-append (map (λ c. g c e) (upto 4)) (joined (λ e. map (λ c. g c e) (upto 4)) es))

-- entries with some signs changed have the largest component that they had
pub flipped-largest : (gs : List Group) (numbers : List ℤ) (i v : ℕ) → length numbers ≡ number_count gs
    → largest_of numbers ≡ largest_of (listed_over gs (λ c es. flipped_over i v (entry_over gs numbers c) es))
unfolding listed_over
flipped-largest gs numbers i v l =
    ap largest_of (sym (listed-again gs numbers l))
    ∙ rows_same (entry_over gs numbers) (λ c es. flipped_over i v (entry_over gs numbers c) es) (counts_over gs)
    (λ c es. sym (signed-unseen nat_abs nat_abs-neg (get_or (get_or es i []) v 0) (entry_over gs numbers c es)))

-- ---- a move

-- a replace works out the largest component, whatever the net stored, and a flip hands on what it stored
pub replace-works-out : (net : Net) (vertex : ℕ) (weights : Weights) → largest_after net 1 vertex weights ≡ pos (largest_of (entries_after net 1 vertex weights))
unfolding largest_after
replace-works-out net vertex weights = refl

pub flip-hands-on : (net : Net) (vertex : ℕ) (weights : Weights) → largest_after net 2 vertex weights ≡ net.largest
unfolding largest_after
flip-hands-on net vertex weights = refl

-- the entries that a flip leaves are those that it was given, with some signs changed, and have the same largest component
flip-changes-signs : (net : Net) (vertex : ℕ) (weights : Weights)
    → entries_after net 2 vertex weights ≡ listed_over (net_groups net) (λ c es. flipped_over (group_at (net_groups net) (pred vertex)) (own_at (net_groups net) (pred vertex)) (entry net c) es)
unfolding entries_after
flip-changes-signs net vertex weights = refl

pub flip-keeps-largest : (net : Net) → length net.entries ≡ number_count (net_groups net) → (vertex : ℕ) (weights : Weights)
    → largest_of net.entries ≡ largest_of (entries_after net 2 vertex weights)
flip-keeps-largest net l vertex weights = flipped-largest (net_groups net) net.entries _ _ l ∙ sym (ap largest_of (flip-changes-signs net vertex weights))

-- any move leaves the largest component, where the net had all its entries and stored theirs
pub moved-largest : (net : Net) → length net.entries ≡ number_count (net_groups net) → StoresLargest net → (operation vertex : ℕ) (weights : Weights)
    → largest_after net operation vertex weights ≡ pos (largest_of (entries_after net operation vertex weights))
unfolding largest_after entries_after
moved-largest net l right operation vertex weights = by (eqb operation 1) _ _ (right ∙ ap pos (flipped-largest (net_groups net) net.entries _ _ l))
  where
    by : (b : Bool) (f g : ℕ → List (List ℕ) → ℤ) → net.largest ≡ pos (largest_of (listed_over (net_groups net) g))
        → cond b (pos (largest_of (listed_over (net_groups net) (λ c es. cond b (f c es) (g c es))))) net.largest ≡ pos (largest_of (listed_over (net_groups net) (λ c es. cond b (f c es) (g c es))))
    by true f g h = refl
    by false f g h = h
