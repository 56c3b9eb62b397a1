-- A text that a loop writes part by part: what is written so far and what is left are together the whole, and what is left has room where the whole has.
use Prim.Native.Nat.{ℕ}
use mathlib.Core.Path.{◌≡◌, subst}
use mathlib.Core.List.{List, [], ◌++◌}
use Rattle.text.specs.Words.{Room, Writes}
use Rattle.text.specs.declared.words.Page.{Page}
use Rattle.text.proofs.Over.{nothing_written, then-room, in_a_row}

-- ---- the same text in other words

pub wrote_as : {old new : Page} {text other : List ℕ} → text ≡ other → Writes old new text → Writes old new other
wrote_as {old} {new} e w = subst (Writes old new) e w

pub room_as : {page : Page} {text other : List ℕ} → text ≡ other → Room page text → Room page other
room_as {page} e room = subst (Room page) e room

-- ---- a text in parts

-- From `old` on the whole text is to be written; the page is now `now`, and what is left is `rest`.
pub record Left (old : Page) (whole : List ℕ) (now : Page) (rest : List ℕ) : Type 0 where
  pub room : Room now rest
  pub leads : (new : Page) → Writes now new rest → Writes old new whole

-- before anything is written all of it is left
pub begin : {old : Page} {whole : List ℕ} → Room old whole → Left old whole old whole
begin room = record { room = room; leads = λ new w. w }

module _ {old : Page} {whole : List ℕ} {now : Page} where
  -- the same text in other words
  pub left_as : {rest other : List ℕ} → rest ≡ other → Left old whole now rest → Left old whole now other
  left_as e left = subst (Left old whole now) e left

  -- a part of it is written
  pub left_after : {a b : List ℕ} {mid : Page} → Writes now mid a → Left old whole now (a ++ b) → Left old whole mid b
  left_after w left = record { room = then-room w left.room; leads = λ new v. left.leads new (in_a_row w v left.room) }

  -- the last part is written
  pub left-last : {rest : List ℕ} {new : Page} → Writes now new rest → Left old whole now rest → Writes old new whole
  left-last {new = new} w left = left.leads new w

  -- nothing is left
  pub left-none : {rest : List ℕ} → rest ≡ [] → Left old whole now rest → Writes old now whole
  left-none e left = left-last (nothing_written now) (left_as e left)
