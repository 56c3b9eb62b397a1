-- The number of a call from its parts: the tests of a handed net, those of the call's arguments, that of the frame's numbers and of q, and that of size.
use Prim.Native.Nat.{ℕ, ◌-◌, ◌≤◌}
use native.Mathlib.Nat.{sub-zero}
use native.Mathlib.Omega.{arith}
use mathlib.Core.Path.{◌≡◌, refl, sym, ap, ◌∙◌}
use mathlib.Core.Bool.{Bool, true, false, ◌&&◌}
use mathlib.Core.List.{List, [], ◌∷◌, ◌++◌, append_assoc}
use lib.IntN.{ℤ}
use lib.ListN.{take}
use Rattle.integers.specs.Test.{all}
use Rattle.integers.proofs.All.{all_append}
use Rattle.polar.specs.Groups.{Group}
use Rattle.projection.specs.Projection.{in_range}
use Rattle.entries.specs.Entries.{number_count}
use Rattle.kinds.specs.Kinds.{groups_of, known}
use Rattle.kinds.specs.Frames.{numbers_of}
use Rattle.kinds.proofs.Counts.{entries_fit}
use Rattle.machine.specs.Refusals.{Test, ◌else◌, first_failed, all_pass, numbered}
use Rattle.machine.proofs.Refusals.{none-failed, passes, fails, passed_first, refused-first}
use Rattle.machine.specs.Calls.{own_tests}
use Rattle.machine.specs.Frames.{new_numbers}
use Rattle.machine.specs.Sizes.{before_size, call_tests}
use Rattle.machine.specs.Nets.{Net, net_groups, handed_tests, judged_numbers, net_tests}
use Rattle.machine.specs.declared.Call.{Call}
use Rattle.machine.specs.declared.Call.TheVariants.{Move, Point}
use Rattle.kinds.specs.Heads.{head_groups}
use Rattle.kinds.specs.declared.Head.{Head}
use Rattle.nets.specs.Calls.{net_from, size_test}

-- ---- the tests of a handed net

module _ (head : Head) (places : List ℤ) where
  abbrev handed : List Test
  handed = handed_tests (net_from head places)

  pub handed-unknown : known head.kind head.degree head.second ≡ false → 4 ≡ first_failed handed
  unfolding handed_tests
  handed-unknown h = sym (fails 4 (all in_range (net_from head places).entries else 10 ∷ []) h)

  -- the numbers that the code looks at are the net's
  pub handed-range : known head.kind head.degree head.second ≡ true → (count : ℕ) → count ≡ number_count (head_groups head) → (b : Bool) → all in_range (take (count - 0) places) ≡ b
      → first_failed (b else 10 ∷ []) ≡ first_failed handed
  unfolding handed_tests
  handed-range right count is b h =
      ap (λ t. first_failed (t else 10 ∷ [])) (sym h ∙ ap (λ k. all in_range (take k places)) (sub-zero count ∙ is))
      ∙ sym (passes 4 (all in_range (net_from head places).entries else 10 ∷ []) right)

-- a known kind's entries have room in the part that is lent
pub entries-long : (kind degree second count long : ℕ) → known kind degree second ≡ true → count ≡ number_count (groups_of kind degree second) → long ≡ 180 → count ≤ long
entries-long kind degree second count long right is l = let fit = entries_fit kind degree second right in omega arith

-- ---- two tables, one after the other

handed-numbered : (net : Net) → numbered (handed_tests net) ≡ true
unfolding handed_tests
handed-numbered net = refl

arguments-numbered : (gs : List Group) (c : Call) → numbered (own_tests gs c) ≡ true
unfolding own_tests
arguments-numbered gs (Move operation vertex weights) = refl
arguments-numbered gs (Point weights) = refl

pub handed-passed : (net : Net) → first_failed (handed_tests net) ≡ 0 → all_pass (handed_tests net) ≡ true
handed-passed net h = (none-failed (handed_tests net) (handed-numbered net)).0 h

pub arguments-passed : (gs : List Group) (c : Call) → first_failed (own_tests gs c) ≡ 0 → all_pass (own_tests gs c) ≡ true
arguments-passed gs c h = (none-failed (own_tests gs c) (arguments-numbered gs c)).0 h

-- ---- the number of a call

module _ (net : Net) (c : Call) where
  -- what is left of the table past the tests of the handed net and of the arguments
  abbrev last : List Test
  last = all in_range (judged_numbers net c) else 12 ∷ size_test net c

  tests-are : net_tests net c ≡ handed_tests net ++ (own_tests (net_groups net) c ++ last)
  unfolding net_tests call_tests before_size
  tests-are = ap (λ l. handed_tests net ++ l) (append_assoc (own_tests (net_groups net) c) (all in_range (judged_numbers net c) else 12 ∷ []) (size_test net c))

  -- a handed net that is refused
  pub by-handed : {k : ℕ} → (k ≡ 0 → ⊥) → k ≡ first_failed (handed_tests net) → k ≡ first_failed (net_tests net c)
  by-handed refused is = is ∙ sym (ap first_failed tests-are ∙ refused-first (handed_tests net) (own_tests (net_groups net) c ++ last) (λ z. refused (is ∙ z)))

  module _ (passed : first_failed (handed_tests net) ≡ 0) where
    by_call : first_failed (net_tests net c) ≡ first_failed (own_tests (net_groups net) c ++ last)
    by_call = ap first_failed tests-are ∙ passed_first (handed_tests net) (own_tests (net_groups net) c ++ last) (handed-passed net passed)

    -- a call that is refused for its arguments
    pub by-arguments : {k : ℕ} → (k ≡ 0 → ⊥) → k ≡ first_failed (own_tests (net_groups net) c) → k ≡ first_failed (net_tests net c)
    by-arguments refused is = is ∙ sym (by_call ∙ refused-first (own_tests (net_groups net) c) last (λ z. refused (is ∙ z)))

    -- and one that is not: the frame's numbers, those of q, and the size decide
    module _ (own : first_failed (own_tests (net_groups net) c) ≡ 0) where
      by_last : first_failed (net_tests net c) ≡ first_failed last
      by_last = by_call ∙ passed_first (own_tests (net_groups net) c) last (arguments-passed (net_groups net) c own)

      near_by : (b : Bool) → all in_range (numbers_of net.frames) ≡ b → all in_range (judged_numbers net c) ≡ (b && all in_range (new_numbers (net_groups net) net.frames c))
      unfolding judged_numbers
      near_by b h = all_append in_range (numbers_of net.frames) (new_numbers (net_groups net) net.frames c) ∙ ap (λ t. t && all in_range (new_numbers (net_groups net) net.frames c)) h

      pub by-frame : all in_range (numbers_of net.frames) ≡ false → 12 ≡ first_failed (net_tests net c)
      by-frame h = sym (by_last ∙ fails 12 (size_test net c) (near_by false h))

      pub by-new : all in_range (numbers_of net.frames) ≡ true
          → first_failed (all in_range (new_numbers (net_groups net) net.frames c) else 12 ∷ size_test net c) ≡ first_failed (net_tests net c)
      by-new h = sym (by_last ∙ ap (λ t. first_failed (t else 12 ∷ size_test net c)) (near_by true h))
