-- What a lookup finds: in an accepted record the layout is the reader's, which has the fields by their bytes;
-- in a refused one it is that of no fields.
use Prim.Native.Nat.{ℕ, zero, suc, ◌+◌, ◌≤◌}
use native.Mathlib.Omega.{arith}
use mathlib.Core.Path.{◌≡◌, refl, sym, ap, ◌∙◌, subst}
use mathlib.Core.List.{List}
use lib.ListN.{length}
use Rattle.machine.specs.Lent.{unless_refused}
use Rattle.records.specs.Table.{slots}
use Rattle.records.specs.Reading.{Fields, end_extent, extent_among, no_fields, bytes_of, reading_of}
use Rattle.records.specs.Fields.{tag_byte, length_bytes, FieldAt}
use Rattle.records.specs.declared.Extent.{Extent}
use Rattle.records.specs.declared.Layout.{Layout}
use Rattle.records.proofs.Fields.{field_found, field-absent, no_field, field-inside}
use Rattle.opening.specs.Opening.{reading_layout, layout_read, opened_layout, refusal_in, field_extent}
use Rattle.opening.specs.Fields.{Found, AtEnd, FieldLookup}
use Rattle.opening.proofs.Records.{accepted-read, extent-inside}

-- the empty part at the end
at-end : {s : List ℕ} {e : Extent} → e ≡ end_extent s → AtEnd s e
at-end is =
    record {
      field = ap (λ (e : Extent). e.field) is;
      start = ap (λ (e : Extent). e.start) is;
      long = ap (λ (e : Extent). e.length) is;
    }

module _ (s : List ℕ) (tag : ℕ) where
  -- the layout of an accepted record, and of another one
  lookup-taken : (l : Layout) → reading_of s ≡ Fields l → (refusal_in s).number ≡ 0
      → field_extent s tag ≡ extent_among slots s l tag
  unfolding field_extent opened_layout layout_read
  lookup-taken l e none =
      ap (λ k. extent_among slots s (unless_refused k (layout_read s) (no_fields s)) tag) none
      ∙ ap (λ r. extent_among slots s (reading_layout r s) tag) e

  lookup-refused : ((refusal_in s).number ≡ 0 → ⊥) → field_extent s tag ≡ end_extent s
  unfolding field_extent opened_layout
  lookup-refused some = by (refusal_in s).number some
    where
      by : (k : ℕ) → (k ≡ 0 → ⊥)
          → extent_among slots s (unless_refused k (layout_read s) (no_fields s)) tag ≡ end_extent s
      by zero h = absurd (h refl)
      by (suc k) h = no_field s tag slots

  module _ (accepted : (refusal_in s).number ≡ 0) where
    found : {at : ℕ} → FieldAt s at → tag_byte s at ≡ tag → Found s at (field_extent s tag)
    found {at} f same =
        let read = accepted-read s accepted in
        let is : field_extent s tag ≡ record { field = at; start = at + 3; length = length_bytes s at } =
        lookup-taken read.0 read.1 accepted ∙ ap (extent_among slots s read.0) (sym same)
        ∙ field_found s read.0 read.1 f in
        record {
          field = ap (λ (e : Extent). e.field) is;
          start = ap (λ (e : Extent). e.start) is;
          long = ap (λ (e : Extent). e.length) is;
          inside = subst (λ (e : Extent). e.start + e.length ≤ length s) is (extent-inside s tag);
          value = ap (λ (e : Extent). bytes_of e s) is;
        }

    absent : ((at : ℕ) → FieldAt s at → tag_byte s at ≡ tag → ⊥) → field_extent s tag ≡ end_extent s
    absent none =
        let read = accepted-read s accepted in lookup-taken read.0 read.1 accepted
        ∙ field-absent s read.0 read.1 tag none

    not-both : AtEnd s (field_extent s tag) → (at : ℕ) → FieldAt s at → tag_byte s at ≡ tag → ⊥
    not-both end at f same =
        let h = found f same in let inside = field-inside f in omega (arith, end.field, h.field)

  pub field-lookup : FieldLookup s tag
  field-lookup =
      record {
        found = λ accepted f same. found accepted f same;
        absent = λ accepted. (not-both accepted, λ none. at-end (absent accepted none));
        refused = λ some. at-end (lookup-refused some);
      }
