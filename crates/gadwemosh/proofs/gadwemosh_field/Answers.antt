-- `gadwemosh_field` meets its contract: the record is opened in 193 places, which are enough, so that its layout is that
-- of the bytes.
use mathlib.Core.Path.{◌≡◌, refl, sym, ap, ◌∙◌}
use mathlib.Core.List.{List}
use Prim.Native.Nat.{ℕ}
use lib.IntN.{pos}
use lib.ListN.{replicate}
use Rattle.std.specs.Prelude.{Result, Ok, Err}
use Rattle.std.specs.Result.{result_unwrap_or}
use Rattle.records.specs.Table.{slots}
use Rattle.records.specs.Reading.{no_fields, extent_among}
use Rattle.records.specs.declared.Layout.{Layout}
use Rattle.records.specs.declared.RefusedAt.{RefusedAt}
use Rattle.records.specs.declared.Extent.{Extent}
use Rattle.opening.specs.Opening.{opened_told, opened_in, refusal_in, field_extent}
use Rattle.opening.proofs.Records.{opened-wide, extent-found}
use Rattle.gadwemosh.proofs.gadwemosh_field.Goals as goal

layout-told : (s : List ℕ) (x : Result Layout RefusedAt) → result_unwrap_or x (no_fields s) ≡ (opened_told s x).layout
layout-told s (Ok l) = refl
layout-told s (Err r) = refl

-- the number of the record's refusal, by what opening it in 193 places answers
number-told : (s : List ℕ) {x y : Result Layout RefusedAt} → x ≡ y → opened_told s x ≡ opened_in s (replicate 193 (pos 0)) → (opened_told s y).refusal.number ≡ (refusal_in s).number
number-told s is opened = ap (λ r. (opened_told s r).refusal.number) (sym is) ∙ ap (λ o. o.refusal.number) (opened ∙ opened-wide s (replicate 193 (pos 0)) refl)

-- the extent is that of the bytes
extent-told : (s : List ℕ) (tag : ℕ) (x : Result Layout RefusedAt) {l none : Layout} {e : Extent} → opened_told s x ≡ opened_in s (replicate 193 (pos 0))
    → l ≡ result_unwrap_or x none → none ≡ no_fields s → e ≡ extent_among slots s l tag → e ≡ field_extent s tag
extent-told s tag x opened layout none found =
    let told = layout ∙ ap (result_unwrap_or x) none ∙ layout-told s x in
    (extent-found s (replicate 193 (pos 0)) tag refl opened (found ∙ ap (λ l. extent_among slots s l tag) told)).0

pub returns-in-Ok : goal.returns-in-Ok
returns-in-Ok c =
    let opened = c.open-opened.ensures.opened in
    let is = extent-told c.args.input.now c.args.tag c.open-opened.result opened c.unwrap_or-layout.ensures c.no_fields.ensures c.extent_of-extent.ensures in
    record { number = number-told c.args.input.now c.in-Ok.is opened; start = ap (λ e. e.start) is; length = ap (λ e. e.length) is }

pub returns-in-Err : goal.returns-in-Err
returns-in-Err c =
    let opened = c.open-opened.ensures.opened in
    let is = extent-told c.args.input.now c.args.tag c.open-opened.result opened c.unwrap_or-layout.ensures c.no_fields.ensures c.extent_of-extent.ensures in
    record { number = c.from.ensures ∙ number-told c.args.input.now c.in-Err.is opened; start = ap (λ e. e.start) is; length = ap (λ e. e.length) is }
