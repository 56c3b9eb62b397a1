-- `field_extent` meets its contract: the record is opened in 193 places, which are enough, so that its layout
-- is that of the bytes.
use Rattle.std.proofs.Common.{◌≡◌, ℕ, List, refl, ap, ◌∙◌}
use Rattle.std.specs.Prelude.{Result, Ok, Err}
use Rattle.std.specs.Result.{result_unwrap_or}
use lib.IntN.{pos}
use lib.ListN.{replicate}
use Rattle.records.specs.Table.{slots}
use Rattle.records.specs.Reading.{no_fields, extent_among}
use Rattle.records.specs.declared.Layout.{Layout}
use Rattle.records.specs.declared.RefusedAt.{RefusedAt}
use Rattle.opening.specs.Opening.{opened_told}
use Rattle.opening.proofs.Records.{extent-found}
use Rattle.opening.proofs.field_extent.Goals as goal

layout-told : (s : List ℕ) (x : Result Layout RefusedAt) → result_unwrap_or x (no_fields s) ≡ (opened_told s x).layout
layout-told s (Ok l) = refl
layout-told s (Err r) = refl

pub returns : goal.returns
returns c =
    let s = c.args.input.now in
    let tag = c.args.tag in
    let layout = c.unwrap_or-layout.ensures ∙ ap (result_unwrap_or c.open.result) c.no_fields.ensures ∙ layout-told s c.open.result in
    let whole = extent-found s (replicate 193 (pos 0)) tag refl c.open.ensures.opened (c.extent_of.ensures ∙ ap (λ l. extent_among slots s l tag) layout) in
    record { extent = whole.0; inside = whole.1 }
