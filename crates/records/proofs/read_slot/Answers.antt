-- `read_slot` meets its contract, by what stands in the slot.
use Rattle.std.proofs.Common.{sym, ◌∙◌}
use Rattle.records.proofs.read_slot.Goals as goal

pub returns-in-Some : goal.returns-in-Some
returns-in-Some c = rw (sym c.stands.ensures ∙ c.in-Some.is) (c.read_field.ensures c.args.slot)
