-- `put_labelled` meets its contract: the label, then the number.
use Rattle.text.proofs.Over.{in_a_row}
use Rattle.text.proofs.words.Page.put_labelled.Goals as goal

pub returns : goal.returns
returns c =
    in_a_row c.put.ensures c.put_decimal.ensures c.requires
