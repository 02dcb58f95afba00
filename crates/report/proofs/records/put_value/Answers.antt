-- `put_value` meets its contract: its pieces lie one behind the other.
-- Assumes nothing.
use mathlib.Core.Path.{refl}
use Rattle.marks.specs.Owners.{hidden_from}
use Rattle.secret.proofs.Shows.{value_put}
use Rattle.report.proofs.records.put_value.Goals as goal

pub returns : goal.returns
returns c =
    let a = c.args in
    rw (c.put_bytes.ensures, c.put_number.ensures)
    (value_put (hidden_from a.clearance) a.out.now a.at a.kind a.width a.index a.mark a.value c.requires c.shown_value-v.ensures refl)
