-- `put_byte` meets its contract.
-- Assumes nothing.
use mathlib.Core.Path.{◌∙◌}
use mathlib.Core.List.{[], ◌∷◌}
use Rattle.encoding.proofs.Written.{written-fits}
use Rattle.report.proofs.records.put_byte.Goals as goal

pub returns : goal.returns
returns c =
    let a = c.args in
    c.put_bytes.ensures ∙ written-fits a.out.now a.at (a.kind ∷ a.byte ∷ []) c.requires
