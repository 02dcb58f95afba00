-- `put_fault` meets its contract.
-- Assumes nothing.
use mathlib.Core.Path.{◌∙◌, ap}
use mathlib.Core.List.{List}
use Prim.Native.Nat.{ℕ}
use Rattle.encoding.specs.Bytes.{big_endian, written}
use Rattle.encoding.proofs.Written.{written-fits}
use Rattle.control.specs.Codes.{fault_bytes}
use Rattle.report.proofs.records.put_fault.Goals as goal

pub returns : goal.returns
unfolding fault_bytes big_endian
returns c =
    let a = c.args in
    c.put_bytes.ensures ∙ ap (λ (l : List ℕ). written a.out.now a.at l) c.fault_bytes-bytes.ensures ∙ written-fits a.out.now a.at (fault_bytes a.fault) c.requires
