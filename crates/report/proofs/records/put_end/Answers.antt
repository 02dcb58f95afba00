-- `put_end` meets its contract: its pieces lie one behind the other.
-- Assumes nothing.
use mathlib.Core.Path.{refl}
use mathlib.Core.List.{[], ◌∷◌}
use native.Mathlib.Omega.{arith}
use Prim.Native.Nat.{◌+◌}
use Rattle.secret.specs.Widths.{kind_width, stop_width, control_length, counts_length}
use Rattle.marks.specs.Owners.{hidden_from}
use Rattle.marks.specs.Marks.{shown}
use Rattle.encoding.proofs.Written.{overs_eq}
use Rattle.control.specs.Codes.{fault_bytes, fault_width}
use Rattle.secret.specs.Report.{control_bytes, count_bytes, end_record}
use Rattle.control.proofs.Faults.{length-fault}
use Rattle.secret.proofs.Shows.{length-control, length-counts}
use Rattle.report.proofs.records.put_end.Goals as goal

pub returns : goal.returns
unfolding end_record
returns c =
    let a = c.args in
    let k = a.state.control in
    let d = shown (hidden_from a.clearance) a.mark k.mdr in
    rw (c.put_fault.ensures, c.put_counts.ensures, c.put_control.ensures, c.shown_value-mdr.ensures, c.put_byte.ensures)
    (overs_eq a.out.now a.at
    ((kind_width + stop_width, 8 ∷ a.stop ∷ []) ∷ (control_length, control_bytes k.pc k.ir k.mar a.mark d) ∷ (counts_length, count_bytes a.counters) ∷ (fault_width, fault_bytes a.state.fault) ∷ [])
    (refl, (length-control k.pc k.ir k.mar a.mark d, (length-counts a.counters, (length-fault a.state.fault, tt))))
    (omega (arith, c.requires)))
