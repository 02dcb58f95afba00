-- The pieces lie one behind the other.
-- Assumes nothing.
use Prim.Native.Nat.{◌*◌}
use mathlib.Core.List.{[], ◌∷◌}
use native.Mathlib.Omega.{arith}
use lib.ListN.{length}
use Rattle.vm.specs.Calls.{image_words}
use Rattle.marks.specs.Owners.{hidden_from}
use Rattle.encoding.proofs.Written.{overs_eq}
use Rattle.secret.specs.Widths.{head_length, break_length, starts_length}
use Rattle.secret.specs.Report.{head_record, start_records, break_record, each_record}
use Rattle.secret.proofs.Shows.{length_head}
use Rattle.secret.proofs.Lengths.{length-starts, length-breaks}
use Rattle.report.proofs.whole.put_input.Goals as goal

pub returns : goal.returns
returns c =
    let a = c.args in
    let hid = hidden_from a.clearance in
    let image = a.image.now in
    let breaks = a.breakpoints.now in
    rw (c.put_breaks.ensures, c.put_starts.ensures, c.put_head.ensures)
    (overs_eq a.out.now 0
    ((head_length, head_record (length image) a.budget.0 (length breaks) a.clearance) ∷ (starts_length, start_records hid (image_words image) a.marks.now) ∷ (break_length * length breaks, each_record break_record breaks) ∷ [])
    (length_head (length image) a.budget.0 (length breaks) a.clearance, (length-starts hid (image_words image) a.marks.now, (length-breaks breaks, tt)))
    (omega (arith, c.requires)))
