-- The end lies behind the addresses, and the total behind the end.
-- Assumes nothing.
use Prim.Native.Nat.{◌*◌}
use mathlib.Core.Path.{◌≡◌, ◌∙◌}
use mathlib.Core.List.{[], ◌∷◌}
use native.Mathlib.Omega.{arith}
use lib.ListN.{length, take}
use lib.Seq.{length-take-le}
use Rattle.guard.specs.Stops.{stop_number}
use Rattle.marks.specs.Owners.{hidden_from}
use Rattle.encoding.proofs.Written.{overs_eq}
use Rattle.secret.specs.Widths.{touched_length, end_length, hidden_length}
use Rattle.secret.specs.Report.{touched_record, each_record, end_record, hidden_record}
use Rattle.secret.proofs.Lengths.{length_touches, length_end, length-hidden}
use Rattle.report.proofs.whole.put_last.Goals as goal

pub returns : goal.returns
unfolding hidden_record
returns c =
    let a = c.args in
    let hid = hidden_from a.clearance in
    let r = a.run.now in
    let m = r.machine in
    let t = take m.touched_len m.touched in
    let count : length t ≡ m.touched_len = length-take-le m.touched_len m.touched (omega (arith, c.requires.1.touched, c.requires.1.places)) in
    rw (c.put_numbered.ensures, c.put_end.ensures, c.put_touches.ensures, c.number.ensures)
    (overs_eq a.out.now a.at
    ((touched_length * m.touched_len, each_record touched_record t) ∷ (end_length, end_record hid (stop_number r.stop) m.state m.counters r.marks.mdr) ∷ (hidden_length, hidden_record r.hidden_total) ∷ [])
    (length_touches t ∙ rw count, (length_end hid (stop_number r.stop) m.state m.counters r.marks.mdr, (length-hidden r.hidden_total, tt)))
    (omega (arith, c.requires)))
