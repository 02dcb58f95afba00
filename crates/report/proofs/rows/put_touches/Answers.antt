-- Assumes nothing.
use native.Mathlib.Omega.{arith}
use lib.ListN.{length, get_or}
use Rattle.secret.specs.Widths.{touched_length}
use Rattle.secret.specs.Report.{each_record}
use Rattle.secret.proofs.Shows.{length-touched}
use Rattle.report.proofs.Turns.{rows_turn, rows_last}
use Rattle.report.proofs.rows.put_touches.Invariants.{piece}
use Rattle.report.proofs.rows.put_touches.Goals as goal

pub loop-i-preserved : goal.loop-i-preserved
loop-i-preserved c =
    let a = c.args in
    let x = a.list.now in
    let l = c.loop-i in
    rows_turn touched_length (piece x) (length x) a.out.now a.at l.i l.out (length-touched (get_or x l.i 0)) (omega arith) c.requires l.invariant c.put_numbered.ensures

pub returns : goal.returns
unfolding each_record
returns c =
    let a = c.args in
    let l = c.loop-i in
    rows_last touched_length (piece a.list.now) (length a.list.now) a.out.now a.at l.i l.out (omega arith) l.invariant
