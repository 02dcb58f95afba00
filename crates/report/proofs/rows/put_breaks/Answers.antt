-- Assumes nothing.
use native.Mathlib.Omega.{arith}
use mathlib.Core.Path.{refl}
use lib.ListN.{length}
use Rattle.secret.specs.Widths.{break_length}
use Rattle.secret.specs.Report.{each_record}
use Rattle.report.proofs.Turns.{rows_turn, rows_last}
use Rattle.report.proofs.rows.put_breaks.Invariants.{piece}
use Rattle.report.proofs.rows.put_breaks.Goals as goal

pub loop-i-preserved : goal.loop-i-preserved
loop-i-preserved c =
    let a = c.args in
    let l = c.loop-i in
    rows_turn break_length (piece a.list.now) (length a.list.now) a.out.now a.at l.i l.out refl (omega arith) c.requires l.invariant c.put_byte.ensures

pub returns : goal.returns
unfolding each_record
returns c =
    let a = c.args in
    let l = c.loop-i in
    rows_last break_length (piece a.list.now) (length a.list.now) a.out.now a.at l.i l.out (omega arith) l.invariant
