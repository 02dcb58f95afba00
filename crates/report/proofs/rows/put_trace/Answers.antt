-- Assumes nothing.
use Prim.Native.Nat.{◌+◌, ◌*◌, ◌-◌, ◌%◌}
use native.Mathlib.Omega.{arith}
use mathlib.Core.Path.{◌≡◌, ◌∙◌}
use Rattle.secret.specs.Widths.{trace_length}
use Rattle.secret.specs.Forms.{slot_records}
use Rattle.secret.proofs.Lengths.{length_slot}
use Rattle.report.proofs.Turns.{rows_turn, rows_last}
use Rattle.report.proofs.rows.put_trace.Invariants.{piece}
use Rattle.report.proofs.rows.put_trace.Goals as goal

pub loop-i-preserved : goal.loop-i-preserved
loop-i-preserved c =
    let a = c.args in
    let l = c.loop-i in
    let k = (a.start % 512 + l.i) % 512 in
    let e : k * 32 + 32 - k * 32 ≡ 32 = omega arith in
    rows_turn trace_length (piece a.start a.columns.now a.numbers.now) a.n a.out.now a.at l.i l.out (length_slot a.columns.now a.numbers.now k c.requires.1 (omega arith)) (omega arith) (omega arith) l.invariant
    (c.put_traced.ensures ∙ rw e)

pub returns : goal.returns
unfolding slot_records
returns c =
    let a = c.args in
    let l = c.loop-i in
    rows_last trace_length (piece a.start a.columns.now a.numbers.now) a.n a.out.now a.at l.i l.out (omega arith) l.invariant
