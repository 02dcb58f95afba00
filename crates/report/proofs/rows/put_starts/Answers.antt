-- Assumes nothing.
use native.Mathlib.Omega.{arith}
use mathlib.Core.Path.{◌∙◌}
use lib.ListN.{get_or}
use Rattle.isa.specs.Sizes.{memory_words}
use Rattle.vm.specs.Calls.{image_words}
use Rattle.marks.specs.Owners.{hidden_from}
use Rattle.secret.specs.Widths.{head_length, start_length}
use Rattle.secret.specs.Report.{start_records}
use Rattle.secret.proofs.Accepts.{words_at}
use Rattle.secret.proofs.Shows.{length-start}
use Rattle.report.proofs.Turns.{rows_turn, rows_last}
use Rattle.report.proofs.rows.put_starts.Invariants.{piece}
use Rattle.report.proofs.rows.put_starts.Goals as goal

pub loop-i-preserved : goal.loop-i-preserved
loop-i-preserved c =
    let a = c.args in
    let v = a.image.now in
    let m = a.marks.now in
    let l = c.loop-i in
    rows_turn start_length (piece a.clearance v m) memory_words a.out.now head_length l.i l.out (length-start (hidden_from a.clearance) l.i (get_or m l.i 0) (get_or (image_words v) l.i 0)) (omega arith) (omega arith) l.invariant
    (c.put_start.ensures ∙ rw (c.word_at-word.ensures, ← words_at v l.i (omega arith)))

pub returns : goal.returns
unfolding start_records
returns c =
    let a = c.args in
    let l = c.loop-i in
    rows_last start_length (piece a.clearance a.image.now a.marks.now) memory_words a.out.now head_length l.i l.out (omega arith) l.invariant
