-- A whole report is the records of its input, with those of the run's end behind them.
-- Assumes nothing.
use Prim.Native.Nat.{ℕ, ◌+◌, ◌*◌, ◌≤◌}
use native.Mathlib.Omega.{arith}
use mathlib.Core.Path.{◌≡◌, sym, ap, ◌∙◌}
use mathlib.Core.List.{List, [], ◌∷◌, ◌++◌, append_assoc}
use lib.ListN.{length, length-append}
use Rattle.encoding.specs.Bytes.{over}
use Rattle.encoding.proofs.Written.{over-over, length-joined}
use Rattle.vm.specs.declared.machine.Machine.{Machine as Code}
use Rattle.guard.specs.declared.stops.GuardedStop.{GuardedStop}
use Rattle.vm.specs.Calls.{view_of, image_words}
use Rattle.marks.specs.Owners.{hidden_from}
use Rattle.vm.specs.Guard.{GuardedEnd}
use Rattle.guard.specs.Input.{Input}
use Rattle.guard.specs.Stops.{stop_number}
use Rattle.secret.specs.Widths.{head_length, break_length, starts_length, run_records_at, run_length}
use Rattle.secret.specs.Report.{head_of, start_records, break_record, each_record, end_records, end_bytes, report_on}
use Rattle.secret.specs.Forms.{Reportable, input_records, end_from}
use Rattle.secret.specs.Outcome.{answered_length, delivered}
use Rattle.secret.proofs.Lengths.{length_head_of, length-starts, length-breaks}
use Rattle.secret.proofs.Traces.{length_run}

in_two : (i : Input) (e : GuardedEnd) → input_records i ++ end_bytes (hidden_from i.clearance) e ≡ report_on i e
unfolding report_on
in_two i e = simp append_assoc

length_input : (i : Input) → length (input_records i) ≡ run_records_at (length i.breaks)
length_input i =
    length-joined
    ((head_length, head_of i) ∷ (starts_length, start_records (hidden_from i.clearance) (image_words i.image) i.marks) ∷ (break_length * length i.breaks, each_record break_record i.breaks) ∷ [])
    (length_head_of i, (length-starts (hidden_from i.clearance) (image_words i.image) i.marks, (length-breaks i.breaks, tt)))
    ∙ omega arith

pub whole_over : (d : List ℕ) (i : Input) (e : GuardedEnd) → run_records_at (length i.breaks) ≤ length d
    → over (over d 0 (input_records i)) (run_records_at (length i.breaks)) (end_bytes (hidden_from i.clearance) e) ≡ over d 0 (report_on i e)
whole_over d i e h =
    let l = length_input i in
    over-over d 0 (input_records i) (end_bytes (hidden_from i.clearance) e) (run_records_at (length i.breaks)) (omega arith) (omega arith) ∙ ap (over d 0) (in_two i e)

pub length_whole : (i : Input) (e : GuardedEnd) → length (report_on i e) ≡ run_records_at (length i.breaks) + length (end_bytes (hidden_from i.clearance) e)
length_whole i e = ap length (sym (in_two i e)) ∙ length-append (input_records i) (end_bytes (hidden_from i.clearance) e) ∙ rw (length_input i)

-- as the two calls leave it: the machine m, the buffer d
module _ (i : Input) (stop : GuardedStop) (m : Code) (r : Reportable m) (rm mm : List ℕ) (mark : ℕ) (d : List ℕ) where
  abbrev ended : GuardedEnd
  ended = end_from stop m rm mm mark

  pub whole_served : run_records_at (length i.breaks) ≤ length d → {n : ℕ} {o : List ℕ}
      → n ≡ run_records_at (length i.breaks) + run_length m.trace_len m.touched_len
      → o ≡ over (over d 0 (input_records i)) (run_records_at (length i.breaks)) (end_records (hidden_from i.clearance) (stop_number stop) (view_of m) (record { memory = mm; registers = rm; mdr = mark }))
      → answered_length n o ≡ delivered (report_on i ended) d
  unfolding end_bytes
  whole_served h p q =
      let l = length_run (hidden_from i.clearance) m r (stop_number stop) mark rm mm in
      let k : _ ≡ length (report_on i ended) = p ∙ ap (λ (x : ℕ). run_records_at (length i.breaks) + x) (sym l) ∙ sym (length_whole i ended) in
      let b = q ∙ whole_over d i ended h in
      λ x. answered_length (k x) (b x)
