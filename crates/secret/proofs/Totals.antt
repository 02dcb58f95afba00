-- The number of hidden words that ends a report is the total that its run carried (02, Change 6).
-- Assumes nothing.
use Prim.Native.Nat.{ℕ, ◌+◌, ◌-◌}
use native.Mathlib.Omega.{arith}
use mathlib.Core.Path.{◌≡◌, ap, sym, ◌∙◌}
use mathlib.Core.Bool.{Bool}
use lib.ListN.{length, drop}
use lib.Seq.{drop-drop, drop_at}
use Rattle.marks.specs.Owners.{hidden_from}
use Rattle.marks.specs.Total.{hidden_count}
use Rattle.guard.specs.Input.{Input, input_refusal}
use Rattle.guard.specs.Stops.{stop_number}
use Rattle.vm.specs.Guard.{guarded_start, guarded_of}
use Rattle.vm.specs.Total.{counted, counted_steps}
use Rattle.vm.proofs.Totals.{stop_carried}
use Rattle.secret.specs.Report.{end_record, hidden_record, report_bytes}
use Rattle.secret.specs.Widths.{end_length, hidden_length, last_length}
use Rattle.secret.proofs.Lengths.{length_end, length_report, last_records_lem}

module _ (i : Input) where
  abbrev hid : ℕ → Bool
  hid = hidden_from i.clearance

  -- the last record: n bytes stand before it
  pub hidden_last : (n : ℕ) → n + hidden_length ≡ length (report_bytes i) → drop n (report_bytes i) ≡ hidden_record (hidden_count hid (guarded_of i).guarded.marks.memory)
  hidden_last n h =
      let e = guarded_of i in
      let k = e.guarded.marks in
      let l = length_report i in
      let m = n - end_length in
      let z : n ≡ m + end_length = omega (arith, h, l) in
      let f : m + last_length ≡ length (report_bytes i) = omega (arith, h, l) in
      ap (λ (x : ℕ). drop x (report_bytes i)) z
      ∙ sym (drop-drop end_length m (report_bytes i))
      ∙ ap (drop end_length) (last_records_lem i m f)
      ∙ drop_at (end_record hid (stop_number e.stop) e.guarded.machine.state e.guarded.machine.counters k.mdr) (hidden_record (hidden_count hid k.memory)) end_length (length_end hid (stop_number e.stop) e.guarded.machine.state e.guarded.machine.counters k.mdr)

  pub report_carried : input_refusal i ≡ 0 → (n : ℕ) → n + hidden_length ≡ length (report_bytes i)
      → drop n (report_bytes i) ≡ hidden_record (counted_steps hid (guarded_of i).executed (counted hid (guarded_start i.image i.marks))).total
  report_carried served n h = hidden_last n h ∙ ap hidden_record (sym (stop_carried i served))
