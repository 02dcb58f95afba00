-- The call for a report, by its tests: what it answers where it is refused, and where the run that it made is served; and the report that it leaves.
-- Assumes nothing.
use Prim.Native.Nat.{ℕ, zero, suc, ◌≤◌, ◌<◌}
use native.Mathlib.Omega.{arith}
use mathlib.Core.Path.{◌≡◌, refl, sym, ap, subst, ◌∙◌}
use mathlib.Core.Bool.{true}
use mathlib.Core.List.{List, ◌++◌}
use Rattle.std.specs.Prelude.{Err}
use borrow.Author.Tests.{leb-true, eq-eqb, ne_eqb, lt-ltb, le-ltb}
use lib.Dec.{leb}
use lib.ListN.{length, get_or}
use Rattle.isa.specs.Sizes.{memory_words, text_width}
use Rattle.encoding.proofs.Written.{take-over}
use Rattle.isa.specs.Text.{padded, text_of}
use Rattle.control.specs.Lawful.{lawful}
use Rattle.isa.proofs.Truths.{both}
use Rattle.vm.specs.declared.machine.Machine.{Machine as Code}
use Rattle.trace.specs.Trace.{columns_length, live_lengths, short_texts, trace_limit}
use Rattle.vm.specs.Refusal.{parts_ok}
use Rattle.vm.specs.Calls.{view_of, is_machine, image_words}
use Rattle.vm.specs.Machine.{Machine}
use Rattle.marks.specs.Owners.{hidden_from}
use Rattle.vm.specs.Guard.{Guarded, GuardedEnd, guarded_of}
use Rattle.guard.specs.Stops.{stop_number}
use Rattle.guard.specs.Input.{Input, input_refusal}
use Rattle.secret.specs.Report.{no_record, head_of, start_records, break_record, each_record, end_records, end_bytes, report_on, report_bytes}
use Rattle.secret.specs.Forms.{Reportable}
use Rattle.secret.specs.Widths.{report_limit}
use Rattle.secret.specs.Public.{report_refusal}
use Rattle.encoding.specs.Answer.{Outcome, Told, outcome, unless_refused}
use Rattle.encoding.specs.declared.refusal.Refusal.{Refusal}
use Rattle.encoding.specs.declared.refusal.Refusal.TheVariants.{ShortBuffer}
use Rattle.encoding.specs.Refusal.{refusal_number, told}
use Rattle.secret.specs.Outcome.{delivered, report_outcome, report_in}
use Rattle.secret.proofs.Bounds.{guarded_bounded, whole_array}

-- ---- the machine that a guarded run leaves is one of which a report can be written

module _ (m : Code) (ok : is_machine m ≡ true) where
  counts-fit : (m.trace_len ≤ trace_limit) × (m.touched_len ≤ memory_words)
  unfolding parts_ok
  counts-fit =
      let a = (both (lawful m.state.control) _ ok).1 in
      let b = (both (leb m.image_len memory_words) _ a).1 in
      let c = both (leb m.trace_len trace_limit) _ b in
      let d = (both (short_texts (live_lengths m.trace_start m.trace_len m.lengths)) _ c.1).1 in
      (leb-true m.trace_len trace_limit c.0, leb-true m.touched_len memory_words (both (leb m.touched_len memory_words) _ d).0)

  pub reportable : (i : Input) → length m.columns ≡ columns_length → length m.touched ≡ memory_words → view_of m ≡ (guarded_of i).guarded.machine → Reportable m
  reportable i columns places e = record {
    columns = columns;
    places = places;
    trace = counts-fit.0;
    touched = counts-fit.1;
    texts = λ j. subst (λ (x : Machine). padded text_width (text_of (get_or x.trace j no_record).text) ≡ (get_or x.trace j no_record).text.bytes) (sym e) (whole_array _ ((guarded_bounded i).texts j));
  }

-- ---- the answer

-- no refusal has number 0
pub refusal-some : (r : Refusal) → refusal_number r ≡ 0 → ⊥
refusal-some r z = grind arith

pub refused-number : (n : ℕ) (out : List ℕ) (o : Outcome Told) → (n ≡ 0 → ⊥) → outcome (record { refused = n; length = 0 }) out ≡ unless_refused n out o
refused-number zero out o h = absurd (h refl)
refused-number (suc n) out o h = refl

module _ (i : Input) (out : List ℕ) where
  pub call-refused : (r : Refusal) → refusal_number r ≡ input_refusal i → outcome (told (Err r)) out ≡ report_outcome i out
  unfolding report_outcome report_refusal
  call-refused r e =
      let k : input_refusal i ≡ 0 → ⊥ = λ z. refusal-some r (e ∙ z) in
      rw (ne_eqb (input_refusal i) 0 k, ← e) (refused-number (refusal_number r) out _ (refusal-some r))

  pub call-short : input_refusal i ≡ 0 → length out < report_limit → outcome (told (Err ShortBuffer)) out ≡ report_outcome i out
  unfolding report_outcome report_refusal
  call-short e h = rw (eq-eqb (input_refusal i) 0 e, lt-ltb (length out) report_limit h)

  -- where nothing is refused
  room : input_refusal i ≡ 0 → report_limit ≤ length out → report_refusal i (length out) ≡ 0
  unfolding report_refusal
  room e h = rw (eq-eqb (input_refusal i) 0 e, le-ltb (length out) report_limit h)

  pub answered : report_refusal i (length out) ≡ 0 → delivered (report_bytes i) out ≡ report_outcome i out
  unfolding report_outcome
  answered e = rw e

  -- e is how the run ended, of which the report was written: its stop by number, and the machine with its marks
  pub call_served : (e : GuardedEnd) → stop_number e.stop ≡ stop_number (guarded_of i).stop → e.guarded ≡ (guarded_of i).guarded → input_refusal i ≡ 0 → report_limit ≤ length out → {o : Outcome Told}
      → o ≡ delivered (report_on i (record { stop = e.stop; executed = 0; guarded = e.guarded })) out → o ≡ report_outcome i out
  unfolding report_bytes report_on end_bytes
  call_served e p g q h r = r ∙ (λ k. delivered (whole (p k) (g k)) out) ∙ answered (room q h)
    where
      whole : ℕ → Guarded → List ℕ
      whole n x =
          let hid = hidden_from i.clearance in
          head_of i ++ (start_records hid (image_words i.image) i.marks ++ (each_record break_record i.breaks ++ end_records hid n x.machine x.marks))

  -- ---- the report that a call leaves
  pub report_left : report_refusal i (length out) ≡ 0 → report_in (report_outcome i out) ≡ report_bytes i
  report_left e = ap report_in (sym (answered e)) ∙ take-over out (report_bytes i)
