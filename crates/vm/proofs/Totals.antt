-- The total of hidden words that a guarded run carries is the full count of its marks, at the start, after every instruction and at the stop (02, Change 6).
-- Assumes nothing.
use Prim.Native.Nat.{ℕ, zero, suc}
use native.Mathlib.Omega.{arith}
use mathlib.Core.Path.{◌≡◌, refl, ap, sym, ◌∙◌}
use mathlib.Core.Bool.{Bool}
use mathlib.Core.List.{List}
use lib.ListN.{length}
use Rattle.isa.specs.Sizes.{memory_words}
use Rattle.isa.specs.Word.{decode_word}
use Rattle.marks.specs.Owners.{hidden_from}
use Rattle.marks.specs.Marks.{Marks, marks_of, instruction_marks}
use Rattle.marks.specs.Total.{hidden_count, IsCount}
use Rattle.marks.specs.Forms.{total_by}
use Rattle.marks.proofs.Totals.{instruction-long, instruction-total, total-counts}
use Rattle.guard.specs.Input.{Input, input_refusal}
use Rattle.vm.specs.Guard.{Guarded, GuardedEnd, next_word, guarded_step, guarded_steps, guarded_run, guarded_start, guarded_of, guarded_answer}
use Rattle.vm.specs.Total.{Counted, counted, counted_steps}
use Rattle.vm.proofs.GuardedStarts.{served_input, answer_served}
use Rattle.vm.proofs.Plain.{ends}

module _ (hid : ℕ → Bool) where
  -- after every number of instructions, none among them
  pub carried : (n : ℕ) (g : Guarded) → length g.marks.memory ≡ memory_words → counted_steps hid n (counted hid g) ≡ counted hid (guarded_steps n g)
  unfolding counted_steps guarded_steps
  carried zero g full = refl
  carried (suc n) g full =
      let w = next_word g.machine in
      ap (λ (t : ℕ). counted_steps hid n (record { guarded = guarded_step g; total = t })) (instruction-total hid w g.marks full)
      ∙ carried n (guarded_step g) (instruction-long hid w g.marks full)

  -- the marks at a run's end are those after as many instructions
  end_marks : (b : List ℕ) (n : ℕ) (g : Guarded) → let e = guarded_run hid b 0 n g in e.guarded.marks ≡ (guarded_steps e.executed g).marks
  end_marks b n g =
      let e = guarded_run hid b 0 n g in
      let r = ends hid b 0 n g in
      let z : r.count ≡ e.executed = omega (arith, ap (λ (x : GuardedEnd). x.executed) r.end) in
      ap (λ (x : GuardedEnd). x.guarded.marks) r.end ∙ ap (λ (j : ℕ). (guarded_steps j g).marks) z

  module _ (i : Input) (served : input_refusal i ≡ 0) where
    abbrev first : Guarded
    first = guarded_start i.image i.marks

    start-full : length first.marks.memory ≡ memory_words
    unfolding guarded_start
    start-full = (served_input i served).1

    -- of every run that is not refused
    pub run_carried : (n : ℕ) → counted_steps hid n (counted hid first) ≡ counted hid (guarded_steps n first)
    run_carried n = carried n first start-full

module _ (i : Input) (served : input_refusal i ≡ 0) where
  abbrev hides : ℕ → Bool
  hides = hidden_from i.clearance

  -- at its stop, for its reader
  pub stop_carried : let e = guarded_of i in (counted_steps hides e.executed (counted hides (first hides i served))).total ≡ hidden_count hides e.guarded.marks.memory
  unfolding guarded_of
  stop_carried =
      let f = first hides i served in
      let e = guarded_run hides i.breaks 0 i.budget f in
      ap (λ (c : Counted). c.total) (run_carried hides i served e.executed) ∙ ap (λ (k : Marks). hidden_count hides k.memory) (sym (end_marks hides i.breaks i.budget f))

  -- what `guarded_run` answers is the total that was carried
  pub answer_carried : (guarded_answer i).hidden_total ≡ (counted_steps hides (guarded_answer i).executed (counted hides (guarded_start i.image i.marks))).total
  answer_carried = rw (answer_served i served) (sym stop_carried)

-- a turn of the code's loop: the total and the marks that its two calls give
pub turn-counts : (hid : ℕ → Bool) (w : ℕ) (m r : List ℕ) (t : ℕ) {s : ℕ} {k : Marks} → IsCount hid m t → s ≡ total_by hid (decode_word w) w m r t
    → k ≡ instruction_marks w (marks_of m r 0) → IsCount hid k.memory s
unfolding instruction_marks
turn-counts hid w m r t c e f =
    let x = total-counts hid (decode_word w) w (marks_of m r 0) t c in
    record { full = ap (λ (k : Marks). length k.memory) f ∙ x.full; count = e ∙ x.count ∙ ap (λ (k : Marks). hidden_count hid k.memory) (sym f) }
