-- The guarded run (01, section 5; 02, Change 7): `run` of a new machine, with two tests after the budget's. `hid` says which marks hide a value: those with
-- an owner outside the reader's clearance (`guarded_of`).
-- Assumes nothing.
use Rattle.std.specs.Prelude.{ℕ, zero, suc, ◌+◌, Bool, cond, List, [], eqb, length, get_or, replicate, Result, Ok, Err}
use Rattle.encoding.specs.declared.refusal.Refusal.{Refusal}
use Rattle.encoding.specs.Refusal.{refusal_number}
use Rattle.isa.specs.Sizes.{memory_words, register_count}
use Rattle.guard.specs.declared.stops.GuardedStop.{GuardedStop}
use Rattle.guard.specs.declared.stops.GuardedStop.TheVariants.{Budget}
use Rattle.marks.specs.Owners.{hidden_from}
use Rattle.marks.specs.Marks.{Marks, marks_of, instruction_marks}
use Rattle.marks.specs.Total.{hidden_count}
use Rattle.guard.specs.Stops.{Verdict, after, reached, hidden_jump, guard_if, stop_number}
use Rattle.guard.specs.Input.{Input, input_refusal}
use Rattle.vm.specs.declared.guarded.GuardedRun.{GuardedRun}
use Rattle.vm.specs.Machine.{Machine}
use Rattle.vm.specs.Instruction.{step_instruction}
use Rattle.vm.specs.Run.{closed}
use Rattle.vm.specs.Calls.{Rest, rest_of, view_of, restarted, image_words}

pub record Guarded : Type 0 where
  pub machine : Machine
  pub marks : Marks

-- the word at PC
abbrev pub next_word : Machine → ℕ
next_word m = get_or m.memory m.state.control.pc 0

-- a whole instruction, and its marks
abbrev pub guarded_step : Guarded → Guarded
guarded_step g = record { machine = (step_instruction g.machine).machine; marks = instruction_marks (next_word g.machine) g.marks }

-- so many of them
unfoldable pub guarded_steps : ℕ → Guarded → Guarded
guarded_steps zero g = g
guarded_steps (suc k) g = guarded_steps k (guarded_step g)

pub record GuardedEnd : Type 0 where
  pub stop : GuardedStop
  pub executed : ℕ
  pub guarded : Guarded

-- a spent budget halts the machine; neither hidden word nor hidden jump does
abbrev pub guarded_end : ℕ → Guarded → GuardedStop → GuardedEnd
guarded_end k g c = record { stop = c; executed = k; guarded = record { machine = closed (stop_number c) g.machine; marks = g.marks } }

module _ (hid : ℕ → Bool) where
  -- breakpoints, instructions begun, budget left
  abbrev pub guard : List ℕ → ℕ → ℕ → Guarded → Verdict GuardedStop
  guard breaks k n g =
      let m = g.machine in
      let pc = m.state.control.pc in
      let word = hid (get_or g.marks.memory pc 0) in
      let jump = hidden_jump hid (next_word m) g.marks.registers in
      guard_if m.state.control.halted (reached breaks k pc) (eqb n 0) word jump m.state.fault

  unfoldable pub guarded_run : List ℕ → ℕ → ℕ → Guarded → GuardedEnd
  guarded_run breaks k zero g = after (guard breaks k zero g) (guarded_end k g) (λ u. guarded_end k g Budget)
  guarded_run breaks k (suc n) g = after (guard breaks k (suc n) g) (guarded_end k g) (λ u. guarded_run breaks (k + 1) n (guarded_step g))

-- the image loaded on a new machine; registers and MDR have no owner
unfoldable pub guarded_start : List ℕ → List ℕ → Guarded
guarded_start image marks = record {
  machine = view_of (restarted (image_words image) (length image) 0);
  marks = record { memory = marks; registers = replicate register_count 0; mdr = 0 };
}

-- with the marks and the clearance handed in
unfoldable pub guarded_of : Input → GuardedEnd
guarded_of i = guarded_run (hidden_from i.clearance) i.breaks 0 i.budget (guarded_start i.image i.marks)

-- ---- what the call answers (01, section 1 and last paragraph; 02, Changes 6 and 7)

-- the number of the refusal, 0 where there is none; the stop by its number; the instructions begun; the machine with its marks; how many words are hidden
-- from the reader; what no tick reads or writes
pub record GuardedAnswer : Type 0 where
  pub refused : ℕ
  pub stop : ℕ
  pub executed : ℕ
  pub guarded : Guarded
  pub hidden_total : ℕ
  pub rest : Rest

-- of the struct of a run that was served
abbrev pub run_answer_of : GuardedRun → GuardedAnswer
run_answer_of r = record {
  refused = 0;
  stop = stop_number r.stop;
  executed = r.executed.0;
  guarded = record { machine = view_of r.machine; marks = marks_of r.marks.memory r.marks.registers r.marks.mdr };
  hidden_total = r.hidden_total;
  rest = rest_of r.machine;
}

-- a served run: the total is the full count of the marks at the stop
abbrev pub served_answer : Input → GuardedAnswer
served_answer i =
    let e = guarded_of i in
    record {
      refused = 0;
      stop = stop_number e.stop;
      executed = e.executed;
      guarded = e.guarded;
      hidden_total = hidden_count (hidden_from i.clearance) e.guarded.marks.memory;
      rest = record { image = image_words i.image; length = length i.image; history = 0 };
    }

-- a refused one: an empty machine, no owners, stop 0 and nothing begun, whatever was handed in; the call answers the number alone
unfoldable pub refused_answer : ℕ → GuardedAnswer
refused_answer n =
    let empty = restarted (image_words []) 0 0 in
    record {
      refused = n;
      stop = 0;
      executed = 0;
      guarded = record { machine = view_of empty; marks = marks_of (replicate memory_words 0) (replicate register_count 0) 0 };
      hidden_total = 0;
      rest = rest_of empty;
    }

abbrev pub guarded_answer_of : Result GuardedRun Refusal → GuardedAnswer
guarded_answer_of (Ok r) = run_answer_of r
guarded_answer_of (Err e) = refused_answer (refusal_number e)

unfoldable pub guarded_answer : Input → GuardedAnswer
guarded_answer i = cond (eqb (input_refusal i) 0) (served_answer i) (refused_answer (input_refusal i))
