-- What the code's helper functions take and leave, on the parts that are lent to them. A reader need not believe it: the contracts of the public calls cite
-- none of these, and the proofs show that the calls are what `Calls`, `StepCalls`, `RunCalls`, `History` and `Guard` say.
-- Assumes nothing.
use Rattle.std.specs.Prelude.{ℕ, ◌<◌, ◌≡◌, Bool, true, List, length, get_or}
use Rattle.std.specs.Borrow.{MutBor}
use Rattle.isa.specs.Sizes.{memory_words}
use Rattle.control.specs.Lawful.{lawful}
use Rattle.marks.specs.Marks.{marks_of}
use Rattle.trace.specs.Trace.{TraceFit, columns_length, trace_limit}
use Rattle.trace.specs.Touched.{TouchFit}
use Rattle.trace.specs.Forms.{Lent}
use Rattle.vm.specs.declared.parts.Core.{Core}
use Rattle.vm.specs.declared.instruction.Stepped.{Stepped}
use Rattle.vm.specs.declared.run.RanCore.{RanCore}
use Rattle.vm.specs.declared.guarded.GuardedCore.{GuardedCore}
use Rattle.vm.specs.Instruction.{Steps, step_instruction}
use Rattle.vm.specs.Run.{RunEnd, closed_state}
use Rattle.vm.specs.View.{Parts, parts, view}
use Rattle.vm.specs.Refusal.{parts_ok}
use Rattle.vm.specs.Guard.{Guarded, GuardedEnd}

-- ---- the parts of a call

-- the parts that are lent to a call
abbrev pub given : Core → MutBor (List ℕ) → MutBor (List ℕ) → MutBor (List ℕ) → MutBor (List ℕ) → MutBor (List ℕ) → MutBor (List ℕ) → Parts
given c m r t k i l = parts c m.now r.now t.now k.now i.now l.now

-- the parts that came to a call
abbrev pub came : Core → Lent → Lent → Lent → Lent → Lent → Lent → Parts
came c m r t k i l = parts c m.entry.now r.entry.now t.entry.now k.entry.now i.entry.now l.entry.now

-- the parts that it leaves
abbrev pub left : Core → Lent → Lent → Lent → Lent → Lent → Lent → Parts
left c m r t k i l = parts c m.exit.now r.exit.now t.exit.now k.exit.now i.exit.now l.exit.now

-- how long the arrays are, and that a touched address is one of memory, which their types tell
pub record Sizes (q : Parts) : Type 0 where
  pub touched : length q.touched ≡ memory_words
  pub bytes : (i : ℕ) → get_or q.touched i 0 < memory_words
  pub columns : length q.columns ≡ columns_length
  pub numbers : length q.numbers ≡ trace_limit
  pub lengths : length q.lengths ≡ trace_limit

-- what the parts are between two ticks
pub record Fit (q : Parts) : Type 0 where
  pub control : lawful q.core.state.control ≡ true
  pub touched : TouchFit q.core.touched_len q.touched
  pub trace : TraceFit q.core.trace_start q.core.trace_len q.columns q.numbers q.lengths

-- `parts_ok` of the parts, with the image's length
abbrev pub sound : ℕ → Parts → Bool
sound n q = parts_ok q.core n q.touched q.lengths

-- ---- one instruction

-- one instruction on the parts, as `step_instruction` makes it: it ends between two
abbrev pub stepped_on : Stepped → Parts → Steps
stepped_on r q = record { machine = view q; ticks = r.ticks.0; done = r.done }

pub record Stepping (r : Stepped) (was is : Parts) : Type 0 where
  pub steps : stepped_on r is ≡ step_instruction (view was)
  pub fit : Fit is
  pub ends : r.core.state.control.tick ≡ 0
  pub halted : r.halted ≡ r.core.state.control.halted

-- ---- runs

-- the small part after a stop, and the parts: the stop's number
abbrev pub closed_core : ℕ → Core → Core
closed_core stop c = record {
  state = closed_state stop c.state;
  counters = c.counters;
  touched_len = c.touched_len;
  trace_start = c.trace_start;
  trace_len = c.trace_len;
}

abbrev pub closed_parts : ℕ → Parts → Parts
closed_parts stop q = parts (closed_core stop q.core) q.memory q.registers q.touched q.columns q.numbers q.lengths

-- how a run on the code's parts ended
abbrev pub ran_on : RanCore → Parts → RunEnd
ran_on r q = record { stop = r.stop; executed = r.executed.0; machine = view q }

-- the machine of the parts, with marks of its memory, its registers and MDR
abbrev pub guarded_on : Parts → List ℕ → List ℕ → ℕ → Guarded
guarded_on q m r d = record { machine = view q; marks = marks_of m r d }

-- how the run on the parts ended
abbrev pub end_on : GuardedCore → Guarded → GuardedEnd
end_on r g = record { stop = r.stop; executed = r.executed.0; guarded = g }
