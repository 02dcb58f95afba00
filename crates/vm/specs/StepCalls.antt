-- `micro_step` and `step_instruction` (01, sections 1, 3 and 4; vm.rs): what they answer, and the machine that they leave.
-- Assumes nothing.
use Rattle.std.specs.Prelude.{ℕ, Bool, true, false, cond, [], ◌∷◌, eqb, get_or, Result, Ok, Err, Option, Some, None}
use Rattle.encoding.specs.declared.refusal.Refusal.{Refusal}
use Rattle.isa.specs.Text.{Text}
use Rattle.isa.specs.Text.{ascii, text}
use Rattle.disasm.specs.Disassembly.{disassemble_text}
use Rattle.plan.specs.declared.plan.Phase.TheVariants.{Halt}
use Rattle.plan.specs.declared.plan.TransferPlan.{TransferPlan}
use Rattle.plan.specs.Plan.{phase_of}
use Rattle.control.specs.declared.control.State.{State}
use Rattle.control.specs.declared.control.Fault.{Fault}
use Rattle.control.specs.declared.control.Fault.TheVariants.{UnknownInstruction, StepBudgetExhausted}
use Rattle.vm.specs.declared.parts.Done.{Done}
use Rattle.vm.specs.declared.micro.MicroOp.{MicroOp}
use Rattle.vm.specs.declared.step.InstructionReport.{InstructionReport}
use Rattle.vm.specs.Calls.{Effect, answered}
use Rattle.vm.specs.Machine.{Machine, next_text, next_done, micro_step}
use Rattle.vm.specs.Instruction.{step_instruction, tick_texts, texts_from}

abbrev pub has_fault : Option Fault → Bool
has_fault None = false
has_fault (Some (UnknownInstruction w a)) = true
has_fault (Some (StepBudgetExhausted w a)) = true

-- a halted machine is served: it answers "halted"
abbrev pub halted_op : State → MicroOp
halted_op s = record {
  text = text (ascii "halted");
  phase = Halt;
  ends_instruction = true;
  halts = true;
  faulted = has_fault s.fault;
  bus = None;
  write = None;
  address = s.control.pc;
}

-- the number of a tick, the state after it, what it did, its text
abbrev pub op_after : ℕ → State → Done → Text → MicroOp
op_after t s d x = record {
  text = x;
  phase = phase_of t;
  ends_instruction = eqb s.control.tick 0;
  halts = s.control.halted;
  faulted = d.faulted;
  bus = d.bus;
  write = d.write;
  address = s.control.instruction_address;
}

-- the transfer that is reported, of a running machine
unfoldable pub micro_op : Machine → MicroOp
micro_op m = op_after m.state.control.tick (micro_step m).state (next_done m) (next_text m)

-- by the refusal, and whether it is halted: what is answered by a halted machine, and by one that moves
abbrev pub effect_if : {A : Type 0} → Result (Unit {0}) Refusal → Bool → A → A → Machine → Machine → Effect A Machine
effect_if (Ok u) halted still moving m next = cond halted (answered (Ok still) m) (answered (Ok moving) next)
effect_if (Err r) halted still moving m next = answered (Err r) m

unfoldable pub micro_effect : Result (Unit {0}) Refusal → Machine → Effect MicroOp Machine
micro_effect r m = effect_if r m.state.control.halted (halted_op m.state) (micro_op m) m (micro_step m)

-- the address and the word at PC, the texts of the ticks, whether the last one halted or faulted
abbrev pub instruction_report_on : Machine → TransferPlan → Bool → Bool → InstructionReport
instruction_report_on m x h f =
    let pc = m.state.control.pc in
    let w = get_or m.memory pc 0 in
    record { address = pc; word = w; text = text (disassemble_text w); micro_ops = x; halted = h; faulted = f }

abbrev pub halted_texts : TransferPlan
halted_texts = texts_from (text (ascii "halted") ∷ [])

unfoldable pub halted_report : Machine → InstructionReport
halted_report m = instruction_report_on m halted_texts true (has_fault m.state.fault)

unfoldable pub instruction_report : Machine → InstructionReport
instruction_report m = let s = step_instruction m in instruction_report_on m (texts_from (tick_texts 7 m)) s.machine.state.control.halted s.done.faulted

unfoldable pub step_effect : Result (Unit {0}) Refusal → Machine → Effect InstructionReport Machine
step_effect r m = effect_if r m.state.control.halted (halted_report m) (instruction_report m) m (step_instruction m).machine
