-- Bus totals over the whole past (02, Change 5): which ticks use the bus, which ticks each call makes, and a machine's past, which is the calls since a reset.
-- A tick is told by the machine before it. Nothing here looks at a bus counter or at a transfer.
-- Assumes nothing.
use Rattle.std.specs.Prelude.{is_ok, ℕ, zero, suc, ◌+◌, ◌≡◌, Bool, false, cond, not, ◌&&◌, List, [], ◌∷◌, ◌++◌, eqb, length, None, Option, Some}
use Rattle.isa.specs.declared.opcode.Opcode.{Opcode}
use Rattle.isa.specs.declared.opcode.Opcode.TheVariants.{LoadMemory, StoreMemory}
use Rattle.isa.specs.Opcode.{nibble_of}
use Rattle.isa.specs.Word.{decode_word}
use Rattle.control.specs.declared.counters.Counters.{Counters}
use Rattle.guard.specs.Input.{Input}
use Rattle.vm.specs.declared.machine.Machine.{Machine as Code}
use Rattle.vm.specs.Machine.{Machine, micro_step}
use Rattle.vm.specs.Instruction.{unless_zero, step_instruction}
use Rattle.vm.specs.Calls.{view_of, is_machine, step_refusal_of, restarted}
use Rattle.vm.specs.StepCalls.{micro_effect, step_effect}
use Rattle.vm.specs.RunCalls.{run_call}
use Rattle.vm.specs.Guard.{guarded_start, guarded_of}
use Rattle.vm.specs.History.{saved, undone}

-- ---- which ticks use the bus

-- whether what a word says is that opcode
abbrev pub is_opcode : Opcode → Option Opcode → Bool
is_opcode o (Some p) = eqb (nibble_of p) (nibble_of o)
is_opcode o None = false

-- by the tick's number and what the word in IR is: the four fetch ticks are 0 to 3, an instruction's own begin at 4
abbrev pub second_fetch : ℕ → Option Opcode → Bool
second_fetch t d = eqb t 1

abbrev pub second_load : ℕ → Option Opcode → Bool
second_load t d = is_opcode LoadMemory d && eqb t 5

abbrev pub third_store : ℕ → Option Opcode → Bool
third_store t d = is_opcode StoreMemory d && eqb t 6

-- how many ticks are of a kind
unfoldable pub count : (ℕ → Option Opcode → Bool) → List Machine → ℕ
count kind [] = 0
count kind (m ∷ t) = let c = m.state.control in cond (kind c.tick (decode_word c.ir)) 1 0 + count kind t

abbrev pub bus_reads_of : List Machine → ℕ
bus_reads_of t = count second_fetch t + count second_load t

abbrev pub bus_writes_of : List Machine → ℕ
bus_writes_of t = count third_store t

-- ---- the ticks that a call makes

-- ticks until one ends the instruction, at most that many
unfoldable pub ticks_from : ℕ → Machine → List Machine
ticks_from zero m = []
ticks_from (suc f) m = m ∷ unless_zero (micro_step m).state.control.tick [] (λ u. ticks_from f (micro_step m))

-- those of an instruction, which has no more than seven, and of so many instructions
abbrev pub instruction_ticks : Machine → List Machine
instruction_ticks m = ticks_from 7 m

unfoldable pub instructions_ticks : ℕ → Machine → List Machine
instructions_ticks zero m = []
instructions_ticks (suc k) m = instruction_ticks m ++ instructions_ticks k (step_instruction m).machine

-- `micro_step`; `step_instruction` and `direct_instruction`; `run` and `direct_run`, with breakpoints and budget; `push_history` and `undo`, each with the
-- store that is lent to it, whatever that holds
pub data Call : Type 0 where
  tick : Call
  step : Call
  run : List ℕ → ℕ → Call
  push : List ℕ → Call
  undo : List ℕ → Call

-- a tick or an instruction is made where it is not refused and the machine is not halted
abbrev pub moves : Code → Bool
moves m = is_ok (step_refusal_of m) && not m.state.control.halted

-- a run makes those of the instructions that it begins, also where it is refused 9 after some; push and undo make none
unfoldable pub made : Call → Code → List Machine
made tick m = cond (moves m) (view_of m ∷ []) []
made step m = cond (moves m) (instruction_ticks (view_of m)) []
made (run breaks n) m = instructions_ticks (run_call (is_machine m) breaks n (view_of m)).executed (view_of m)
made (push d) m = []
made (undo d) m = []

-- ---- a machine's past

-- the machine that a call leaves, by its promise
unfoldable pub left : Call → Code → Machine
left tick m = (micro_effect (step_refusal_of m) (view_of m)).machine
left step m = (step_effect (step_refusal_of m) (view_of m)).machine
left (run breaks n) m = (run_call (is_machine m) breaks n (view_of m)).machine
left (push d) m = view_of (saved (length d) m).machine
left (undo d) m = view_of (undone d m).machine

-- the calls since a reset, oldest first; the machine; and the ticks made. A reset leaves a machine just switched on, whatever its image and its number of
-- history records; a call, refused or not, any struct that holds the machine it leaves
pub data Past : List Call → Code → List Machine → Type 0 where
  reset : (image : List ℕ) (n history : ℕ) → Past [] (restarted image n history) []
  call : (l : List Call) (c : Call) (m n : Code) (t : List Machine) → Past l m t → view_of n ≡ left c m → Past (l ++ c ∷ []) n (t ++ made c m)

-- the counters are the ticks made
pub record Totals (k : Counters) (t : List Machine) : Type 0 where
  pub reads : k.bus_reads ≡ bus_reads_of t
  pub writes : k.bus_writes ≡ bus_writes_of t

-- ---- the guarded run, whose counters are in the report (01, sections 5 and 6)

-- the ticks of the instructions that it begins, from a machine just switched on
abbrev pub guarded_made : Input → List Machine
guarded_made i = instructions_ticks (guarded_of i).executed (guarded_start i.image i.marks).machine
