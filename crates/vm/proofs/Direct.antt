-- A whole instruction is what its ticks are, and a run of whole instructions is the run.
-- Assumes nothing.
use Rattle.std.specs.Prelude.{None, Option, Some, Result}
use Rattle.encoding.specs.declared.refusal.Refusal.{Refusal}
use Rattle.isa.specs.declared.opcode.Opcode.{Opcode}
use Prim.Native.Nat.{ℕ, zero, suc, ◌+◌}
use mathlib.Core.Path.{◌≡◌, refl, ap, ◌∙◌}
use mathlib.Core.Bool.{false}
use mathlib.Core.List.{List}
use lib.ListN.{get_or}
use Rattle.isa.specs.declared.opcode.Opcode.TheVariants.{LoadImmediate, LoadRegister, LoadMemory, StoreMemory, Add, Negate, ShiftRight, ShiftLeft, And, Or, Xor, Jump, Halt}
use Rattle.isa.specs.Word.{decode_word}
use Rattle.isa.specs.Format.{fill}
use Rattle.plan.specs.Plan.{execute_ticks_of, fetch_text, tick_template, tick_text}
use Rattle.control.specs.Count.{count_tick}
use Rattle.tick.specs.Tick.{execute_tick}
use Rattle.guard.specs.declared.stops.RunStop.{RunStop}
use Rattle.guard.specs.Stops.{Verdict, go, stop, after}
use Rattle.trace.specs.declared.records.TraceRecord.{TraceRecord}
use Rattle.vm.specs.Machine.{Machine}
use Rattle.vm.specs.Instruction.{Steps, step_instruction}
use Rattle.vm.specs.Run.{verdict, run_end, run}
use Rattle.vm.proofs.TickTurns.{at}
use Rattle.vm.proofs.Runs.{running}
use Rattle.vm.proofs.Steps.{public_of, hidden_of, fetched, fetched_hidden, decoded, finished, finished_done, instruction-steps}
use Rattle.trace.specs.Lines.{lines, logged}
use Rattle.direct.specs.Light.{Light, word_at, work_of, taken_by, records_of}
use Rattle.vm.specs.Direct.{light_of, whole_by, last_done, direct_on, direct, direct_run}

-- with the word and its opcode named
known : Option Opcode → ℕ → Light → List TraceRecord → Machine
known d w l t =
    whole_by d w l (logged (lines (4 + execute_ticks_of d) 0 l.counters.micro_operations l.pc (taken_by w l.registers) w) t) (work_of d w l)

law : (d : Option Opcode) (w : ℕ) (m : Machine) → m.state.control.halted ≡ false → decode_word w ≡ d
    → finished d (fetched w (public_of m)) (fetched_hidden m.state.control.pc w (hidden_of m)) ≡ known d w (light_of m) m.trace
unfolding known lines logged fetched fetched_hidden decoded finished execute_tick count_tick tick_text tick_template fetch_text fill
law (Some LoadImmediate) w m h e = rw (h, e)
law (Some LoadRegister) w m h e = rw (h, e)
law (Some LoadMemory) w m h e = rw (h, e)
law (Some StoreMemory) w m h e = rw (h, e)
law (Some Add) w m h e = rw (h, e)
law (Some Negate) w m h e = rw (h, e)
law (Some ShiftRight) w m h e = rw (h, e)
law (Some ShiftLeft) w m h e = rw (h, e)
law (Some And) w m h e = rw (h, e)
law (Some Or) w m h e = rw (h, e)
law (Some Xor) w m h e = rw (h, e)
law (Some Jump) w m h e = rw (h, e)
law (Some Halt) w m h e = refl
law None w m h e = refl

-- what the last tick did beside that
done_law : (d : Option Opcode) (w : ℕ) (m : Machine) → m.state.control.halted ≡ false → decode_word w ≡ d
    → finished_done d (fetched w (public_of m)) (fetched_hidden m.state.control.pc w (hidden_of m)) ≡ last_done d (work_of d w (light_of m))
unfolding fetched fetched_hidden decoded finished_done execute_tick count_tick
done_law (Some LoadImmediate) w m h e = rw h
done_law (Some LoadRegister) w m h e = rw h
done_law (Some LoadMemory) w m h e = rw h
done_law (Some StoreMemory) w m h e = rw h
done_law (Some Add) w m h e = rw h
done_law (Some Negate) w m h e = rw h
done_law (Some ShiftRight) w m h e = rw h
done_law (Some ShiftLeft) w m h e = rw h
done_law (Some And) w m h e = rw h
done_law (Some Or) w m h e = rw h
done_law (Some Xor) w m h e = rw h
done_law (Some Jump) w m h e = rw h
done_law (Some Halt) w m h e = refl
done_law None w m h e = refl

-- of every running machine at tick 0: the machine, the number of its ticks, and what the last one did
pub direct-steps : (m : Machine) → m.state.control.tick ≡ 0 → m.state.control.halted ≡ false
    → let d = decode_word (word_at (light_of m)) in
    step_instruction m ≡ at (direct m) (4 + execute_ticks_of d) (last_done d (work_of d (word_at (light_of m)) (light_of m)))
unfolding direct_on known records_of
direct-steps m z h =
    let w = get_or m.memory m.state.control.pc 0 in
    let d = decode_word w in
    instruction-steps m z ∙ (λ i. at (law d w m h refl i) (4 + execute_ticks_of d) (done_law d w m h refl i))

pub direct_is_step : (m : Machine) → m.state.control.tick ≡ 0 → m.state.control.halted ≡ false → (step_instruction m).machine ≡ direct m
direct_is_step m z h = ap (λ (s : Steps). s.machine) (direct-steps m z h)

-- it ends between two instructions
direct-tick : (m : Machine) → (direct m).state.control.tick ≡ 0
unfolding direct_on
direct-tick m = refl

-- of every machine at tick 0, whatever was begun already: a halted one stops either way
pub direct-run_is_run : (b : List ℕ) (k n : ℕ) (m : Machine) → m.state.control.tick ≡ 0 → run b k n m ≡ direct_run b k n m
unfolding run direct_run
direct-run_is_run b k zero m z = refl
direct-run_is_run b k (suc n) m z =
    by (verdict b k (suc n) m) refl (λ h. ap (run b (k + 1) n) (direct_is_step m z h) ∙ direct-run_is_run b (k + 1) n (direct m) (direct-tick m))
  where
    by : (v : Verdict (Result RunStop Refusal)) → verdict b k (suc n) m ≡ v → (m.state.control.halted ≡ false → run b (k + 1) n (step_instruction m).machine ≡ direct_run b (k + 1) n (direct m))
        → after v (run_end k m) (λ u. run b (k + 1) n (step_instruction m).machine) ≡ after v (run_end k m) (λ u. direct_run b (k + 1) n (direct m))
    by go e x = x (running b k (suc n) m e).0
    by (stop c) e x = refl
