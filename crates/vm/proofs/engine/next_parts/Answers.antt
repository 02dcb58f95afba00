-- Assumes nothing.
use mathlib.Core.Path.{ap, ◌∙◌}
use Rattle.vm.specs.Instruction.{Steps, step_instruction}
use Rattle.vm.specs.View.{parts, view}
use Rattle.vm.proofs.Newest.{ends}
use Rattle.vm.proofs.engine.next_parts.Goals as goal

pub returns : goal.returns
unfolding step_instruction
returns c =
    let s = c in
    let a = s.args in
    let v = view (parts a.from a.memory.now a.registers.now a.touched.now a.columns.now a.numbers.now a.lengths.now) in
    let t = c.instruction_parts.ensures in
    record { steps = t.0; fit = t.1; ends = ap (λ (x : Steps). x.machine.state.control.tick) t.0 ∙ ends v s.requires.1.control s.requires.0; halted = t.2 }
