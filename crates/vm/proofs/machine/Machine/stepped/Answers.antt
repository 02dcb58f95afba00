-- The ticks of an instruction are at most seven, and their texts are the newest.
-- Assumes nothing.
use native.Mathlib.Omega.{arith}
use mathlib.Core.Path.{ap, sym, ◌∙◌}
use Rattle.vm.specs.Instruction.{Steps, step_instruction, texts_from}
use Rattle.vm.specs.Calls.{parts_of, view_of}
use Rattle.vm.specs.StepCalls.{halted_report, step_effect}
use Rattle.vm.proofs.Fits.{lasts, texts-made, ticks-few, made_report, moves}
use Rattle.vm.proofs.machine.Machine.stepped.Goals as goal

pub newest_texts-micro_ops-requires : goal.newest_texts-micro_ops-requires
unfolding step_instruction
newest_texts-micro_ops-requires c =
    let m = c.args.self.now in
    let t = c.next_parts-stepped in
    let q = t.ensures.fit.trace in
    let few = ticks-few 7 t.result.ticks.0 (parts_of m) t.result.done (omega arith) c.in_ok-step_served.ensures.fit t.ensures.fit (rw c.core.ensures at t.ensures.steps) in
    (few.0, few.1, q.count, q.columns, q.lengths)

pub returns-clause-answer : goal.returns-clause-answer
unfolding step_effect step_instruction
returns-clause-answer c =
    let m = c.args.self.now in
    let v = view_of m in
    let t = c.next_parts-stepped in
    let e = rw c.core.ensures at t.ensures.steps in
    let x = c.newest_texts-micro_ops.ensures ∙ ap texts_from (texts-made 7 t.result.ticks.0 (parts_of m) t.result.done (omega arith) c.in_ok-step_served.ensures.fit t.ensures.fit e) in
    moves (halted_report v) v (sym c.step_served.ensures.answer ∙ c.in_ok-step_served.was) c.if-self.false (made_report v e t.ensures.halted c.disassemble-text.ensures x) (ap view_of c.set_core.ensures ∙ ap (λ (y : Steps). y.machine) e)

pub returns-clause-lasting : goal.returns-clause-lasting
returns-clause-lasting c = rw c.set_core.ensures (λ k. lasts (parts_of c.args.self.now) _ _ k c.next_parts-stepped.ensures.fit)
