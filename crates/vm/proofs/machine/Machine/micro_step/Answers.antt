-- One tick is an instruction's first, and its text is the newest.
-- Assumes nothing.
use mathlib.Core.Path.{ap, sym, ◌∙◌}
use Rattle.vm.specs.Instruction.{Steps}
use Rattle.vm.specs.Calls.{parts_of, view_of}
use Rattle.vm.specs.StepCalls.{halted_op, micro_effect}
use Rattle.vm.proofs.Newest.{one_step}
use Rattle.vm.proofs.Fits.{lasts, has_one, first_text, made_op, moves}
use Rattle.vm.proofs.machine.Machine.micro_step.Goals as goal

pub newest_text-text-requires : goal.newest_text-text-requires
newest_text-text-requires c =
    let m = c.args.self.now in
    let t = c.instruction_parts-stepped in
    let q = t.ensures.1.trace in
    (has_one t.result.ticks.0 (parts_of m) t.result.done c.in_ok-step_served.ensures.fit t.ensures.1 (rw c.core.ensures at t.ensures.0), q.count, q.columns, q.lengths)

pub returns-clause-answer : goal.returns-clause-answer
unfolding micro_effect
returns-clause-answer c =
    let m = c.args.self.now in
    let t = c.instruction_parts-stepped in
    let k = rw c.core.ensures at t.ensures.0 in
    let e = k ∙ one_step (view_of m) in
    let x = c.newest_text-text.ensures ∙ first_text t.result.ticks.0 (parts_of m) t.result.done c.in_ok-step_served.ensures.fit t.ensures.1 k in
    moves (halted_op m.state) (view_of m) (sym c.step_served.ensures.answer ∙ c.in_ok-step_served.was) c.if-state.false (c.op_after.ensures ∙ made_op (view_of m) e x) (ap view_of c.set_core.ensures ∙ ap (λ (y : Steps). y.machine) e)

pub returns-clause-lasting : goal.returns-clause-lasting
returns-clause-lasting c = rw c.set_core.ensures (λ k. lasts (parts_of c.args.self.now) _ _ k c.instruction_parts-stepped.ensures.1)
