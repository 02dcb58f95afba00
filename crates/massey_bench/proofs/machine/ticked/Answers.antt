use mathlib.Core.Path.{ap, ◌∙◌}
use Rattle.vm.specs.declared.micro.MicroOp.{MicroOp}
use Rattle.vm.specs.Machine.{Machine}
use Rattle.vm.specs.Calls.{view_of, is_machine, Effect}
use Rattle.massey_bench.specs.Machine.{times, ticks_on}
use Rattle.massey_bench.proofs.Machines.{start_ok, after-tick}
use Rattle.massey_bench.proofs.Loops.{at_start, turned, at_end_lem}
use Rattle.massey_bench.proofs.machine.ticked.Invariants.{move}
use Rattle.massey_bench.proofs.machine.ticked.Goals as goal

pub loop-init : goal.loop-init
loop-init c =
    let a = c.args in
    (at_start move a.n _, ap is_machine c.started-m.ensures ∙ start_ok a.image.now)

pub loop-preserved : goal.loop-preserved
loop-preserved c =
    let l = c.loop in
    let e = c.micro_step.ensures in
    (turned move _ _ c.loop-test.true l.invariant.0 (ap (λ (o : Effect MicroOp Machine). o.machine) e.answer ∙ after-tick l.m l.invariant.1), e.lasting l.invariant.1)

pub returns : goal.returns
unfolding ticks_on
returns c =
    let l = c.loop in
    let n = c.args.n in
    (at_end_lem move n _ c.loop-test.false l.invariant.0 ∙ ap (λ s. times n move (view_of s)) c.started-m.ensures, l.invariant.1)
