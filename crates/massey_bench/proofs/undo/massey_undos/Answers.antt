use mathlib.Core.Path.{ap, ◌∙◌}
use Rattle.vm.specs.declared.machine.Machine.{Machine as Code}
use Rattle.vm.specs.Calls.{Effect}
use Rattle.massey_bench.specs.Machine.{times}
use Rattle.massey_bench.proofs.Loops.{at_start, turned, at_end_lem}
use Rattle.massey_bench.proofs.undo.massey_undos.Invariants.{back}
use Rattle.massey_bench.proofs.undo.massey_undos.Goals as goal

pub loop-init : goal.loop-init
loop-init c = at_start _ _ _

pub loop-preserved : goal.loop-preserved
loop-preserved c =
    turned _ _ _ c.loop-test.true c.loop.invariant (ap (λ (s : Effect (Unit {0}) Code). s.machine) c.undo.ensures)

pub returns : goal.returns
returns c =
    let a = c.args in
    let f = back a.store.now in
    ap (λ (m : Code). m.history_len) (at_end_lem f a.n _ c.loop-test.false c.loop.invariant ∙ ap (times a.n f) c.started_with-m.ensures)
