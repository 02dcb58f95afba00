-- A run on the machine that was ticked.
use mathlib.Core.Path.{ap, ◌∙◌}
use Rattle.vm.specs.Run.{RunEnd}
use Rattle.vm.specs.RunCalls.{run_call}
use Rattle.massey_bench.specs.Machine.{made_by, run_count}
use Rattle.massey_bench.proofs.machine.massey_run.Goals as goal

pub returns : goal.returns
unfolding run_count
returns c =
    let t = c.ticked-m.ensures in
    let a = c.args in
    ap (λ (r : RunEnd). made_by r.machine) (c.run.ensures.answer ∙ (λ i. (run_call (t.1 i) a.breakpoints.now a.budget (t.0 i))))
