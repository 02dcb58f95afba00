-- A run without breakpoints, on the machine that was started.
use mathlib.Core.Path.{ap, ◌∙◌}
use mathlib.Core.List.{[]}
use Rattle.vm.specs.declared.machine.Machine.{Machine as Code}
use Rattle.vm.specs.Calls.{view_of, is_machine}
use Rattle.vm.specs.Run.{RunEnd}
use Rattle.vm.specs.RunCalls.{run_call}
use Rattle.massey_bench.specs.Machine.{start, times, made_by, ticks_on, run_count}
use Rattle.massey_bench.proofs.Machines.{start_ok}
use Rattle.massey_bench.proofs.machine.massey_direct_run.Goals as goal

pub returns : goal.returns
unfolding run_count ticks_on times
returns c =
    let a = c.args in
    ap (λ (r : RunEnd). made_by r.machine) (c.direct_run.ensures.answer ∙ ap (λ (m : Code). (run_call (is_machine m) [] a.budget (view_of m))) c.started-m.ensures ∙ (λ i. (run_call (start_ok a.image.now i) [] a.budget (view_of (start a.image.now)))))
