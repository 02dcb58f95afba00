use mathlib.Core.Path.{ap, ◌∙◌}
use borrow.Author.Rules.{rules}
use Rattle.vm.specs.declared.machine.Machine.{Machine as Code}
use Rattle.massey_bench.specs.Machine.{times}
use Rattle.massey_bench.specs.History.{Kept, push}
use Rattle.massey_bench.proofs.Loops.{at_start, turned, at_end_lem}
use Rattle.massey_bench.proofs.undo.massey_pushes.Invariants.{held}
use Rattle.massey_bench.proofs.undo.massey_pushes.Goals as goal

pub loop-init : goal.loop-init
loop-init c = (search rules, at_start _ _ _)

pub loop-preserved : goal.loop-preserved
loop-preserved c =
    let l = c.loop in
    let e = c.push_history.ensures in
    (search rules, turned push _ _ c.loop-test.true l.invariant.1 (λ i. held (e.left i) (e.answer i).machine))

pub returns : goal.returns
returns c =
    let a = c.args in
    let e = at_end_lem push a.n _ c.loop-test.false c.loop.invariant.1 ∙ ap (λ (m : Code). times a.n push (held a.store.now m)) c.started_with-m.ensures in
    record { answer = ap (λ (k : Kept). k.machine.history_len) e; left = ap (λ (k : Kept). k.store) e }
