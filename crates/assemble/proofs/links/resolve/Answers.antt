use native.Mathlib.Omega.{arith}
use mathlib.Core.Path.{◌∙◌}
use Rattle.assemble.proofs.Steps.{passed_on}
use Rattle.assemble.proofs.Linking.{entry_turn, entry_missing, entries_end}
use Rattle.assemble.proofs.links.resolve.Goals as goal

pub returns-in_err-address : goal.returns-in_err-address
returns-in_err-address c =
    let e = c.in_err-address.field-0.0 in
    passed_on c.from_residual.result e c.from_residual.ensures.1 ∙ entry_missing c.args.entries.now c.loop-i.out c.loop-i.i c.requires c.loop-i.invariant e c.loop-i-test.true c.in_err-address.ensures

pub overflow_add-out : goal.overflow_add-out
overflow_add-out c =
    let m = (entry_turn c.args.entries.now c.loop-i.out c.loop-i.i c.requires c.loop-i.invariant c.in_ok-address.address c.loop-i-test.true c.in_ok-address.ensures).0 in
    record { fits = omega (arith, m) }

pub overflow_cast-out : goal.overflow_cast-out
overflow_cast-out c =
    record { fits = (entry_turn c.args.entries.now c.loop-i.out c.loop-i.i c.requires c.loop-i.invariant c.in_ok-address.address c.loop-i-test.true c.in_ok-address.ensures).0 }

pub loop-i-preserved : goal.loop-i-preserved
loop-i-preserved c =
    (entry_turn c.args.entries.now c.loop-i.out c.loop-i.i c.requires c.loop-i.invariant c.in_ok-address.address c.loop-i-test.true c.in_ok-address.ensures).1

pub returns : goal.returns
returns c = entries_end c.args.entries.now c.loop-i.out c.loop-i.i c.requires c.loop-i.invariant c.loop-i-test.false
