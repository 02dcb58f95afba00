-- Assumes nothing.
use Prim.Native.Nat.{◌-◌}
use native.Mathlib.Nat.{sub-zero}
use native.Mathlib.Omega.{arith}
use mathlib.Core.Path.{ap, ◌∙◌}
use lib.ListN.{take, drop}
use lib.Seq.{take_all}
use Rattle.trace.specs.Trace.{short_texts}
use Rattle.trace.proofs.Checks.{short_none, short_next}
use Rattle.vm.proofs.refusal.short_between.Goals as goal

pub loop-length-init : goal.loop-length-init
loop-length-init c = short_none c.args.lengths.now 0

pub loop-length-preserved : goal.loop-length-preserved
loop-length-preserved c =
    let l = c.loop-length in
    let a = c.args in
    let live = take (a.to - a.from) (drop a.from a.lengths.now) in
    let more = short_next live 0 l.length-index l.over (omega arith) (omega arith) (rw sub-zero l.invariant) in
    rw sub-zero at more

pub returns : goal.returns
returns c =
    let l = c.loop-length in
    let a = c.args in
    l.invariant ∙ ap short_texts (take_all l.length-index (take (a.to - a.from) (drop a.from a.lengths.now)) (omega arith))
