use native.Mathlib.Omega.{arith}
use mathlib.Core.Path.{refl, ap, ◌∙◌}
use lib.Seq.{take_all}
use Rattle.isa.specs.Text.{trimmed}
use Rattle.isa.proofs.Texts.{trim_other, trim_space}
use Rattle.isa.proofs.text.live_length.Goals as goal
use Rattle.isa.proofs.text.live_length.Goals.{then-b-ne32, else-b-ne32}

pub loop-i-init : goal.loop-i-init
unfolding trimmed
loop-i-init c = (refl, omega arith)

pub loop-i-preserved : goal.loop-i-preserved
loop-i-preserved c =
    let s = c.args.s.now in
    let i = c.loop-i.i in
    elim c.if-b-ne32.branch [
      | then-b-ne32 w ↦ (rw w.n-is (trim_other s i (omega arith) w.if-b-ne32.true), omega arith)
      | else-b-ne32 w ↦ (rw w.n-is (trim_space s i c.loop-i.n (omega arith) w.if-b-ne32.false c.loop-i.invariant.0), omega arith)
    ]

pub returns : goal.returns
returns c =
    let a = c in
    let s = a.args.s.now in
    (omega arith, a.loop-i.invariant.0 ∙ ap trimmed (take_all a.loop-i.i s (omega arith)))
