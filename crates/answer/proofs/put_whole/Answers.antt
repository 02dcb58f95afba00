-- The answer that fits. Assumes nothing.
use native.Mathlib.Omega.{arith}
use mathlib.Core.Path.{refl, ◌∙◌}
use Rattle.encoding.proofs.Written.{written-fits}
use Rattle.answer.proofs.Answers.{fitting}
use Rattle.answer.proofs.put_whole.Goals as goal

pub returns : goal.returns
returns c =
    let a = c.args in
    fitting a.bytes.now a.out.now c.if-out-size.false refl (c.put_bytes.ensures ∙ written-fits a.out.now 0 a.bytes.now (omega arith))
