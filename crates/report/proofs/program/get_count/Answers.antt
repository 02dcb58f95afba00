-- Assumes nothing.
use native.Mathlib.Omega.{arith}
use Rattle.encoding.proofs.Numbers.{read_below}
use Rattle.report.proofs.program.get_count.Goals as goal

pub returns-clause-small : goal.returns-clause-small
returns-clause-small c =
    let a = c.args in
    omega (arith, c.get_number.ensures, read_below a.input.now a.at 2 (λ i. omega (arith, c.type_inv.input i)))
