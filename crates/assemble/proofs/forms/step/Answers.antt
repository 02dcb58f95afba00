-- Assumes nothing.
use borrow.Author.Tests.{ne_eqb}
use native.Mathlib.Omega.{arith}
use Rattle.assemble.proofs.forms.step.Goals as goal

pub returns-in-32 : goal.returns-in-32
returns-in-32 c = rw c.in-32.is c.step_blank.ensures

pub returns-in-64 : goal.returns-in-64
returns-in-64 c = rw c.in-64.is c.step_name.ensures

pub returns-in-87 : goal.returns-in-87
returns-in-87 c = rw c.in-87.is c.step_digit.ensures

pub returns-in-120 : goal.returns-in-120
returns-in-120 c = rw c.in-120.is c.step_digit-in-120.ensures

pub returns-in-121 : goal.returns-in-121
returns-in-121 c = rw c.in-121.is c.step_digit-in-121.ensures

pub returns-in-122 : goal.returns-in-122
returns-in-122 c = rw c.in-122.is c.step_digit-in-122.ensures

pub returns-in_default : goal.returns-in_default
returns-in_default c =
    let b = c.args.b in
    rw (ne_eqb b 32 (λ q. omega arith), ne_eqb b 64 (λ q. omega arith), ne_eqb b 87 (λ q. omega arith), ne_eqb b 120 (λ q. omega arith), ne_eqb b 121 (λ q. omega arith), ne_eqb b 122 (λ q. omega arith))
    c.step_letter.ensures
