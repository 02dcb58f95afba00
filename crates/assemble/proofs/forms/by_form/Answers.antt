-- Assumes nothing.
use Rattle.assemble.specs.Grammar.{forms}
use native.Mathlib.Omega.{arith}
use mathlib.Core.Path.{◌≡◌}
use Rattle.assemble.proofs.forms.by_form.Goals as goal

pub returns-in-0 : goal.returns-in-0
unfolding forms
returns-in-0 c = rw c.in-0.is c.scan.ensures

pub returns-in-1 : goal.returns-in-1
unfolding forms
returns-in-1 c = rw c.in-1.is c.scan-in-1.ensures

pub returns-in-2 : goal.returns-in-2
unfolding forms
returns-in-2 c = rw c.in-2.is c.scan-in-2.ensures

pub returns-in-3 : goal.returns-in-3
unfolding forms
returns-in-3 c = rw c.in-3.is c.scan-in-3.ensures

pub returns-in-4 : goal.returns-in-4
unfolding forms
returns-in-4 c = rw c.in-4.is c.scan-in-4.ensures

pub returns-in-5 : goal.returns-in-5
unfolding forms
returns-in-5 c = rw c.in-5.is c.scan-in-5.ensures

pub returns-in-6 : goal.returns-in-6
unfolding forms
returns-in-6 c = rw c.in-6.is c.scan-in-6.ensures

pub returns-in-7 : goal.returns-in-7
unfolding forms
returns-in-7 c = rw c.in-7.is c.scan-in-7.ensures

pub returns-in-8 : goal.returns-in-8
unfolding forms
returns-in-8 c = rw c.in-8.is c.scan-in-8.ensures

pub returns-in-9 : goal.returns-in-9
unfolding forms
returns-in-9 c = rw c.in-9.is c.scan-in-9.ensures

pub returns-in-10 : goal.returns-in-10
unfolding forms
returns-in-10 c = rw c.in-10.is c.scan-in-10.ensures

pub returns-in-11 : goal.returns-in-11
unfolding forms
returns-in-11 c = rw c.in-11.is c.scan-in-11.ensures

pub returns-in-12 : goal.returns-in-12
unfolding forms
returns-in-12 c = rw c.in-12.is c.scan-in-12.ensures

pub returns-in-13 : goal.returns-in-13
unfolding forms
returns-in-13 c = rw c.in-13.is c.scan-in-13.ensures

pub returns-in-14 : goal.returns-in-14
unfolding forms
returns-in-14 c = rw c.in-14.is c.scan-in-14.ensures

pub returns-in-15 : goal.returns-in-15
unfolding forms
returns-in-15 c = rw c.in-15.is c.scan-in-15.ensures

pub returns-in_default : goal.returns-in_default
unfolding forms
returns-in_default c =
    let h : c.args.f ≡ 16 = omega arith in
    rw h c.scan-in_default.ensures
