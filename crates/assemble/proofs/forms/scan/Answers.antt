use native.Mathlib.Omega.{arith}
use mathlib.Core.Path.{sym, ◌∙◌}
use borrow.Author.Rules.{rules}
use lib.ListN.{drop_of_length-le}
use lib.Seq.{drop-cons}
use Rattle.std.specs.Prelude.{Some, None}
use Rattle.assemble.specs.Grammar.{is_space}
use Rattle.assemble.specs.Reading.{Passed}
use Rattle.assemble.proofs.Steps.{scan-turn, scan_last}
use Rattle.assemble.proofs.forms.scan.Goals as goal

pub step-requires : goal.step-requires
step-requires c = let v = c.loop-b.invariant in (v.inside, omega (arith, v.light, c.requires))

pub returns-in_err-spot : goal.returns-in_err-spot
returns-in_err-spot c =
    let a = c.args in
    let l = c.loop-b in
    c.from_residual.ensures ∙ sym (scan-turn a.pattern.now a.s.now l.b-index l.spot None c.loop-b-test.true c.in_err-spot.ensures) ∙ l.invariant.reads

pub loop-b-preserved : goal.loop-b-preserved
loop-b-preserved c =
    let a = c.args in
    let l = c.loop-b in
    let n = c.in_ok-spot in
    record {
      inside = n.ensures.inside;
      light = omega (arith, n.ensures.light, l.invariant.light);
      reads = sym (scan-turn a.pattern.now a.s.now l.b-index l.spot (Some n.spot) c.loop-b-test.true n.ensures) ∙ l.invariant.reads;
    }

pub skip-end-requires : goal.skip-end-requires
skip-end-requires c = search rules

pub returns-then-end-s : goal.returns-then-end-s
returns-then-end-s c =
    let a = c.args in
    let l = c.loop-b in
    let p : Passed is_space a.s.now l.spot.at c.skip-end.result = c.skip-end.ensures is_space (λ b r e. search rules) in
    let e = sym (scan_last a.pattern.now a.s.now l.b-index l.spot c.skip-end.result (omega arith) p) ∙ l.invariant.reads in
    rw (drop-cons a.s.now c.skip-end.result 0 c.if-end-s.true) at e

pub returns : goal.returns
returns c =
    let a = c.args in
    let l = c.loop-b in
    let p : Passed is_space a.s.now l.spot.at c.skip-end.result = c.skip-end.ensures is_space (λ b r e. search rules) in
    let e = sym (scan_last a.pattern.now a.s.now l.b-index l.spot c.skip-end.result (omega arith) p) ∙ l.invariant.reads in
    rw (drop_of_length-le a.s.now {i = c.skip-end.result} c.if-end-s.false) at e
