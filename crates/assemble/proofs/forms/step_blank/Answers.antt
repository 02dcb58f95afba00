use native.Mathlib.Omega.{arith}
use native.Mathlib.Numerals.{add-one}
use mathlib.Core.Path.{◌≡◌, sym, ◌∙◌}
use borrow.Author.Tests.{eq-eqb, ne_eqb, ltb-true, ltb-false}
use borrow.Author.Rules.{rules}
use lib.ListN.{length, get_or, drop_of_length-le}
use lib.Seq.{drop-cons}
use Prim.Native.Nat.{◌+◌, ◌≤◌, ◌<◌}
use Rattle.assemble.specs.Grammar.{is_space}
use Rattle.assemble.specs.Reading.{keyed, Passed}
use Rattle.assemble.proofs.forms.step_blank.Goals as goal

pub returns-in_err-get : goal.returns-in_err-get
unfolding keyed
returns-in_err-get c =
    let a = c.args in
    let past : length a.s.now ≤ a.spot.at = ltb-false _ _ (sym c.in_err-get.ensures.lookup.0) in
    rw c.from_residual.ensures (record { inside = tt; light = tt; reads = λ t. rw (drop_of_length-le a.s.now {i = a.spot.at} past) })

pub returns-then-branch-ne32 : goal.returns-then-branch-ne32
unfolding keyed
returns-then-branch-ne32 c =
    let a = c.args in
    let there : a.spot.at < length a.s.now = ltb-true _ _ (sym c.in_ok-get.ensures.lookup.0) in
    let byte : c.in_ok-get.field-0.now ≡ get_or a.s.now a.spot.at 0 = c.in_ok-get.ensures.lookup.4 (omega arith) 0 in
    record { inside = tt; light = tt; reads = λ t. rw (drop-cons a.s.now a.spot.at 0 there, ne_eqb (get_or a.s.now a.spot.at 0) 32 (λ e. c.if-branch-ne32.true (byte ∙ e))) }

pub returns : goal.returns
unfolding keyed
returns c =
    let a = c.args in
    let there : a.spot.at < length a.s.now = ltb-true _ _ (sym c.in_ok-get.ensures.lookup.0) in
    let byte : c.in_ok-get.field-0.now ≡ get_or a.s.now a.spot.at 0 = c.in_ok-get.ensures.lookup.4 (omega arith) 0 in
    let p : Passed is_space a.s.now (a.spot.at + 1) c.skip-end.result = c.skip-end.ensures is_space (λ b r e. search rules) in
    record { inside = p.inside; light = search rules; reads = λ t. rw (p.left, add-one, drop-cons a.s.now a.spot.at 0 there, eq-eqb (get_or a.s.now a.spot.at 0) 32 (sym byte ∙ c.if-branch-ne32.false)) }
