use native.Mathlib.Omega.{arith}
use native.Mathlib.Numerals.{add-one}
use mathlib.Core.Path.{◌≡◌, sym, ◌∙◌}
use borrow.Author.Tests.{eq-eqb, ne_eqb, ltb-true, ltb-false}
use borrow.Author.Rules.{rules}
use lib.ListN.{length, get_or, drop_of_length-le}
use lib.Seq.{drop-cons}
use Prim.Native.Nat.{◌≤◌, ◌<◌}
use Rattle.assemble.specs.Reading.{keyed}
use Rattle.assemble.proofs.forms.step_letter.Goals as goal

pub returns-in_err-get : goal.returns-in_err-get
unfolding keyed
returns-in_err-get c =
    let a = c.args in
    let past : length a.s.now ≤ a.spot.at = ltb-false _ _ (sym c.in_err-get.ensures.lookup.0) in
    rw c.from_residual.ensures (record { inside = tt; light = tt; reads = λ t. rw (drop_of_length-le a.s.now {i = a.spot.at} past) })

pub returns-then-branch-c : goal.returns-then-branch-c
unfolding keyed
returns-then-branch-c c =
    let a = c.args in
    let there : a.spot.at < length a.s.now = ltb-true _ _ (sym c.in_ok-get.ensures.lookup.0) in
    let byte : c.in_ok-get.field-0.now ≡ get_or a.s.now a.spot.at 0 = c.in_ok-get.ensures.lookup.4 (omega arith) 0 in
    record { inside = tt; light = tt; reads = λ t. rw (drop-cons a.s.now a.spot.at 0 there, ne_eqb (get_or a.s.now a.spot.at 0) a.c (λ e. c.if-branch-c.true (byte ∙ e))) }

pub returns : goal.returns
unfolding keyed
returns c =
    let a = c.args in
    let there : a.spot.at < length a.s.now = ltb-true _ _ (sym c.in_ok-get.ensures.lookup.0) in
    let byte : c.in_ok-get.field-0.now ≡ get_or a.s.now a.spot.at 0 = c.in_ok-get.ensures.lookup.4 (omega arith) 0 in
    record { inside = omega (arith, there); light = search rules; reads = λ t. rw (add-one, drop-cons a.s.now a.spot.at 0 there, eq-eqb (get_or a.s.now a.spot.at 0) a.c (sym byte ∙ c.if-branch-c.false)) }
