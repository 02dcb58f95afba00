-- Assumes nothing.
use native.Mathlib.Omega.{arith}
use mathlib.Core.Path.{refl, sym, ap, ◌∙◌}
use lib.ListN.{length, get_or, take, length-set}
use lib.Seq.{take_all}
use mir.Val.{Fits}
use mir.Syntax.{w8}
use borrow.Author.Rules.{rules}
use Rattle.control.proofs.Addresses.{of_memory}
use Rattle.trace.specs.Touched.{distinct}
use Rattle.trace.proofs.Lists.{distinct_snoc}
use Rattle.trace.proofs.Checks.{dup, split, one_more_lem, seen_next, is_seen, not_seen, empty_table, none_twice, none_there}
use Rattle.vm.proofs.refusal.all_different.Goals as goal

pub loop-item-init : goal.loop-item-init
loop-item-init c = (refl, none_twice, λ a h. rw (none_there a) (empty_table a))

pub returns-then-seen-a-eq1-clause-answer : goal.returns-then-seen-a-eq1-clause-answer
returns-then-seen-a-eq1-clause-answer c =
    let l = c.loop-item in
    let i = l.item-index in
    let live = take c.args.n c.args.items.now in
    let x = get_or live i 0 in
    let p = take i live in
    let b : Fits w8 x = search rules in
    let d = dup x p _ (is_seen l.seen p x l.invariant.0 (of_memory b) l.invariant.2 c.if-seen-a-eq1.true) in
    sym d ∙ ap distinct (sym (split live i (length live) c.loop-item-test.true (omega arith)) ∙ take_all (length live) live (omega arith))

pub loop-item-preserved : goal.loop-item-preserved
loop-item-preserved c =
    let l = c.loop-item in
    let i = l.item-index in
    let live = take c.args.n c.args.items.now in
    let x = get_or live i 0 in
    let p = take i live in
    let b : Fits w8 x = search rules in
    let m = not_seen l.seen p x l.invariant.0 (of_memory b) l.invariant.2 c.if-seen-a-eq1.false in
    let o = one_more_lem live i c.loop-item-test.true in
    (simp length-set l.invariant.0, rw o (distinct_snoc x p l.invariant.1 m), λ a h. rw o (seen_next l.seen p x l.invariant.0 l.invariant.2 a h))

pub returns-clause-answer : goal.returns-clause-answer
returns-clause-answer c =
    let l = c.loop-item in
    let live = take c.args.n c.args.items.now in
    sym l.invariant.1 ∙ ap distinct (take_all l.item-index live (omega arith))

pub returns-clause-below : goal.returns-clause-below
returns-clause-below c = λ _ i. let b : Fits w8 (get_or c.args.items.now i 0) = search rules in of_memory b
