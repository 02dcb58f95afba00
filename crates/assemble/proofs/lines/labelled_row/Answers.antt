use native.Mathlib.Omega.{arith}
use mathlib.Core.List.{List}
use mathlib.Core.Path.{◌≡◌, sym, ap, ◌∙◌}
use Prim.Native.Nat.{ℕ}
use borrow.Author.Rules.{rules}
use borrow.Author.Tests.{eq-eqb, ne_eqb}
use lib.ListN.{get_or, get_or-eq_default}
use Rattle.assemble.specs.Grammar.{is_space, forms, tried}
use Rattle.assemble.specs.Reading.{Passed, seen, row_seen}
use Rattle.assemble.proofs.Steps.{tail_whole}
use Rattle.assemble.proofs.lines.labelled_row.Goals as goal

pub returns-in_err-first : goal.returns-in_err-first
returns-in_err-first c =
    let s = c.args.s.now in
    c.from_residual.ensures ∙ rw (get_or-eq_default s 0 {n = 0} (omega (arith, c.in_err-first.ensures.item.3)))

pub returns-then-branch-ne32 : goal.returns-then-branch-ne32
returns-then-branch-ne32 c =
    let s = c.args.s.now in
    let byte : c.in_ok-first.field-0.now ≡ get_or s 0 0 = c.in_ok-first.ensures.item.4 (omega arith) 0 in
    rw (ne_eqb (get_or s 0 0) 32 (λ e. c.if-branch-ne32.true (byte ∙ e)))

pub slice_bounds-word_row-count : goal.slice_bounds-word_row-count
slice_bounds-word_row-count c =
    let p : Passed is_space c.args.s.now 0 c.skip-start.result = c.skip-start.ensures is_space (λ b r e. search rules) in
    p.inside

pub slice_bounds-word_row-start : goal.slice_bounds-word_row-start
slice_bounds-word_row-start c =
    let p : Passed is_space c.args.s.now 0 c.skip-start.result = c.skip-start.ensures is_space (λ b r e. search rules) in
    omega (arith, p.inside)

pub returns : goal.returns
returns c =
    let a = c.args in
    let s = a.s.now in
    let byte : c.in_ok-first.field-0.now ≡ get_or s 0 0 = c.in_ok-first.ensures.item.4 (omega arith) 0 in
    let p : Passed is_space s 0 c.skip-start.result = c.skip-start.ensures is_space (λ b r e. search rules) in
    rw (eq-eqb (get_or s 0 0) 32 (sym byte ∙ c.if-branch-ne32.false))
    (c.word_row.ensures ∙ ap (λ (x : List ℕ). row_seen a.label (seen (tried forms x))) (tail_whole s c.skip-start.result ∙ p.left))
