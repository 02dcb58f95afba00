use native.Mathlib.Omega.{arith}
use mathlib.Core.List.{List}
use mathlib.Core.Path.{◌≡◌, sym, ap, ◌∙◌}
use Prim.Native.Nat.{ℕ}
use borrow.Author.Rules.{rules}
use lib.ListN.{take}
use lib.Seq.{length-take-le}
use Rattle.assemble.specs.Grammar.{front, behind, is_space}
use Rattle.assemble.specs.Lines.{no_comment, read_body, read_line}
use Rattle.assemble.specs.Reading.{Passed, row}
use Rattle.assemble.proofs.Steps.{tail_whole, passed_front}
use Rattle.assemble.proofs.lines.line_row.Goals as goal

pub slice_bounds-cut-end : goal.slice_bounds-cut-end
slice_bounds-cut-end c =
    let n : Passed no_comment c.args.s.now 0 c.skip-end.result = c.skip-end.ensures no_comment (λ b r e. search rules) in
    sym (length-take-le c.skip-end.result c.args.s.now n.inside)

pub slice_bounds-body_row-count : goal.slice_bounds-body_row-count
slice_bounds-body_row-count c =
    let p : Passed is_space (take c.skip-end.result c.args.s.now) 0 c.skip-start.result = c.skip-start.ensures is_space (λ b r e. search rules) in
    p.inside

pub slice_bounds-body_row-start : goal.slice_bounds-body_row-start
slice_bounds-body_row-start c =
    let p : Passed is_space (take c.skip-end.result c.args.s.now) 0 c.skip-start.result = c.skip-start.ensures is_space (λ b r e. search rules) in
    omega (arith, p.inside)

pub returns : goal.returns
unfolding read_line
returns c =
    let s = c.args.s.now in
    let n : Passed no_comment s 0 c.skip-end.result = c.skip-end.ensures no_comment (λ b r e. search rules) in
    let p : Passed is_space (take c.skip-end.result s) 0 c.skip-start.result = c.skip-start.ensures is_space (λ b r e. search rules) in
    let cut : take c.skip-end.result s ≡ front no_comment s = passed_front n in
    c.body_row.ensures ∙ ap (λ (x : List ℕ). row (read_body x)) (tail_whole _ c.skip-start.result ∙ p.left ∙ ap (behind is_space) cut)
