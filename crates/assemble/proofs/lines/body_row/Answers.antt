use mathlib.Core.Path.{sym, ap, ◌∙◌}
use Prim.Native.Nat.{◌+◌}
use borrow.Author.Rules.{rules}
use borrow.Author.Tests.{eqb-true, eqb-false}
use lib.ListN.{drop}
use lib.Seq.{drop-drop}
use Rattle.assemble.specs.Grammar.{is_name_byte}
use Rattle.assemble.specs.Reading.{Passed, row_after}
use Rattle.assemble.proofs.Steps.{tail_whole}
use Rattle.assemble.proofs.Rows.{body-none, body-some, labelled-none, labelled-some}
use Rattle.assemble.proofs.lines.body_row.Goals as goal

pub returns-then-is_empty : goal.returns-then-is_empty
returns-then-is_empty c = sym (body-none c.args.s.now (eqb-true _ 0 (sym c.is_empty.ensures ∙ c.if-is_empty.true)))

pub colon_label-requires : goal.colon_label-requires
colon_label-requires c = c.skip-end.ensures is_name_byte (λ b r e. search rules)

pub returns-in-Some : goal.returns-in-Some
returns-in-Some c =
    let s = c.args.s.now in
    let e = c.skip-end.result in
    let p : Passed is_name_byte s 0 e = c.skip-end.ensures is_name_byte (λ b r q. search rules) in
    let z = labelled-some s c.in-Some.label (sym c.colon_label.ensures.key ∙ c.in-Some.is) in
    c.labelled_row.ensures ∙ ap (row_after c.in-Some.label) (tail_whole s (e + 1) ∙ sym (drop-drop 1 e s) ∙ ap (drop 1) p.left) ∙ rw z.1 (sym (rw z.0 at (body-some s (eqb-false _ 0 (sym c.is_empty.ensures ∙ c.if-is_empty.false)))))

pub returns-in-None : goal.returns-in-None
returns-in-None c =
    let s = c.args.s.now in
    let z = labelled-none s (sym c.colon_label.ensures.key ∙ c.in-None.is) in
    c.word_row.ensures ∙ sym (rw z at (body-some s (eqb-false _ 0 (sym c.is_empty.ensures ∙ c.if-is_empty.false))))
