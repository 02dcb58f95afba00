-- Assumes nothing.
use native.Mathlib.Omega.{arith}
use mathlib.Core.Path.{◌≡◌, sym, ap, ◌∙◌}
use mathlib.Core.List.{[]}
use borrow.Author.Rules.{rules}
use lib.ListN.{drop, drop_of_length-le}
use lib.Seq.{drop-drop}
use Rattle.assemble.specs.Reading.{in_line, Passed}
use Rattle.assemble.proofs.text.line_at.Goals as goal

pub returns-then-end-s : goal.returns-then-end-s
returns-then-end-s c =
    let s = c.args.s.now in
    let e = c.skip-end.result in
    let p : Passed in_line s c.args.at e = c.skip-end.ensures in_line (λ b r q. search rules) in
    record { begun = p.ahead; inside = p.inside; further = omega (arith, p.ahead); within = omega arith; line = p.passed; rest = sym (drop-drop 1 e s) ∙ ap (drop 1) p.left }

pub returns : goal.returns
returns c =
    let s = c.args.s.now in
    let e = c.skip-end.result in
    let p : Passed in_line s c.args.at e = c.skip-end.ensures in_line (λ b r q. search rules) in
    let z : drop e s ≡ [] = drop_of_length-le s {i = e} c.if-end-s.false in
    record { begun = p.ahead; inside = p.inside; further = omega (arith, c.requires); within = p.inside; line = p.passed; rest = z ∙ sym (ap (drop 1) z) ∙ ap (drop 1) p.left }
