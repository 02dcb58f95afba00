-- Assumes nothing.
use mathlib.Core.Bool.{true, false}
use mathlib.Core.Path.{sym, ◌∙◌}
use Rattle.assemble.proofs.Answers.{linked_by}
use Rattle.assemble.proofs.links.link.Goals as goal

pub returns-then-twice : goal.returns-then-twice
returns-then-twice c =
    let a = c.args in
    linked_by a.entries.now true (sym c.twice.ensures ∙ c.if-twice.true)

pub returns : goal.returns
returns c =
    let a = c.args in
    c.resolve.ensures ∙ linked_by a.entries.now false (sym c.twice.ensures ∙ c.if-twice.false)
