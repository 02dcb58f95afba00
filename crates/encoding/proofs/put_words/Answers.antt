-- `encoding::put_words` meets its contract: it writes the words where they fit, and else leaves the slice.
-- Assumes nothing.
use mathlib.Core.Path.{sym, ◌∙◌}
use Rattle.encoding.specs.Bytes.{written}
use Rattle.encoding.proofs.Numbers.{length-big_endians}
use Rattle.encoding.proofs.put_words.Goals as goal

pub returns-then-inside : goal.returns-then-inside
unfolding written
returns-then-inside c =
    let t = c in
    c.put_each.ensures ∙ simp (length-big_endians, sym t.inside.ensures ∙ t.if-inside.true)

pub returns-else-inside : goal.returns-else-inside
unfolding written
returns-else-inside c = simp (length-big_endians, sym c.inside.ensures ∙ c.if-inside.false)
