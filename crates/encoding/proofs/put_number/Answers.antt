-- `encoding::put_number` meets its contract: it writes the digits where they fit, and else leaves the slice.
-- Assumes nothing.
use mathlib.Core.Path.{sym, ◌∙◌}
use Rattle.encoding.specs.Bytes.{written}
use Rattle.encoding.proofs.Numbers.{length-big_endian}
use Rattle.encoding.proofs.put_number.Goals as goal

pub returns-then-inside : goal.returns-then-inside
unfolding written
returns-then-inside c =
    let t = c in
    c.put_digits.ensures ∙ simp (length-big_endian, sym t.inside.ensures ∙ t.if-inside.true)

pub returns-else-inside : goal.returns-else-inside
unfolding written
returns-else-inside c = simp (length-big_endian, sym c.inside.ensures ∙ c.if-inside.false)
