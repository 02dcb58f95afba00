-- `encoding::put_bytes` meets its contract: it copies where the bytes fit, and else leaves the slice.
-- Assumes nothing.
use mathlib.Core.Path.{sym, ◌∙◌}
use borrow.Author.Tests.{leb-true}
use Rattle.encoding.specs.Bytes.{written}
use Rattle.encoding.proofs.Written.{part_over}
use Rattle.encoding.proofs.put_bytes.Goals as goal

pub returns-then-inside : goal.returns-then-inside
unfolding written
returns-then-inside c =
    let t = c in
    part_over c.args.out.now c.args.at c.args.bytes.now (leb-true _ _ (sym t.inside.ensures ∙ t.if-inside.true)) c.copy_from_slice.ensures.after
    ∙ simp (sym t.inside.ensures ∙ t.if-inside.true)
