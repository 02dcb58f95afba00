-- The line is its two pieces, one behind the other.
use Rattle.std.proofs.Common.{ℕ, List, ◌++◌, ◌∙◌, ap, arith}
use lib.ListN.{replicate}
use Rattle.isa.specs.Text.{ascii}
use Rattle.isa.specs.Format.{decimal}
use Rattle.answer.specs.Line.{counts_line}
use Rattle.answer.specs.Answer.{answer_outcome}
use Rattle.answer.proofs.Lines.{two_pieces}
use Rattle.answer.proofs.put_counts.Goals as goal

pub returns : goal.returns
unfolding counts_line
returns c =
    let a = c.args in
    let m = c.put_numbered-middle in
    let s = c.put_numbered-size in
    c.put_whole.ensures
    ∙ ap (λ (l : List ℕ). answer_outcome l a.out.now)
    (two_pieces (replicate 64 0) (decimal 20 a.passed ++ ascii " passed, ") (decimal 20 a.failed ++ ascii " failed\n") m.result (omega (arith, m.ensures.value)) (omega (arith, m.ensures.upper_bound)) m.ensures.line_after s.ensures.line_after s.ensures.value c.first.ensures)
