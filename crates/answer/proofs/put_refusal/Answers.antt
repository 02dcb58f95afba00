-- The line is its two pieces, one behind the other.
use Rattle.std.proofs.Common.{ℕ, List, ◌++◌, ◌∙◌, refl, ap, lit≤}
use lib.ListN.{replicate}
use Rattle.isa.specs.Text.{ascii}
use Rattle.isa.specs.Format.{decimal}
use Rattle.encoding.proofs.Written.{written-fits}
use Rattle.answer.specs.Line.{refusal_line}
use Rattle.answer.specs.Answer.{answer_outcome}
use Rattle.answer.proofs.Lines.{two_pieces}
use Rattle.answer.proofs.put_refusal.Goals as goal

pub returns : goal.returns
unfolding refusal_line
returns c =
    let a = c.args in
    let n = c.put_numbered-size in
    let d : List ℕ = replicate 64 0 in
    c.put_whole.ensures
    ∙ ap (λ (l : List ℕ). answer_outcome l a.out.now)
    (two_pieces d (ascii "refused ") (decimal 20 a.number ++ ascii "\n") 8 refl (lit≤ tt) (c.put_bytes.ensures ∙ written-fits d 0 (ascii "refused ") (lit≤ tt)) n.ensures.line_after n.ensures.value c.first.ensures)
