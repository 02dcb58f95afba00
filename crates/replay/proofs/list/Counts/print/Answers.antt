-- The line of two counts has room, so all of it is written and nothing else.
use Rattle.std.proofs.Common.{ℕ, ◌≡◌, ◌≤◌, length, take, ap, ◌∙◌, arith}
use lib.ListN.{replicate}
use Rattle.encoding.specs.Answer.{Outcome}
use Rattle.answer.specs.Line.{counts_line}
use Rattle.answer.proofs.Answers.{writes-answer, length-counts}
use Rattle.replay.proofs.list.Counts.print.Goals as goal

pub returns : goal.returns
returns g c =
    let s = c.args.self in
    let line = counts_line s.passed s.failed in
    let room : length line ≤ 64 = omega (arith, length-counts s.passed s.failed) in
    let e : c.first.result.now ≡ line = c.first.ensures ∙ ap (λ (o : Outcome ℕ). take o.answer o.buffer) c.put_counts-size.ensures ∙ writes-answer line (replicate 64 0) room in
    rw e at c.write_all.ensures.bytes
