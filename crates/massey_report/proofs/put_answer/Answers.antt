-- The answer is what the call on bytes tells.
use Rattle.std.proofs.Common.{◌∙◌}
use Rattle.massey_report.proofs.Answers.{failed_answer, written-answer, refused-answer}
use Rattle.massey_report.proofs.put_answer.Goals as goal

pub returns-then-not-whole : goal.returns-then-not-whole
returns-then-not-whole c =
    let s = c.args in
    c.put_refusal.ensures ∙ failed_answer s.input.now s.out.now c.if-not-whole.true

pub returns-in-Ok : goal.returns-in-Ok
returns-in-Ok c =
    let s = c.args in
    written-answer s.input.now s.out.now c.if-not-whole.false c.in-Ok.ensures

pub returns-in-Err : goal.returns-in-Err
returns-in-Err c =
    let s = c.args in
    c.put_refusal-in-Err.ensures ∙ rw c.number.ensures (refused-answer s.input.now s.out.now c.if-not-whole.false c.in-Err.refusal c.in-Err.ensures)
