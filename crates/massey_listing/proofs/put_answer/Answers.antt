-- The refusal and the two answers of the call on bytes, each by its law.
use Rattle.massey_listing.proofs.Answers.{written-answer, refused-answer, not_whole}
use Rattle.massey_listing.proofs.put_answer.Goals as goal

pub returns-then-not-whole : goal.returns-then-not-whole
returns-then-not-whole c =
    let s = c.args in
    rw (c.if-not-whole.true) (not_whole s.input.now s.out.now (rw c.number.ensures at c.put_refusal.ensures))

pub returns-in-Ok : goal.returns-in-Ok
returns-in-Ok c =
    let s = c.args in
    rw (c.if-not-whole.false) (written-answer s.input.now s.out.now c.in-Ok.ensures)

pub returns-in-Err : goal.returns-in-Err
returns-in-Err c =
    let s = c.args in
    rw (c.if-not-whole.false)
    (refused-answer s.input.now s.out.now c.in-Err.refusal c.in-Err.ensures (rw c.number-in-Err.ensures at c.put_refusal-in-Err.ensures))
