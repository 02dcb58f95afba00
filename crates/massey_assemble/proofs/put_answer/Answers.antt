-- The two refusals of the program and the two answers of the call on bytes, each by its law.
use Rattle.std.proofs.Common.{arith}
use Rattle.massey_assemble.proofs.Answers.{written-answer, refused-answer, not_whole, too_long}
use Rattle.massey_assemble.proofs.put_answer.Goals as goal

pub returns-then-not-whole : goal.returns-then-not-whole
returns-then-not-whole c =
    let s = c.args in
    rw (c.if-not-whole.true) (not_whole s.text.now s.out.now (rw c.number.ensures at c.put_refusal.ensures))

pub returns-then-text-gt-TEXT : goal.returns-then-text-gt-TEXT
returns-then-text-gt-TEXT c =
    let s = c.args in
    rw (c.if-not-whole.false) (too_long s.text.now s.out.now (omega arith) (rw c.number-then-text-gt-TEXT.ensures at c.put_refusal-then-text-gt-TEXT.ensures))

pub returns-in-Ok : goal.returns-in-Ok
returns-in-Ok c =
    let s = c.args in
    rw (c.if-not-whole.false) (written-answer s.text.now s.out.now c.in-Ok.size (omega arith) c.in-Ok.ensures)

pub returns-in-Err : goal.returns-in-Err
returns-in-Err c =
    let s = c.args in
    rw (c.if-not-whole.false)
    (refused-answer s.text.now s.out.now c.in-Err.refusal (omega arith) c.in-Err.ensures (rw c.number-in-Err.ensures at c.put_refusal-in-Err.ensures))
