-- Assumes nothing.
use Prim.Native.Nat.{ℕ, ◌≤◌}
use native.Mathlib.Omega.{arith}
use mathlib.Core.Path.{◌≡◌, ap, ◌∙◌}
use Rattle.encoding.specs.Answer.{Outcome, Told}
use Rattle.secret.specs.Program.{bytes_outcome}
use Rattle.secret.specs.Widths.{report_limit}
use Rattle.secret.proofs.Programs.{bytes_at_most}
use Rattle.massey.specs.Calls.{number_of, reported_outcome}
use Rattle.massey.proofs.Answers.{numbered, small, length_read, refusal_read}
use Rattle.massey.proofs.massey_report.Goals as goal
use Rattle.massey.proofs.massey_report.Goals.{In-Ok}

most : (c : In-Ok) → c.in-Ok.size ≤ report_limit
most c =
    let s = c.args in
    let size : c.in-Ok.size ≡ (bytes_outcome s.input.now s.out.now).answer.length = ap (λ (o : Outcome Told). o.answer.length) c.in-Ok.ensures in
    omega (arith, bytes_at_most s.input.now s.out.now)

pub overflow_cast-result : goal.overflow_cast-result
overflow_cast-result c = small (most c)

pub returns-in-Ok : goal.returns-in-Ok
unfolding reported_outcome
returns-in-Ok c = numbered (length_read (most c)) c.in-Ok.ensures

pub returns-in-Err : goal.returns-in-Err
unfolding reported_outcome
returns-in-Err c = numbered (refusal_read (omega (arith, c.number.type_inv)) ∙ ap (λ (n : ℕ). number_of n 0) c.number.ensures) c.in-Err.ensures
