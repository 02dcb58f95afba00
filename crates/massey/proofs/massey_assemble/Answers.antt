-- Assumes nothing.
use Prim.Native.Nat.{ℕ, ◌≤◌}
use native.Mathlib.Omega.{arith}
use mathlib.Core.Path.{◌≡◌, ap, ◌∙◌}
use Rattle.encoding.specs.Answer.{Outcome, Told}
use Rattle.assemble.specs.Answer as assembler
use Rattle.assemble.proofs.Answers.{bytes_at_most}
use Rattle.secret.specs.Widths.{report_limit}
use Rattle.massey.specs.Calls.{number_of, assembled_outcome}
use Rattle.massey.proofs.Answers.{numbered, small, length_read, refusal_read}
use Rattle.massey.proofs.massey_assemble.Goals as goal
use Rattle.massey.proofs.massey_assemble.Goals.{In-Ok}

most : (c : In-Ok) → c.in-Ok.size ≤ report_limit
most c =
    let s = c.args in
    let size : c.in-Ok.size ≡ (assembler.bytes_outcome s.text.now s.out.now).answer.length = ap (λ (o : Outcome Told). o.answer.length) c.in-Ok.ensures in
    omega (arith, bytes_at_most s.text.now s.out.now)

pub overflow_cast-result : goal.overflow_cast-result
overflow_cast-result c = small (most c)

pub returns-in-Ok : goal.returns-in-Ok
unfolding assembled_outcome
returns-in-Ok c = numbered (length_read (most c)) c.in-Ok.ensures

pub returns-in-Err : goal.returns-in-Err
unfolding assembled_outcome
returns-in-Err c = numbered (refusal_read (omega (arith, c.number.type_inv)) ∙ ap (λ (n : ℕ). number_of n 0) c.number.ensures) c.in-Err.ensures
