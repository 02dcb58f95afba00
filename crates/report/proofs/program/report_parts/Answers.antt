-- What is read is what `specs/Program.antt` has.
-- Assumes nothing.
use mathlib.Core.Path.{◌≡◌, sym, ap, ◌∙◌}
use native.Mathlib.Omega.{arith}
use borrow.Author.Tests.{eqb-true}
use lib.ListN.{length, drop, replicate}
use Rattle.std.proofs.lemmas.Result.{err_from_is_err_and}
use Rattle.encoding.specs.Bytes.{numbers}
use Rattle.guard.specs.Input.{Input}
use Rattle.secret.specs.Outcome.{report_outcome}
use Rattle.secret.specs.Program.{length_due, bytes_refusal}
use Rattle.secret.proofs.Programs.{refusal_read, input_read, words_read, bytes-refused, bytes_served}
use Rattle.report.proofs.program.report_parts.Goals as goal

pub returns-in_err-first_refusal : goal.returns-in_err-first_refusal
returns-in_err-first_refusal c =
    let a = c.args in
    let r = c.in_err-first_refusal in
    let p = err_from_is_err_and c.from_residual.result c.from_residual.ensures.1 in
    rw (p.1, p.2) (bytes-refused a.input.now a.out.now r.field-0.0 (r.ensures.number ∙ refusal_read a.input.now c.get_count-n.ensures.value c.get_count-count.ensures.value c.get_number.ensures (length a.out.now)))

pub returns : goal.returns
returns c =
    let b = c.args.input.now in
    let out = c.args.out.now in
    let n = c.get_count-n in
    let count = c.get_count-count in
    let budget = c.get_number in
    let served : bytes_refusal b (length out) ≡ 0 = sym (c.in_ok-first_refusal.ensures.number ∙ refusal_read b n.ensures.value count.ensures.value budget.ensures (length out)) in
    let words : c.get_words.new.out ≡ numbers 2 n.result (drop 2 b) =
    let all : length b ≡ length_due n.result count.result = eqb-true _ _ c.in_ok-first_refusal.ensures.served.1 in
    words_read b (replicate 256 0) 2 c.in_ok-first_refusal.ensures.served.0 (omega arith) c.get_words.ensures in
    c.report.ensures
    ∙ ap (λ (i : Input). report_outcome i out) (input_read b n.ensures.value count.ensures.value budget.ensures words)
    ∙ bytes_served b out served
