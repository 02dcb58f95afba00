-- What is answered, by the tests of the run and of the buffer.
-- Assumes nothing.
use native.Mathlib.Omega.{arith}
use mathlib.Core.Path.{◌≡◌, refl, sym, ap, ◌∙◌}
use borrow.Author.Rules.{rules}
use Rattle.std.proofs.lemmas.Result.{err_from_is_err_and}
use Rattle.marks.specs.Owners.{hidden_from}
use Rattle.marks.specs.Total.{hidden_count}
use Rattle.vm.specs.Guard.{GuardedAnswer, served_answer, refused_answer, guarded_answer}
use Rattle.vm.proofs.GuardedStarts.{answer_served, answer-refusal}
use Rattle.guard.specs.Input.{Input, input_from, input_refusal}
use Rattle.secret.specs.Forms.{end_from}
use Rattle.secret.proofs.Accepts.{input_accepted}
use Rattle.secret.proofs.Calls.{reportable, call-refused, call-short, call_served}
use Rattle.secret.proofs.Wholes.{whole_served}
use Rattle.report.proofs.call.report.Goals as goal

-- what the run of an input answers
module _ (i : Input) {a : GuardedAnswer} (e : a ≡ guarded_answer i) where
  number : a.refused ≡ input_refusal i
  number = ap (λ (x : GuardedAnswer). x.refused) e ∙ answer-refusal i

  module _ (z : 0 ≡ a.refused) where
    accepted : input_refusal i ≡ 0
    accepted = sym (z ∙ number)

    answer : a ≡ served_answer i
    answer = e ∙ answer_served i accepted

pub returns-in_err-run : goal.returns-in_err-run
unfolding refused_answer
returns-in_err-run c =
    let a = c.args in
    let i = input_from a.image.now a.marks.now a.budget.0 a.breakpoints.now a.clearance in
    let p = err_from_is_err_and c.from_residual.result c.from_residual.ensures.1 in
    rw (p.1, p.2) (call-refused i a.out.now c.in_err-run.field-0.0 (number i c.in_err-run.ensures.answer))

pub returns-then-out-lt-REPORT_LENGTH : goal.returns-then-out-lt-REPORT_LENGTH
returns-then-out-lt-REPORT_LENGTH c =
    let a = c.args in
    let i = input_from a.image.now a.marks.now a.budget.0 a.breakpoints.now a.clearance in
    call-short i a.out.now (accepted i c.in_ok-run.ensures.answer refl) c.if-out-lt-REPORT_LENGTH.true

pub put_input-requires : goal.put_input-requires
put_input-requires c =
    let a = c.args in
    let i = input_from a.image.now a.marks.now a.budget.0 a.breakpoints.now a.clearance in
    let s = input_accepted i (accepted i c.in_ok-run.ensures.answer refl) in
    (omega (arith, s.few), s.full)

pub overflow_add-at : goal.overflow_add-at
overflow_add-at c =
    let a = c.args in
    let i = input_from a.image.now a.marks.now a.budget.0 a.breakpoints.now a.clearance in
    let s = input_accepted i (accepted i c.in_ok-run.ensures.answer refl) in
    omega (arith, s.few)

pub put_run-requires : goal.put_run-requires
put_run-requires c =
    let a = c.args in
    let i = input_from a.image.now a.marks.now a.budget.0 a.breakpoints.now a.clearance in
    let r = c.in_ok-run.run' in
    let s = input_accepted i (accepted i c.in_ok-run.ensures.answer refl) in
    let e = answer i c.in_ok-run.ensures.answer refl in
    let m = reportable r.machine c.in_ok-run.ensures.machine i (search rules) (search rules) (ap (λ (a : GuardedAnswer). a.guarded.machine) e) in (
      omega (arith, s.few, m.trace, m.touched),
      m,
      ap (λ (a : GuardedAnswer). a.hidden_total) e ∙ ap (λ (x : GuardedAnswer). hidden_count (hidden_from a.clearance) x.guarded.marks.memory) (sym e),
    )

pub returns : goal.returns
returns c =
    let a = c.args in
    let i = input_from a.image.now a.marks.now a.budget.0 a.breakpoints.now a.clearance in
    let r = c.in_ok-run.run' in
    let z = accepted i c.in_ok-run.ensures.answer refl in
    let s = input_accepted i z in
    let e = answer i c.in_ok-run.ensures.answer refl in
    let m = reportable r.machine c.in_ok-run.ensures.machine i (search rules) (search rules) (ap (λ (a : GuardedAnswer). a.guarded.machine) e) in
    call_served i a.out.now (end_from r.stop r.machine r.marks.registers r.marks.memory r.marks.mdr) (ap (λ (e : GuardedAnswer). e.stop) e) (ap (λ (e : GuardedAnswer). e.guarded) e) z c.if-out-lt-REPORT_LENGTH.false
    (whole_served i r.stop r.machine m r.marks.registers r.marks.memory r.marks.mdr a.out.now (omega (arith, s.few)) c.put_run.ensures.0 (c.put_run.ensures.1 ∙ rw c.put_input.ensures))
