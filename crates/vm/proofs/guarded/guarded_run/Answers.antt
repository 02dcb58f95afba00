-- A new machine, run in its place; its marks are counted once.
-- Assumes nothing.
use native.Mathlib.Omega.{arith}
use mathlib.Core.Path.{◌≡◌, ap, sym, ◌∙◌}
use Rattle.std.proofs.Common.{Err, rules}
use Rattle.encoding.proofs.Refusals.{numbered}
use Rattle.vm.specs.Guard.{guarded_answer_of}
use Rattle.marks.specs.Owners.{hidden_from}
use Rattle.marks.specs.Total.{hidden_count}
use Rattle.marks.proofs.Totals.{count-few}
use Rattle.guard.specs.Stops.{stop_number}
use Rattle.guard.specs.Input.{Input, input_from, input_refusal}
use Rattle.vm.specs.Calls.{parts_of, image_words}
use Rattle.vm.specs.Guard.{GuardedEnd}
use Rattle.vm.proofs.Fits.{lasts}
use Rattle.vm.proofs.GuardedStarts.{served_input, load_counts, load_fit, load_ok, load_rest, load_run, answer_served, answer-refused}
use Rattle.vm.proofs.guarded.guarded_run.Goals as goal

pub returns-in_err-guard_refusal-clause-answer : goal.returns-in_err-guard_refusal-clause-answer
returns-in_err-guard_refusal-clause-answer c =
    let a = c.args in
    let i : Input = input_from a.image.now a.marks.now a.budget.0 a.breakpoints.now a.clearance in
    let e = c.in_err-guard_refusal.field-0.0 in
    let r : c.from_residual.result ≡ Err e = search rules in
    ap guarded_answer_of r ∙ answer-refused i c.in_err-guard_refusal.ensures (numbered e)

-- no more words are hidden than there are
pub overflow_cast-hidden_total : goal.overflow_cast-hidden_total
overflow_cast-hidden_total c =
    let a = c.args in
    let i : Input = input_from a.image.now a.marks.now a.budget.0 a.breakpoints.now a.clearance in
    let served : input_refusal i ≡ 0 = sym c.in_ok-guard_refusal.ensures in
    omega (arith, c.count_hidden-hidden_total.ensures, count-few (hidden_from a.clearance) a.marks.now, (served_input i served).1)

pub guarded_parts-r-requires : goal.guarded_parts-r-requires
unfolding image_words
guarded_parts-r-requires c =
    let a = c.args in
    let i : Input = input_from a.image.now a.marks.now a.budget.0 a.breakpoints.now a.clearance in
    let served : input_refusal i ≡ 0 = sym c.in_ok-guard_refusal.ensures in
    (rw c.core.ensures (load_fit i c.switched_on-machine.ensures c.first_words-words.ensures c.image_size-size.ensures), load_counts i served c.first_words-word_marks.ensures c.count_hidden-hidden_total.ensures)

pub returns-clause-answer : goal.returns-clause-answer
unfolding image_words
returns-clause-answer c =
    let a = c.args in
    let i : Input = input_from a.image.now a.marks.now a.budget.0 a.breakpoints.now a.clearance in
    let served : input_refusal i ≡ 0 = sym c.in_ok-guard_refusal.ensures in
    let e = c.switched_on-machine.ensures in
    let w = c.first_words-words.ensures in
    let n = c.image_size-size.ensures in
    let r = c.guarded_parts-r.ensures in
    let end = (rw c.core.ensures at r.0) ∙ load_run i e w n served c.first_words-word_marks.ensures in
    let rest = load_rest i e w n served in
    let total = r.2.count ∙ ap (λ (x : GuardedEnd). hidden_count (hidden_from a.clearance) x.guarded.marks.memory) end in
    rw c.set_core.ensures
    ((λ k. record { refused = 0; stop = stop_number (end k).stop; executed = (end k).executed; guarded = (end k).guarded; hidden_total = total k; rest = rest k }) ∙ sym (answer_served i served))

pub returns-clause-machine : goal.returns-clause-machine
unfolding image_words
returns-clause-machine c =
    let a = c.args in
    let i : Input = input_from a.image.now a.marks.now a.budget.0 a.breakpoints.now a.clearance in
    let new = c.switched_on-machine.result in
    rw c.set_core.ensures (lasts (parts_of new) _ new.image_len (load_ok i c.switched_on-machine.ensures c.first_words-words.ensures c.image_size-size.ensures) c.guarded_parts-r.ensures.1)
