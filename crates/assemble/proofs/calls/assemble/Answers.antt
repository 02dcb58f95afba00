-- Assumes nothing.
use mathlib.Core.Path.{refl, ◌∙◌}
use Rattle.assemble.proofs.Steps.{passed_on}
use Rattle.assemble.proofs.Answers.{held_linkable, held-answer, fault-answer}
use Rattle.assemble.proofs.calls.assemble.Goals as goal

pub collect-requires : goal.collect-requires
collect-requires c = refl

pub returns-in_err-n : goal.returns-in_err-n
returns-in_err-n c =
    let e = c.in_err-n.field-0.0 in
    passed_on c.from_residual.result e c.from_residual.ensures.1 ∙ fault-answer c.args.text.now e c.in_err-n.ensures.refusal

pub link-requires : goal.link-requires
link-requires c =
    let r = c.collect in
    held_linkable c.args.text.now c.in_ok-n.n r.new.entries c.in_ok-n.ensures.held

pub returns : goal.returns
returns c =
    let r = c.collect in
    c.link.ensures ∙ held-answer c.args.text.now c.in_ok-n.n r.new.entries c.in_ok-n.ensures.held c.in_ok-n.ensures.refusal
