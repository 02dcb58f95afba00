use native.Mathlib.Omega.{arith}
use mathlib.Core.Path.{◌≡◌, sym, ◌∙◌}
use lib.ListN.{get_or, drop_of_length-le}
use Rattle.assemble.specs.Grammar.{forms, tried}
use Rattle.assemble.proofs.Steps.{tried-turn, tried_other, tried-empty, first_some, first_none}
use Rattle.assemble.proofs.forms.instruction.Goals as goal
use Rattle.assemble.proofs.forms.instruction.Goals.{then-first-head+else-is_some, else-first-head}

pub returns-in_err-head : goal.returns-in_err-head
returns-in_err-head c = c.from_residual.ensures ∙ sym (tried-empty c.args.s.now (omega (arith, c.in_err-head.ensures.item.3)))

pub returns-then-is_some : goal.returns-then-is_some
returns-then-is_some c =
    let s = c.args.s.now in
    let f = c.loop-f.f in
    let n = c.by_form-read.result in
    sym (tried-turn s f n (omega arith) c.by_form-read.ensures ∙ first_some n _ (sym c.is_some.ensures ∙ c.if-is_some.true)) ∙ c.loop-f.invariant

pub loop-f-preserved : goal.loop-f-preserved
loop-f-preserved c =
    let s = c.args.s.now in
    let f = c.loop-f.f in
    let head : c.in_ok-head.field-0.now ≡ get_or s 0 0 = c.in_ok-head.ensures.item.4 (omega arith) 0 in
    elim c.if-first-head.branch [
      | then-first-head+else-is_some w ↦
          let n = w.by_form-read.result in
          sym (tried-turn s f n (omega arith) w.by_form-read.ensures ∙ first_none n _ (sym w.is_some.ensures ∙ w.if-is_some.false)) ∙ c.loop-f.invariant
      | else-first-head w ↦ sym (tried_other s f (omega arith) (λ e. w.if-first-head.false (e ∙ sym head))) ∙ c.loop-f.invariant
    ]

pub returns : goal.returns
unfolding tried forms
returns c = rw (drop_of_length-le forms {i = c.loop-f.f} (omega arith)) at c.loop-f.invariant
