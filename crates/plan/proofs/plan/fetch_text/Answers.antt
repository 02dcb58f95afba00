-- Assumes nothing.
use Prim.Native.String.{String}
use mathlib.Core.Path.{refl, ap, ◌∙◌}
use native.Mathlib.Omega.{arith}
use Rattle.isa.specs.Text.{ascii, text}
use Rattle.plan.specs.Plan.{fetch_text}
use Rattle.plan.proofs.Plans.{from_three}
use Rattle.plan.proofs.plan.fetch_text.Goals as goal

pub returns-in-0 : goal.returns-in-0
unfolding fetch_text
returns-in-0 c = rw c.in-0.is c.pc_to_mar_text.ensures

pub returns-in-1 : goal.returns-in-1
unfolding fetch_text
returns-in-1 c = rw c.in-1.is c.memory_to_mdr_text.ensures

pub returns-in-2 : goal.returns-in-2
unfolding fetch_text
returns-in-2 c = rw c.in-2.is c.mdr_to_ir_text.ensures

pub returns-in_default : goal.returns-in_default
unfolding fetch_text
returns-in_default c =
    c.next_pc_text.ensures ∙ ap (λ (s : String). text (ascii s)) (from_three fetch_text (λ n. refl) c.args.tick (omega arith))
