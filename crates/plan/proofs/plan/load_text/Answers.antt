-- Assumes nothing.
use Prim.Native.String.{String}
use mathlib.Core.List.{map}
use mathlib.Core.Path.{refl, ap, ◌∙◌}
use native.Mathlib.Omega.{arith}
use Rattle.isa.specs.Text.{ascii, text}
use Rattle.isa.specs.Format.{fill_byte}
use Rattle.plan.specs.Plan.{load_text}
use Rattle.plan.proofs.Plans.{from_two}
use Rattle.plan.proofs.plan.load_text.Goals as goal

pub returns-in-0 : goal.returns-in-0
unfolding load_text
returns-in-0 c = rw c.in-0.is c.address_to_mar_text.ensures

pub returns-in-1 : goal.returns-in-1
unfolding load_text
returns-in-1 c = rw c.in-1.is c.memory_to_mdr_text.ensures

pub returns-in_default : goal.returns-in_default
unfolding load_text
returns-in_default c =
    let a = c.args in
    c.mdr_to_register_text.ensures ∙ ap (λ (s : String). text (map (fill_byte a.digits) (ascii s))) (from_two load_text (λ n. refl) a.n (omega arith))
