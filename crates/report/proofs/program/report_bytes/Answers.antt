-- The copy has the bytes that decide.
-- Assumes nothing.
use Prim.Native.Nat.{ℕ}
use mathlib.Core.Path.{◌≡◌, ap, ◌∙◌}
use mathlib.Core.List.{List}
use lib.ListN.{take}
use Rattle.std.proofs.lemmas.List.{take_min}
use Rattle.secret.specs.Program.{input_length, bytes_outcome}
use Rattle.secret.proofs.Decides.{first_decide}
use Rattle.report.proofs.program.report_bytes.Goals as goal

pub returns : goal.returns
returns c =
    let b = c.args.input.now in
    let out = c.args.out.now in
    let copy : c.copy_from_slice.new.self ≡ take input_length b = c.copy_from_slice.ensures.after ∙ rw c.min-n.ensures (take_min input_length b) in
    c.report_parts.ensures ∙ ap (λ (x : List ℕ). bytes_outcome x out) copy ∙ first_decide b out
