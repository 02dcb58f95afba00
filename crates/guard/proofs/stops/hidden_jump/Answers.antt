-- The word decodes to what is tested.
-- Assumes nothing.
use Rattle.std.specs.Prelude.{Option}
use Rattle.isa.specs.declared.opcode.Opcode.{Opcode}
use mathlib.Core.Path.{sym, ap, ◌∙◌}
use Rattle.isa.specs.Word.{decode_word}
use Rattle.isa.proofs.Words.{read_off}
use Rattle.marks.specs.Owners.{hidden_from}
use Rattle.guard.specs.Stops.{hidden_by}
use Rattle.guard.proofs.stops.hidden_jump.Goals as goal

pub returns : goal.returns
returns c =
    let o = c in
    let a = o.args in
    c.hidden_by.ensures ∙ ap (λ (d : Option Opcode). hidden_by (hidden_from a.clearance) d a.word a.registers.now) (sym (read_off decode_word a.word o.from_word.ensures o.opcode-decoded.ensures))
