-- `put_text` meets its contract, by the mark.
-- Assumes nothing.
use mathlib.Core.Path.{sym, ◌∙◌}
use Rattle.marks.specs.Owners.{hidden_from}
use Rattle.secret.proofs.Shows.{text_open, text-hidden}
use Rattle.report.proofs.records.put_text.Goals as goal

pub returns-then-not-hidden : goal.returns-then-not-hidden
returns-then-not-hidden c =
    text_open (hidden_from c.args.clearance) c.args.out.now c.args.at c.args.mark c.args.word c.requires (sym c.is_hidden-hidden.ensures ∙ c.if-not-hidden.true) c.disassemble_into.ensures.1

pub returns : goal.returns
returns c =
    text-hidden (hidden_from c.args.clearance) c.args.out.now c.args.at c.args.mark c.args.word c.requires (sym c.is_hidden-hidden.ensures ∙ c.if-not-hidden.false) c.put_bytes.ensures
