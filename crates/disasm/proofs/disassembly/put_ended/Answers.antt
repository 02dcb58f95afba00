-- Assumes nothing.
use Rattle.disasm.proofs.Texts.{without_word, with_word}
use Rattle.disasm.proofs.disassembly.put_ended.Goals as goal

pub returns-then-not-loose : goal.returns-then-not-loose
returns-then-not-loose c = without_word c.args.t c.args.digits c.args.field.now c.args.loose c.if-not-loose.true c.put_field.ensures

pub returns : goal.returns
returns c = with_word c.args.t c.args.digits c.args.field.now c.args.loose c.if-not-loose.false c.put_bytes.ensures c.put_field-2.ensures
