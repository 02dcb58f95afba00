-- Assumes nothing.
use mathlib.Core.Path.{refl}
use lib.ListN.{replicate}
use Rattle.disasm.proofs.Texts.{whole_field}
use Rattle.disasm.proofs.disassembly.disassemble.Goals as goal

pub returns : goal.returns
returns c = whole_field c.args.word (replicate 32 0) refl c.put_disassembly-len.ensures
