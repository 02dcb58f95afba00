-- The code's own form of a field with an ending, which a reader need not believe: `proofs/Texts.antt` joins it to `Disassembly`.
-- Assumes nothing.
use Rattle.std.specs.Prelude.{ℕ, Bool, List, map}
use Rattle.isa.specs.Text.{Text}
use Rattle.isa.specs.Format.{fill_byte}
use Rattle.encoding.specs.Bytes.{written}
use Rattle.disasm.specs.Disassembly.{ending}

-- a text's field with the ending written behind its live bytes
abbrev pub ended_bytes : Text → List ℕ → Bool → List ℕ
ended_bytes t digits loose = written t.bytes t.len (map (fill_byte digits) (ending loose))
