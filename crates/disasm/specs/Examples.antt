-- Worked examples of texts: each word beside its text (01, section 2; disasm.rs; 02, Change 1). One theorem says that the definition gives each row's text.
-- Assumes nothing.
use Rattle.std.specs.Prelude.{ℕ, ◌≡◌, refl, List, [], ◌∷◌, map}
use Prim.Native.String.{String}
use Rattle.isa.specs.Text.{ascii}
use Rattle.isa.specs.Opcode.{digits, decode_nibble}
use Rattle.isa.specs.Format.{fill}
use Rattle.disasm.specs.Disassembly.{template, disassemble_text}

pub record Row : Type 0 where
  pub word : ℕ
  pub shown : String

unfoldable pub rows : List Row
rows =
    record { word = 0x1105; shown = "LOAD R1, 05" }
    ∷ record { word = 0x20AF; shown = "LOAD RA, RF" }
    ∷ record { word = 0x2012; shown = "LOAD R1, R2" }
    ∷ record { word = 0x2F12; shown = "LOAD R1, R2 ; 2F12" }
    ∷ record { word = 0x3110; shown = "LOAD R1, [10]" }
    ∷ record { word = 0x4111; shown = "STORE R1, [11]" }
    ∷ record { word = 0x6123; shown = "R1 = R2 + R3" }
    ∷ record { word = 0x7010; shown = "NEGATE R1" }
    ∷ record { word = 0x7011; shown = "NEGATE R1 ; 7011" }
    ∷ record { word = 0x7F10; shown = "NEGATE R1 ; 7F10" }
    ∷ record { word = 0x810F; shown = "SHIFT R1 RIGHT 0F" }
    ∷ record { word = 0x910F; shown = "SHIFT R1 LEFT 0F" }
    ∷ record { word = 0xA123; shown = "R1 = R2 AND R3" }
    ∷ record { word = 0xB123; shown = "R1 = R2 OR R3" }
    ∷ record { word = 0xC123; shown = "R1 = R2 XOR R3" }
    ∷ record { word = 0xD120; shown = "JUMP [20] IF R1=R0" }
    ∷ record { word = 0xE000; shown = "HALT" }
    ∷ record { word = 0xE001; shown = "HALT ; E001" }
    ∷ record { word = 0xEABC; shown = "HALT ; EABC" }
    ∷ record { word = 0x0000; shown = "??? (not a MASSEY opcode) ; 0000" }
    ∷ record { word = 0x5BCD; shown = "??? (not a MASSEY opcode) ; 5BCD" }
    ∷ record { word = 0xFFFF; shown = "??? (not a MASSEY opcode) ; FFFF" }
    ∷ []

pub rows_hold : map (λ (r : Row). disassemble_text r.word) rows ≡ map (λ (r : Row). ascii r.shown) rows
unfolding rows disassemble_text decode_nibble digits template fill
rows_hold = refl
