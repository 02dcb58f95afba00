-- The calls of the archive: a length where the call is served, and minus the refusal's number where it is not (01, section 1).
-- Assumes nothing.
use Rattle.std.specs.Prelude.{ℕ, zero, suc, cond, List, ltb, ℤ, pos, neg_ℤ, length}
use Rattle.isa.specs.Sizes.{text_width}
use Rattle.isa.specs.Text.{padded}
use Rattle.encoding.specs.Bytes.{over}
use Rattle.encoding.specs.Answer.{Outcome, outcome}
use Rattle.disasm.specs.Disassembly.{disassemble_text}
use Rattle.listing.specs.Listing.{bytes_outcome}
use Rattle.assemble.specs.Answer as assembler
use Rattle.secret.specs.Program as program

abbrev pub length_of : ℕ → ℤ
length_of n = pos n

abbrev pub refused : ℕ → ℤ
refused n = neg_ℤ (pos n)

-- a text in its field of 32 bytes; refused 5: the buffer has no room for the field
unfoldable pub disassemble_outcome : ℕ → List ℕ → Outcome ℤ
disassemble_outcome w out =
    cond (ltb (length out) text_width) (outcome (refused 5) out)
    (outcome (length_of (length (disassemble_text w))) (over out 0 (padded text_width (disassemble_text w))))

-- what is told of a listing, an image or a report as one number: the length, or minus the refusal's number
abbrev pub number_of : ℕ → ℕ → ℤ
number_of zero size = length_of size
number_of (suc n) size = refused (suc n)

unfoldable pub listing_outcome : List ℕ → List ℕ → Outcome ℤ
listing_outcome image out =
    let o = bytes_outcome image out in
    outcome (number_of o.answer.refused o.answer.length) o.buffer

-- the same of a text's image (02, Change 4)
unfoldable pub assembled_outcome : List ℕ → List ℕ → Outcome ℤ
assembled_outcome text out =
    let o = assembler.bytes_outcome text out in
    outcome (number_of o.answer.refused o.answer.length) o.buffer

-- the same of a report (01, section 6), for the report program's input
unfoldable pub reported_outcome : List ℕ → List ℕ → Outcome ℤ
reported_outcome input out =
    let o = program.bytes_outcome input out in
    outcome (number_of o.answer.refused o.answer.length) o.buffer
