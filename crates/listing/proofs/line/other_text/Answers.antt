-- Assumes nothing.
use Rattle.std.specs.Prelude.{None, Option, Some}
use Rattle.isa.specs.declared.opcode.Opcode.{Opcode}
use mathlib.Core.Path.{◌≡◌, sym, ap, ◌∙◌}
use lib.Dec.{lit≤}
use Rattle.isa.specs.Text.{ascii}
use Rattle.isa.specs.Word.{decode_word}
use Rattle.isa.specs.Nibbles.{unused, unused_nibbles}
use Rattle.isa.proofs.Fills.{filled_whole}
use Rattle.isa.proofs.Words.{decodes}
use Rattle.listing.proofs.Lines.{othered, listed_as_lem, listed_data}
use Rattle.listing.proofs.line.other_text.Goals as goal
use Rattle.listing.proofs.line.other_text.Goals.{in_default-via-in-Some+else-unused-eq0, in_default-via-in_default}

pub returns-in-Some : goal.returns-in-Some
returns-in-Some c =
    let w = c.args.word in
    let d : decode_word w ≡ Some c.in-Some.opcode = decodes w c.from_word.ensures c.opcode.ensures c.in-Some.is in
    let all_used : unused_nibbles w ≡ c.unused.result = ap (λ (e : Option Opcode). unused e w) d ∙ sym c.unused.ensures in
    othered w _ (listed_as_lem w _ d (all_used ∙ c.if-unused-eq0.true)) c.disassemble.ensures

pub returns-in_default : goal.returns-in_default
returns-in_default c =
    let w = c.args.word in
    let written = filled_whole w (ascii ".word Wxyz") (lit≤ tt) c.format.ensures in
    elim c.in_default.branch [
      | in_default-via-in-Some+else-unused-eq0 b ↦
          let d : decode_word w ≡ Some b.in-Some.opcode = decodes w c.from_word.ensures c.opcode.ensures b.in-Some.is in
          let too_many : unused_nibbles w ≡ b.unused.result = ap (λ (e : Option Opcode). unused e w) d ∙ sym b.unused.ensures in
          othered w None (listed_data w (λ q. b.if-unused-eq0.false (sym too_many ∙ q))) written
      | in_default-via-in_default b ↦
          let d = decodes w c.from_word.ensures c.opcode.ensures b.in_default.is in
          let u : unused_nibbles w ≡ 0 = ap (λ (e : Option Opcode). unused e w) d in
          othered w None (listed_as_lem w None d u) written
    ]
