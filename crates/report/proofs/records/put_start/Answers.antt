-- `put_start` meets its contract: the text lies behind the value.
-- Assumes nothing.
use mathlib.Core.List.{[], ◌∷◌}
use native.Mathlib.Omega.{arith}
use Rattle.marks.specs.Owners.{hidden_from}
use Rattle.encoding.proofs.Written.{overs_eq}
use Rattle.encoding.proofs.Numbers.{length-big_endian}
use Rattle.isa.specs.Sizes.{text_width}
use Rattle.control.specs.Address.{address_width}
use Rattle.secret.specs.Widths.{word_length}
use Rattle.secret.specs.Report.{address_bytes, value_record, shown_text, start_record}
use Rattle.secret.proofs.Shows.{length-value, length-shown}
use Rattle.report.proofs.records.put_start.Goals as goal

pub returns : goal.returns
unfolding start_record
returns c =
    let a = c.args in
    rw (c.put_text.ensures, c.put_value.ensures)
    (overs_eq a.out.now a.at
    ((word_length, value_record (hidden_from a.clearance) 2 (address_bytes a.address) a.mark a.word) ∷ (text_width, shown_text (hidden_from a.clearance) a.mark a.word) ∷ [])
    (length-value (hidden_from a.clearance) 2 (address_bytes a.address) a.mark a.word (length-big_endian address_width a.address), (length-shown (hidden_from a.clearance) a.mark a.word, tt))
    (omega (arith, c.requires)))
