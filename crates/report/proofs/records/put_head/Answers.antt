-- `put_head` meets its contract: its pieces lie one behind the other.
-- Assumes nothing.
use mathlib.Core.List.{[], ◌∷◌}
use native.Mathlib.Omega.{arith}
use mathlib.Core.Path.{refl}
use Rattle.secret.specs.Widths.{kind_width, count_width, number_width, mark_width}
use Rattle.encoding.specs.Bytes.{big_endian}
use Rattle.encoding.proofs.Written.{writtens_eq}
use Rattle.encoding.proofs.Numbers.{length-big_endian}
use Rattle.secret.specs.Report.{head_record}
use Rattle.report.proofs.records.put_head.Goals as goal

pub returns : goal.returns
unfolding head_record big_endian
returns c =
    let a = c.args in
    rw (c.put_bytes.ensures, c.put_number-4.ensures, c.put_number-3.ensures, c.put_number-2.ensures, c.put_number.ensures)
    (writtens_eq a.out.now 0
    ((kind_width, big_endian kind_width 9) ∷ (count_width, big_endian count_width a.len) ∷ (number_width, big_endian number_width a.budget.0) ∷ (count_width, big_endian count_width a.count) ∷ (mark_width, a.clearance ∷ []) ∷ [])
    (length-big_endian kind_width 9, (length-big_endian count_width a.len, (length-big_endian number_width a.budget.0, (length-big_endian count_width a.count, (refl, tt)))))
    (omega (arith, c.requires)))
