-- `put_counts` meets its contract: its pieces lie one behind the other.
-- Assumes nothing.
use mathlib.Core.List.{[], ◌∷◌}
use native.Mathlib.Omega.{arith}
use Rattle.secret.specs.Widths.{number_width}
use Rattle.encoding.specs.Bytes.{big_endian}
use Rattle.encoding.proofs.Written.{writtens_eq}
use Rattle.encoding.proofs.Numbers.{length-big_endian}
use Rattle.secret.specs.Report.{count_bytes}
use Rattle.report.proofs.records.put_counts.Goals as goal

pub returns : goal.returns
unfolding count_bytes
returns c =
    let a = c.args in
    let k = a.counters in
    rw (c.put_number-4.ensures, c.put_number-3.ensures, c.put_number-2.ensures, c.put_number.ensures)
    (writtens_eq a.out.now a.at
    ((number_width, big_endian number_width k.instructions) ∷ (number_width, big_endian number_width k.micro_operations) ∷ (number_width, big_endian number_width k.bus_reads) ∷ (number_width, big_endian number_width k.bus_writes) ∷ [])
    (length-big_endian number_width k.instructions, (length-big_endian number_width k.micro_operations, (length-big_endian number_width k.bus_reads, (length-big_endian number_width k.bus_writes, tt))))
    (omega (arith, c.requires)))
