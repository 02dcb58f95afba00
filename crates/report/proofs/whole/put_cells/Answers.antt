-- The words lie behind the registers.
-- Assumes nothing.
use mathlib.Core.Path.{◌≡◌}
use mathlib.Core.List.{[], ◌∷◌}
use native.Mathlib.Omega.{arith}
use borrow.Author.Rules.{rules}
use lib.ListN.{length}
use Rattle.marks.specs.Owners.{hidden_from}
use Rattle.encoding.proofs.Written.{overs_eq}
use Rattle.isa.specs.Sizes.{memory_words, register_count}
use Rattle.control.specs.Address.{address_width}
use Rattle.secret.specs.Widths.{index_width, registers_length, words_length}
use Rattle.secret.specs.Report.{index_bytes, address_bytes, value_records}
use Rattle.secret.proofs.Lengths.{length_values}
use Rattle.report.proofs.whole.put_cells.Goals as goal

pub returns : goal.returns
returns c =
    let a = c.args in
    let hid = hidden_from a.clearance in
    let m = a.run.now.machine in
    let k = a.run.now.marks in
    let registers : length m.registers ≡ register_count = search rules in
    let memory : length m.memory ≡ memory_words = search rules in
    rw (c.put_values-2.ensures, c.put_values.ensures, registers, memory)
    (overs_eq a.out.now a.at
    ((registers_length, value_records hid 5 index_bytes register_count m.registers k.registers) ∷ (words_length, value_records hid 6 address_bytes memory_words m.memory k.memory) ∷ [])
    (length_values hid 5 index_width register_count m.registers k.registers, (length_values hid 6 address_width memory_words m.memory k.memory, tt))
    (omega (arith, c.requires)))
