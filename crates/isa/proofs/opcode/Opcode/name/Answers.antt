-- Assumes nothing.
use mathlib.Core.Path.{refl, ap, ◌∙◌}
use Rattle.isa.specs.Text.{text, trimmed}
use Rattle.isa.specs.Opcode.{name_of}
use Rattle.isa.proofs.Tables.{Table, row-length, row-text}
use Rattle.isa.proofs.opcode.Opcode.name.Goals as goal

rows : Table 32 14 name_of
unfolding trimmed
rows = record { whole = (refl, refl, refl, refl, refl, refl, refl, refl, refl, refl, refl, refl, refl); reads = (refl, refl, refl, refl, refl, refl, refl, refl, refl, refl, refl, refl, refl) }

pub slice_bounds-from_field-end : goal.slice_bounds-from_field-end
slice_bounds-from_field-end c =
    let i = c in
    row-length rows i.args.self i.index-i.ensures.0

pub returns : goal.returns
returns c =
    let i = c in
    c.from_field.ensures ∙ ap text (row-text rows i.args.self i.index-i.ensures.0)
