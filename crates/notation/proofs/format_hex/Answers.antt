-- Assumes nothing.
use mathlib.Core.Path.{ap, ◌∙◌}
use Rattle.isa.specs.Text.{text}
use Rattle.notation.proofs.Hex.{hex_part}
use Rattle.notation.proofs.format_hex.Goals as goal

pub returns : goal.returns
returns c =
    let a = c.args in
    c.format.ensures ∙ ap text (hex_part a.value a.digits c.hex_width-start.result c.hex_width-start.ensures.0)
