-- The text of the word, field by field.
use mathlib.Core.Path.{ap}
use Rattle.isa.specs.Text.{Text}
use Rattle.massey_bench.proofs.texts.massey_format_word.Goals as goal

pub returns : goal.returns
returns c =
    let t = c.format_word-t.ensures in
    (ap (λ (x : Text). x.len) t, rw t at c.put_bytes.ensures)
