-- Assumes nothing.
use mathlib.Core.Path.{ap, ◌∙◌}
use Rattle.isa.specs.Text.{text}
use Rattle.isa.specs.Word.{decode_word}
use Rattle.isa.proofs.Words.{read_off}
use Rattle.plan.proofs.Plans.{fetched_text, executed-text}
use Rattle.plan.proofs.plan.tick_text.Goals as goal

pub returns-then-tick-lt-FETCH_TICKS : goal.returns-then-tick-lt-FETCH_TICKS
returns-then-tick-lt-FETCH_TICKS c =
    let a = c.args in
    c.fetch_text.ensures ∙ ap text (fetched_text a.tick a.taken a.word c.if-tick-lt-FETCH_TICKS.true)

pub returns : goal.returns
returns c =
    let d = c in
    let o = d in
    let i = o in
    let a = i.args in
    c.execute_text.ensures ∙ ap text (executed-text a.tick a.taken a.word i.if-tick-lt-FETCH_TICKS.false d.digits_of.ensures (read_off decode_word a.word i.from_word.ensures o.opcode-decoded.ensures))
