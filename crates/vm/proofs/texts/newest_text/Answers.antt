-- Past the newest n there is an empty text, and before it the one in its slot.
-- Assumes nothing.
use native.Mathlib.Omega.{arith}
use mathlib.Core.Path.{sym, ◌∙◌}
use mathlib.Core.List.{[]}
use Rattle.isa.specs.Text.{text}
use Rattle.trace.specs.Trace.{live_texts, texts_in}
use Rattle.vm.proofs.Newest.{texts-length, newest_past, newest_at}
use Rattle.vm.proofs.texts.newest_text.Goals as goal

pub returns-then-n-i : goal.returns-then-n-i
returns-then-n-i c =
    let s = c in
    let a = s.args in
    c.from_bytes.ensures ∙ sym (newest_past a.n a.i (live_texts a.ring.start a.ring.len (texts_in a.columns.now) a.lengths.now) (text []) (omega (arith, s.requires.0, texts-length a.ring.start a.ring.len (texts_in a.columns.now) a.lengths.now s.requires.1)) c.if-n-i.true)

pub returns : goal.returns
returns c =
    let s = c in
    let a = s.args in
    c.text_at.ensures ∙ newest_at a.ring.start a.ring.len a.n a.i (texts_in a.columns.now) a.lengths.now (text []) s.requires.0 s.requires.1 c.if-n-i.false
