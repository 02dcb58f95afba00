-- Where the field does not fit, the text's length alone is answered. Assumes nothing.
use native.Mathlib.Omega.{arith}
use Prim.Native.Nat.{◌+◌, ◌≤◌, ◌<◌}
use mathlib.Core.Path.{◌≡◌, sym, ap, ◌∙◌}
use borrow.Author.Tests.{leb-true, leb-false}
use lib.ListN.{length}
use Rattle.isa.specs.Text.{Text, fixed_text, padded}
use Rattle.encoding.proofs.Written.{written_cut, part_written}
use Rattle.disasm.specs.Disassembly.{disassemble_text}
use Rattle.disasm.proofs.Texts.{disassembly_padded}
use Rattle.disasm.proofs.disassembly.disassemble_into.Goals as goal

pub returns-then-not-inside : goal.returns-then-not-inside
unfolding fixed_text
returns-then-not-inside c =
    let s = c.args in
    let n : length (padded 32 (disassemble_text s.word)) ≡ 32 = disassembly_padded s.word in
    let h : length s.out.now < s.at + 32 = leb-false (s.at + 32) (length s.out.now) (sym c.inside.ensures ∙ c.if-not-inside.true) in
    (ap (λ (t : Text). t.len) c.disassemble.ensures, sym (written_cut s.out.now s.at (padded 32 (disassemble_text s.word)) (omega arith)))

pub returns : goal.returns
returns c =
    let s = c.args in
    let h : s.at + 32 ≤ length s.out.now = leb-true (s.at + 32) (length s.out.now) (sym c.inside.ensures ∙ c.if-not-inside.false) in
    let n : length (padded 32 (disassemble_text s.word)) ≡ 32 = disassembly_padded s.word in
    (c.put_disassembly.ensures.0, part_written s.out.now s.at (s.at + 32) (padded 32 (disassemble_text s.word)) (rw n) h c.put_disassembly.ensures.1)
