-- Assumes nothing.
use Rattle.massey.proofs.Answers.{no_room, shown}
use Rattle.massey.proofs.massey_disassemble.Goals as goal

pub returns-then-out-lt-TEXT_WIDTH : goal.returns-then-out-lt-TEXT_WIDTH
returns-then-out-lt-TEXT_WIDTH c =
    let s = c.args in
    no_room s.word s.out.now c.if-out-lt-TEXT_WIDTH.true

pub returns : goal.returns
returns c =
    let d = c in
    let t = d in
    let s = t.args in
    shown s.word s.out.now t.if-out-lt-TEXT_WIDTH.false d.disassemble_into.ensures
