-- Assumes nothing.
use Rattle.std.proofs.Common.{sym, refl}
use Rattle.isa.specs.Word.{decode_word}
use Rattle.isa.proofs.Words.{read_off}
use Rattle.direct.specs.Whole.{held_of}
use Rattle.direct.proofs.Wholes.{is_wholly}
use Rattle.direct.proofs.whole.whole_instruction.Goals as goal

pub returns : goal.returns
returns c =
    let a = c.args in
    is_wholly a.word (held_of a.from a.memory.now a.registers.now a.touched.now a.columns.now a.numbers.now a.lengths.now) c.work_of-work.result
    (sym (read_off decode_word a.word c.from_word.ensures c.opcode-decoded.ensures)) c.taken_by-taken.ensures c.execute_tick_count-ticks.ensures
    c.read_operands-o.ensures refl c.work_of-work.ensures c.set_register.ensures c.set_word.ensures
    c.touch-touched_len.ensures c.push_lines-ring.ensures c.count_whole.ensures c.state_by.ensures c.last_sent.ensures c.is_some.ensures
