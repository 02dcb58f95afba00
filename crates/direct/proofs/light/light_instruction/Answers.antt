-- Assumes nothing.
use Rattle.std.proofs.Common.{refl}
use Rattle.marks.specs.Owners.{hidden_from}
use Rattle.direct.specs.Lane.{slots_of}
use Rattle.direct.proofs.Lanes.{is_step}
use Rattle.direct.proofs.light.light_instruction.Goals as goal

pub returns : goal.returns
returns c =
    let a = c.args in
    is_step (hidden_from a.clearance) a.decoded a.word (slots_of a.s a.memory.now a.registers.now a.touched.now a.seen.now a.marks.now a.register_marks.now) c.work_of-work.result
    c.total_decoded-hidden_total.ensures c.mark_decoded.ensures c.read_operands-o.ensures refl c.work_of-work.ensures
    c.set_register.ensures c.set_word.ensures c.touch_seen-touched_len.ensures c.count_whole.ensures
