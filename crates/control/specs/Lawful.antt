-- Which states of the control unit a machine can be in (01, section 1, refusal 8, the part on ticks).
-- Assumes nothing.
use Rattle.std.specs.Prelude.{◌-◌, Bool, true, cond, ◌&&◌, ◌==◌, nat_le, nat_lt}
use Rattle.isa.specs.Word.{decode_word}
use Rattle.plan.specs.Plan.{execute_ticks_of}
use Rattle.control.specs.declared.control.Control.{Control}

-- the tick is at most 6; and if the machine runs and executes, the number of execute ticks is that of IR's opcode, and the tick is one of them
unfoldable pub lawful : Control → Bool
lawful c =
    nat_le c.tick 6
    && cond c.halted true (cond (nat_lt c.tick 4) true (c.execute_ticks == execute_ticks_of (decode_word c.ir) && nat_lt (c.tick - 4) c.execute_ticks))
