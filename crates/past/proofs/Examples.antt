-- Example 11* as two pasts (`specs/Examples.antt`): the rows hold, and each is a past.
-- Assumes nothing.
use mathlib.Core.Path.{◌≡◌, refl}
use mathlib.Core.List.{map}
use lib.ListN.{length}
use Rattle.isa.specs.Text.{fixed_text, padded}
use Rattle.isa.specs.Opcode.{digits, decode_nibble}
use Rattle.isa.specs.Format.{fill}
use Rattle.encoding.specs.Bytes.{over, big_endian, big_endians, number, numbers, member}
use Rattle.plan.specs.Plan.{fetch_text, load_text, store_text, execute_text, tick_template, tick_text}
use Rattle.control.specs.Codes.{fault_bytes}
use Rattle.control.specs.Count.{over_counted, count_tick}
use Rattle.control.specs.Lawful.{lawful}
use Rattle.tick.specs.Tick.{decode_tick, execute_tick, tick_of}
use Rattle.trace.specs.Trace.{pushed, slots, live_trace, live_lengths, short_texts}
use Rattle.trace.specs.Touched.{noted, distinct}
use Rattle.history.specs.Record.{front_bytes, state_bytes, count_bytes, memory_bytes, record_bytes, control_in, snapshot_in, is_record, record_in}
use Rattle.history.specs.Store.{record_at, with_record, push_store, newest}
use Rattle.history.specs.Differences.{differ, differences_of}
use Rattle.vm.specs.Machine.{micro_step, next_text}
use Rattle.vm.specs.Instruction.{step_instruction, steps, ticked}
use Rattle.vm.specs.Run.{run as run_of}
use Rattle.vm.specs.Refusal.{parts_ok, step_refusal}
use Rattle.vm.specs.Calls.{restarted, image_words}
use Rattle.vm.specs.StepCalls.{micro_effect}
use Rattle.vm.specs.RunCalls.{run_call}
use Rattle.vm.specs.History.{store_refusal, undo_refusal, saved, saved_store, restored, undone}
use Rattle.past.specs.Past.{count, ticks_from, instructions_ticks, made, left, Past}
use Rattle.past.specs.Played.{holding, after, played, ticks_of}
use Rattle.past.specs.Examples.{program, start, Row, seen, rows}
use Rattle.past.proofs.Holds.{every_list}

pub rows_hold : map (λ (r : Row). seen r.calls) rows ≡ map (λ (r : Row). r.answer) rows
unfolding rows seen played ticks_of after holding start left made count ticks_from instructions_ticks padded fixed_text digits decode_nibble fill over big_endian big_endians number numbers member fetch_text load_text store_text execute_text tick_template tick_text fault_bytes over_counted count_tick lawful decode_tick execute_tick tick_of pushed slots live_trace live_lengths short_texts noted distinct front_bytes state_bytes count_bytes memory_bytes record_bytes control_in snapshot_in is_record record_in record_at with_record push_store newest differ differences_of micro_step next_text step_instruction steps ticked run_of parts_ok step_refusal restarted image_words micro_effect run_call store_refusal undo_refusal saved saved_store restored undone
rows_hold = refl

-- the totals of each are those of the theorem
pub rows_past : (r : Row) → Past r.calls (played r.calls start) (ticks_of r.calls start)
unfolding start
rows_past r = every_list (image_words program) (length program) 0 r.calls
