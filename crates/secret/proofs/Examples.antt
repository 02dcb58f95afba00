-- Examples 14 and 15 of document 01, section 9, with the records of document 02, Changes 6 and 7.
-- Assumes nothing.
use mathlib.Core.Path.{◌≡◌, refl, ◌∙◌}
use mathlib.Core.List.{List, [], ◌∷◌}
use Prim.Native.Nat.{ℕ}
use native.Mathlib.Omega.{arith}
use lib.ListN.{length, drop, replicate}
use Rattle.encoding.specs.Bytes.{big_endian}
use Rattle.isa.specs.Opcode.{digits, decode_nibble}
use Rattle.tick.specs.Tick.{tick_of, decode_tick}
use Rattle.control.specs.Count.{count_tick}
use Rattle.trace.specs.Trace.{pushed, live_trace}
use Rattle.vm.specs.Machine.{micro_step}
use Rattle.vm.specs.Instruction.{ticked, steps, step_instruction}
use Rattle.vm.specs.Calls.{restarted, image_words}
use Rattle.marks.specs.Owners.{hidden_from}
use Rattle.marks.specs.Marks.{shown, instruction_marks}
use Rattle.marks.specs.Total.{hidden_count}
use Rattle.vm.specs.Guard.{guarded_start, guarded_run, guarded_of}
use Rattle.guard.specs.Input.{Input, guard_refusal}
use Rattle.control.specs.Codes.{fault_bytes}
use Rattle.secret.specs.Report.{end_record, hidden_record, control_bytes, count_bytes, report_bytes}
use Rattle.secret.specs.Widths.{report_limit}
use Rattle.secret.specs.Public.{report_refusal}
use Rattle.secret.proofs.Lengths.{length_report, last_records, last_records_lem}

-- an empty image, no owners, clearance 00
abbrev empty : ℕ → Input
empty budget = record { image = []; marks = replicate 256 0; budget = budget; breaks = []; clearance = 0 }

pub example_14 : length (report_bytes (empty 1)) ≡ 11066
unfolding guarded_of guarded_run guarded_start restarted image_words step_instruction steps ticked micro_step tick_of decode_tick count_tick pushed live_trace digits decode_nibble
example_14 = length_report (empty 1)

-- 08 02 01 0000 00 00 0000, counts 0, 4, 1, 0, then 01 0000 00; behind them 0A 0000
abbrev last_bytes : List ℕ
last_bytes = 8 ∷ 2 ∷ 1 ∷ 0 ∷ 0 ∷ 0 ∷ 0 ∷ 0 ∷ 0 ∷ 0 ∷ 0 ∷ 0 ∷ 0 ∷ 0 ∷ 0 ∷ 0 ∷ 0 ∷ 0 ∷ 0 ∷ 0 ∷ 0 ∷ 0 ∷ 0 ∷ 0 ∷ 4 ∷ 0 ∷ 0 ∷ 0 ∷ 0 ∷ 0 ∷ 0 ∷ 0 ∷ 1 ∷ 0 ∷ 0 ∷ 0 ∷ 0 ∷ 0 ∷ 0 ∷ 0 ∷ 0 ∷ 1 ∷ 0 ∷ 0 ∷ 0 ∷ 0x0A ∷ 0 ∷ 0 ∷ []

records_14 : last_records (hidden_from 0) (guarded_of (empty 1)) ≡ last_bytes
unfolding guarded_of guarded_run guarded_start restarted image_words step_instruction steps ticked micro_step tick_of decode_tick count_tick digits decode_nibble instruction_marks end_record hidden_record hidden_count control_bytes count_bytes fault_bytes shown big_endian
records_14 = refl

-- the last 48 bytes of the report
pub example_14_end : drop 11018 (report_bytes (empty 1)) ≡ last_bytes
example_14_end = last_records_lem (empty 1) 11018 (omega (arith, example_14)) ∙ records_14

pub example_15 : (report_refusal (empty 1000000) report_limit ≡ 0) × (report_refusal (empty 1000001) report_limit ≡ 4)
unfolding report_refusal guard_refusal
example_15 = (refl, refl)
