-- One report has exactly 33,934 bytes (01, section 1, number 5): that of a program that writes to every address.
-- Assumes nothing.
use Prim.Native.Nat.{ℕ, zero, suc, ◌+◌}
use mathlib.Core.Path.{◌≡◌, refl}
use mathlib.Core.List.{List, [], ◌∷◌}
use lib.ListN.{length, replicate}
use Rattle.isa.specs.Opcode.{digits, decode_nibble}
use Rattle.encoding.specs.Bytes.{member}
use Rattle.tick.specs.Tick.{tick_of, decode_tick, execute_tick}
use Rattle.control.specs.Count.{count_tick}
use Rattle.trace.specs.Trace.{pushed, live_trace}
use Rattle.trace.specs.Touched.{noted}
use Rattle.vm.specs.Machine.{micro_step}
use Rattle.vm.specs.Instruction.{ticked, steps, step_instruction}
use Rattle.vm.specs.Calls.{restarted, image_words}
use Rattle.marks.specs.Marks.{instruction_marks}
use Rattle.vm.specs.Guard.{guarded_start, guarded_run, guarded_of}
use Rattle.guard.specs.Input.{Input, guard_refusal}
use Rattle.secret.specs.Report.{report_bytes}
use Rattle.secret.specs.Widths.{report_limit}
use Rattle.secret.specs.Public.{report_refusal}
use Rattle.secret.proofs.Lengths.{length_report}

-- STORE R0 at each address, from a on
unfoldable pub stores : ℕ → ℕ → List ℕ
stores a zero = []
stores a (suc n) = (0x4000 + a) ∷ stores (a + 1) n

-- each of 256 instructions writes to another address, over its own word, and the trace has 512 of their ticks; at address 0, to which PC comes back, is a breakpoint, 256 times
abbrev pub storing : Input
storing = record { image = stores 0 256; marks = replicate 256 0; budget = 256; breaks = replicate 256 0; clearance = 0 }

pub longest_accepted : report_refusal storing report_limit ≡ 0
unfolding stores report_refusal guard_refusal
longest_accepted = refl

pub longest : length (report_bytes storing) ≡ report_limit
unfolding stores guarded_of guarded_run guarded_start restarted image_words step_instruction steps ticked micro_step tick_of decode_tick execute_tick count_tick pushed live_trace digits decode_nibble noted member instruction_marks
longest = length_report storing
