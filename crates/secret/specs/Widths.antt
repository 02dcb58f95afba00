-- The widths of a report's fields, the lengths of its records and of the whole, in bytes (01, section 6; 02, Changes 6 and 7).
-- Assumes nothing.
use Rattle.std.specs.Prelude.{ℕ, ◌+◌, ◌*◌}
use Rattle.isa.specs.Sizes.{memory_words, register_count, text_width}
use Rattle.control.specs.Address.{address_width}
use Rattle.control.specs.Codes.{fault_width}
use Rattle.trace.specs.Trace.{trace_limit}
use Rattle.guard.specs.Input.{break_limit}

-- ---- fields; a text has `text_width`, an address of memory that LOAD and STORE reach `address_width`, a fault `fault_width`

abbrev pub kind_width : ℕ
kind_width = 1

-- an image's length, a number of breakpoints, a number of words
abbrev pub count_width : ℕ
count_width = 2

-- a budget, a trace record's number, a count of the run
abbrev pub number_width : ℕ
number_width = 8

-- where an instruction stands: PC, breakpoints, the address of a trace record and of a fault
abbrev pub place_width : ℕ
place_width = 1

-- a register's index
abbrev pub index_width : ℕ
index_width = 1

-- the owners of a value, and a reader's clearance
abbrev pub mark_width : ℕ
mark_width = 1

abbrev pub value_width : ℕ
value_width = 2

abbrev pub phase_width : ℕ
phase_width = 1

abbrev pub stop_width : ℕ
stop_width = 1

-- ---- records, by kind

-- 09
abbrev pub head_length : ℕ
head_length = kind_width + count_width + number_width + count_width + mark_width

-- what 02, 05 and 06 have in common, with an index of w bytes
abbrev pub value_length : ℕ → ℕ
value_length w = kind_width + w + mark_width + value_width

-- 02
abbrev pub start_length : ℕ
start_length = value_length address_width + text_width

-- 03
abbrev pub break_length : ℕ
break_length = kind_width + place_width

-- 04
abbrev pub trace_length : ℕ
trace_length = kind_width + number_width + place_width + phase_width + text_width

-- 05
abbrev pub register_length : ℕ
register_length = value_length index_width

-- 06
abbrev pub word_length : ℕ
word_length = value_length address_width

-- 07
abbrev pub touched_length : ℕ
touched_length = kind_width + address_width

-- 08, and its parts
abbrev pub control_length : ℕ
control_length = place_width + value_width + address_width + mark_width + value_width

abbrev pub counts_length : ℕ
counts_length = 4 * number_width

abbrev pub end_length : ℕ
end_length = kind_width + stop_width + control_length + counts_length + fault_width

-- 0A
abbrev pub hidden_length : ℕ
hidden_length = kind_width + count_width

-- ---- all of a kind, and the whole

abbrev pub starts_length : ℕ
starts_length = start_length * memory_words

abbrev pub registers_length : ℕ
registers_length = register_length * register_count

abbrev pub words_length : ℕ
words_length = word_length * memory_words

-- both
abbrev pub cells_length : ℕ
cells_length = registers_length + words_length

-- where kind 03 begins, and where kind 04 does behind so many breakpoints
abbrev pub break_records_at : ℕ
break_records_at = head_length + starts_length

abbrev pub run_records_at : ℕ → ℕ
run_records_at breaks = break_records_at + break_length * breaks

-- 08 and 0A
abbrev pub last_length : ℕ
last_length = end_length + hidden_length

-- kinds 04 to 08 and 0A, by the numbers of trace records and touched addresses
abbrev pub run_length : ℕ → ℕ → ℕ
run_length trace touched = trace_length * trace + (registers_length + (words_length + (touched_length * touched + last_length)))

-- the whole, by the number of breakpoints too
abbrev pub report_length : ℕ → ℕ → ℕ → ℕ
report_length breaks trace touched = head_length + (starts_length + (break_length * breaks + run_length trace touched))

-- no report is longer
abbrev pub report_limit : ℕ
report_limit = report_length break_limit trace_limit memory_words
