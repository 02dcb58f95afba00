-- The machine as the code's struct has it, its refusals, and the calls that start a machine anew (01, sections 1, 7 and 10; vm.rs): what each answers, and the
-- machine that it leaves.
-- Assumes nothing.
use Rattle.std.specs.Prelude.{ℕ, ◌-◌, min, Bool, List, [], ◌++◌, length, take, replicate, Result, Ok, Err, None}
use Rattle.encoding.specs.declared.refusal.Refusal.{Refusal}
use Rattle.isa.specs.Sizes.{memory_words, register_count}
use Rattle.control.specs.Control.{fresh_control}
use Rattle.vm.specs.declared.machine.Machine.{Machine as Code}
use Rattle.vm.specs.declared.parts.Core.{Core}
use Rattle.trace.specs.Trace.{columns_length, trace_limit}
use Rattle.vm.specs.Machine.{Machine}
use Rattle.vm.specs.View.{Parts, parts, view}
use Rattle.vm.specs.Refusal.{parts_ok, served, step_refusal}

-- ---- the struct and the machine that it holds

abbrev pub core_of : Code → Core
core_of m = record {
  state = m.state;
  counters = m.counters;
  touched_len = m.touched_len;
  trace_start = m.trace_start;
  trace_len = m.trace_len;
}

-- with another small part
abbrev pub with_core : Core → Code → Code
with_core c m = record {
  memory = m.memory;
  registers = m.registers;
  state = c.state;
  counters = c.counters;
  columns = m.columns;
  numbers = m.numbers;
  lengths = m.lengths;
  trace_start = c.trace_start;
  trace_len = c.trace_len;
  touched = m.touched;
  touched_len = c.touched_len;
  image = m.image;
  image_len = m.image_len;
  history_len = m.history_len;
}

abbrev pub parts_of : Code → Parts
parts_of m = parts (core_of m) m.memory m.registers m.touched m.columns m.numbers m.lengths

abbrev pub view_of : Code → Machine
view_of m = view (parts_of m)

-- what no tick reads or writes
pub record Rest : Type 0 where
  pub image : List ℕ
  pub length : ℕ
  pub history : ℕ

abbrev pub rest_of : Code → Rest
rest_of m = record { image = m.image; length = m.image_len; history = m.history_len }

-- ---- section 1: the refusals of a state

abbrev pub is_machine : Code → Bool
is_machine m = parts_ok (core_of m) m.image_len m.touched m.lengths

abbrev pub step_refusal_of : Code → Result (Unit {0}) Refusal
step_refusal_of m = step_refusal (core_of m) m.image_len m.touched m.lengths

-- ---- what a call answers, and the machine that it leaves

pub record Effect (A M : Type 0) : Type 0 where
  pub answer : Result A Refusal
  pub machine : M

abbrev pub answered : {A M : Type 0} → Result A Refusal → M → Effect A M
answered a m = record { answer = a; machine = m }

-- of a call that answers nothing more: the new machine where it is served, else the old one
abbrev pub serve : Result (Unit {0}) Refusal → Code → Code → Effect (Unit {0}) Code
serve (Ok u) new old = answered (Ok tt) new
serve (Err r) new old = answered (Err r) old

-- ---- the calls that start a machine anew (section 7: `reset` and `load_image` keep the history, `clear` drops it)

-- a machine just switched on: image, its length, the number of history records
unfoldable pub restarted : List ℕ → ℕ → ℕ → Code
restarted image n history = record {
  memory = image;
  registers = replicate register_count 0;
  state = record {
    control = fresh_control;
    fault = None;
    last_transfer = None;
    last_alu = None;
  };
  counters = record { instructions = 0; micro_operations = 0; bus_reads = 0; bus_writes = 0 };
  columns = replicate columns_length 0;
  numbers = replicate trace_limit 0;
  lengths = replicate trace_limit 0;
  trace_start = 0;
  trace_len = 0;
  touched = replicate memory_words 0;
  touched_len = 0;
  image = image;
  image_len = n;
  history_len = history;
}

-- the first words, as many as memory has, zeros to the last address
unfoldable pub image_words : List ℕ → List ℕ
image_words image = take memory_words image ++ replicate (memory_words - length image) 0

-- how many of them there are, by the image's length
abbrev pub image_size : ℕ → ℕ
image_size n = min n memory_words

unfoldable pub loaded : List ℕ → Code → Effect (Unit {0}) Code
loaded image m = serve (served (is_machine m) tt) (restarted (image_words image) (image_size (length image)) m.history_len) m

unfoldable pub reset : Code → Effect (Unit {0}) Code
reset m = serve (served (is_machine m) tt) (restarted m.image m.image_len m.history_len) m

unfoldable pub clear : Code → Effect (Unit {0}) Code
clear m = serve (served (is_machine m) tt) (restarted (image_words []) 0 0) m

-- with another number of history records
abbrev pub with_history : ℕ → Code → Code
with_history n m = record {
  memory = m.memory;
  registers = m.registers;
  state = m.state;
  counters = m.counters;
  columns = m.columns;
  numbers = m.numbers;
  lengths = m.lengths;
  trace_start = m.trace_start;
  trace_len = m.trace_len;
  touched = m.touched;
  touched_len = m.touched_len;
  image = m.image;
  image_len = m.image_len;
  history_len = n;
}

unfoldable pub clear_history : Code → Effect (Unit {0}) Code
clear_history m = serve (served (is_machine m) tt) (with_history 0 m) m
