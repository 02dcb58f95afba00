-- The history (01, sections 1 and 7; vm.rs, `push_history`, `undo`, `snapshot` and `restore`): the machine keeps the number of records, a lent store the
-- records.
-- Assumes nothing.
use Rattle.std.specs.Prelude.{ℕ, ◌-◌, Bool, List, length, Option, Some, None, is_some, Result, Ok, Err}
use Rattle.encoding.specs.declared.refusal.Refusal.{Refusal}
use Rattle.control.specs.declared.control.State.{State}
use Rattle.control.specs.declared.counters.Counters.{Counters}
use Rattle.history.specs.declared.differing.Differences.{Differences}
use Rattle.history.specs.declared.snapshot.Snapshot.{Snapshot}
use Rattle.history.specs.Store.{push_count, push_store, newest}
use Rattle.history.specs.Differences.{differences_of}
use Rattle.history.specs.Restore.{store_refusal_if, undo_refusal_if, restored_state, restored_counters}
use Rattle.vm.specs.declared.machine.Machine.{Machine as Code}
use Rattle.vm.specs.Calls.{is_machine, Effect, serve, with_history}

unfoldable pub store_refusal : ℕ → Code → Result (Unit {0}) Refusal
store_refusal n m = store_refusal_if n (is_machine m) m.history_len

unfoldable pub undo_refusal : ℕ → Bool → Code → Result (Unit {0}) Refusal
undo_refusal n good m = undo_refusal_if (store_refusal n m) m.history_len good

-- what is kept of a machine
abbrev pub snapshot_of : Code → Snapshot
snapshot_of m = record {
  registers = m.registers;
  memory = m.memory;
  control = m.state.control;
  fault = m.state.fault;
  instructions = m.counters.instructions;
  micro_operations = m.counters.micro_operations;
}

-- `push_history`: the machine, and the store
unfoldable pub saved : ℕ → Code → Effect (Unit {0}) Code
saved n m = serve (store_refusal n m) (with_history (push_count n m.history_len) m) m

-- the new store where the call is served, else the old one
abbrev pub store_after : Result (Unit {0}) Refusal → List ℕ → List ℕ → List ℕ
store_after (Ok u) new old = new
store_after (Err r) new old = old

unfoldable pub saved_store : List ℕ → Code → List ℕ
saved_store d m = store_after (store_refusal (length d) m) (push_store d m.history_len (snapshot_of m)) d

-- a machine with a snapshot's words: touched addresses, state, counters, number of records; image and trace stay
abbrev pub restored_with : Snapshot → Differences → State → Counters → ℕ → Code → Code
restored_with s d t c k m = record {
  memory = s.memory;
  registers = s.registers;
  state = t;
  counters = c;
  columns = m.columns;
  numbers = m.numbers;
  lengths = m.lengths;
  trace_start = m.trace_start;
  trace_len = m.trace_len;
  touched = d.addresses;
  touched_len = d.count;
  image = m.image;
  image_len = m.image_len;
  history_len = k;
}

-- touched are then the addresses where memory and image differ
unfoldable pub restored : Snapshot → Code → Code
restored s m = restored_with s (differences_of m.image s.memory) (restored_state s m.state) (restored_counters s m.counters) (m.history_len - 1) m

-- by the snapshot that was found, if one was
abbrev pub restored_by : Option Snapshot → Code → Code
restored_by None m = m
restored_by (Some s) m = restored s m

-- `undo`, which leaves the store as it is
unfoldable pub undone : List ℕ → Code → Effect (Unit {0}) Code
undone d m = let r = newest d m.history_len in serve (undo_refusal (length d) (is_some r) m) (restored_by r m) m
