-- What is refused of `push_history` and of `undo` (01, section 1, numbers 7, 8 and 10), and what a snapshot gives back (section 7; vm.rs, `restore`).
-- Assumes nothing.
use Rattle.std.specs.Prelude.{ℕ, Bool, cond, eqb, ltb, Result, Ok, Err}
use Rattle.std.specs.Result.{result_and}
use Rattle.encoding.specs.declared.refusal.Refusal.{Refusal}
use Rattle.encoding.specs.declared.refusal.Refusal.TheVariants.{ShortStore, NoMachine, NoHistory}
use Rattle.control.specs.declared.control.State.{State}
use Rattle.control.specs.declared.counters.Counters.{Counters}
use Rattle.history.specs.declared.snapshot.Snapshot.{Snapshot}
use Rattle.history.specs.Record.{record_length}
use Rattle.history.specs.Store.{limit_of}

-- 7: the store holds no record; 8: it is no machine, or it has more records than the store holds.
-- The store's length, whether it is a machine, its number of records
abbrev pub store_refusal_if : ℕ → Bool → ℕ → Result (Unit {0}) Refusal
store_refusal_if n ok k = cond (ltb n record_length) (Err ShortStore) (cond ok (cond (ltb (limit_of n) k) (Err NoMachine) (Ok tt)) (Err NoMachine))

-- of `undo` what store and state were refused, then 10: there is nothing to undo; and 8: the bytes of the newest record are none's
abbrev pub undo_refusal_if : Result (Unit {0}) Refusal → ℕ → Bool → Result (Unit {0}) Refusal
undo_refusal_if r k good = result_and r (cond (eqb k 0) (Err NoHistory) (cond good (Ok tt) (Err NoMachine)))

-- the state of a snapshot; last transfer and last ALU record stay
abbrev pub restored_state : Snapshot → State → State
restored_state s t = record { control = s.control; fault = s.fault; last_transfer = t.last_transfer; last_alu = t.last_alu }

-- the bus counters stay
abbrev pub restored_counters : Snapshot → Counters → Counters
restored_counters s c = record {
  instructions = s.instructions;
  micro_operations = s.micro_operations;
  bus_reads = c.bus_reads;
  bus_writes = c.bus_writes;
}
