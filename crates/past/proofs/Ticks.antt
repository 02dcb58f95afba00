-- What a tick, an instruction and a run add to the bus counters.
-- Assumes nothing.
use Rattle.std.specs.Prelude.{None, Option, Some}
use Rattle.isa.specs.declared.opcode.Opcode.{Opcode}
use Prim.Native.Nat.{ℕ, zero, suc, ◌+◌, ◌^◌, ◌≤◌, ◌<◌}
use native.Mathlib.Omega.{arith}
use mathlib.Core.Path.{◌≡◌, refl}
use mathlib.Core.Bool.{Bool, true, false, cond, ◌&&◌, ◌||◌}
use mathlib.Core.List.{List, [], ◌∷◌, ◌++◌}
use borrow.Author.Tests.{ltb-false, ne_eqb}
use lib.Dec.{eqb, leb}
use Rattle.isa.specs.declared.opcode.Opcode.TheVariants.{LoadImmediate, LoadRegister, LoadMemory, StoreMemory, Add, Negate, ShiftRight, ShiftLeft, And, Or, Xor, Jump, Halt}
use Rattle.isa.specs.Word.{decode_word}
use Rattle.plan.specs.Plan.{execute_ticks_of}
use Rattle.control.specs.declared.control.BusTransfer.{BusTransfer}
use Rattle.control.specs.declared.control.BusTransfer.TheVariants.{Read, Write}
use Rattle.control.specs.declared.control.State.{State}
use Rattle.control.specs.declared.control.Operands.{Operands}
use Rattle.control.specs.declared.control.Tick.{Tick}
use Rattle.control.specs.declared.counters.Counters.{Counters}
use Rattle.control.specs.Control.{to_tick, with_control}
use Rattle.control.specs.Count.{counter_limit, far, over_counted, count_tick}
use Rattle.control.specs.Lawful.{lawful}
use Rattle.control.proofs.Lawfuls.{true-false, lawful_fetch, lawful-small}
use Rattle.tick.specs.Tick.{plain, halting_tick, next_pc, is_halt, decode_as, decode_tick, execute_tick, ended_tick, later_tick, onward, tick_of}
use Rattle.tick.proofs.Lawfuls.{Next, tick_next}
use Rattle.vm.specs.Machine.{Machine, operands_of, next_tick, micro_step}
use Rattle.vm.specs.Instruction.{Steps, started, ticked, unless_zero, steps, step_instruction}
use Rattle.vm.proofs.Newest.{ends}
use Rattle.past.specs.Past.{is_opcode, second_fetch, second_load, third_store, count, bus_reads_of, bus_writes_of, ticks_from, instruction_ticks}

-- ---- which transfer a tick makes

abbrev read_of : Option BusTransfer → ℕ
read_of None = 0
read_of (Some (Read a v)) = 1
read_of (Some (Write a v)) = 0

abbrev write_of : Option BusTransfer → ℕ
write_of None = 0
write_of (Some (Read a v)) = 0
write_of (Some (Write a v)) = 1

-- the transfer of the tick with that number, by what the word in IR is
record Kind (b : Option BusTransfer) (t : ℕ) (d : Option Opcode) : Type 0 where
  read : read_of b ≡ cond (second_fetch t d) 1 0 + cond (second_load t d) 1 0
  write : write_of b ≡ cond (third_store t d) 1 0

no_and : (b : Bool) → b && false ≡ false
no_and true = refl
no_and false = refl

-- the fetch ticks, whatever the word
fetch_kind : (b : Option BusTransfer) (t : ℕ) (d : Option Opcode) → t ≤ 3 → read_of b ≡ cond (second_fetch t d) 1 0 → write_of b ≡ 0 → Kind b t d
fetch_kind b t d h r w = let e : (n : ℕ) → 4 ≤ n → eqb t n ≡ false = λ n l. ne_eqb t n (λ z. omega arith) in record {
  read = rw (e 5 (omega arith), no_and (is_opcode LoadMemory d)) (omega (arith, r));
  write = rw (e 6 (omega arith), no_and (is_opcode StoreMemory d)) w;
}

decode_idle : (d : Option Opcode) (s : State) → (decode_as d s).bus ≡ None
decode_idle None s = refl
decode_idle (Some o) s = go (is_halt o)
  where
    go : (h : Bool) → let c = next_pc (execute_ticks_of (Some o)) s.control in (cond h (halting_tick s c) (plain (with_control (to_tick 4 c) s))).bus ≡ None
    go true = refl
    go false = refl

-- an execute tick of a word that uses no bus
idle : (d : Option Opcode) (n : ℕ) {b : Option BusTransfer} → is_opcode LoadMemory d ≡ false → is_opcode StoreMemory d ≡ false → b ≡ None → Kind b (suc (suc (suc (suc n)))) d
idle d n l s e = let t : eqb (suc (suc (suc (suc n)))) 1 ≡ false = ne_eqb (suc (suc (suc (suc n)))) 1 (λ z. omega (arith, z)) in record { read = rw (e, t, l); write = rw (e, s) }

execute_kind : (d : Option Opcode) (n : ℕ) (s : State) (o : Operands) → n ≤ 2 → Kind (execute_tick d n s o).bus (suc (suc (suc (suc n)))) d
unfolding execute_tick
execute_kind (Some LoadImmediate) n s o h = idle (Some LoadImmediate) n refl refl refl
execute_kind (Some LoadRegister) n s o h = idle (Some LoadRegister) n refl refl refl
execute_kind (Some LoadMemory) zero s o h = record { read = refl; write = refl }
execute_kind (Some LoadMemory) (suc zero) s o h = record { read = refl; write = refl }
execute_kind (Some LoadMemory) (suc (suc zero)) s o h = record { read = refl; write = refl }
execute_kind (Some LoadMemory) (suc (suc (suc n))) s o h = absurd (omega arith)
execute_kind (Some StoreMemory) zero s o h = record { read = refl; write = refl }
execute_kind (Some StoreMemory) (suc zero) s o h = record { read = refl; write = refl }
execute_kind (Some StoreMemory) (suc (suc zero)) s o h = record { read = refl; write = refl }
execute_kind (Some StoreMemory) (suc (suc (suc n))) s o h = absurd (omega arith)
execute_kind (Some Add) n s o h = idle (Some Add) n refl refl refl
execute_kind (Some Negate) n s o h = idle (Some Negate) n refl refl refl
execute_kind (Some ShiftRight) n s o h = idle (Some ShiftRight) n refl refl refl
execute_kind (Some ShiftLeft) n s o h = idle (Some ShiftLeft) n refl refl refl
execute_kind (Some And) n s o h = idle (Some And) n refl refl refl
execute_kind (Some Or) n s o h = idle (Some Or) n refl refl refl
execute_kind (Some Xor) n s o h = idle (Some Xor) n refl refl refl
execute_kind (Some Jump) n s o h = idle (Some Jump) n refl refl refl
execute_kind (Some Halt) n s o h = idle (Some Halt) n refl refl refl
execute_kind None n s o h = idle None n refl refl refl

onward-bus : (n : ℕ) (t : Tick) → (onward n t).bus ≡ t.bus
onward-bus n t = go (leb t.state.control.execute_ticks (n + 1))
  where
    go : (b : Bool) → (cond b (ended_tick t) (later_tick t)).bus ≡ t.bus
    go true = refl
    go false = refl

tick_kind : (t : ℕ) (s : State) (o : Operands) → t ≤ 6 → Kind (tick_of t s o).bus t (decode_word s.control.ir)
unfolding tick_of decode_tick
tick_kind zero s o h = fetch_kind _ 0 _ (omega arith) refl refl
tick_kind (suc zero) s o h = fetch_kind _ 1 _ (omega arith) refl refl
tick_kind (suc (suc zero)) s o h = fetch_kind _ 2 _ (omega arith) refl refl
tick_kind (suc (suc (suc zero))) s o h = let d = decode_word s.control.ir in rw (decode_idle d s) (fetch_kind None 3 d (omega arith) refl refl)
tick_kind (suc (suc (suc (suc n)))) s o h = let d = decode_word s.control.ir in rw (onward-bus n (execute_tick d n s o)) (execute_kind d n s o (omega arith))

-- ---- what ticks add to the bus counters

-- from one to the other so many as the ticks tell, exactly
pub record Adds (k j : Counters) (t : List Machine) : Type 0 where
  pub reads : j.bus_reads ≡ k.bus_reads + bus_reads_of t
  pub writes : j.bus_writes ≡ k.bus_writes + bus_writes_of t

-- room for so many ticks more
pub record Room (n : ℕ) (k : Counters) : Type 0 where
  pub reads : k.bus_reads + n < 2 ^ 64
  pub writes : k.bus_writes + n < 2 ^ 64

-- a machine that runs
pub record Runs (m : Machine) : Type 0 where
  pub ok : lawful m.state.control ≡ true
  pub on : m.state.control.halted ≡ false

-- the transfer's own counts
record Counted (b : Option BusTransfer) (k j : Counters) : Type 0 where
  reads : j.bus_reads ≡ k.bus_reads + read_of b
  writes : j.bus_writes ≡ k.bus_writes + write_of b

counts : (b : Option BusTransfer) (c : Bool) (k : Counters) (n : ℕ) → Room (suc n) k → Counted b k (count_tick b c k)
unfolding count_tick
counts None c k n h = record { reads = omega arith; writes = omega arith }
counts (Some (Read a v)) c k n h = record { reads = omega (arith, h.reads); writes = omega arith }
counts (Some (Write a v)) c k n h = record { reads = omega arith; writes = omega (arith, h.writes) }

few : (b : Option BusTransfer) → (read_of b ≤ 1) × (write_of b ≤ 1)
few None = (omega arith, omega arith)
few (Some (Read a v)) = (omega arith, omega arith)
few (Some (Write a v)) = (omega arith, omega arith)

module _ (n : ℕ) (m : Machine) (r : Runs m) (h : Room (suc n) m.counters) where
  kind : Kind (next_tick m).bus m.state.control.tick (decode_word m.state.control.ir)
  kind = tick_kind m.state.control.tick m.state (operands_of m.state m.memory m.registers) (lawful-small m.state.control r.ok)

  counted : Counted (next_tick m).bus m.counters (micro_step m).counters
  unfolding micro_step
  counted = counts (next_tick m).bus (next_tick m).completed m.counters n h

  pub tick_adds : Adds m.counters (micro_step m).counters (m ∷ [])
  unfolding count
  tick_adds = record { reads = omega (arith, counted.reads, kind.read); writes = omega (arith, counted.writes, kind.write) }

  tick-room : Room n (micro_step m).counters
  tick-room = let f = few (next_tick m).bus in record { reads = omega (arith, h.reads, counted.reads, f.0); writes = omega (arith, h.writes, counted.writes, f.1) }

count_append : (kind : ℕ → Option Opcode → Bool) (t u : List Machine) → count kind (t ++ u) ≡ count kind t + count kind u
unfolding count
count_append kind [] u = omega arith
count_append kind (m ∷ t) u = omega (arith, count_append kind t u)

pub none_added : {k : Counters} → Adds k k []
unfolding count
none_added = record { reads = omega arith; writes = omega arith }

pub both_added : {k j i : Counters} {t u : List Machine} → Adds k j t → Adds j i u → Adds k i (t ++ u)
both_added {t} {u} a b = record {
  reads = omega (arith, a.reads, b.reads, count_append second_fetch t u, count_append second_load t u);
  writes = omega (arith, a.writes, b.writes, count_append third_store t u);
}

-- ---- an instruction

tick-runs : (m : Machine) → Runs m → Next m.state.control.tick (micro_step m).state.control
unfolding micro_step
tick-runs m g = tick_next m.state (operands_of m.state m.memory m.registers) g.ok g.on

-- and the room that it leaves
pub record Stepped (r : ℕ) (k j : Counters) (t : List Machine) : Type 0 where
  pub adds : Adds k j t
  pub room : Room r j

pub less : {n r : ℕ} {k : Counters} → r ≤ n → Room n k → Room r k
less l h = record { reads = omega (arith, h.reads); writes = omega (arith, h.writes) }

steps_add : (f r : ℕ) (s : Steps) → Runs s.machine → Room (f + r) s.machine.counters → Stepped r s.machine.counters (steps f s).machine.counters (ticks_from f s.machine)
unfolding steps ticked ticks_from
steps_add zero r s g h = record { adds = none_added; room = less (omega arith) h }
steps_add (suc f) r s g h =
    let m = s.machine in
    let room = less {r = suc (f + r)} (omega arith) h in
    let x = tick-runs m g in
    turn (micro_step m).state.control.tick refl (tick_adds (f + r) m g room) (tick-room (f + r) m g room) x (λ on. steps_add f r (ticked s) (record { ok = x.machine; on = on }) (tick-room (f + r) m g room))
  where
    turn : (t : ℕ) → let m = s.machine in let n = micro_step m in n.state.control.tick ≡ t → Adds m.counters n.counters (m ∷ []) → Room (f + r) n.counters
        → Next m.state.control.tick n.state.control
        → (n.state.control.halted ≡ false → Stepped r n.counters (steps f (ticked s)).machine.counters (ticks_from f n))
        → Stepped r m.counters (unless_zero t (ticked s) (λ u. steps f (ticked s))).machine.counters (m ∷ unless_zero t [] (λ u. ticks_from f n))
    turn zero e a h x i = record { adds = a; room = less (omega arith) h }
    turn (suc t) e a h x i = let j = i (x.goes (λ z. omega (arith, z, e))).1 in record { adds = both_added a j.adds; room = j.room }

-- no counter near its end leaves room for an instruction, and then for eight ticks more
pub uncounted_room : (k : Counters) → over_counted k ≡ false → Room 15 k
unfolding over_counted
uncounted_room k e =
    let a = (neither (far k.instructions) _ e).1 in
    let b = (neither (far k.micro_operations) _ a).1 in
    let c = neither (far k.bus_reads) (far k.bus_writes) b in
    record { reads = omega (arith, ltb-false counter_limit k.bus_reads c.0); writes = omega (arith, ltb-false counter_limit k.bus_writes c.1) }
  where
    neither : (a b : Bool) → a || b ≡ false → (a ≡ false) × (b ≡ false)
    neither true b e = absurd (true-false e)
    neither false b e = (refl, e)

module _ (m : Machine) (g : Runs m) where
  pub instruction-steps : (r : ℕ) → Room (7 + r) m.counters → Stepped r m.counters (step_instruction m).machine.counters (instruction_ticks m)
  unfolding step_instruction
  instruction-steps r h = steps_add 7 r (started m) g h

  pub instruction-lawful : lawful (step_instruction m).machine.state.control ≡ true
  instruction-lawful = lawful_fetch (step_instruction m).machine.state.control (omega (arith, ends m g.ok g.on))

  pub instruction_adds : over_counted m.counters ≡ false → Adds m.counters (step_instruction m).machine.counters (instruction_ticks m)
  instruction_adds e = (instruction-steps 8 (uncounted_room m.counters e)).adds
