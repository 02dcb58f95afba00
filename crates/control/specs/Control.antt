-- The control unit with one register anew (01, section 1; vm.rs, `Vm`).
-- Every other file says by these what a tick or a call leaves of it, so that its fields are written out here alone.
-- Assumes nothing.
use Rattle.std.specs.Prelude.{ℕ, Bool, false, Option}
use Rattle.control.specs.declared.control.Control.{Control}
use Rattle.control.specs.declared.control.Fault.{Fault}
use Rattle.control.specs.declared.control.BusTransfer.{BusTransfer}
use Rattle.control.specs.declared.control.AluRecord.{AluRecord}
use Rattle.control.specs.declared.control.State.{State}

-- that of a machine just switched on
abbrev pub fresh_control : Control
fresh_control = record {
  pc = 0;
  ir = 0;
  mar = 0;
  mdr = 0;
  instruction_address = 0;
  tick = 0;
  execute_ticks = 0;
  halted = false;
}

-- ---- with one register anew

abbrev pub with_pc : ℕ → Control → Control
with_pc v c = record {
  pc = v;
  ir = c.ir;
  mar = c.mar;
  mdr = c.mdr;
  instruction_address = c.instruction_address;
  tick = c.tick;
  execute_ticks = c.execute_ticks;
  halted = c.halted;
}

abbrev pub with_ir : ℕ → Control → Control
with_ir v c = record {
  pc = c.pc;
  ir = v;
  mar = c.mar;
  mdr = c.mdr;
  instruction_address = c.instruction_address;
  tick = c.tick;
  execute_ticks = c.execute_ticks;
  halted = c.halted;
}

abbrev pub with_mar : ℕ → Control → Control
with_mar v c = record {
  pc = c.pc;
  ir = c.ir;
  mar = v;
  mdr = c.mdr;
  instruction_address = c.instruction_address;
  tick = c.tick;
  execute_ticks = c.execute_ticks;
  halted = c.halted;
}

abbrev pub with_mdr : ℕ → Control → Control
with_mdr v c = record {
  pc = c.pc;
  ir = c.ir;
  mar = c.mar;
  mdr = v;
  instruction_address = c.instruction_address;
  tick = c.tick;
  execute_ticks = c.execute_ticks;
  halted = c.halted;
}

abbrev pub with_address : ℕ → Control → Control
with_address v c = record {
  pc = c.pc;
  ir = c.ir;
  mar = c.mar;
  mdr = c.mdr;
  instruction_address = v;
  tick = c.tick;
  execute_ticks = c.execute_ticks;
  halted = c.halted;
}

abbrev pub to_tick : ℕ → Control → Control
to_tick v c = record {
  pc = c.pc;
  ir = c.ir;
  mar = c.mar;
  mdr = c.mdr;
  instruction_address = c.instruction_address;
  tick = v;
  execute_ticks = c.execute_ticks;
  halted = c.halted;
}

abbrev pub with_execute_ticks : ℕ → Control → Control
with_execute_ticks v c = record {
  pc = c.pc;
  ir = c.ir;
  mar = c.mar;
  mdr = c.mdr;
  instruction_address = c.instruction_address;
  tick = c.tick;
  execute_ticks = v;
  halted = c.halted;
}

abbrev pub with_halted : Bool → Control → Control
with_halted v c = record {
  pc = c.pc;
  ir = c.ir;
  mar = c.mar;
  mdr = c.mdr;
  instruction_address = c.instruction_address;
  tick = c.tick;
  execute_ticks = c.execute_ticks;
  halted = v;
}

-- ---- the state with one part anew

abbrev pub with_control : Control → State → State
with_control v s = record { control = v; fault = s.fault; last_transfer = s.last_transfer; last_alu = s.last_alu }

abbrev pub with_fault : Option Fault → State → State
with_fault v s = record { control = s.control; fault = v; last_transfer = s.last_transfer; last_alu = s.last_alu }

abbrev pub with_transfer : Option BusTransfer → State → State
with_transfer v s = record { control = s.control; fault = s.fault; last_transfer = v; last_alu = s.last_alu }

abbrev pub with_alu : Option AluRecord → State → State
with_alu v s = record { control = s.control; fault = s.fault; last_transfer = s.last_transfer; last_alu = v }
