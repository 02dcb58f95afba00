-- Assumes nothing.
use Rattle.plan.specs.Plan.{execute_text}
use Rattle.plan.proofs.plan.execute_text.Goals as goal

pub returns-in_default : goal.returns-in_default
unfolding execute_text
returns-in_default c = rw c.in_default.is c.from_bytes.ensures

pub returns-in-LoadImmediate : goal.returns-in-LoadImmediate
unfolding execute_text
returns-in-LoadImmediate c = rw (c.in-Some.is, c.in-LoadImmediate.is) c.immediate_text.ensures

pub returns-in-LoadRegister : goal.returns-in-LoadRegister
unfolding execute_text
returns-in-LoadRegister c = rw (c.in-Some.is, c.in-LoadRegister.is) c.register_text.ensures

pub returns-in-LoadMemory : goal.returns-in-LoadMemory
unfolding execute_text
returns-in-LoadMemory c = rw (c.in-Some.is, c.in-LoadMemory.is) c.load_text.ensures

pub returns-in-StoreMemory : goal.returns-in-StoreMemory
unfolding execute_text
returns-in-StoreMemory c = rw (c.in-Some.is, c.in-StoreMemory.is) c.store_text.ensures

pub returns-in-Add : goal.returns-in-Add
unfolding execute_text
returns-in-Add c = rw (c.in-Some.is, c.in-Add.is) c.add_text.ensures

pub returns-in-Negate : goal.returns-in-Negate
unfolding execute_text
returns-in-Negate c = rw (c.in-Some.is, c.in-Negate.is) c.negate_text.ensures

pub returns-in-ShiftRight : goal.returns-in-ShiftRight
unfolding execute_text
returns-in-ShiftRight c = rw (c.in-Some.is, c.in-ShiftRight.is) c.shift_right_text.ensures

pub returns-in-ShiftLeft : goal.returns-in-ShiftLeft
unfolding execute_text
returns-in-ShiftLeft c = rw (c.in-Some.is, c.in-ShiftLeft.is) c.shift_left_text.ensures

pub returns-in-And : goal.returns-in-And
unfolding execute_text
returns-in-And c = rw (c.in-Some.is, c.in-And.is) c.and_text.ensures

pub returns-in-Or : goal.returns-in-Or
unfolding execute_text
returns-in-Or c = rw (c.in-Some.is, c.in-Or.is) c.or_text.ensures

pub returns-in-Xor : goal.returns-in-Xor
unfolding execute_text
returns-in-Xor c = rw (c.in-Some.is, c.in-Xor.is) c.xor_text.ensures

pub returns-in-Jump : goal.returns-in-Jump
unfolding execute_text
returns-in-Jump c = rw (c.in-Some.is, c.in-Jump.is) c.branch_text.ensures

pub returns-in-Halt : goal.returns-in-Halt
unfolding execute_text
returns-in-Halt c = rw (c.in-Some.is, c.in-Halt.is) c.from_bytes-in-Halt.ensures
