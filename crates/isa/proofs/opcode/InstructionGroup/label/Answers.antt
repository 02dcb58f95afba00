-- Assumes nothing.
use Rattle.isa.proofs.opcode.InstructionGroup.label.Goals as goal

pub returns-in-DataTransfer : goal.returns-in-DataTransfer
returns-in-DataTransfer c = rw c.in-DataTransfer.is c.from_bytes.ensures

pub returns-in-ArithmeticLogic : goal.returns-in-ArithmeticLogic
returns-in-ArithmeticLogic c = rw c.in-ArithmeticLogic.is c.from_bytes-in-ArithmeticLogic.ensures

pub returns-in-Control : goal.returns-in-Control
returns-in-Control c = rw c.in-Control.is c.from_bytes-in-Control.ensures
