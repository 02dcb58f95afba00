-- Answers that are enums, each by its number and values (01, the last paragraph); zeros where there is none.
-- Assumes nothing.
use Rattle.std.specs.Prelude.{ℕ, cond, List, [], ◌∷◌, ◌++◌, ◌==◌, None, Option, Some}
use Rattle.encoding.specs.Bytes.{big_endian}
use Rattle.control.specs.declared.control.Fault.{Fault}
use Rattle.control.specs.declared.control.Fault.TheVariants.{UnknownInstruction, StepBudgetExhausted}
use Rattle.control.specs.declared.control.BusTransfer.{BusTransfer}
use Rattle.control.specs.declared.control.BusTransfer.TheVariants.{Read, Write}
use Rattle.control.specs.declared.control.RegisterWrite.{RegisterWrite}
use Rattle.control.specs.declared.control.AluOperation.{AluOperation}
use Rattle.control.specs.declared.control.AluOperation.TheVariants.{Add as ADD, Negate as NEGATE, Shr as SHR, Shl as SHL, And as AND, Or as OR, Xor as XOR}
use Rattle.control.specs.declared.control.AluRecord.{AluRecord}
use Rattle.control.specs.declared.codes.FaultCode.{FaultCode}
use Rattle.control.specs.declared.codes.TransferCode.{TransferCode}
use Rattle.control.specs.declared.codes.WriteCode.{WriteCode}
use Rattle.control.specs.declared.codes.WordCode.{WordCode}
use Rattle.control.specs.declared.codes.AluCode.{AluCode}

-- a fault: 0 none, 1 unknown, 2 budget (section 6, kind 08; section 7)
abbrev pub fault_code : Option Fault → FaultCode
fault_code None = record { kind = 0; word = 0; address = 0 }
fault_code (Some (UnknownInstruction w a)) = record { kind = 1; word = w; address = a }
fault_code (Some (StepBudgetExhausted w a)) = record { kind = 2; word = w; address = a }

-- its bytes, in a history record and in a report: kind, word, address
abbrev pub fault_width : ℕ
fault_width = 4

unfoldable pub fault_bytes : Option Fault → List ℕ
fault_bytes f = (fault_code f).kind ∷ (big_endian 2 (fault_code f).word ++ ((fault_code f).address ∷ []))

-- and back, from kind, word and address, which count for nothing under kind 0
abbrev pub fault_of : ℕ → ℕ → ℕ → Option Fault
fault_of kind w a = cond (kind == 1) (Some (UnknownInstruction w a)) (cond (kind == 2) (Some (StepBudgetExhausted w a)) None)

-- ---- the call program's document, 04 and 0A

-- a transfer over the bus: 0 none, 1 read, 2 write
abbrev pub transfer_code : Option BusTransfer → TransferCode
transfer_code None = record { kind = 0; address = 0; value = 0 }
transfer_code (Some (Read a v)) = record { kind = 1; address = a; value = v }
transfer_code (Some (Write a v)) = record { kind = 2; address = a; value = v }

-- the registers that a tick writes: how many, which, its value
abbrev pub write_code : Option RegisterWrite → WriteCode
write_code None = record { count = 0; register = 0; value = 0 }
write_code (Some w) = record { count = 1; register = w.register; value = w.value }

-- an operation of the ALU; 0 is none
abbrev pub operation_number : AluOperation → ℕ
operation_number ADD = 1
operation_number NEGATE = 2
operation_number SHR = 3
operation_number SHL = 4
operation_number AND = 5
operation_number OR = 6
operation_number XOR = 7

-- a word that may be missing: 1 where it is there, and the word
abbrev pub word_code : Option ℕ → WordCode
word_code (Some w) = record { there = 1; word = w }
word_code None = record { there = 0; word = 0 }

-- the last operation of the ALU: which, left, whether right is there, right, result
abbrev pub alu_code : Option AluRecord → AluCode
alu_code None = record { operation = 0; left = 0; right_there = 0; right = 0; result = 0 }
alu_code (Some a) = record {
  operation = operation_number a.operation;
  left = a.left;
  right_there = (word_code a.right).there;
  right = (word_code a.right).word;
  result = a.result;
}
