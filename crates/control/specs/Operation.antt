-- The operations of the ALU (vm.rs, `AluRecord`).
-- Assumes nothing.
use Prim.Native.String.{String}
use Rattle.control.specs.declared.control.AluOperation.{AluOperation}
use Rattle.control.specs.declared.control.AluOperation.TheVariants.{Add as ADD, Negate as NEGATE, Shr as SHR, Shl as SHL, And as AND, Or as OR, Xor as XOR}

-- the name of an operation of the ALU
abbrev pub operation_name : AluOperation → String
operation_name ADD = "ADD"
operation_name NEGATE = "NEGATE"
operation_name SHR = "SHR"
operation_name SHL = "SHL"
operation_name AND = "AND"
operation_name OR = "OR"
operation_name XOR = "XOR"
