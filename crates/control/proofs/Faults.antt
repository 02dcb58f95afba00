-- The laws of a fault's code (`specs/Codes.antt`): it comes back, its kind is one of three, and its word and address are no wider than what they are read from.
-- Assumes nothing.
use Rattle.std.proofs.Common.{◌≡◌, ℕ, ◌<◌, Bool, true, false, cond, eqb, leb, length, refl, Option, Some, None}
use Rattle.control.specs.declared.control.Fault.{Fault}
use Rattle.control.specs.declared.control.Fault.TheVariants.{UnknownInstruction, StepBudgetExhausted}
use Rattle.encoding.specs.Bytes.{big_endian}
use Rattle.control.specs.Codes.{fault_code, fault_width, fault_bytes, fault_of}

pub fault_back : (f : Option Fault) → fault_of (fault_code f).kind (fault_code f).word (fault_code f).address ≡ f
fault_back None = refl
fault_back (Some (UnknownInstruction w a)) = refl
fault_back (Some (StepBudgetExhausted w a)) = refl

pub kind_known : (f : Option Fault) → leb (fault_code f).kind 2 ≡ true
kind_known None = refl
kind_known (Some (UnknownInstruction w a)) = refl
kind_known (Some (StepBudgetExhausted w a)) = refl

-- no fault has zeros for word and address
pub fault-word-below : (kind w a high : ℕ) → 0 < high → w < high → (fault_code (fault_of kind w a)).word < high
fault-word-below kind w a high z h = go (eqb kind 1) (eqb kind 2)
  where
    go : (s t : Bool) → (fault_code (cond s (Some (UnknownInstruction w a)) (cond t (Some (StepBudgetExhausted w a)) None))).word < high
    go true t = h
    go false true = h
    go false false = z

pub fault-address-below : (kind w a high : ℕ) → 0 < high → a < high → (fault_code (fault_of kind w a)).address < high
fault-address-below kind w a high z h = go (eqb kind 1) (eqb kind 2)
  where
    go : (s t : Bool) → (fault_code (cond s (Some (UnknownInstruction w a)) (cond t (Some (StepBudgetExhausted w a)) None))).address < high
    go true t = h
    go false true = h
    go false false = z

-- ---- its bytes, by its kind

pub length-fault : (f : Option Fault) → length (fault_bytes f) ≡ fault_width
unfolding fault_bytes big_endian
length-fault f = refl
