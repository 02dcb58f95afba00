-- The register transfers of an instruction (01, section 3; vm.rs, `transfer_plan`): how many execute ticks an opcode has, and each tick's text.
-- Assumes nothing.
use Rattle.std.specs.Prelude.{ℕ, zero, suc, ◌+◌, Bool, true, cond, List, [], ◌∷◌, ltb, None, Option, Some}
use Rattle.isa.specs.declared.opcode.Opcode.{Opcode}
use Prim.Native.String.{String}
use Rattle.isa.specs.declared.opcode.Opcode.TheVariants.{LoadImmediate, LoadRegister, LoadMemory, StoreMemory, Add, Negate, ShiftRight, ShiftLeft, And, Or, Xor, Jump, Halt}
use Rattle.isa.specs.Text.{ascii, text}
use Rattle.isa.specs.Word.{decode_word}
use Rattle.isa.specs.Format.{fill}
use Rattle.plan.specs.declared.plan.Phase.{Phase}
use Rattle.plan.specs.declared.plan.Phase.TheVariants.{Fetch, Decode, Execute, Halt as Halted}
use Rattle.plan.specs.declared.plan.TransferPlan.{TransferPlan}

-- the name of a phase
abbrev pub phase_label : Phase → String
phase_label Fetch = "fetch"
phase_label Decode = "decode"
phase_label Execute = "execute"
phase_label Halted = "halt"

-- its number (section 6, kind 04; the call program's document, 04)
abbrev pub phase_number : Phase → ℕ
phase_number Fetch = 0
phase_number Decode = 1
phase_number Execute = 2
phase_number Halted = 3

-- a running machine fetches in the first four ticks, and executes in the others
abbrev pub phase_of : ℕ → Phase
phase_of t = cond (ltb t 4) Fetch Execute

-- the four fetch ticks are followed by 3 for LOAD [yz] and STORE, 0 for HALT or no opcode, else 1
abbrev pub execute_ticks_of : Option Opcode → ℕ
execute_ticks_of (Some LoadImmediate) = 1
execute_ticks_of (Some LoadRegister) = 1
execute_ticks_of (Some LoadMemory) = 3
execute_ticks_of (Some StoreMemory) = 3
execute_ticks_of (Some Add) = 1
execute_ticks_of (Some Negate) = 1
execute_ticks_of (Some ShiftRight) = 1
execute_ticks_of (Some ShiftLeft) = 1
execute_ticks_of (Some And) = 1
execute_ticks_of (Some Or) = 1
execute_ticks_of (Some Xor) = 1
execute_ticks_of (Some Jump) = 1
execute_ticks_of (Some Halt) = 0
execute_ticks_of None = 0

-- the texts as templates: the fetch ticks, from 0 on
unfoldable pub fetch_text : ℕ → String
fetch_text zero = "PC -> MAR"
fetch_text (suc zero) = "M[MAR] -> MDR"
fetch_text (suc (suc zero)) = "MDR -> IR"
fetch_text (suc (suc (suc n))) = "PC + 1 -> PC"

unfoldable pub load_text : ℕ → String
load_text zero = "yz -> MAR"
load_text (suc zero) = "M[MAR] -> MDR"
load_text (suc (suc n)) = "MDR -> Rx"

unfoldable pub store_text : ℕ → String
store_text zero = "yz -> MAR"
store_text (suc zero) = "Rx -> MDR"
store_text (suc (suc n)) = "MDR -> M[MAR]"

-- execute tick n of an opcode; an untaken JUMP's text has an ending
unfoldable pub execute_text : Option Opcode → ℕ → Bool → String
execute_text (Some LoadImmediate) n taken = "yz -> Rx"
execute_text (Some LoadRegister) n taken = "Rz -> Ry"
execute_text (Some LoadMemory) n taken = load_text n
execute_text (Some StoreMemory) n taken = store_text n
execute_text (Some Add) n taken = "Ry + Rz -> Rx"
execute_text (Some Negate) n taken = "~Ry + 1 -> Ry"
execute_text (Some ShiftRight) n taken = "Rx >> yz -> Rx"
execute_text (Some ShiftLeft) n taken = "Rx << yz -> Rx"
execute_text (Some And) n taken = "Ry AND Rz -> Rx"
execute_text (Some Or) n taken = "Ry OR Rz -> Rx"
execute_text (Some Xor) n taken = "Ry XOR Rz -> Rx"
execute_text (Some Jump) n taken = cond taken "if Rx = R0: yz -> PC" "if Rx = R0: yz -> PC (not taken)"
execute_text (Some Halt) n taken = ""
execute_text None n taken = ""

-- the text of a tick: its number, whether a jump is taken, the word
unfoldable pub tick_template : ℕ → Bool → ℕ → String
tick_template zero taken w = fetch_text 0
tick_template (suc zero) taken w = fetch_text 1
tick_template (suc (suc zero)) taken w = fetch_text 2
tick_template (suc (suc (suc zero))) taken w = fetch_text 3
tick_template (suc (suc (suc (suc n)))) taken w = execute_text (decode_word w) n taken

unfoldable pub tick_text : ℕ → Bool → ℕ → List ℕ
tick_text t taken w = fill w (ascii (tick_template t taken w))

-- the texts of a plan: a JUMP's is that of a taken one
unfoldable pub plan_text : ℕ → ℕ → ℕ → List ℕ
plan_text t n w = cond (ltb t n) (tick_text t true w) []

-- the transfers of the word w, as the struct that holds them
unfoldable pub plan_of : ℕ → TransferPlan
plan_of w =
    let n = 4 + execute_ticks_of (decode_word w) in
    record {
      texts = text (plan_text 0 n w) ∷ text (plan_text 1 n w) ∷ text (plan_text 2 n w) ∷ text (plan_text 3 n w) ∷ text (plan_text 4 n w) ∷ text (plan_text 5 n w) ∷ text (plan_text 6 n w) ∷ [];
      count = n;
    }
