-- What a word writes: one of sixteen registers, and a word of memory; and what decides whether it counts.
-- Assumes nothing.
use Rattle.std.proofs.Common.{◌≡◌, ℕ, ◌<◌, Bool, true, false, cond, eqb, sym, refl, subst, arith, None, Option, Some}
use Rattle.isa.specs.declared.opcode.Opcode.{Opcode}
use Rattle.isa.specs.Sizes.{register_count}
use Rattle.isa.specs.declared.opcode.Opcode.TheVariants.{StoreMemory, Jump}
use Rattle.isa.specs.Word.{byte_yz}
use Rattle.control.specs.declared.control.AluRecord.{AluRecord}
use Rattle.control.specs.declared.control.Fault.{Fault}
use Rattle.control.specs.declared.control.Operands.{Operands}
use Rattle.control.proofs.Lawfuls.{true-false}
use Rattle.trace.specs.Cells.{register_of}
use Rattle.trace.specs.Touched.{Addressed}
use Rattle.direct.specs.declared.work.Work.{Work}
use Rattle.direct.specs.Work.{worked, fault_by, halts}

pub named : (d : Option Opcode) (w p : ℕ) (a : Option AluRecord) (o : Operands) {k : Work} → k ≡ worked d w p a o → register_of k.write < register_count
named d w p a o e = subst (λ (k : Work). register_of k.write < register_count) (sym e) (go d)
  where
    go : (d : Option Opcode) → register_of (worked d w p a o).write < register_count
    go None = omega arith
    go (Some StoreMemory) = omega arith
    go (Some _) = omega arith

pub sends : (d : Option Opcode) (w p : ℕ) (a : Option AluRecord) (o : Operands) {k : Work} → k ≡ worked d w p a o → Addressed k.bus
sends d w p a o e = subst (λ (k : Work). Addressed k.bus) (sym e) (go d)
  where
    go : (d : Option Opcode) → Addressed (worked d w p a o).bus
    go (Some StoreMemory) = omega arith
    go _ = tt

pub unfaulted : (d : Option Opcode) (w a : ℕ) (f : Option Fault) → halts d ≡ false → fault_by d w a f ≡ f
unfaulted (Some o) w a f h = refl
unfaulted None w a f h = absurd (true-false h)

-- PC stays a byte
pub stays : (d : Option Opcode) (w p : ℕ) (a : Option AluRecord) (o : Operands) → p < 256 → (worked d w p a o).pc < 256
stays (Some Jump) w p a o h = go (eqb o.x o.zero)
  where
    go : (b : Bool) → cond b (byte_yz w) p < 256
    go true = omega arith
    go false = h
stays _ w p a o h = h
