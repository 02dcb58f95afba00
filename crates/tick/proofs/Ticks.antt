-- The laws of `specs/Tick.antt`: a tick by its number.
-- Assumes nothing.
use Rattle.std.proofs.Common.{◌≡◌, ℕ, zero, suc, ◌-◌, ◌<◌, ◌≤◌, refl, arith}
use Rattle.isa.specs.Word.{decode_word}
use Rattle.control.specs.declared.control.State.{State}
use Rattle.control.specs.declared.control.Operands.{Operands}
use Rattle.tick.specs.Tick.{fetch_tick, execute_tick, onward, tick_of}

pub early : (t : ℕ) (s : State) (o : Operands) → t < 4 → fetch_tick t s o.cell ≡ tick_of t s o
unfolding tick_of
early zero s o h = refl
early (suc zero) s o h = refl
early (suc (suc zero)) s o h = refl
early (suc (suc (suc zero))) s o h = refl
early (suc (suc (suc (suc t)))) s o h = absurd (omega arith)

pub late : (t : ℕ) (s : State) (o : Operands) → 4 ≤ t → onward (t - 4) (execute_tick (decode_word s.control.ir) (t - 4) s o) ≡ tick_of t s o
unfolding tick_of
late zero s o h = absurd (omega arith)
late (suc zero) s o h = absurd (omega arith)
late (suc (suc zero)) s o h = absurd (omega arith)
late (suc (suc (suc zero))) s o h = absurd (omega arith)
late (suc (suc (suc (suc t)))) s o h =
    let n : suc (suc (suc (suc t))) - 4 ≡ t = omega arith in
    rw n
