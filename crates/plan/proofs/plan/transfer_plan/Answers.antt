-- Assumes nothing.
use Prim.Native.Nat.{ℕ, ◌+◌, ◌≤◌}
use native.Mathlib.Omega.{arith}
use mathlib.Core.Path.{◌≡◌, sym, ap, ◌∙◌}
use Rattle.isa.specs.Word.{decode_word}
use Rattle.isa.proofs.Words.{read_off}
use Rattle.plan.specs.Plan.{execute_ticks_of, plan_of}
use Rattle.plan.proofs.Plans.{ticks-few, planned, planned_none, planned_next}
use Rattle.plan.proofs.plan.transfer_plan.Goals as goal

pub overflow_add-count : goal.overflow_add-count
overflow_add-count c =
    let h : execute_ticks_of c.opcode.result ≤ 3 = ticks-few c.opcode.result in
    omega (arith, c.execute_tick_count-count.ensures)

pub loop-tick-init : goal.loop-tick-init
loop-tick-init c = planned_none c.args.word c.from_bytes-texts.ensures

pub bounds-texts-tick : goal.bounds-texts-tick
bounds-texts-tick c =
    let h : execute_ticks_of c.opcode.result ≤ 3 = ticks-few c.opcode.result in
    omega (arith, c.execute_tick_count-count.ensures)

pub loop-tick-preserved : goal.loop-tick-preserved
loop-tick-preserved c =
    let h : execute_ticks_of c.opcode.result ≤ 3 = ticks-few c.opcode.result in
    planned_next c.loop-tick.tick c.args.word (omega (arith, c.execute_tick_count-count.ensures)) c.tick_text.ensures c.loop-tick.invariant

pub returns : goal.returns
unfolding plan_of
returns c =
    let w = c.args.word in
    let l = c.loop-tick in
    let n : l.tick ≡ 4 + c.execute_tick_count-count.result = omega arith in
    let e = ap (λ (k : ℕ). 4 + k) (c.execute_tick_count-count.ensures ∙ ap execute_ticks_of (sym (read_off decode_word w c.from_word.ensures c.opcode.ensures))) in
    let t = l.invariant ∙ ap (λ (k : ℕ). planned k w) (n ∙ e) in
    λ j. record { texts = t j; count = e j }
