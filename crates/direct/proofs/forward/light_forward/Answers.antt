use Rattle.std.proofs.Common.{◌≡◌, ◌-◌, ◌/◌, ℕ, List, sym, ◌∙◌, arith}
use Rattle.marks.specs.Owners.{hidden_from}
use Rattle.direct.specs.Lane.{slots_of, ahead, leads, forward, stretch_length}
use Rattle.direct.proofs.Stretches.{leads_turn, leads_stop, leads_over}
use Rattle.direct.proofs.forward.light_forward.Goals as goal

pub returns-then-limit-lt-STRETCH : goal.returns-then-limit-lt-STRETCH
unfolding forward leads
returns-then-limit-lt-STRETCH c = let z : c.args.limit.0 / stretch_length ≡ 0 = omega arith in rw z

pub loop-turn-init : goal.loop-turn-init
unfolding forward
loop-turn-init c =
    let a = c.args in
    let z : a.limit.0 / stretch_length - 0 ≡ a.limit.0 / stretch_length = omega arith in
    let first = λ (t : List ℕ). slots_of a.from a.memory.now a.registers.now a.touched.now t a.marks.now a.register_marks.now in
    λ i. leads (hidden_from a.clearance) (c.table_of-breaks.ensures i) (z i) (ahead 0 (first (c.first_table-seen.ensures i))) 0 (first (c.first_table-seen.ensures i))

pub loop-turn-preserved : goal.loop-turn-preserved
loop-turn-preserved c =
    let a = c.args in
    let l = c.loop-turn in
    sym (leads_turn (hidden_from a.clearance) c.table_of-breaks.result (a.limit.0 / stretch_length) l.turn (ahead l.kept_made (slots_of l.kept l.memory l.registers l.touched l.seen l.marks l.register_marks)) (slots_of l.s l.memory2 l.registers2 l.touched2 l.seen l.marks2 l.register_marks2) c.stretch_length.ensures c.light_stretch-m.ensures (omega arith) c.if-m-ne-STRETCH.false) ∙ l.invariant

pub returns-after-loop-turn : goal.returns-after-loop-turn
returns-after-loop-turn c =
    let a = c.args in
    let l = c.loop-turn in
    sym (leads_over (hidden_from a.clearance) c.table_of-breaks.result (a.limit.0 / stretch_length) l.turn (ahead l.kept_made (slots_of l.kept l.memory l.registers l.touched l.seen l.marks l.register_marks)) (slots_of l.s l.memory2 l.registers2 l.touched2 l.seen l.marks2 l.register_marks2) _ (omega arith)) ∙ l.invariant

pub returns-then-m-ne-STRETCH : goal.returns-then-m-ne-STRETCH
returns-then-m-ne-STRETCH c =
    let a = c.args in
    let l = c.loop-turn in
    sym (leads_stop (hidden_from a.clearance) c.table_of-breaks.result (a.limit.0 / stretch_length) l.turn (ahead l.kept_made (slots_of l.kept l.memory l.registers l.touched l.seen l.marks l.register_marks)) (slots_of l.s l.memory2 l.registers2 l.touched2 l.seen l.marks2 l.register_marks2) c.stretch_length.ensures c.light_stretch-m.ensures (omega arith) c.if-m-ne-STRETCH.true) ∙ l.invariant
