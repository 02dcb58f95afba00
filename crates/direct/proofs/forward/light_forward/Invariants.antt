-- The invariant: what is left of the stretches is the whole.
-- Assumes nothing.
use Rattle.std.proofs.Common.{◌≡◌, ◌-◌, ◌*◌, ◌/◌}
use Rattle.marks.specs.Owners.{hidden_from}
use Rattle.direct.specs.Lane.{slots_of, ahead, leads, forward, stretch_length}
use Rattle.direct.proofs.forward.light_forward.Given as goal

abbrev pub invariant-loop-turn : goal.invariant-loop-turn
invariant-loop-turn l =
    leads (hidden_from l.clearance) l.breaks (l.fn.limit.0 / stretch_length - l.turn) (ahead l.kept_made (slots_of l.kept l.memory l.registers l.touched l.seen l.marks l.register_marks)) (l.turn * stretch_length) (slots_of l.s l.memory2 l.registers2 l.touched2 l.seen l.marks2 l.register_marks2)
    ≡ forward (hidden_from l.clearance) l.breakpoints l.fn.limit.0 l.initial.s l.initial.memory l.initial.registers l.initial.touched l.initial.marks l.initial.register_marks
