-- The invariant: what is left of the stretch is the whole.
-- Assumes nothing.
use Rattle.std.proofs.Common.{◌≡◌, ◌-◌}
use Rattle.marks.specs.Owners.{hidden_from}
use Rattle.direct.specs.Lane.{slots_of, stretch}
use Rattle.direct.proofs.light.light_stretch.Given as goal

abbrev pub invariant-loop-made : goal.invariant-loop-made
invariant-loop-made l =
    stretch (hidden_from l.clearance) l.breaks (l.limit.0 - l.made) l.made (slots_of l.s l.memory l.registers l.touched l.seen l.marks l.register_marks)
    ≡ stretch (hidden_from l.clearance) l.breaks l.limit.0 0 (slots_of l.initial.s l.initial.memory l.initial.registers l.initial.touched l.initial.seen l.initial.marks l.initial.register_marks)
