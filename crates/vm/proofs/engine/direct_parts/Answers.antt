-- Assumes nothing.
use mathlib.Core.Path.{refl, ap, sym, subst, ◌∙◌}
use Rattle.direct.specs.declared.whole.Small.{Small}
use Rattle.direct.specs.Whole.{Wholly, held_of}
use Rattle.vm.proofs.DirectParts.{HeldFit, steps_of, at_rest_lem, whole_steps, whole_fit}
use Rattle.vm.proofs.engine.direct_parts.Goals as goal

pub returns : goal.returns
returns c =
    let s = c in
    let a = s.args in
    let e = c.whole_instruction-w.ensures in
    let q : Small = record { state = a.from.state; counters = a.from.counters; touched_len = a.from.touched_len; ring = record { start = a.from.trace_start; len = a.from.trace_len } } in
    let h = held_of q a.memory.now a.registers.now a.touched.now a.columns.now a.numbers.now a.lengths.now in
    let f : HeldFit h = record { tick = s.requires.0; touched = s.requires.2.touched; trace = s.requires.2.trace } in
    let g = subst (λ (x : Wholly). HeldFit x.held) (sym e) (whole_fit h f) in
    record {
      steps = ap steps_of e ∙ whole_steps h f s.requires.1;
      fit = record { control = at_rest_lem _ g.tick; touched = g.touched; trace = g.trace };
      ends = g.tick;
      halted = refl;
    }
