use Prim.Native.Nat.{◌<◌}
use mathlib.Core.Path.{ap, ◌∙◌}
use lib.Dec.{eqb}
use borrow.Author.Rules.{rules}
use mir.Val.{Fits}
use mir.Syntax.{w8}
use Rattle.isa.specs.Sizes.{memory_words}
use Rattle.control.specs.declared.control.Tick.{Tick}
use Rattle.control.specs.Lawful.{lawful}
use Rattle.tick.proofs.Lawfuls.{tick_next}
use Rattle.vm.specs.View.{parts, view}
use Rattle.trace.specs.Trace.{arrays_of}
use Rattle.trace.specs.Forms.{places_of}
use Rattle.trace.proofs.Rings.{pushed-live}
use Rattle.trace.proofs.Places.{touched-live}
use Rattle.control.proofs.Addresses.{of_memory}
use Rattle.vm.proofs.TickLaws.{sends, text_field, short-text, is_tick, is_done}
use Rattle.vm.proofs.parts.tick_parts.Goals as goal

pub read_operands-o-requires : goal.read_operands-o-requires
read_operands-o-requires c =
    let byte : Fits w8 c.args.s.state.control.mar =
    search rules in
    let mar : c.args.s.state.control.mar < memory_words =
    of_memory (byte) in
    mar

pub returns : goal.returns
returns c =
    let byte : Fits w8 c.args.s.state.control.mar =
    search (rules, c.well_formed) in
    let mar : c.args.s.state.control.mar < memory_words =
    of_memory (byte) in
    let s = c in let a = s.args in
    let o = c.read_operands-o in
    let x = c.tick_text-text in
    let h = c.tick_phase-phase in
    let t = c.tick_of-t in
    let k = c.count_tick-counters in
    let w = c.set_register in
    let m = c.set_word in
    let u = c.touch-n in
    let q = c.push_trace-q in
    let v = view (parts a.s a.memory.now a.registers.now a.touched.now a.columns.now a.numbers.now a.lengths.now) in
    let n = tick_next a.s.state o.result s.requires.1.control s.requires.0 in
    let e = ap (λ (z : Tick). z.state.control) t.ensures in
    let b = sends a.s.state o.result (mar) a.s.state.control.tick t.ensures in
    let g = eqb o.result.x o.result.zero in
    let f = a.s.state.control in
    let y = touched-live t.result.bus (places_of a.s.touched_len a.touched.now) u.ensures b s.requires.1.touched in
    let z = pushed-live (record { number = k.result.micro_operations; address = t.result.state.control.instruction_address; phase = h.result; text = x.result }) (arrays_of (record { start = a.s.trace_start; len = a.s.trace_len }) a.columns.now a.numbers.now a.lengths.now) q.ensures (text_field f.tick g f.ir x.ensures) (short-text f.tick g f.ir x.ensures) s.requires.1.trace in (
      is_tick v o.result x.result h.result t.result o.ensures t.ensures k.result x.ensures h.ensures k.ensures m.ensures w.ensures z.0 y.0,
      is_done v o.result x.result h.result t.result o.ensures t.ensures c.is_fault-faulted.ensures,
      record { control = ap lawful e ∙ n.machine; touched = y.1; trace = z.1 },
      λ p. ap (λ (y : Tick). y.state.control.halted) t.ensures ∙ (n.goes (λ y. p (ap (λ (b : Tick). b.state.control.tick) t.ensures ∙ y))).1,
    )
