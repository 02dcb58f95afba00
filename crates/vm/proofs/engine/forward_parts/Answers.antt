-- Assumes nothing.
use Prim.Native.Nat.{◌<◌}
use Rattle.marks.specs.Owners.{hidden_from}
use Rattle.vm.proofs.Ahead.{ahead_none, ahead_by}
use borrow.Author.Rules.{rules}
use Rattle.vm.proofs.engine.forward_parts.Goals as goal

pub returns-then-begun-ne1 : goal.returns-then-begun-ne1
returns-then-begun-ne1 c = let a = c.args in ahead_none (hidden_from a.clearance) a.breakpoints.now a.begun.0 a.limit.0 a.from a.memory.now a.registers.now a.touched.now a.marks.now a.register_marks.now a.hidden_total c.requires.2

pub returns-then-state : goal.returns-then-state
returns-then-state c = let a = c.args in ahead_none (hidden_from a.clearance) a.breakpoints.now a.begun.0 a.limit.0 a.from a.memory.now a.registers.now a.touched.now a.marks.now a.register_marks.now a.hidden_total c.requires.2

pub returns : goal.returns
returns c =
    let byte : c.args.from.state.control.pc < 256 =
    search rules in
    let s = c in
    let a = s.args in
    let m = c.light_forward-m in
    ahead_by (hidden_from a.clearance) a.breakpoints.now a.begun.0 a.limit.0 a.from a.memory.now a.registers.now a.touched.now a.marks.now a.register_marks.now a.hidden_total s.requires.2 s.requires.0 c.if-state.false (byte) s.requires.1 m.ensures c.with_lane-core.ensures
