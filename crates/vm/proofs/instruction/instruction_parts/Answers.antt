use Prim.Native.Nat.{◌≤◌}
use native.Mathlib.Omega.{arith}
use mathlib.Core.Path.{refl, sym, ◌∙◌}
use borrow.Author.Rules.{rules}
use Rattle.vm.proofs.TickTurns.{go_on, ended, spent}
use Rattle.vm.proofs.instruction.instruction_parts.Goals as goal

pub loop-s-init : goal.loop-s-init
loop-s-init c = (refl, c.requires.0, omega arith, search rules, c.requires.1, c.requires.2)

pub tick_parts-t-requires : goal.tick_parts-t-requires
tick_parts-t-requires c = let i = c.loop-s.invariant in (i.4, i.5)

pub overflow_add-made : goal.overflow_add-made
overflow_add-made c = let i = c.loop-s.invariant in omega (arith, i.1, i.2, i.3)

pub overflow_sub-left : goal.overflow_sub-left
overflow_sub-left c = omega (arith, c.loop-s.invariant.1)

pub loop-s-smaller : goal.loop-s-smaller
loop-s-smaller c = omega (arith, c.loop-s.invariant.1)

pub loop-s-preserved : goal.loop-s-preserved
loop-s-preserved c =
    let l = c.loop-s in
    let t = c.tick_parts-t.ensures in
    let two : 2 ≤ l.left = omega (arith, l.invariant.1, c.if-left-eq0.false) in
    (sym (go_on _ l.made t.0 t.1 l.left two c.if-s-eq0.false) ∙ l.invariant.0, omega (arith, two), omega (arith, l.invariant.2, two), l.invariant.3, t.3 c.if-s-eq0.false, t.2)

pub returns-then-s-eq0 : goal.returns-then-s-eq0
returns-then-s-eq0 c =
    let l = c.loop-s in
    let t = c.tick_parts-t.ensures in
    (sym (ended _ l.made t.0 t.1 l.left l.invariant.1 c.if-s-eq0.true) ∙ l.invariant.0, t.2, refl)

pub returns-then-left-eq0 : goal.returns-then-left-eq0
returns-then-left-eq0 c =
    let l = c.loop-s in
    let t = c.tick_parts-t.ensures in
    (sym (spent _ l.made t.0 t.1 l.left (omega (arith, l.invariant.1, c.if-left-eq0.true))) ∙ l.invariant.0, t.2, refl)
