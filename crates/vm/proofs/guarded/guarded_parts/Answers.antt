use Prim.Native.Nat.{ℕ, ◌<◌, ◌-◌, ◌+◌}
use native.Mathlib.Omega.{arith}
use mathlib.Core.Path.{◌≡◌, ap, sym, ◌∙◌}
use borrow.Author.Rules.{rules}
use Rattle.guard.specs.Stops.{stop, go, stop_number}
use Rattle.guard.specs.Forms.{verdict_of}
use Rattle.marks.specs.Owners.{hidden_from}
use Rattle.marks.specs.Marks.{instruction_marks}
use Rattle.vm.specs.View.{parts, view}
use Rattle.vm.specs.Guard.{next_word, guard, guarded_run}
use Rattle.vm.specs.Forms.{closed_core, guarded_on}
use Rattle.vm.proofs.Runs.{closed-fit}
use Rattle.vm.proofs.Guards.{going, guard_stops, guard_goes}
use Rattle.vm.proofs.Totals.{turn-counts}
use Rattle.vm.proofs.guarded.guarded_parts.Goals as goal

pub loop-stop-init : goal.loop-stop-init
loop-stop-init c =
    let a = c.args in
    let z : a.budget.0 - 0 ≡ a.budget.0 = omega arith in
    (ap (λ (j : ℕ). guarded_run (hidden_from a.clearance) a.breakpoints.now 0 j (guarded_on (parts a.from a.memory.now a.registers.now a.touched.now a.columns.now a.numbers.now a.lengths.now) a.marks.now a.register_marks.now 0)) z, omega arith, search rules, c.requires.0, c.requires.1)

pub returns-in-Some : goal.returns-in-Some
returns-in-Some c =
    let a = c.args in
    let l = c.loop-stop in
    let q = (parts l.s l.memory l.registers l.touched l.columns l.numbers l.lengths) in
    let g = (guarded_on (parts l.s l.memory l.registers l.touched l.columns l.numbers l.lengths) l.marks l.register_marks l.mdr) in
    let b = a.breakpoints.now in
    let n = a.budget.0 - l.begun in
    let x = c.in-Some.stop in
    let e : guard (hidden_from a.clearance) b l.begun n g ≡ stop x = sym c.judge-verdict.ensures ∙ ap verdict_of c.in-Some.is in
    let z = c.closed_core-core.ensures ∙ ap (λ (j : ℕ). closed_core j l.s) c.number.ensures in (
      (λ i. record { stop = x; executed = l.begun; guarded = record { machine = view (parts (z i) l.memory l.registers l.touched l.columns l.numbers l.lengths); marks = g.marks } })
          ∙ sym (guard_stops (hidden_from a.clearance) b l.begun n g x e)
          ∙ l.invariant.0,
      rw z (closed-fit (stop_number x) q l.invariant.3),
      l.invariant.4,
    )

pub next_parts-t-requires : goal.next_parts-t-requires
next_parts-t-requires c =
    let went : (let l = c.loop-stop in let a = c.args in guard (hidden_from a.clearance) a.breakpoints.now l.begun (a.budget.0 - l.begun) (guarded_on (parts l.s l.memory l.registers l.touched l.columns l.numbers l.lengths) l.marks l.register_marks l.mdr) ≡ go) =
    sym c.judge-verdict.ensures ∙ ap verdict_of c.in_default.is in
    let l = c.loop-stop in
    let a = c.args in
    ((going (hidden_from a.clearance) a.breakpoints.now l.begun (a.budget.0 - l.begun) (guarded_on (parts l.s l.memory l.registers l.touched l.columns l.numbers l.lengths) l.marks l.register_marks l.mdr) (went)).0, l.invariant.3)

pub overflow_add-begun : goal.overflow_add-begun
overflow_add-begun c =
    let went : (let l = c.loop-stop in let a = c.args in guard (hidden_from a.clearance) a.breakpoints.now l.begun (a.budget.0 - l.begun) (guarded_on (parts l.s l.memory l.registers l.touched l.columns l.numbers l.lengths) l.marks l.register_marks l.mdr) ≡ go) =
    sym c.judge-verdict.ensures ∙ ap verdict_of c.in_default.is in
    let counts : c.loop-stop.begun < c.args.budget.0 =
    let l = c.loop-stop in
    let a = c.args in
    omega (arith, (going (hidden_from a.clearance) a.breakpoints.now l.begun (a.budget.0 - l.begun) (guarded_on (parts l.s l.memory l.registers l.touched l.columns l.numbers l.lengths) l.marks l.register_marks l.mdr) (went)).1, l.invariant.1) in
    omega (arith, counts, c.loop-stop.invariant.2)

pub forward_parts-f-requires : goal.forward_parts-f-requires
forward_parts-f-requires c =
    let went : (let l = c.loop-stop in let a = c.args in guard (hidden_from a.clearance) a.breakpoints.now l.begun (a.budget.0 - l.begun) (guarded_on (parts l.s l.memory l.registers l.touched l.columns l.numbers l.lengths) l.marks l.register_marks l.mdr) ≡ go) =
    sym c.judge-verdict.ensures ∙ ap verdict_of c.in_default.is in
    let counts : c.loop-stop.begun < c.args.budget.0 =
    let l = c.loop-stop in
    let a = c.args in
    omega (arith, (going (hidden_from a.clearance) a.breakpoints.now l.begun (a.budget.0 - l.begun) (guarded_on (parts l.s l.memory l.registers l.touched l.columns l.numbers l.lengths) l.marks l.register_marks l.mdr) (went)).1, l.invariant.1) in
    let t = c.next_parts-t.ensures in (t.ends, t.fit.touched, omega (arith, counts))

pub overflow_add-begun-in-loop-stop : goal.overflow_add-begun-in-loop-stop
overflow_add-begun-in-loop-stop c =
    let went : (let l = c.loop-stop in let a = c.args in guard (hidden_from a.clearance) a.breakpoints.now l.begun (a.budget.0 - l.begun) (guarded_on (parts l.s l.memory l.registers l.touched l.columns l.numbers l.lengths) l.marks l.register_marks l.mdr) ≡ go) =
    sym c.judge-verdict.ensures ∙ ap verdict_of c.in_default.is in
    let counts : c.loop-stop.begun < c.args.budget.0 =
    let l = c.loop-stop in
    let a = c.args in
    omega (arith, (going (hidden_from a.clearance) a.breakpoints.now l.begun (a.budget.0 - l.begun) (guarded_on (parts l.s l.memory l.registers l.touched l.columns l.numbers l.lengths) l.marks l.register_marks l.mdr) (went)).1, l.invariant.1) in
    omega (arith, counts, c.forward_parts-f.ensures.within, c.loop-stop.invariant.2)

pub loop-stop-smaller : goal.loop-stop-smaller
loop-stop-smaller c =
    let went : (let l = c.loop-stop in let a = c.args in guard (hidden_from a.clearance) a.breakpoints.now l.begun (a.budget.0 - l.begun) (guarded_on (parts l.s l.memory l.registers l.touched l.columns l.numbers l.lengths) l.marks l.register_marks l.mdr) ≡ go) =
    sym c.judge-verdict.ensures ∙ ap verdict_of c.in_default.is in
    let counts : c.loop-stop.begun < c.args.budget.0 =
    let l = c.loop-stop in
    let a = c.args in
    omega (arith, (going (hidden_from a.clearance) a.breakpoints.now l.begun (a.budget.0 - l.begun) (guarded_on (parts l.s l.memory l.registers l.touched l.columns l.numbers l.lengths) l.marks l.register_marks l.mdr) (went)).1, l.invariant.1) in
    omega (arith, counts, c.forward_parts-f.ensures.within)

pub loop-stop-preserved : goal.loop-stop-preserved
unfolding instruction_marks
loop-stop-preserved c =
    let went : (let l = c.loop-stop in let a = c.args in guard (hidden_from a.clearance) a.breakpoints.now l.begun (a.budget.0 - l.begun) (guarded_on (parts l.s l.memory l.registers l.touched l.columns l.numbers l.lengths) l.marks l.register_marks l.mdr) ≡ go) =
    sym c.judge-verdict.ensures ∙ ap verdict_of c.in_default.is in
    let counts : c.loop-stop.begun < c.args.budget.0 =
    let l = c.loop-stop in
    let a = c.args in
    omega (arith, (going (hidden_from a.clearance) a.breakpoints.now l.begun (a.budget.0 - l.begun) (guarded_on (parts l.s l.memory l.registers l.touched l.columns l.numbers l.lengths) l.marks l.register_marks l.mdr) (went)).1, l.invariant.1) in
    let l = c.loop-stop in
    let a = c.args in
    let g = (guarded_on (parts l.s l.memory l.registers l.touched l.columns l.numbers l.lengths) l.marks l.register_marks l.mdr) in
    let b = a.breakpoints.now in
    let n = a.budget.0 - l.begun in
    let e = went in
    let h = counts in
    let k = c.mark_instruction-opened in
    let t = c.next_parts-t in
    let u = c.total_instruction-sum in
    let f = c.forward_parts-f.ensures in
    let z : a.budget.0 - (l.begun + 1) ≡ n - 1 = omega arith in (
      sym (f.guards _ _ _ k.result t.ensures.fit)
          ∙ (λ i. guarded_run (hidden_from a.clearance) b (l.begun + 1) (z i) (record { machine = (t.ensures.steps i).machine; marks = k.ensures i }))
          ∙ sym (guard_goes (hidden_from a.clearance) b l.begun n g e)
          ∙ l.invariant.0,
      omega (arith, h, f.within),
      l.invariant.2,
      f.fits _ _ _ t.ensures.fit,
      f.totals (turn-counts (hidden_from a.clearance) (next_word g.machine) l.marks l.register_marks l.total l.invariant.4 u.ensures k.ensures),
    )
