use Prim.Native.Nat.{ℕ, ◌<◌, ◌-◌, ◌+◌}
use native.Mathlib.Omega.{arith}
use mathlib.Core.Path.{◌≡◌, refl, ap, sym, ◌∙◌}
use borrow.Author.Rules.{rules}
use Rattle.guard.specs.Stops.{stop, go}
use Rattle.guard.specs.Forms.{verdict_of}
use Rattle.vm.specs.Run.{verdict, run_number, run}
use Rattle.vm.specs.View.{parts, view}
use Rattle.vm.specs.Forms.{closed_core, closed_parts}
use Rattle.vm.proofs.Runs.{run_stops, run_goes, running, closed-fit}
use Rattle.vm.proofs.run.run_parts.Goals as goal

pub loop-stop-init : goal.loop-stop-init
loop-stop-init c =
    let a = c.args in
    let z : a.budget.0 - 0 ≡ a.budget.0 = omega arith in
    (ap (λ (j : ℕ). run a.breakpoints.now 0 j (view (parts a.from a.memory.now a.registers.now a.touched.now a.columns.now a.numbers.now a.lengths.now))) z, omega arith, search rules, c.requires, λ _. refl)

pub returns-in-Some : goal.returns-in-Some
returns-in-Some c =
    let a = c.args in
    let l = c.loop-stop in
    let q = (parts l.s l.memory l.registers l.touched l.columns l.numbers l.lengths) in
    let b = a.breakpoints.now in
    let n = a.budget.0 - l.begun in
    let x = c.in-Some.stop in
    let e : verdict b l.begun n (view q) ≡ stop x = sym c.run_verdict-verdict.ensures ∙ ap verdict_of c.in-Some.is in
    let z = c.closed_core-core.ensures ∙ ap (λ (j : ℕ). closed_core j l.s) c.run_number.ensures in (
      (λ i. record { stop = x; executed = l.begun; machine = view (parts (z i) l.memory l.registers l.touched l.columns l.numbers l.lengths) })
          ∙ sym (run_stops b l.begun n (view q) x e)
          ∙ l.invariant.0,
      λ o. (λ i. parts (z i) l.memory l.registers l.touched l.columns l.numbers l.lengths) ∙ ap (closed_parts (run_number x)) (l.invariant.4 o),
      rw z (closed-fit (run_number x) q l.invariant.3),
    )

pub next_parts-t-requires : goal.next_parts-t-requires
next_parts-t-requires c =
    let went : (let l = c.loop-stop in let a = c.args in verdict a.breakpoints.now l.begun (a.budget.0 - l.begun) (view (parts l.s l.memory l.registers l.touched l.columns l.numbers l.lengths)) ≡ go) =
    sym c.run_verdict-verdict.ensures ∙ ap verdict_of c.in_default.is in
    let l = c.loop-stop in
    let a = c.args in
    ((running a.breakpoints.now l.begun (a.budget.0 - l.begun) (view (parts l.s l.memory l.registers l.touched l.columns l.numbers l.lengths)) (went)).0, l.invariant.3)

pub overflow_add-begun : goal.overflow_add-begun
overflow_add-begun c =
    let went : (let l = c.loop-stop in let a = c.args in verdict a.breakpoints.now l.begun (a.budget.0 - l.begun) (view (parts l.s l.memory l.registers l.touched l.columns l.numbers l.lengths)) ≡ go) =
    sym c.run_verdict-verdict.ensures ∙ ap verdict_of c.in_default.is in
    let counts : c.loop-stop.begun < c.args.budget.0 =
    let l = c.loop-stop in
    let a = c.args in
    omega (arith, (running a.breakpoints.now l.begun (a.budget.0 - l.begun) (view (parts l.s l.memory l.registers l.touched l.columns l.numbers l.lengths)) (went)).1, l.invariant.1) in
    omega (arith, counts, c.loop-stop.invariant.2)

pub forward_parts-f-requires : goal.forward_parts-f-requires
forward_parts-f-requires c =
    let went : (let l = c.loop-stop in let a = c.args in verdict a.breakpoints.now l.begun (a.budget.0 - l.begun) (view (parts l.s l.memory l.registers l.touched l.columns l.numbers l.lengths)) ≡ go) =
    sym c.run_verdict-verdict.ensures ∙ ap verdict_of c.in_default.is in
    let counts : c.loop-stop.begun < c.args.budget.0 =
    let l = c.loop-stop in
    let a = c.args in
    omega (arith, (running a.breakpoints.now l.begun (a.budget.0 - l.begun) (view (parts l.s l.memory l.registers l.touched l.columns l.numbers l.lengths)) (went)).1, l.invariant.1) in
    let t = c.next_parts-t.ensures in (t.ends, t.fit.touched, omega (arith, counts))

pub overflow_add-begun-in-loop-stop : goal.overflow_add-begun-in-loop-stop
overflow_add-begun-in-loop-stop c =
    let went : (let l = c.loop-stop in let a = c.args in verdict a.breakpoints.now l.begun (a.budget.0 - l.begun) (view (parts l.s l.memory l.registers l.touched l.columns l.numbers l.lengths)) ≡ go) =
    sym c.run_verdict-verdict.ensures ∙ ap verdict_of c.in_default.is in
    let counts : c.loop-stop.begun < c.args.budget.0 =
    let l = c.loop-stop in
    let a = c.args in
    omega (arith, (running a.breakpoints.now l.begun (a.budget.0 - l.begun) (view (parts l.s l.memory l.registers l.touched l.columns l.numbers l.lengths)) (went)).1, l.invariant.1) in
    omega (arith, counts, c.forward_parts-f.ensures.within, c.loop-stop.invariant.2)

pub loop-stop-smaller : goal.loop-stop-smaller
loop-stop-smaller c =
    let went : (let l = c.loop-stop in let a = c.args in verdict a.breakpoints.now l.begun (a.budget.0 - l.begun) (view (parts l.s l.memory l.registers l.touched l.columns l.numbers l.lengths)) ≡ go) =
    sym c.run_verdict-verdict.ensures ∙ ap verdict_of c.in_default.is in
    let counts : c.loop-stop.begun < c.args.budget.0 =
    let l = c.loop-stop in
    let a = c.args in
    omega (arith, (running a.breakpoints.now l.begun (a.budget.0 - l.begun) (view (parts l.s l.memory l.registers l.touched l.columns l.numbers l.lengths)) (went)).1, l.invariant.1) in
    omega (arith, counts, c.forward_parts-f.ensures.within)

pub loop-stop-preserved : goal.loop-stop-preserved
loop-stop-preserved c =
    let went : (let l = c.loop-stop in let a = c.args in verdict a.breakpoints.now l.begun (a.budget.0 - l.begun) (view (parts l.s l.memory l.registers l.touched l.columns l.numbers l.lengths)) ≡ go) =
    sym c.run_verdict-verdict.ensures ∙ ap verdict_of c.in_default.is in
    let counts : c.loop-stop.begun < c.args.budget.0 =
    let l = c.loop-stop in
    let a = c.args in
    omega (arith, (running a.breakpoints.now l.begun (a.budget.0 - l.begun) (view (parts l.s l.memory l.registers l.touched l.columns l.numbers l.lengths)) (went)).1, l.invariant.1) in
    let l = c.loop-stop in
    let a = c.args in
    let q = (parts l.s l.memory l.registers l.touched l.columns l.numbers l.lengths) in
    let b = a.breakpoints.now in
    let n = a.budget.0 - l.begun in
    let e = went in
    let h = counts in
    let t = c.next_parts-t in
    let f = c.forward_parts-f.ensures in
    let z : a.budget.0 - (l.begun + 1) ≡ n - 1 = omega arith in (
      sym (f.runs _ _ _ t.ensures.fit)
          ∙ (λ i. run b (l.begun + 1) (z i) (t.ensures.steps i).machine)
          ∙ sym (run_goes b l.begun n (view q) e (running b l.begun n (view q) e).1)
          ∙ l.invariant.0,
      omega (arith, h, f.within),
      l.invariant.2,
      f.fits _ _ _ t.ensures.fit,
      λ o. absurd (omega (arith, o)),
    )
