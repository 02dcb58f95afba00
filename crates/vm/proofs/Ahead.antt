-- A run, and a guarded run, from the parts that instructions without records leave.
-- Assumes nothing.
use Prim.Native.Nat.{ℕ, ◌+◌, ◌-◌, ◌≤◌, ◌<◌}
use native.Mathlib.Omega.{arith}
use mathlib.Core.Path.{◌≡◌, ap, sym, subst, ◌∙◌}
use mathlib.Core.Bool.{Bool, false}
use mathlib.Core.List.{List, []}
use borrow.Author.Tests.{ne_eqb}
use Rattle.marks.specs.Marks.{Marks, marks_of}
use Rattle.marks.specs.Total.{IsCount}
use Rattle.trace.specs.Trace.{TraceFit, texts_in, addresses_in, phases_in}
use Rattle.trace.specs.Touched.{TouchFit}
use Rattle.direct.specs.Light.{Light, FastFor}
use Rattle.direct.specs.Lane.{Slots, Ahead as Made, ahead, forward, stretch_length}
use Rattle.direct.proofs.Stretches.{Stands, first, forward_keeps}
use Rattle.vm.specs.declared.parts.Core.{Core}
use Rattle.vm.specs.View.{Parts, parts, view}
use Rattle.vm.specs.Run.{run}
use Rattle.vm.specs.Guard.{guarded_run}
use Rattle.vm.specs.Forms.{Fit, guarded_on}
use Rattle.vm.specs.Direct.{light_of}
use Rattle.vm.specs.Ahead.{lane_of, core_with, Ahead}
use Rattle.vm.proofs.Newest.{trace-length}
use Rattle.vm.proofs.DirectParts.{at_rest_lem}
use Rattle.vm.proofs.Skips.{Ready, Goes, light-run}
use Rattle.vm.proofs.GuardedSkips.{Opens, light-guarded}

ready : (c : Core) (m r t k i l : List ℕ) → c.state.control.tick ≡ 0 → c.state.control.halted ≡ false → TraceFit c.trace_start c.trace_len k i l → Ready (view (parts c m r t k i l))
ready c m r t k i l z h f =
    let e = trace-length c.trace_start c.trace_len (texts_in k) i (addresses_in k) (phases_in k) l f.count in
    record { tick = z; running = h; few = omega (arith, e, f.count) }

-- what passes all tests passes those of a run, within its budget, and of a guarded run
fast_goes : (hid : ℕ → Bool) (b : List ℕ) (k B j : ℕ) (l : Light) (q : Marks) → j ≤ B → FastFor hid b k j l q → Goes b k B j l
fast_goes hid b k B j l q h g i y = let f = g i y in record { unbroken = f.unbroken; budget = ne_eqb (B - i) 0 (λ z. omega (arith, z)); counted = f.counted; lasts = f.lasts }

fast_opens : (hid : ℕ → Bool) (b : List ℕ) (k j : ℕ) (l : Light) (q : Marks) → FastFor hid b k j l q → Opens hid b k j l q
fast_opens hid b k j l q g i y = let f = g i y in record { unbroken = f.unbroken; word = f.word; jump = f.jump; lasts = f.lasts }

minus_both : (L k j : ℕ) → L - k - j ≡ L - (k + j)
minus_both L k j = omega arith

module _ (hid : ℕ → Bool) (b : List ℕ) (k L : ℕ) (from : Core) (m r t x y : List ℕ) (n : ℕ) (h : k ≤ L) where
  -- none is made
  pub ahead_none : Ahead hid b k L from m r t x y n 0 from m r t x y n
  ahead_none =
      let z : k ≡ k + 0 = omega arith in
      record {
        runs = λ c i l f. λ o. run b (z o) (L - z o) (view (parts from m r t c i l));
        guards = λ c i l d f. λ o. guarded_run hid b (z o) (L - z o) (guarded_on (parts from m r t c i l) x y d);
        totals = λ c. c;
        fits = λ c i l f. f;
        within = omega arith;
      }

  -- what the code made
  module _ (z : from.state.control.tick ≡ 0) (o : from.state.control.halted ≡ false) (byte : from.state.control.pc < 256) (u : TouchFit from.touched_len t) where
    -- the parts that are kept, with the trace that was there
    abbrev kept : Slots → List ℕ → List ℕ → List ℕ → Parts
    kept s c i l = parts (core_with from s.lane) s.memory s.registers s.touched c i l

    abbrev parts_in : Made → List ℕ → List ℕ → List ℕ → Parts
    parts_in a c i l = parts (core_with from a.lane) a.memory a.registers a.touched c i l

    -- what holds of the start, and of all that have a whole stretch behind them
    by : (d : ℕ) (P : Made → Type 0) → P (ahead 0 (first hid b (L - k) from.state.fault k (lane_of from n) m r t x y d byte u))
        → ((j : ℕ) (s : Slots) → Stands hid b from.state.fault k (light_of (view (parts from m r t [] [] []))) (marks_of x y d) n j s
        → FastFor hid b k (j + stretch_length) (light_of (view (parts from m r t [] [] []))) (marks_of x y d) → j + stretch_length ≤ L - k → P (ahead j s))
        → P (forward hid b (L - k) (lane_of from n) m r t x y)
    by d P p q = forward_keeps hid b (L - k) from.state.fault k (lane_of from n) m r t x y d byte u P p q

    module _ (c i l : List ℕ) (f : Fit (parts from m r t c i l)) where
      at_first : Ready (view (parts from m r t c i l))
      at_first = ready from m r t c i l z o f.trace

      at_last : (s : Slots) → Ready (view (kept s c i l))
      at_last s = ready (core_with from s.lane) s.memory s.registers s.touched c i l z o f.trace

      runs_by : let a = forward hid b (L - k) (lane_of from n) m r t x y in run b k (L - k) (view (parts from m r t c i l)) ≡ run b (k + a.made) (L - (k + a.made)) (view (parts_in a c i l))
      runs_by = by 0 (λ a. run b k (L - k) (view (parts from m r t c i l)) ≡ run b (k + a.made) (L - (k + a.made)) (view (parts_in a c i l))) (ahead_none.runs c i l f)
          (λ j s p g o.
          light-run b k (L - k) j (j + stretch_length) (view (parts from m r t c i l)) (view (kept s c i l)) at_first (at_last s)
          (fast_goes hid b k (L - k) (j + stretch_length) (light_of (view (parts from m r t c i l))) (marks_of x y 0) o g) p.light (omega arith)
          ∙ ap (λ (n : ℕ). run b (k + j) n (view (kept s c i l))) (minus_both L k j))

      guards_by : (d : ℕ) → let a = forward hid b (L - k) (lane_of from n) m r t x y in
          guarded_run hid b k (L - k) (guarded_on (parts from m r t c i l) x y d) ≡ guarded_run hid b (k + a.made) (L - (k + a.made)) (guarded_on (parts_in a c i l) a.marks a.register_marks d)
      guards_by d = by d (λ a. guarded_run hid b k (L - k) (guarded_on (parts from m r t c i l) x y d) ≡ guarded_run hid b (k + a.made) (L - (k + a.made)) (guarded_on (parts_in a c i l) a.marks a.register_marks d)) (ahead_none.guards c i l d f)
          (λ j s p g o.
          light-guarded hid b k (L - k) j (j + stretch_length) (guarded_on (parts from m r t c i l) x y d) (guarded_on (kept s c i l) s.marks s.register_marks d) at_first (at_last s)
          (fast_opens hid b k (j + stretch_length) (light_of (view (parts from m r t c i l))) (marks_of x y d) g) p.light p.marks (omega arith) o
          ∙ ap (λ (n : ℕ). guarded_run hid b (k + j) n (guarded_on (kept s c i l) s.marks s.register_marks d)) (minus_both L k j))

      fits_by : let a = forward hid b (L - k) (lane_of from n) m r t x y in Fit (parts_in a c i l)
      fits_by = by 0 (λ a. Fit (parts_in a c i l)) f (λ j s p g o. record { control = at_rest_lem (core_with from s.lane).state.control z; touched = p.notes.fit; trace = f.trace })

    totals_by : IsCount hid x n → let a = forward hid b (L - k) (lane_of from n) m r t x y in IsCount hid a.marks a.lane.hidden_total
    totals_by c = by 0 (λ a. IsCount hid a.marks a.lane.hidden_total) c (λ j s p g o. p.total c)

    within_by : k + (forward hid b (L - k) (lane_of from n) m r t x y).made ≤ L
    within_by = by 0 (λ a. k + a.made ≤ L) (omega arith) (λ j s p g o. omega arith)

    pub ahead_by : {a : Made} {core : Core} → a ≡ forward hid b (L - k) (lane_of from n) m r t x y → core ≡ core_with from a.lane → Ahead hid b k L from m r t x y n a.made core a.memory a.registers a.touched a.marks a.register_marks a.lane.hidden_total
    ahead_by {a} {core} e g =
        subst (λ (x' : Core). Ahead hid b k L from m r t x y n a.made x' a.memory a.registers a.touched a.marks a.register_marks a.lane.hidden_total) (sym g)
        (subst (λ (a : Made). Ahead hid b k L from m r t x y n a.made (core_with from a.lane) a.memory a.registers a.touched a.marks a.register_marks a.lane.hidden_total) (sym e)
        (record { runs = runs_by; guards = λ c i l d f. guards_by c i l f d; totals = totals_by; fits = fits_by; within = within_by }))
