-- The theorem is about the code: what each call's own contract tells of its answer (`Learnt`, which the checker makes of its `ensures`) is what `Past` asks.
-- Assumes nothing.
use Prim.Native.Nat.{ℕ}
use mathlib.Core.Path.{◌≡◌, ap, sym, ◌∙◌}
use mathlib.Core.List.{List, []}
use Rattle.std.specs.Prelude.{Result, Ok, Err}
use Rattle.encoding.specs.declared.refusal.Refusal.{Refusal}
use contract.Lifetimes.{Lfts}
use lib.ListN.{length}
use denote.Ref.{Bor}
use denote.MutBor.{MutBor}
use Rattle.guard.specs.Input.{input_from, input_refusal}
use Rattle.guard.specs.declared.stops.Begun.{Begun}
use Rattle.vm.specs.declared.machine.Machine.{Machine as Code}
use Rattle.vm.specs.declared.micro.MicroOp.{MicroOp}
use Rattle.vm.specs.declared.step.InstructionReport.{InstructionReport}
use Rattle.vm.specs.declared.run.Ran.{Ran}
use Rattle.vm.specs.declared.guarded.GuardedRun.{GuardedRun}
use Rattle.vm.specs.Calls.{view_of, restarted, image_words, image_size, answered, serve, loaded, reset as resetOf, clear}
use Rattle.vm.specs.Guard.{GuardedAnswer}
use Rattle.vm.proofs.machine.Machine.micro_step.Reads as micro-step
use Rattle.vm.proofs.machine.Machine.step_instruction.Reads as step-instruction
use Rattle.vm.proofs.machine.Machine.direct_instruction.Reads as direct-instruction
use Rattle.vm.proofs.machine.Machine.run.Reads as run_call_lem
use Rattle.vm.proofs.machine.Machine.direct_run.Reads as direct-run
use Rattle.vm.proofs.machine.Machine.push_history.Reads as push-history
use Rattle.vm.proofs.machine.Machine.undo.Reads as undo-call
use Rattle.vm.proofs.machine.Machine.new.Reads as new-call
use Rattle.vm.proofs.machine.Machine.load_image.Reads as load-image
use Rattle.vm.proofs.machine.Machine.reset.Reads as reset-call
use Rattle.vm.proofs.machine.Machine.clear.Reads as clear-call
use Rattle.vm.proofs.guarded_run.Reads as guarded-run
use Rattle.vm.proofs.GuardedStarts.{answer_served, answer-refusal}
use Rattle.past.specs.Past.{tick, step, run, push, undo, left, Past, reset, Totals, guarded_made}
use Rattle.past.proofs.Totals.{guarded-totals}

pub micro_step_leaves : (κs : Lfts 1) (m : MutBor Code) (r : Result MicroOp Refusal) (e : _) → micro-step.Learnt κs (m, tt) r e → view_of e.0.now ≡ left tick m.now
unfolding left
micro_step_leaves κs m r e p = ap (λ x. x.machine) p.0

pub step-instruction_leaves : (κs : Lfts 1) (m : MutBor Code) (r : Result InstructionReport Refusal) (e : _) → step-instruction.Learnt κs (m, tt) r e → view_of e.0.now ≡ left step m.now
unfolding left
step-instruction_leaves κs m r e p = ap (λ x. x.machine) p.0

pub direct-instruction_leaves : (κs : Lfts 1) (m : MutBor Code) (r : Result InstructionReport Refusal) (e : _) → direct-instruction.Learnt κs (m, tt) r e → view_of e.0.now ≡ left step m.now
unfolding left
direct-instruction_leaves κs m r e p = ap (λ x. x.machine) p.0

pub run_leaves : (κs : Lfts 2) (m : MutBor Code) (n : Begun) (b : Bor (List ℕ)) (r : Ran) (e : _) → run_call_lem.Learnt κs (m, (n, (b, tt))) r e → view_of e.0.now ≡ left (run b.now n.0) m.now
unfolding left
run_leaves κs m n b r e p = ap (λ x. x.machine) p.0

pub direct-run_leaves : (κs : Lfts 2) (m : MutBor Code) (n : Begun) (b : Bor (List ℕ)) (r : Ran) (e : _) → direct-run.Learnt κs (m, (n, (b, tt))) r e → view_of e.0.now ≡ left (run b.now n.0) m.now
unfolding left
direct-run_leaves κs m n b r e p = ap (λ x. x.machine) p.0

pub push-history_leaves : (κs : Lfts 2) (m : MutBor Code) (d : MutBor (List ℕ)) (r : Result (Unit {0}) Refusal) (e : _) → push-history.Learnt κs (m, (d, tt)) r e → view_of e.0.now ≡ left (push d.now) m.now
unfolding left
push-history_leaves κs m d r e p = ap (λ x. view_of x.machine) p.0

pub undo_leaves : (κs : Lfts 2) (m : MutBor Code) (d : Bor (List ℕ)) (r : Result (Unit {0}) Refusal) (e : _) → undo-call.Learnt κs (m, (d, tt)) r e → view_of e.0.now ≡ left (undo d.now) m.now
unfolding left
undo_leaves κs m d r e p = ap (λ x. view_of x.machine) p

-- ---- where a past begins

-- a served call leaves the new machine
begins : (s : Result (Unit {0}) Refusal) (image : List ℕ) (k h : ℕ) (m new : Code) {r : Result (Unit {0}) Refusal} → answered r new ≡ serve s (restarted image k h) m → r ≡ Ok tt → Past [] new []
begins (Ok u) image k h m new p z = rw (ap (λ x. x.machine) p) (reset image k h)
begins (Err e) image k h m new {r} p z = let q : r ≡ Err e = ap (λ x. x.answer) p in absurd (cc)

pub new_begins : (κs : Lfts 0) (r : Code) (e : _) → new-call.Learnt κs tt r e → Past [] r []
new_begins κs r e p = rw p (reset (image_words []) 0 0)

pub load_image_begins : (κs : Lfts 2) (m : MutBor Code) (image : Bor (List ℕ)) (r : Result (Unit {0}) Refusal) (e : _) → load-image.Learnt κs (m, (image, tt)) r e → r ≡ Ok tt → Past [] e.0.now []
unfolding loaded
load_image_begins κs m image r e p = begins _ (image_words image.now) (image_size (length image.now)) m.now.history_len m.now e.0.now p

pub reset_begins : (κs : Lfts 1) (m : MutBor Code) (r : Result (Unit {0}) Refusal) (e : _) → reset-call.Learnt κs (m, tt) r e → r ≡ Ok tt → Past [] e.0.now []
unfolding resetOf
reset_begins κs m r e p = begins _ m.now.image m.now.image_len m.now.history_len m.now e.0.now p

pub clear_begins : (κs : Lfts 1) (m : MutBor Code) (r : Result (Unit {0}) Refusal) (e : _) → clear-call.Learnt κs (m, tt) r e → r ≡ Ok tt → Past [] e.0.now []
unfolding clear
clear_begins κs m r e p = begins _ (image_words []) 0 0 m.now e.0.now p

-- ---- the guarded run

pub guarded-run-totals : (κs : Lfts 3) (image marks breaks : Bor (List ℕ)) (n : Begun) (c : ℕ) (r : GuardedRun) (e : _) → guarded-run.Learnt κs (image, (marks, (n, (breaks, (c, tt))))) (Ok r) e
    → Totals r.machine.counters (guarded_made (input_from image.now marks.now n.0 breaks.now c))
guarded-run-totals κs image marks breaks n c r e p =
    let i = input_from image.now marks.now n.0 breaks.now c in
    let served : input_refusal i ≡ 0 = sym (answer-refusal i) ∙ sym (ap (λ (x : GuardedAnswer). x.refused) p.0) in
    rw (ap (λ (x : GuardedAnswer). x.guarded.machine.counters) (p.0 ∙ answer_served i served)) (guarded-totals i served)
