-- The laws of `specs/Answer.antt`: the answer by what the call on bytes tells, what is handed to `write`, and demand 3 of it.
-- Assumes nothing.
use Prim.Native.Nat.{ℕ, zero, suc, ◌≤◌}
use native.Mathlib.Omega.{arith}
use mathlib.Core.Path.{◌≡◌, refl, sym, ap, ◌∙◌}
use mathlib.Core.Bool.{Bool, true, false}
use mathlib.Core.List.{List}
use lib.ListN.{length}
use Rattle.encoding.specs.Answer.{Outcome, outcome, Told}
use Rattle.encoding.specs.declared.refusal.Refusal.{Refusal}
use Rattle.encoding.specs.Refusal.{refusal_number, told}
use Rattle.std.specs.Prelude.{Ok, Err}
use Rattle.secret.specs.Report.{report_bytes}
use Rattle.secret.specs.Program.{input_of, bytes_refusal, bytes_outcome}
use Rattle.secret.proofs.Lengths.{report_fits}
use Rattle.secret.proofs.Programs.{bytes_accepted, bytes_left, bytes_report, bytes-kept, bytes-written, bytes-number}
use Rattle.secret.proofs.Calls.{refusal-some}
use Rattle.secret.proofs.Theorem.{demand_three_bytes}
use Rattle.answer.specs.Line.{refusal_line}
use Rattle.answer.specs.Answer.{answer_of, answer_outcome}
use Rattle.answer.proofs.Answers.{fitting, writes-answer, length-refusal}
use Rattle.massey_report.specs.Answer.{program_refusal, program_answer, program_outcome, handed}
use Rattle.massey_report.specs.Demand.{DemandThreeProgram}

-- ---- the answer, by what is refused

pub line-answer : (whole : Bool) (b : List ℕ) (room : ℕ) {n : ℕ} → n ≡ program_refusal whole b room → (n ≡ 0 → ⊥) → program_answer whole b room ≡ refusal_line n
unfolding program_answer
line-answer whole b room {n} e h = rw (← e) (go n h)
  where
    go : (k : ℕ) → (k ≡ 0 → ⊥) → answer_of k (report_bytes (input_of b)) ≡ refusal_line k
    go zero z = absurd (z refl)
    go (suc k) z = refl

-- a read failed
pub failed_answer : (b out : List ℕ) {whole : Bool} → whole ≡ false → answer_outcome (refusal_line 6) out ≡ program_outcome whole b out
failed_answer b out {whole} w =
    let line : program_answer whole b (length out) ≡ refusal_line 6 = line-answer whole b (length out) (rw w) (λ z. omega arith) in
    ap (λ (x : List ℕ). answer_outcome x out) (sym line)

-- of an input that was read whole
module _ (b out : List ℕ) {whole : Bool} (w : whole ≡ true) where
  report_answer : bytes_refusal b (length out) ≡ 0 → program_answer whole b (length out) ≡ report_bytes (input_of b)
  unfolding program_answer
  report_answer e = rw (w, e)

  fits : bytes_refusal b (length out) ≡ 0 → length (report_bytes (input_of b)) ≤ length out
  fits e = let f = report_fits (input_of b) (length out) (bytes_accepted b (length out) e) in omega arith

  -- the call on bytes told a length
  pub written-answer : {n : ℕ} {o : List ℕ} → outcome (told (Ok n)) o ≡ bytes_outcome b out → outcome n o ≡ program_outcome whole b out
  written-answer {n} {o} h =
      let e = bytes-written b out h in
      let q = h ∙ bytes_left b out e in
      fitting (report_bytes (input_of b)) out (fits e) (ap (λ (x : Outcome Told). x.answer.length) q) (ap (λ (x : Outcome Told). x.buffer) q)
      ∙ ap (λ (x : List ℕ). answer_outcome x out) (sym (report_answer e))

  -- it told a refusal, and left the buffer o as it was
  pub refused-answer : (r : Refusal) {o : List ℕ} → outcome (told (Err r)) o ≡ bytes_outcome b out → answer_outcome (refusal_line (refusal_number r)) o ≡ program_outcome whole b out
  refused-answer r {o} h =
      let e = bytes-number b out r h in
      let kept : o ≡ out = ap (λ (x : Outcome Told). x.buffer) h ∙ bytes-kept b out (λ z. refusal-some r (e ∙ z)) in
      let line = line-answer whole b (length out) (e ∙ rw w) (refusal-some r) in
      rw kept (ap (λ (x : List ℕ). answer_outcome x out) (sym line))

-- ---- what is handed to `write`

-- a refused program writes its line and nothing else
pub refused-line : (whole : Bool) (b out : List ℕ) → (program_refusal whole b (length out) ≡ 0 → ⊥) → 29 ≤ length out
    → handed (program_outcome whole b out) ≡ refusal_line (program_refusal whole b (length out))
refused-line whole b out h room =
    let n = program_refusal whole b (length out) in
    rw (line-answer whole b (length out) refl h) (writes-answer (refusal_line n) out (omega (arith, length-refusal n)))

-- one that is served writes the report and nothing else
pub served_report : (b out : List ℕ) → bytes_refusal b (length out) ≡ 0 → handed (program_outcome true b out) ≡ report_bytes (input_of b)
served_report b out e = rw (report_answer b out refl e) (writes-answer (report_bytes (input_of b)) out (fits b out refl e))

-- demand 3
pub demand_three_program : DemandThreeProgram
demand_three_program x y b d p q v w =
    let left = served_report x b p ∙ sym (bytes_report x b p) in
    let right = served_report y d q ∙ sym (bytes_report y d q) in
    let t = demand_three_bytes x y b d p q v w in
    (λ e. t.0 (sym left ∙ e ∙ right), λ s. left ∙ t.1 s ∙ sym right)
