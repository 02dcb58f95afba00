-- The laws of the program's answer: those of the call on bytes in a buffer, and what the program writes.
-- Assumes nothing.
use Prim.Native.Nat.{ℕ, zero, suc, ◌*◌, ◌≤◌, ◌<◌}
use native.Mathlib.Omega.{arith}
use mathlib.Core.Bool.{Bool, true, false, cond}
use mathlib.Core.Path.{◌≡◌, refl, sym, ap, ◌∙◌}
use mathlib.Core.List.{List}
use borrow.Author.Tests.{lt-ltb, le-ltb, ltb-false, eqb-false}
use lib.Dec.{eqb, ltb}
use lib.ListN.{length, take}
use Rattle.encoding.specs.Answer.{Outcome, outcome, Told, unless_refused}
use Rattle.encoding.specs.Bytes.{over}
use Rattle.encoding.proofs.Numbers.{length-big_endians}
use Rattle.answer.specs.Line.{refusal_line}
use Rattle.answer.specs.Answer.{answer_of, answer_outcome}
use Rattle.answer.proofs.Answers.{fitting, refused-writes}
use Rattle.std.specs.Prelude.{Ok, Err}
use Rattle.encoding.specs.Refusal.{refusal_number, told}
use Rattle.encoding.specs.declared.refusal.Refusal.{Refusal}
use Rattle.assemble.specs.Assembly.{refusal, image}
use Rattle.assemble.proofs.Answers.{number-suc}
use Rattle.assemble.specs.Answer.{image_bytes, bytes_refusal, bytes_outcome}
use Rattle.massey_assemble.specs.Answer.{text_limit, program_refusal, program_answer, program_outcome}

module _ (text out : List ℕ) where
  -- ---- the call on bytes, by the number n of its refusal

  abbrev call : ℕ → Outcome Told
  call n = unless_refused n out (outcome (told (Ok (2 * length (image text)))) (over out 0 (image_bytes text)))

  abbrev answered : ℕ → Outcome ℕ
  answered n = answer_outcome (answer_of n (image_bytes text)) out

  -- an image that is not refused has room
  image-fits : bytes_refusal text (length out) ≡ 0 → length (image_bytes text) ≤ length out
  image-fits e = go (eqb (refusal text) 0) refl (ltb (length out) (2 * length (image text))) refl e
    where
      go : (v : Bool) → eqb (refusal text) 0 ≡ v → (u : Bool) → ltb (length out) (2 * length (image text)) ≡ u → cond v (cond u 5 0) (refusal text) ≡ 0 → length (image_bytes text) ≤ length out
      go true p true q z = absurd (omega arith)
      go true p false q z = rw length-big_endians (ltb-false (length out) (2 * length (image text)) q)
      go false p u q z = absurd (eqb-false (refusal text) 0 p z)

  written_by : (n size : ℕ) {left : List ℕ} → bytes_refusal text (length out) ≡ n → outcome (told (Ok size)) left ≡ call n → outcome size left ≡ answered n
  written_by zero size z e =
      let s : size ≡ 2 * length (image text) = ap (λ (o : Outcome Told). o.answer.length) e in
      fitting (image_bytes text) out (image-fits z) (s ∙ sym (length-big_endians 2 (image text))) (ap (λ (o : Outcome Told). o.buffer) e)
  written_by (suc n) size z e = let r = ap (λ (o : Outcome Told). o.answer.refused) e in absurd (omega arith)

  refused_as : (n : ℕ) (r : Refusal) {size : ℕ} {kept left : List ℕ} → outcome (told (Err r)) kept ≡ call n → outcome size left ≡ answer_outcome (refusal_line (refusal_number r)) kept → outcome size left ≡ answered n
  refused_as zero r e line =
      let z = ap (λ (o : Outcome Told). o.answer.refused) e in
      let k = number-suc r in
      absurd (omega (arith, k.1))
  refused_as (suc n) r e line =
      let n = ap (λ (o : Outcome Told). o.answer.refused) e in
      let k = ap (λ (o : Outcome Told). o.buffer) e in
      line ∙ (λ i. answer_outcome (refusal_line (n i)) (k i))

  -- ---- the program, where a read failed, where the text is too long, and where the call answers

  pub not_whole : {size : ℕ} {left : List ℕ} → outcome size left ≡ answer_outcome (refusal_line 6) out → outcome size left ≡ program_outcome false text out
  unfolding program_outcome program_answer program_refusal
  not_whole line = line

  pub too_long : {size : ℕ} {left : List ℕ} → text_limit < length text → outcome size left ≡ answer_outcome (refusal_line 6) out → outcome size left ≡ program_outcome true text out
  unfolding program_outcome program_answer program_refusal
  too_long h line = rw (lt-ltb text_limit (length text) h) line

  pub written-answer : (size : ℕ) {left : List ℕ} → length text ≤ text_limit → outcome (told (Ok size)) left ≡ bytes_outcome text out → outcome size left ≡ program_outcome true text out
  unfolding bytes_outcome program_outcome program_answer program_refusal
  written-answer size h e = rw (le-ltb text_limit (length text) h) (written_by (bytes_refusal text (length out)) size refl e)

  pub refused-answer : (r : Refusal) {size : ℕ} {kept left : List ℕ} → length text ≤ text_limit → outcome (told (Err r)) kept ≡ bytes_outcome text out
      → outcome size left ≡ answer_outcome (refusal_line (refusal_number r)) kept → outcome size left ≡ program_outcome true text out
  unfolding bytes_outcome program_outcome program_answer program_refusal
  refused-answer r h e line = rw (le-ltb text_limit (length text) h) (refused_as (bytes_refusal text (length out)) r e line)

-- ---- what the program writes: the first bytes of the buffer, as many as it answers

-- a refused program writes its line and nothing else
pub writes_line : (whole : Bool) (text out : List ℕ) (n : ℕ) → 29 ≤ length out → program_refusal whole text (length out) ≡ suc n
    → take (program_outcome whole text out).answer (program_outcome whole text out).buffer ≡ refusal_line (suc n)
unfolding program_outcome program_answer
writes_line whole text out n room e = rw e (refused-writes n (image_bytes text) out room)

-- of a text that is too long the first 262,145 bytes decide
pub long-refused : (text : List ℕ) (room : ℕ) → text_limit < length text → program_answer true text room ≡ refusal_line 6
unfolding program_answer program_refusal
long-refused text room h = rw (lt-ltb text_limit (length text) h)
