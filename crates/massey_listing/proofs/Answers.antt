-- The laws of the program's answer: those of a call on bytes in a buffer, and what the program writes.
-- Assumes nothing.
use Prim.Native.Nat.{ℕ, zero, suc, ◌/◌, ◌≤◌}
use native.Mathlib.Omega.{arith}
use mathlib.Core.Bool.{Bool, true, false}
use mathlib.Core.Path.{◌≡◌, refl, sym, ap, ◌∙◌}
use mathlib.Core.List.{List}
use borrow.Author.Tests.{lt-ltb}
use lib.ListN.{length, take}
use Rattle.encoding.specs.Answer.{Outcome, outcome, Told, unless_refused}
use Rattle.encoding.specs.Bytes.{over}
use Rattle.answer.specs.Line.{refusal_line}
use Rattle.answer.specs.Answer.{answer_of, answer_outcome}
use Rattle.answer.proofs.Answers.{fitting, refused-writes}
use Rattle.std.specs.Prelude.{Ok, Err}
use Rattle.encoding.specs.Refusal.{refusal_number, told}
use Rattle.encoding.specs.declared.refusal.Refusal.{Refusal}
use Rattle.listing.specs.Listing.{listing_words, listing_length, bytes_refusal, bytes_listing, bytes_outcome}
use Rattle.listing.proofs.Listings.{head_at_least, length-bytes, bytes-room}
use Rattle.massey_listing.specs.Answer.{program_refusal, program_answer, program_outcome}

-- ---- the call on bytes, by the number n of its refusal

module _ (input out : List ℕ) where
  abbrev call : ℕ → Outcome Told
  call n = unless_refused n out (outcome (told (Ok (listing_length (length input / 2)))) (over out 0 (bytes_listing input)))

  served_by : (n : ℕ) {size : ℕ} {left : List ℕ} → bytes_refusal (length input) (length out) ≡ n → outcome (told (Ok size)) left ≡ call n
      → outcome size left ≡ answer_outcome (answer_of n (bytes_listing input)) out
  served_by zero z e =
      let l = length-bytes input in
      fitting (bytes_listing input) out (omega (arith, bytes-room input out z)) (ap (λ (o : Outcome Told). o.answer.length) e ∙ sym l) (ap (λ (o : Outcome Told). o.buffer) e)
  served_by (suc n) z e =
      let r = ap (λ (o : Outcome Told). o.answer.refused) e in
      absurd (omega arith)

  refused_as : (n : ℕ) (r : Refusal) {size : ℕ} {kept left : List ℕ} → outcome (told (Err r)) kept ≡ call n → outcome size left ≡ answer_outcome (refusal_line (refusal_number r)) kept
      → outcome size left ≡ answer_outcome (answer_of n (bytes_listing input)) out
  refused_as zero r e line =
      let l = ap (λ (o : Outcome Told). o.answer.length) e in
      absurd (omega (arith, head_at_least (length input / 2)))
  refused_as (suc n) r e line =
      let n = ap (λ (o : Outcome Told). o.answer.refused) e in
      let k = ap (λ (o : Outcome Told). o.buffer) e in
      line ∙ (λ i. answer_outcome (refusal_line (n i)) (k i))

  pub written-answer : {size : ℕ} {left : List ℕ} → outcome (told (Ok size)) left ≡ bytes_outcome input out → outcome size left ≡ program_outcome true input out
  unfolding bytes_outcome program_outcome program_answer program_refusal
  written-answer e = served_by (bytes_refusal (length input) (length out)) refl e

  pub refused-answer : (r : Refusal) {size : ℕ} {kept left : List ℕ} → outcome (told (Err r)) kept ≡ bytes_outcome input out → outcome size left ≡ answer_outcome (refusal_line (refusal_number r)) kept
      → outcome size left ≡ program_outcome true input out
  unfolding bytes_outcome program_outcome program_answer program_refusal
  refused-answer r e line = refused_as (bytes_refusal (length input) (length out)) r e line

  pub not_whole : {size : ℕ} {left : List ℕ} → outcome size left ≡ answer_outcome (refusal_line 6) out → outcome size left ≡ program_outcome false input out
  unfolding program_outcome program_answer program_refusal
  not_whole line = line

-- ---- what the program writes: the first bytes of the buffer, as many as it answers

-- a refused program writes its line and nothing else
pub writes_line : (whole : Bool) (input out : List ℕ) (n : ℕ) → 29 ≤ length out → program_refusal whole input (length out) ≡ suc n
    → take (program_outcome whole input out).answer (program_outcome whole input out).buffer ≡ refusal_line (suc n)
unfolding program_outcome program_answer
writes_line whole input out n room e = rw e (refused-writes n (bytes_listing input) out room)

-- of 514 bytes and more the first 514 decide: one word too many
pub long-refused : (input : List ℕ) (room : ℕ) → 514 ≤ length input → program_answer true input room ≡ refusal_line 1
unfolding program_answer program_refusal
long-refused input room h = rw (lt-ltb listing_words (length input / 2) (omega arith))
