-- The laws of `specs/Answer.antt`: what a program writes are the first bytes of its buffer, as many as its answer says.
-- Assumes nothing.
use Prim.Native.Nat.{ℕ, zero, suc, ◌+◌, ◌/◌, ◌%◌, ◌≤◌, ◌<◌}
use Prim.Native.Char.{code}
use native.Mathlib.Omega.{arith}
use mathlib.Core.Path.{◌≡◌}
use mathlib.Core.Bool.{Bool, true, false, cond}
use mathlib.Core.List.{List, [], ◌∷◌, ◌++◌}
use borrow.Author.Tests.{lt-ltb, le-ltb}
use lib.Dec.{ltb}
use lib.ListN.{length, take, drop, length-append}
use Rattle.isa.specs.Format.{decimal}
use Rattle.encoding.specs.Bytes.{over}
use Rattle.encoding.specs.Answer.{outcome}
use Rattle.encoding.proofs.Written.{take-over, drop-over}
use Rattle.answer.specs.Line.{refusal_line, counts_line}
use Rattle.answer.specs.Answer.{answer_outcome, answer_of}

module _ (bytes out : List ℕ) where
  -- an answer that fits
  pub fitting : {size : ℕ} {left : List ℕ} → length bytes ≤ length out → size ≡ length bytes → left ≡ over out 0 bytes → outcome size left ≡ answer_outcome bytes out
  unfolding answer_outcome
  fitting fits s l = rw (le-ltb (length out) (length bytes) fits, s, l)

  -- it is what the program writes, whole and nothing else, and the bytes behind it are kept
  pub writes-answer : length bytes ≤ length out → take (answer_outcome bytes out).answer (answer_outcome bytes out).buffer ≡ bytes
  unfolding answer_outcome
  writes-answer fits = rw (le-ltb (length out) (length bytes) fits) (take-over out bytes)

  pub keeps_behind : length bytes ≤ length out → drop (answer_outcome bytes out).answer (answer_outcome bytes out).buffer ≡ drop (length bytes) out
  unfolding answer_outcome
  keeps_behind fits =
      let e : 0 + length bytes ≡ length bytes = omega arith in
      rw (le-ltb (length out) (length bytes) fits) (rw e at (drop-over out 0 bytes (omega arith)))

  -- of one that does not fit it writes nothing
  pub writes_nothing : length out < length bytes → take (answer_outcome bytes out).answer (answer_outcome bytes out).buffer ≡ []
  unfolding answer_outcome
  writes_nothing long = rw (lt-ltb (length out) (length bytes) long)

-- a refusal's line is short
length-decimal : (k n : ℕ) → length (decimal k n) ≤ k
unfolding decimal
length-decimal zero n = omega arith
length-decimal (suc k) n = digits (length-decimal k (n / 10)) (ltb n 10)
  where
    digits : length (decimal k (n / 10)) ≤ k → (b : Bool) → length (cond b ((code "0" + n) ∷ []) (decimal k (n / 10) ++ ((code "0" + n % 10) ∷ []))) ≤ suc k
    digits h true = omega arith
    digits h false = rw length-append (omega arith)

pub length-refusal : (n : ℕ) → length (refusal_line n) ≤ 29
unfolding refusal_line
length-refusal n = simp length-append (omega (arith, length-decimal 20 n))

-- and so is a line of two counts
pub length-counts : (p f : ℕ) → length (counts_line p f) ≤ 57
unfolding counts_line
length-counts p f = simp length-append (omega (arith, length-decimal 20 p, length-decimal 20 f))

-- a refused program writes its line and nothing else
pub refused-writes : (n : ℕ) (served out : List ℕ) → 29 ≤ length out → take (answer_outcome (answer_of (suc n) served) out).answer (answer_outcome (answer_of (suc n) served) out).buffer ≡ refusal_line (suc n)
refused-writes n served out room = writes-answer (refusal_line (suc n)) out (omega (arith, length-refusal (suc n)))
