-- The laws of the calls' answers.
-- Assumes nothing.
use Prim.Native.Nat.{ℕ, zero, suc, ◌≤◌, ◌<◌}
use native.Mathlib.Omega.{arith}
use mathlib.Core.Path.{◌≡◌, refl, ap, ◌∙◌}
use mathlib.Core.List.{List}
use borrow.Author.Tests.{lt-ltb, le-ltb}
use lib.IntN.{ℤ, pos, neg_ℤ, ◌-ℤ◌, +ℤ_idl}
use lib.ListN.{length}
use mir.Syntax.{w64}
use mir.Val.{to_z, of_z, SFits}
use mir.ValLaws.{to_z_pos, to_z-of_z}
use Rattle.isa.specs.Text.{padded}
use Rattle.encoding.specs.Bytes.{over, written}
use Rattle.encoding.specs.Answer.{Outcome, outcome, Told}
use Rattle.encoding.proofs.Written.{written-fits}
use Rattle.disasm.specs.Disassembly.{disassemble_text}
use Rattle.disasm.proofs.Texts.{disassembly_short, disassembly_padded}
use Rattle.secret.specs.Widths.{report_limit}
use Rattle.massey.specs.Calls.{length_of, refused, number_of, disassemble_outcome}

-- ---- lengths and refusals as signed numbers

-- no call answers a longer length than that of the longest report
pub small : {n : ℕ} → n ≤ report_limit → SFits w64 (pos n)
small h = record { sfits = omega arith }

pub length_read : {n : ℕ} → n ≤ report_limit → to_z w64 n ≡ length_of n
length_read {n} h = to_z_pos w64 n (omega arith)

pub minus : {n : ℕ} → n ≤ 255 → pos 0 -ℤ to_z w64 n ≡ refused n
minus {n} h = rw (to_z_pos w64 n (omega arith)) (+ℤ_idl (neg_ℤ (pos n)))

negative : (n : ℕ) → n ≤ 255 → SFits w64 (refused n)
negative zero h = record { sfits = omega arith }
negative (suc n) h = record { sfits = omega arith }

pub minus_fits : {n : ℕ} → n ≤ 255 → SFits w64 (pos 0 -ℤ to_z w64 n)
minus_fits {n} h = rw (minus h) (negative n h)

number-refused : (n : ℕ) → refused n ≡ number_of n 0
number-refused zero = refl
number-refused (suc n) = refl

pub refusal_read : {n : ℕ} → n ≤ 255 → to_z w64 (of_z w64 (pos 0 -ℤ to_z w64 n)) ≡ number_of n 0
refusal_read {n} h = to_z-of_z w64 (pos 0 -ℤ to_z w64 n) (minus_fits h) ∙ minus h ∙ number-refused n

-- a call's outcome with its number in place of what it tells
pub numbered : {n : ℤ} {a o : Outcome Told} → n ≡ number_of a.answer.refused a.answer.length → a ≡ o
    → outcome n a.buffer ≡ outcome (number_of o.answer.refused o.answer.length) o.buffer
numbered e t =
    let f = e ∙ ap (λ (o : Outcome Told). number_of o.answer.refused o.answer.length) t in
    λ i. outcome (f i) (t i).buffer

-- ---- a word's text

pub no_room : (w : ℕ) (out : List ℕ) → length out < 32 → outcome (refused 5) out ≡ disassemble_outcome w out
unfolding disassemble_outcome
no_room w out h = simp (lt-ltb (length out) 32 h)

pub shown : (w : ℕ) (out : List ℕ) {n : ℕ} {o : List ℕ} → 32 ≤ length out → (n ≡ length (disassemble_text w)) × (o ≡ written out 0 (padded 32 (disassemble_text w)))
    → outcome (to_z w64 n) o ≡ disassemble_outcome w out
unfolding disassemble_outcome
shown w out {n} {o} h e =
    let l : length (padded 32 (disassemble_text w)) ≡ 32 = disassembly_padded w in
    let s : length (disassemble_text w) ≤ 32 = disassembly_short w in
    let a : to_z w64 n ≡ length_of (length (disassemble_text w)) = rw e.0 (length_read (omega arith)) in
    let p : o ≡ over out 0 (padded 32 (disassemble_text w)) = e.1 ∙ written-fits out 0 (padded 32 (disassemble_text w)) (omega arith) in
    (λ i. outcome (a i) (p i)) ∙ simp (le-ltb (length out) 32 h)
