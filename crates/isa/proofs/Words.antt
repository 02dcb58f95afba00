-- What is read off a word by way of the struct that wraps it; a word is its four digits, the first of them its opcode's.
-- Assumes nothing.
use Rattle.std.specs.Prelude.{None, Option, Some}
use Prim.Native.Nat.{ℕ, ◌+◌, ◌*◌, ◌/◌, ◌%◌, ◌<◌}
use native.Mathlib.Omega.{arith}
use native.Mathlib.Nat.{div-div-eq-div-mul, div-add-mod', mod-eq_of_lt}
use mathlib.Core.Path.{◌≡◌, refl, sym, ap, ◌∙◌}
use mathlib.Core.Bool.{Bool, true}
use borrow.Author.Tests.{eqb-true}
use lib.Dec.{eqb}
use Rattle.isa.specs.declared.instruction.Instruction.{Instruction}
use Rattle.isa.specs.declared.opcode.Opcode.{Opcode}
use Rattle.isa.specs.Opcode.{digits, decode_nibble, nibble_of}
use Rattle.isa.specs.Word.{digit_w, digit_x, digit_y, digit_z, decode_word, instruction}
use Rattle.isa.proofs.Truths.{below, tested}

-- a number or a test of the word
pub read_off : {A : Type 0} (f : ℕ → A) (w : ℕ) {i : Instruction} {x : A} → i ≡ instruction w → x ≡ f i.raw → f w ≡ x
read_off f w e g = ap (λ (j : Instruction). f j.raw) (sym e) ∙ sym g

-- what it decodes to
pub decodes : (w : ℕ) {i : Instruction} {o d : Option Opcode} → i ≡ instruction w → o ≡ decode_word i.raw → o ≡ d → decode_word w ≡ d
decodes w e f g = read_off decode_word w e f ∙ g

-- a word by its digits
pub by_digits : (w : ℕ) → w < 65536 → 4096 * digit_w w + 256 * digit_x w + 16 * digit_y w + digit_z w ≡ w
by_digits w h =
    let a : w / 16 / 16 ≡ w / 256 = div-div-eq-div-mul w 16 16 in
    let b : w / 256 / 16 ≡ w / 4096 = div-div-eq-div-mul w 256 16 in
    let c : digit_w w ≡ w / 4096 = mod-eq_of_lt (omega arith) in
    let p : w / 16 * 16 + w % 16 ≡ w = div-add-mod' w 16 in
    let q : w / 256 * 16 + w / 16 % 16 ≡ w / 16 = rw a at (div-add-mod' (w / 16) 16) in
    let r : w / 4096 * 16 + w / 256 % 16 ≡ w / 256 = rw b at (div-add-mod' (w / 256) 16) in
    omega (arith, c, p, q, r)

-- a digit says its own opcode, if any
own : ℕ → Option Opcode → Bool
own n (Some o) = eqb (nibble_of o) n
own n None = true

own_digits : below (λ (n : ℕ). own n (decode_nibble n)) 16 ≡ true
unfolding own decode_nibble digits
own_digits = refl

-- the first digit of a word that has an opcode
pub opcode_digit : (w : ℕ) (o : Opcode) → decode_word w ≡ Some o → digit_w w ≡ nibble_of o
unfolding own
opcode_digit w o e =
    let t : own (digit_w w) (decode_word w) ≡ true = tested (λ (n : ℕ). own n (decode_nibble n)) 16 own_digits (digit_w w) (omega arith) in
    sym (eqb-true (nibble_of o) (digit_w w) (ap (own (digit_w w)) (sym e) ∙ t))
