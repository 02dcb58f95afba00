-- Two words have equal disassembly exactly when they are equal (02, Change 1): a word can be read off its text, and off the text's field of 32 bytes.
-- Assumes nothing.
use Rattle.std.specs.Prelude.{None, Option, Some}
use Prim.Native.Nat.{ℕ, ◌+◌, ◌*◌, ◌-◌, ◌<◌}
use Prim.Native.Char.{Char, code}
use native.Mathlib.Omega.{arith}
use mathlib.Core.Logic.{◌↔◌}
use mathlib.Core.Path.{◌≡◌, refl, sym, ap, ◌∙◌}
use mathlib.Core.Bool.{Bool, true, false, cond, not}
use mathlib.Core.List.{List, ◌++◌}
use borrow.Author.Tests.{eqb-true, not-true}
use lib.Dec.{eqb, ltb}
use lib.ListN.{length, get_or}
use Rattle.isa.specs.declared.opcode.Opcode.{Opcode}
use Rattle.isa.specs.declared.opcode.Opcode.TheVariants.{LoadImmediate, LoadRegister, LoadMemory, StoreMemory, Add, Negate}
use Rattle.isa.specs.declared.opcode.Opcode.TheVariants.{ShiftRight, ShiftLeft, And, Or, Xor, Jump, Halt}
use Rattle.isa.specs.Sizes.{text_width}
use Rattle.isa.specs.Text.{ascii, padded}
use Rattle.isa.specs.Opcode.{nibble_of}
use Rattle.isa.specs.Word.{decode_word, digit_w, digit_x, digit_y, digit_z}
use Rattle.isa.specs.Nibbles.{unused_of, unused}
use Rattle.isa.specs.Format.{hex_digit, fill}
use Rattle.isa.proofs.Truths.{tested}
use Rattle.isa.proofs.Texts.{padded_at}
use Rattle.isa.proofs.Words.{by_digits, opcode_digit}
use Rattle.disasm.specs.Disassembly.{template, ending, disassemble_text}

-- ---- digits read back

abbrev value_of : ℕ → ℕ
value_of b = cond (ltb b (code "A")) (b - code "0") (b - 55)

value_read : (d : ℕ) → d < 16 → value_of (hex_digit d) ≡ d
value_read d h = eqb-true (value_of (hex_digit d)) d (tested (λ (k : ℕ). eqb (value_of (hex_digit k)) k) 16 refl d h)

-- no digit is a bracket or an R
no_bracket : (d : ℕ) → d < 16 → eqb (hex_digit d) (code "[") ≡ false
no_bracket d h = not-true (eqb (hex_digit d) (code "[")) (tested (λ (k : ℕ). not (eqb (hex_digit k) (code "["))) 16 refl d h)

no_r : (d : ℕ) → d < 16 → eqb (hex_digit d) (code "R") ≡ false
no_r d h = not-true (eqb (hex_digit d) (code "R")) (tested (λ (k : ℕ). not (eqb (hex_digit k) (code "R"))) 16 refl d h)

-- ---- the word in a text, whose bytes are `b`, 0 past its end: a space there tells that the word stands behind the text

module _ (b : ℕ → ℕ) where
  abbrev v : ℕ → ℕ
  v p = value_of (b p)

  abbrev is : ℕ → Char → Bool
  is p c = eqb (b p) (code c)

  abbrev word : ℕ → ℕ → ℕ → ℕ → ℕ
  word o x y z = 4096 * o + 256 * x + 16 * y + z

  abbrev four : ℕ → ℕ
  four p = word (v p) (v (p + 1)) (v (p + 2)) (v (p + 3))

  abbrev load : ℕ
  load =
      cond (is 9 "[") (word 0x3 (v 6) (v 10) (v 11))
      (cond (is 9 "R") (cond (is 11 " ") (four 14) (word 0x2 0 (v 6) (v 10)))
      (word 0x1 (v 6) (v 9) (v 10)))

  -- STORE, and SHIFT to either side
  abbrev store : ℕ
  store =
      cond (is 1 "T") (word 0x4 (v 7) (v 11) (v 12))
      (cond (is 9 "R") (word 0x8 (v 7) (v 15) (v 16))
      (word 0x9 (v 7) (v 14) (v 15)))

  abbrev both_registers : ℕ
  both_registers =
      cond (is 8 "+") (word 0x6 (v 1) (v 6) (v 11))
      (cond (is 8 "A") (word 0xA (v 1) (v 6) (v 13))
      (cond (is 8 "O") (word 0xB (v 1) (v 6) (v 12))
      (word 0xC (v 1) (v 6) (v 13))))

  word_in : ℕ
  word_in =
      cond (is 0 "L") load
      (cond (is 0 "S") store
      (cond (is 0 "R") both_registers
      (cond (is 0 "N") (cond (is 9 " ") (four 12) (word 0x7 0 (v 8) 0))
      (cond (is 0 "J") (word 0xD (v 14) (v 6) (v 7))
      (cond (is 0 "H") (cond (is 4 " ") (four 7) (word 0xE 0 0 0))
      (four 28))))))

-- the bytes of a text
abbrev bytes_of : List ℕ → ℕ → ℕ
bytes_of s p = get_or s p 0

module _ (w : ℕ) (h : w < 65536) where
  r0 : value_of (hex_digit (digit_w w)) ≡ digit_w w
  r0 = value_read (digit_w w) (omega arith)

  rx : value_of (hex_digit (digit_x w)) ≡ digit_x w
  rx = value_read (digit_x w) (omega arith)

  ry : value_of (hex_digit (digit_y w)) ≡ digit_y w
  ry = value_read (digit_y w) (omega arith)

  rz : value_of (hex_digit (digit_z w)) ≡ digit_z w
  rz = value_read (digit_z w) (omega arith)

  -- from a text with the word behind it, and without, where the unused digits are 0
  abbrev Read : Option Opcode → Bool → Type 0
  Read d loose = word_in (bytes_of (fill w (ascii (template d) ++ ending loose))) ≡ w

  by_ending : (o : Opcode) → Read (Some o) true → (unused_of o w ≡ 0 → Read (Some o) false) → Read (Some o) (not (eqb (unused_of o w) 0))
  by_ending o whole short = go (eqb (unused_of o w) 0) refl
    where
      go : (z : Bool) → eqb (unused_of o w) 0 ≡ z → Read (Some o) (not z)
      go true q = short (eqb-true (unused_of o w) 0 q)
      go false q = whole

  with_opcode : (o : Opcode) → digit_w w ≡ nibble_of o → Read (Some o) (not (eqb (unused_of o w) 0))
  unfolding word_in fill template
  with_opcode LoadImmediate n = rw (no_bracket (digit_y w) (omega arith), no_r (digit_y w) (omega arith), rx, ry, rz) (omega (arith, by_digits w h))
  with_opcode LoadRegister n = by_ending LoadRegister (rw (r0, rx, ry, rz) (by_digits w h)) (λ q. rw (ry, rz) (omega (arith, by_digits w h)))
  with_opcode LoadMemory n = rw (rx, ry, rz) (omega (arith, by_digits w h))
  with_opcode StoreMemory n = rw (rx, ry, rz) (omega (arith, by_digits w h))
  with_opcode Add n = rw (rx, ry, rz) (omega (arith, by_digits w h))
  with_opcode Negate n = by_ending Negate (rw (r0, rx, ry, rz) (by_digits w h)) (λ q. rw ry (omega (arith, by_digits w h)))
  with_opcode ShiftRight n = rw (rx, ry, rz) (omega (arith, by_digits w h))
  with_opcode ShiftLeft n = rw (rx, ry, rz) (omega (arith, by_digits w h))
  with_opcode And n = rw (rx, ry, rz) (omega (arith, by_digits w h))
  with_opcode Or n = rw (rx, ry, rz) (omega (arith, by_digits w h))
  with_opcode Xor n = rw (rx, ry, rz) (omega (arith, by_digits w h))
  with_opcode Jump n = rw (rx, ry, rz) (omega (arith, by_digits w h))
  with_opcode Halt n = by_ending Halt (rw (r0, rx, ry, rz) (by_digits w h)) (λ q. omega (arith, by_digits w h))

  -- the word is read off its text
  word_read : word_in (bytes_of (disassemble_text w)) ≡ w
  unfolding word_in fill template disassemble_text
  word_read = go (decode_word w) refl
    where
      go : (d : Option Opcode) → decode_word w ≡ d → Read d (not (eqb (unused d w) 0))
      go (Some o) e = with_opcode o (opcode_digit w o e)
      go None e = rw (r0, rx, ry, rz) (by_digits w h)

-- ---- the theorem

-- two words have equal disassembly exactly when they are equal
pub disassembly_tells : (v w : ℕ) → v < 65536 → w < 65536 → (disassemble_text v ≡ disassemble_text w) ↔ (v ≡ w)
disassembly_tells v w h k = (λ e. sym (word_read v h) ∙ ap (λ (s : List ℕ). word_in (bytes_of s)) e ∙ word_read w k, λ e. ap disassemble_text e)

-- so the field of 32 bytes, zeros behind the text, tells the word too
field_read : (w : ℕ) → w < 65536 → word_in (bytes_of (padded text_width (disassemble_text w))) ≡ w
unfolding padded
field_read w h = (λ i. word_in (λ p. padded_at (disassemble_text w) (text_width - length (disassemble_text w)) p i)) ∙ word_read w h

pub field_tells : (v w : ℕ) → v < 65536 → w < 65536 → (padded text_width (disassemble_text v) ≡ padded text_width (disassemble_text w)) ↔ (v ≡ w)
field_tells v w h k =
    (λ e. sym (field_read v h) ∙ ap (λ (s : List ℕ). word_in (bytes_of s)) e ∙ field_read w k, λ e. ap (λ (u : ℕ). padded text_width (disassemble_text u)) e)
