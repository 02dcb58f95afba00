-- The column of a word's text in a listing is an instruction: that word, or the word without the address that it refers to and that address's label.
-- Assumes nothing.
use Rattle.std.specs.Prelude.{None, Option, Some}
use Prim.Native.Nat.{ℕ, ◌+◌, ◌*◌, ◌-◌, ◌/◌, ◌%◌, ◌<◌}
use native.Mathlib.Omega.{arith}
use native.Mathlib.Nat.{div-div-eq-div-mul, div-add-mod'}
use mathlib.Core.Path.{◌≡◌, refl}
use mathlib.Core.Bool.{Bool, true, false, cond, not, ◌&&◌}
use mathlib.Core.List.{List, [], ◌∷◌, append-nil}
use borrow.Author.Tests.{eqb-true}
use lib.Dec.{eqb, ltb, lit<}
use lib.ListN.{length}
use Rattle.isa.specs.declared.opcode.Opcode.{Opcode}
use Rattle.isa.specs.declared.opcode.Opcode.TheVariants.{LoadImmediate, LoadRegister, LoadMemory, StoreMemory, Add, Negate}
use Rattle.isa.specs.declared.opcode.Opcode.TheVariants.{ShiftRight, ShiftLeft, And, Or, Xor, Jump, Halt}
use Rattle.isa.specs.Opcode.{nibble_of}
use Rattle.isa.specs.Text.{ascii, spaced}
use Rattle.isa.specs.Word.{decode_word, digit_w, digit_y, digit_z, byte_yz}
use Rattle.isa.specs.Nibbles.{unused_of}
use Rattle.isa.specs.Format.{fill}
use Rattle.isa.proofs.Words.{by_digits, opcode_digit}
use Rattle.disasm.specs.Disassembly.{template, disassemble_text}
use Rattle.listing.specs.Listing.{reference_of, refers, other_by, other_text, reference_text, listing_text}
use Rattle.assemble.specs.Grammar.{is_label, Token, letter, blank, digit, name, forms, form_at, made, counted, referred, Digits, Instruction}
use Rattle.assemble.proofs.Scans.{digit-name, cons_digits}

-- ---- digits and labels of a word

-- the digit that counts k in a word
abbrev digit_at : ℕ → ℕ → ℕ
digit_at k w = cond (eqb k 1) w (w / k) % 16

-- those that a pattern shows
abbrev shown : List Token → ℕ → List ℕ
shown [] w = []
shown (letter c ∷ t) w = shown t w
shown (blank ∷ t) w = shown t w
shown (digit k ∷ t) w = digit_at k w ∷ shown t w
shown (name ∷ t) w = shown t w

shown-digits : (t : List Token) (w : ℕ) → Digits (shown t w)
shown-digits [] w i = lit< tt
shown-digits (letter c ∷ t) w i = shown-digits t w i
shown-digits (blank ∷ t) w i = shown-digits t w i
shown-digits (digit k ∷ t) w i = cons_digits (digit_at k w) (shown t w) (omega arith) (shown-digits t w) i
shown-digits (name ∷ t) w i = shown-digits t w i

-- the label of the address in a word's last two digits
abbrev pub label_of : ℕ → List ℕ
label_of w = fill w (ascii "Lyz")

pub label_is : (w : ℕ) → is_label (label_of w) ≡ true
unfolding fill
label_is w = rw (digit-name (digit_y w) (omega arith), digit-name (digit_z w) (omega arith))

pub low_byte : (w : ℕ) → byte_yz w ≡ 16 * digit_y w + digit_z w
low_byte w =
    let a : w / 16 / 16 ≡ w / 256 = div-div-eq-div-mul w 16 16 in
    let p : w / 16 * 16 + w % 16 ≡ w = div-add-mod' w 16 in
    let q : w / 256 * 16 + w / 16 % 16 ≡ w / 16 = rw a at (div-add-mod' (w / 16) 16) in
    let r : w / 256 * 256 + w % 256 ≡ w = div-add-mod' w 256 in
    omega (arith, p, q, r)

-- ---- the column

-- where a word refers to an address by its label, the word without it, and the label
abbrev pub word_part : Bool → ℕ → ℕ
word_part b w = cond b (w - byte_yz w) w

abbrev pub label_if : Bool → ℕ → List ℕ
label_if b w = cond b (label_of w) []

abbrev pattern_of : ℕ → List Token
pattern_of f = (form_at forms f).pattern

module _ (w : ℕ) (h : w < 65536) where
  -- the digits of a word written by the form f, with so many spaces more at its blanks and its end
  fits_by : (f : ℕ) (gs : List ℕ) {s : List ℕ} {v : ℕ} {r : List ℕ} → f < length forms → s ≡ made (pattern_of f) (shown (pattern_of f) w) (label_of w) gs
      → v ≡ counted (pattern_of f) (shown (pattern_of f) w) (form_at forms f).base → r ≡ referred (pattern_of f) (label_of w) [] → Instruction s v r
  fits_by f gs k e c q = record {
    which = f;
    known = k;
    fits = record {
      digits = shown (pattern_of f) w;
      label = label_of w;
      gaps = gs;
      hexadecimal = shown-digits (pattern_of f) w;
      named = label_is w;
      text = e;
      word = c;
      refers = q;
    };
  }

  data_fits : Instruction (spaced 26 (fill w (ascii ".word Wxyz"))) w []
  unfolding forms made counted referred fill
  data_fits = fits_by 16 (0 ∷ 16 ∷ []) (lit< tt) refl (omega (arith, by_digits w h)) refl

  -- a loose word is listed as data, and each other one as its template
  other_fits : (o : Opcode) → decode_word w ≡ Some o → (unused_of o w ≡ 0 → Instruction (spaced 26 (fill w (ascii (template (Some o))))) w [])
      → Instruction (spaced 26 (other_text w)) w []
  unfolding other_text disassemble_text
  other_fits o e f = rw e (go (eqb (unused_of o w) 0) refl)
    where
      go : (v : Bool) → eqb (unused_of o w) 0 ≡ v → Instruction (spaced 26 (other_by (cond (not v) None (Some o)) w)) w []
      go true q = rw (e, q, append-nil (ascii (template (Some o)))) (f (eqb-true (unused_of o w) 0 q))
      go false q = data_fits

  -- what is to be of a word that decodes to d, and refers to an address inside the image where b
  abbrev Column : Bool → Option Opcode → Type 0
  Column b d = Instruction (spaced 26 (reference_text b (reference_of d) w)) (word_part (refers d && b) w) (label_if (refers d && b) w)

  by_opcode : (b : Bool) (o : Opcode) → decode_word w ≡ Some o → digit_w w ≡ nibble_of o → Column b (Some o)
  unfolding forms made counted referred fill template
  by_opcode b LoadImmediate e n = other_fits LoadImmediate e (λ u. fits_by 0 (0 ∷ 0 ∷ 15 ∷ []) (lit< tt) refl (omega (arith, by_digits w h)) refl)
  by_opcode b LoadRegister e n = other_fits LoadRegister e (λ u. fits_by 1 (0 ∷ 0 ∷ 15 ∷ []) (lit< tt) refl (omega (arith, by_digits w h)) refl)
  by_opcode true LoadMemory e n = fits_by 3 (1 ∷ 0 ∷ 11 ∷ []) (lit< tt) refl (omega (arith, by_digits w h, low_byte w)) refl
  by_opcode false LoadMemory e n = fits_by 2 (1 ∷ 0 ∷ 12 ∷ []) (lit< tt) refl (omega (arith, by_digits w h)) refl
  by_opcode true StoreMemory e n = fits_by 5 (0 ∷ 0 ∷ 11 ∷ []) (lit< tt) refl (omega (arith, by_digits w h, low_byte w)) refl
  by_opcode false StoreMemory e n = fits_by 4 (0 ∷ 0 ∷ 12 ∷ []) (lit< tt) refl (omega (arith, by_digits w h)) refl
  by_opcode b Add e n = other_fits Add e (λ u. fits_by 6 (0 ∷ 0 ∷ 0 ∷ 0 ∷ 14 ∷ []) (lit< tt) refl (omega (arith, by_digits w h)) refl)
  by_opcode b Negate e n = other_fits Negate e (λ u. fits_by 7 (0 ∷ 17 ∷ []) (lit< tt) refl (omega (arith, by_digits w h)) refl)
  by_opcode b ShiftRight e n = other_fits ShiftRight e (λ u. fits_by 8 (0 ∷ 0 ∷ 0 ∷ 9 ∷ []) (lit< tt) refl (omega (arith, by_digits w h)) refl)
  by_opcode b ShiftLeft e n = other_fits ShiftLeft e (λ u. fits_by 9 (0 ∷ 0 ∷ 0 ∷ 10 ∷ []) (lit< tt) refl (omega (arith, by_digits w h)) refl)
  by_opcode b And e n = other_fits And e (λ u. fits_by 10 (0 ∷ 0 ∷ 0 ∷ 0 ∷ 12 ∷ []) (lit< tt) refl (omega (arith, by_digits w h)) refl)
  by_opcode b Or e n = other_fits Or e (λ u. fits_by 11 (0 ∷ 0 ∷ 0 ∷ 0 ∷ 13 ∷ []) (lit< tt) refl (omega (arith, by_digits w h)) refl)
  by_opcode b Xor e n = other_fits Xor e (λ u. fits_by 12 (0 ∷ 0 ∷ 0 ∷ 0 ∷ 12 ∷ []) (lit< tt) refl (omega (arith, by_digits w h)) refl)
  by_opcode true Jump e n = fits_by 14 (1 ∷ 0 ∷ 0 ∷ 6 ∷ []) (lit< tt) refl (omega (arith, by_digits w h, low_byte w)) refl
  by_opcode false Jump e n = fits_by 13 (1 ∷ 0 ∷ 0 ∷ 7 ∷ []) (lit< tt) refl (omega (arith, by_digits w h)) refl
  by_opcode b Halt e n = other_fits Halt e (λ u. fits_by 15 (22 ∷ []) (lit< tt) refl (omega (arith, by_digits w h)) refl)

  -- by what the word decodes to: a reference inside an image of n words is a label
  pub column_fits : (n : ℕ)
      → Instruction (spaced 26 (listing_text n w)) (word_part (refers (decode_word w) && ltb (byte_yz w) n) w) (label_if (refers (decode_word w) && ltb (byte_yz w) n) w)
  unfolding listing_text other_text
  column_fits n = go (decode_word w) refl
    where
      go : (d : Option Opcode) → decode_word w ≡ d → Column (ltb (byte_yz w) n) d
      go (Some o) e = by_opcode (ltb (byte_yz w) n) o e (opcode_digit w o e)
      go None e = rw e data_fits
