-- The laws of the disassembly: no text is over 32 bytes, none of an instruction over 18, and a word's text once its opcode is known.
-- Assumes nothing.
use Rattle.std.specs.Prelude.{None, Option, Some}
use Prim.Native.Nat.{ℕ, ◌+◌, ◌-◌, ◌≤◌}
use mathlib.Core.Path.{◌≡◌, refl, sym, ap, ◌∙◌}
use native.Mathlib.Omega.{arith}
use mathlib.Core.Bool.{Bool, true, false, cond, not}
use mathlib.Core.List.{List, [], ◌++◌, map, map-append, append-nil, append_assoc}
use lib.Dec.{eqb, lit≤}
use lib.ListN.{length, drop, replicate, length-append, length-replicate, replicate-append-replicate, drop_of_length-le}
use lib.Seq.{take-append_seam, drop-append-add, drop_at}
use Rattle.isa.specs.declared.opcode.Opcode.{Opcode}
use Rattle.isa.specs.declared.opcode.Opcode.TheVariants.{LoadImmediate, LoadRegister, LoadMemory, StoreMemory, Add, Negate, ShiftRight, ShiftLeft, And, Or, Xor, Jump, Halt}
use Rattle.isa.specs.Text.{fixed_text, Text}
use Rattle.isa.specs.Text.{fixed_text, ascii, text, padded}
use Rattle.isa.specs.Word.{decode_word}
use Rattle.isa.specs.Nibbles.{unused_of, unused}
use Rattle.isa.specs.Format.{hex4, fill, fill_byte}
use Rattle.isa.proofs.Texts.{length-padded}
use Rattle.isa.proofs.Fills.{length-fill}
use Rattle.encoding.specs.Bytes.{over, within, written}
use Rattle.encoding.proofs.Written.{over_nil, written-fits}
use Rattle.disasm.specs.Disassembly.{template, ending, disassemble_text}
use Rattle.disasm.specs.Forms.{ended_bytes}

ending-short : (loose : Bool) → length (ending loose) ≤ 7
ending-short true = lit≤ tt
ending-short false = lit≤ tt

ended-short : (s : List ℕ) → length s ≤ 11 → (loose : Bool) → length (s ++ ending loose) ≤ 18
ended-short s h loose = let k : length (ending loose) ≤ 7 = ending-short loose in rw length-append (omega arith)

-- an instruction's text has at most 18 bytes, the word behind it among them
instruction-short : (o : Opcode) (w : ℕ) → length (ascii (template (Some o)) ++ ending (not (eqb (unused_of o w) 0))) ≤ 18
unfolding template
instruction-short LoadImmediate w = lit≤ tt
instruction-short LoadRegister w = ended-short (ascii "LOAD Ry, Rz") (lit≤ tt) (not (eqb (unused_of LoadRegister w) 0))
instruction-short LoadMemory w = lit≤ tt
instruction-short StoreMemory w = lit≤ tt
instruction-short Add w = lit≤ tt
instruction-short Negate w = ended-short (ascii "NEGATE Ry") (lit≤ tt) (not (eqb (unused_of Negate w) 0))
instruction-short ShiftRight w = lit≤ tt
instruction-short ShiftLeft w = lit≤ tt
instruction-short And w = lit≤ tt
instruction-short Or w = lit≤ tt
instruction-short Xor w = lit≤ tt
instruction-short Jump w = lit≤ tt
instruction-short Halt w = ended-short (ascii "HALT") (lit≤ tt) (not (eqb (unused_of Halt w) 0))

-- a template, and the word behind it where the instruction has a digit too many
abbrev pub whole : Option Opcode → ℕ → List ℕ
whole d w = ascii (template d) ++ ending (not (eqb (unused d w) 0))

whole_short : (d : Option Opcode) (w : ℕ) → length (whole d w) ≤ 32
unfolding template
whole_short (Some o) w = let s : length (whole (Some o) w) ≤ 18 = instruction-short o w in omega arith
whole_short None w = lit≤ tt

-- no text is over 32 bytes
pub disassembly_short : (w : ℕ) → length (disassemble_text w) ≤ 32
unfolding disassemble_text
disassembly_short w = rw length-fill (whole_short (decode_word w) w)

-- and none of an instruction over 18
pub known-short : (w : ℕ) (o : Opcode) → decode_word w ≡ Some o → length (disassemble_text w) ≤ 18
unfolding disassemble_text
known-short w o e = rw (length-fill, e) (instruction-short o w)

pub disassembly_padded : (w : ℕ) → length (padded 32 (disassemble_text w)) ≡ 32
disassembly_padded w = length-padded 32 (disassemble_text w) (disassembly_short w)

-- the text of a word, once its digits and what it decodes to are known
pub texted : (w : ℕ) (d : Option Opcode) {digits : List ℕ} {r : Text} → digits ≡ hex4 w → decode_word w ≡ d → r ≡ text (map (fill_byte digits) (whole d w)) → r ≡ text (disassemble_text w)
unfolding disassemble_text fill
texted w d e f g = g ∙ rw (e, f)

-- a text's field, from what is written of its struct
pub fielded : (w : ℕ) (d : List ℕ) {t : Text} {r : ℕ} {o : List ℕ} → t ≡ text (disassemble_text w) → (r ≡ t.len) × (o ≡ written d 0 t.bytes)
    → (r ≡ length (disassemble_text w)) × (o ≡ written d 0 (padded 32 (disassemble_text w)))
unfolding fixed_text
fielded w d e f = (f.0 ∙ ap (λ (u : Text). u.len) e, f.1 ∙ ap (λ (u : Text). written d 0 u.bytes) e)

-- a field that was filled whole
pub whole_field : (w : ℕ) (d : List ℕ) {r : ℕ} {o : List ℕ} → length d ≡ 32 → (r ≡ length (disassemble_text w)) × (o ≡ written d 0 (padded 32 (disassemble_text w)))
    → record { bytes = o; len = r } ≡ text (disassemble_text w)
unfolding fixed_text over
whole_field w d {r} {o} l f =
    let n : length (padded 32 (disassemble_text w)) ≡ 32 = disassembly_padded w in
    let z : drop (0 + length (padded 32 (disassemble_text w))) d ≡ [] = drop_of_length-le d {i = 0 + length (padded 32 (disassemble_text w))} (omega arith) in
    let p : o ≡ padded 32 (disassemble_text w) = f.1 ∙ written-fits d 0 (padded 32 (disassemble_text w)) (omega arith) ∙ rw (z, append-nil) in
    λ i. record { bytes = p i; len = f.0 i }

-- ---- the word behind a text

drop_zeros : (n k : ℕ) → n ≤ k → drop {A = ℕ} n (replicate k 0) ≡ replicate (k - n) 0
drop_zeros n k h =
    let e : n + (k - n) ≡ k = omega arith in
    ap (λ (m : ℕ). drop {A = ℕ} n (replicate m 0)) (sym e)
    ∙ ap (drop n) (sym (replicate-append-replicate n (k - n) 0))
    ∙ drop_at (replicate n 0) (replicate (k - n) 0) n (length-replicate n 0)

-- bytes written straight behind the live ones of a field
padded-more : (n : ℕ) (xs ys : List ℕ) → length xs + length ys ≤ n → written (padded n xs) (length xs) ys ≡ padded n (xs ++ ys)
unfolding padded over
padded-more n xs ys h =
    let z : List ℕ = replicate (n - length xs) 0 in
    let l : length (xs ++ z) ≡ n = simp (length-append, length-replicate) (omega arith) in
    let k : n - length xs - length ys ≡ n - length (xs ++ ys) = simp length-append (omega arith) in
    written-fits (xs ++ z) (length xs) ys (omega arith)
    ∙ rw (take-append_seam, drop-append-add, drop_zeros (length ys) (n - length xs) (omega arith), k, append_assoc)

-- and none of them
written_none : (d : List ℕ) (at : ℕ) → written d at [] ≡ d
unfolding written
written_none d at = go (within d at 0)
  where
    go : (b : Bool) → cond b (over d at []) d ≡ d
    go true = over_nil d at
    go false = refl

-- a field without the word behind the text, and with it, from what is written
module _ (t : Text) (digits d : List ℕ) (loose : Bool) where
  abbrev pub Ended : ℕ → List ℕ → Type 0
  Ended r o = (r ≡ t.len + length (ending loose)) × (o ≡ written d 0 (ended_bytes t digits loose))

  pub without_word : {r : ℕ} {o : List ℕ} → loose ≡ false → (r ≡ t.len) × (o ≡ written d 0 t.bytes) → Ended r o
  without_word e f = rw (e, written_none) (f.0 ∙ omega arith, f.1)

  pub with_word : {r : ℕ} {b o : List ℕ} → loose ≡ true → b ≡ written t.bytes t.len (map (fill_byte digits) (ascii " ; Wxyz"))
      → (r ≡ t.len + 7) × (o ≡ written d 0 b) → Ended r o
  with_word e g f = rw e (f.0, f.1 ∙ ap (written d 0) g)

-- the field of a word whose opcode is known, from what is written of its text's struct
module _ (w : ℕ) (op : Opcode) (d : List ℕ) where
  abbrev base : List ℕ
  base = ascii (template (Some op))

  abbrev loosely : Bool
  loosely = not (eqb (unused_of op w) 0)

  behind : {t : Text} {r : ℕ} {o : List ℕ} → length base + 7 ≤ 32 → t ≡ text (fill w base) → (r ≡ t.len + length (ending loosely)) × (o ≡ written d 0 (written t.bytes t.len (fill w (ending loosely))))
      → (r ≡ length (fill w (base ++ ending loosely))) × (o ≡ written d 0 (padded 32 (fill w (base ++ ending loosely))))
  unfolding fixed_text fill
  behind {t} h x f =
      let l : t.len ≡ length (fill w base) = ap (λ (v : Text). v.len) x in
      let v : length (fill w base) ≡ length base = length-fill w base in
      let m : length (fill w (ending loosely)) ≡ length (ending loosely) = length-fill w (ending loosely) in
      let c : length (ending loosely) ≤ 7 = ending-short loosely in
      let z : length (fill w (base ++ ending loosely)) ≡ length base + length (ending loosely) = length-fill w (base ++ ending loosely) ∙ length-append base (ending loosely) in
      let p : written t.bytes t.len (fill w (ending loosely)) ≡ padded 32 (fill w base ++ fill w (ending loosely)) =
      ap (λ (j : Text). written j.bytes j.len (fill w (ending loosely))) x ∙ padded-more 32 (fill w base) (fill w (ending loosely)) (omega (arith, h, v, m, c)) in
      (f.0 ∙ omega (arith, l, v, z), f.1 ∙ ap (written d 0) (p ∙ ap (padded 32) (sym (map-append (fill_byte (hex4 w)) base (ending loosely)))))

  pub ended : {digits : List ℕ} {n : ℕ} {t : Text} {r : ℕ} {o : List ℕ} → digits ≡ hex4 w → decode_word w ≡ Some op → length base + 7 ≤ 32
      → n ≡ unused_of op w → t ≡ text (map (fill_byte digits) base) → Ended t digits d (not (eqb n 0)) r o
      → (r ≡ length (disassemble_text w)) × (o ≡ written d 0 (padded 32 (disassemble_text w)))
  unfolding fill disassemble_text
  ended e k h u g f = rw k (behind h (rw e at g) (rw (u, e) at f))
