-- Assumes nothing.
use Rattle.std.specs.Prelude.{None, Option, Some}
use native.Mathlib.Omega.{arith}
use Prim.Native.Nat.{ℕ, ◌+◌, ◌≤◌}
use mathlib.Core.List.{List, map}
use mathlib.Core.Bool.{not}
use mathlib.Core.Path.{◌≡◌, ap, ◌∙◌}
use lib.Dec.{eqb, lit≤}
use lib.ListN.{length}
use Rattle.isa.specs.declared.opcode.Opcode.{Opcode}
use Rattle.isa.specs.declared.opcode.Opcode.TheVariants.{LoadImmediate, LoadRegister, LoadMemory, StoreMemory, Add, Negate}
use Rattle.isa.specs.declared.opcode.Opcode.TheVariants.{ShiftRight, ShiftLeft, And, Or, Xor, Jump, Halt}
use Rattle.isa.specs.declared.instruction.Instruction.{Instruction}
use Rattle.isa.specs.Text.{Text, fixed_text, ascii, padded, text}
use Rattle.isa.specs.Word.{decode_word, instruction}
use Rattle.isa.specs.Nibbles.{unused_of}
use Rattle.isa.specs.Format.{hex4, fill_byte}
use Rattle.isa.proofs.Words.{decodes}
use Rattle.encoding.specs.Bytes.{written}
use Rattle.disasm.specs.Disassembly.{template, disassemble_text}
use Rattle.disasm.proofs.Texts.{whole, texted, fielded, Ended, ended}
use Rattle.disasm.proofs.disassembly.put_disassembly.Goals as goal

module _ (word : ℕ) (op o : Opcode) {i : Instruction} {d : Option Opcode} (read : i ≡ instruction word) (told : d ≡ decode_word i.raw) (is : d ≡ Some o) (e : o ≡ op) where
  -- what the word decodes to
  decoded : decode_word word ≡ Some op
  decoded = decodes word read told (is ∙ ap Some e)

  -- the field of a word whose opcode is known, where that uses all digits
  known : (field : List ℕ) {digits : List ℕ} {t : Text} {r : ℕ} {to : List ℕ} → digits ≡ hex4 word → t ≡ text (map (fill_byte digits) (whole (Some op) word))
      → (r ≡ t.len) × (to ≡ written field 0 t.bytes) → (r ≡ length (disassemble_text word)) × (to ≡ written field 0 (padded 32 (disassemble_text word)))
  known field g x f = fielded word field (texted word (Some op) g decoded x) f

  -- and where it does not, and `unused` is what stands in the others
  partly : (field : List ℕ) {digits : List ℕ} {n : ℕ} {t : Text} {r : ℕ} {to : List ℕ} → digits ≡ hex4 word → length (ascii (template (Some op))) + 7 ≤ 32 → n ≡ unused_of o word
      → t ≡ text (map (fill_byte digits) (ascii (template (Some op)))) → Ended t digits field (not (eqb n 0)) r to
      → (r ≡ length (disassemble_text word)) × (to ≡ written field 0 (padded 32 (disassemble_text word)))
  partly field g h u x f = ended word op field g decoded h (u ∙ ap (λ (k : Opcode). unused_of k word) e) x f

pub returns-in_default : goal.returns-in_default
unfolding template
returns-in_default c =
    let d = decodes c.args.word c.from_word.ensures c.opcode.ensures c.in_default.is in
    fielded c.args.word c.args.field.now (texted c.args.word None c.requires d c.unknown_text.ensures) c.put_field.ensures

pub put_ended-requires : goal.put_ended-requires
unfolding fixed_text
put_ended-requires c = let l : c.load_register_text.result.len ≡ 11 = ap (λ (v : Text). v.len) c.load_register_text.ensures in omega (arith, l)

pub put_ended-requires-in-Negate : goal.put_ended-requires-in-Negate
unfolding fixed_text
put_ended-requires-in-Negate c = let l : c.negate_text.result.len ≡ 9 = ap (λ (v : Text). v.len) c.negate_text.ensures in omega (arith, l)

pub put_ended-requires-in-Halt : goal.put_ended-requires-in-Halt
unfolding fixed_text
put_ended-requires-in-Halt c = let l : c.halt_text.result.len ≡ 4 = ap (λ (v : Text). v.len) c.halt_text.ensures in omega (arith, l)

pub returns-in-LoadImmediate : goal.returns-in-LoadImmediate
unfolding template
returns-in-LoadImmediate c = known c.args.word LoadImmediate c.in-Some.opcode c.from_word.ensures c.opcode.ensures c.in-Some.is c.in-LoadImmediate.is c.args.field.now c.requires c.load_immediate_text.ensures c.put_field-in-LoadImmediate.ensures

pub returns-in-LoadRegister : goal.returns-in-LoadRegister
unfolding template
returns-in-LoadRegister c = partly c.args.word LoadRegister c.in-Some.opcode c.from_word.ensures c.opcode.ensures c.in-Some.is c.in-LoadRegister.is c.args.field.now c.requires (lit≤ tt) c.unused-loose.ensures c.load_register_text.ensures c.put_ended.ensures

pub returns-in-LoadMemory : goal.returns-in-LoadMemory
unfolding template
returns-in-LoadMemory c = known c.args.word LoadMemory c.in-Some.opcode c.from_word.ensures c.opcode.ensures c.in-Some.is c.in-LoadMemory.is c.args.field.now c.requires c.load_memory_text.ensures c.put_field-in-LoadMemory.ensures

pub returns-in-StoreMemory : goal.returns-in-StoreMemory
unfolding template
returns-in-StoreMemory c = known c.args.word StoreMemory c.in-Some.opcode c.from_word.ensures c.opcode.ensures c.in-Some.is c.in-StoreMemory.is c.args.field.now c.requires c.store_memory_text.ensures c.put_field-in-StoreMemory.ensures

pub returns-in-Add : goal.returns-in-Add
unfolding template
returns-in-Add c = known c.args.word Add c.in-Some.opcode c.from_word.ensures c.opcode.ensures c.in-Some.is c.in-Add.is c.args.field.now c.requires c.add_text.ensures c.put_field-in-Add.ensures

pub returns-in-Negate : goal.returns-in-Negate
unfolding template
returns-in-Negate c = partly c.args.word Negate c.in-Some.opcode c.from_word.ensures c.opcode.ensures c.in-Some.is c.in-Negate.is c.args.field.now c.requires (lit≤ tt) c.unused-loose.ensures c.negate_text.ensures c.put_ended-in-Negate.ensures

pub returns-in-ShiftRight : goal.returns-in-ShiftRight
unfolding template
returns-in-ShiftRight c = known c.args.word ShiftRight c.in-Some.opcode c.from_word.ensures c.opcode.ensures c.in-Some.is c.in-ShiftRight.is c.args.field.now c.requires c.shift_right_text.ensures c.put_field-in-ShiftRight.ensures

pub returns-in-ShiftLeft : goal.returns-in-ShiftLeft
unfolding template
returns-in-ShiftLeft c = known c.args.word ShiftLeft c.in-Some.opcode c.from_word.ensures c.opcode.ensures c.in-Some.is c.in-ShiftLeft.is c.args.field.now c.requires c.shift_left_text.ensures c.put_field-in-ShiftLeft.ensures

pub returns-in-And : goal.returns-in-And
unfolding template
returns-in-And c = known c.args.word And c.in-Some.opcode c.from_word.ensures c.opcode.ensures c.in-Some.is c.in-And.is c.args.field.now c.requires c.and_text.ensures c.put_field-in-And.ensures

pub returns-in-Or : goal.returns-in-Or
unfolding template
returns-in-Or c = known c.args.word Or c.in-Some.opcode c.from_word.ensures c.opcode.ensures c.in-Some.is c.in-Or.is c.args.field.now c.requires c.or_text.ensures c.put_field-in-Or.ensures

pub returns-in-Xor : goal.returns-in-Xor
unfolding template
returns-in-Xor c = known c.args.word Xor c.in-Some.opcode c.from_word.ensures c.opcode.ensures c.in-Some.is c.in-Xor.is c.args.field.now c.requires c.xor_text.ensures c.put_field-in-Xor.ensures

pub returns-in-Jump : goal.returns-in-Jump
unfolding template
returns-in-Jump c = known c.args.word Jump c.in-Some.opcode c.from_word.ensures c.opcode.ensures c.in-Some.is c.in-Jump.is c.args.field.now c.requires c.jump_text.ensures c.put_field-in-Jump.ensures

pub returns-in-Halt : goal.returns-in-Halt
unfolding template
returns-in-Halt c = partly c.args.word Halt c.in-Some.opcode c.from_word.ensures c.opcode.ensures c.in-Some.is c.in-Halt.is c.args.field.now c.requires (lit≤ tt) c.unused-loose.ensures c.halt_text.ensures c.put_ended-in-Halt.ensures
