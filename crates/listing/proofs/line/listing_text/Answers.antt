-- Assumes nothing.
use Rattle.std.specs.Prelude.{Option, Some}
use Rattle.isa.specs.declared.opcode.Opcode.{Opcode}
use Prim.Native.Nat.{ℕ}
use mathlib.Core.Bool.{Bool, true, false}
use mathlib.Core.Path.{◌≡◌, refl, sym, ap, ◌∙◌}
use borrow.Author.Tests.{lt-ltb, le-ltb}
use lib.Dec.{ltb}
use lib.ListN.{take}
use Rattle.isa.specs.declared.instruction.Instruction.{Instruction}
use Rattle.isa.specs.Text.{Text}
use Rattle.isa.specs.Text.{text}
use Rattle.isa.specs.Word.{byte_yz, decode_word, instruction}
use Rattle.isa.proofs.Words.{read_off, decodes}
use Rattle.listing.specs.declared.labels.Reference.{Reference}
use Rattle.listing.specs.declared.labels.Reference.TheVariants.{Loads, Stores, Jumps}
use Rattle.listing.specs.Listing.{reference_of, reference_text, listing_text}
use Rattle.listing.proofs.Lines.{listed, other_listed}
use Rattle.listing.proofs.line.listing_text.Goals as goal

module _ (w n : ℕ) {i : Instruction} {d : Option Opcode} {k : Option Reference} (read : i ≡ instruction w) (told : d ≡ decode_word i.raw) (refers : k ≡ reference_of d) where
  -- how the word refers to an address
  refers_as : reference_of (decode_word w) ≡ k
  refers_as = ap (λ (e : Option Opcode). reference_of e) (decodes w read told refl) ∙ sym refers

  -- an arm of a reference: whether it is inside, and which it is
  arm : (b : Bool) (j : Option Reference) {yz : ℕ} {r : Text} → yz ≡ byte_yz i.raw → ltb yz n ≡ b → k ≡ j → r ≡ text (take 32 (reference_text b j w)) → r ≡ text (listing_text n w)
  arm b j {yz} at e f g =
      let y : byte_yz w ≡ yz = read_off byte_yz w read at in
      listed n w b j (rw y e) (refers_as ∙ f) g

pub returns-then-inside : goal.returns-then-inside
returns-then-inside c =
    arm c.args.word c.args.count c.from_word-i.ensures c.opcode.ensures c.reference_of.ensures true (Some Loads) c.yz.ensures (lt-ltb _ _ c.if-inside.true) (c.in-Some.is ∙ ap (λ (r : Reference). Some r) c.in-Loads.is) c.format.ensures

pub returns-else-inside : goal.returns-else-inside
returns-else-inside c =
    arm c.args.word c.args.count c.from_word-i.ensures c.opcode.ensures c.reference_of.ensures false (Some Loads) c.yz.ensures (le-ltb _ _ c.if-inside.false) (c.in-Some.is ∙ ap (λ (r : Reference). Some r) c.in-Loads.is) c.format-else-inside.ensures

pub returns-then-inside-2 : goal.returns-then-inside-2
returns-then-inside-2 c =
    arm c.args.word c.args.count c.from_word-i.ensures c.opcode.ensures c.reference_of.ensures true (Some Stores) c.yz.ensures (lt-ltb _ _ c.if-inside-2.true) (c.in-Some.is ∙ ap (λ (r : Reference). Some r) c.in-Stores.is) c.format-then-inside-2.ensures

pub returns-else-inside-2 : goal.returns-else-inside-2
returns-else-inside-2 c =
    arm c.args.word c.args.count c.from_word-i.ensures c.opcode.ensures c.reference_of.ensures false (Some Stores) c.yz.ensures (le-ltb _ _ c.if-inside-2.false) (c.in-Some.is ∙ ap (λ (r : Reference). Some r) c.in-Stores.is) c.format-else-inside-2.ensures

pub returns-then-inside-3 : goal.returns-then-inside-3
returns-then-inside-3 c =
    arm c.args.word c.args.count c.from_word-i.ensures c.opcode.ensures c.reference_of.ensures true (Some Jumps) c.yz.ensures (lt-ltb _ _ c.if-inside-3.true) (c.in-Some.is ∙ ap (λ (r : Reference). Some r) c.in-Jumps.is) c.format-then-inside-3.ensures

pub returns-else-inside-3 : goal.returns-else-inside-3
returns-else-inside-3 c =
    arm c.args.word c.args.count c.from_word-i.ensures c.opcode.ensures c.reference_of.ensures false (Some Jumps) c.yz.ensures (le-ltb _ _ c.if-inside-3.false) (c.in-Some.is ∙ ap (λ (r : Reference). Some r) c.in-Jumps.is) c.format-else-inside-3.ensures

pub returns-in_default : goal.returns-in_default
returns-in_default c =
    c.other_text.ensures
    ∙ ap text (other_listed c.args.count c.args.word (refers_as c.args.word c.args.count c.from_word-i.ensures c.opcode.ensures c.reference_of.ensures ∙ c.in_default.is))
