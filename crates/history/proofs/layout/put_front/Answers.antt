-- `put_front` meets its contract: the pieces lie one behind the other. Assumes nothing.
use mathlib.Core.List.{[], ◌∷◌}
use Prim.Native.Nat.{◌*◌}
use native.Mathlib.Omega.{arith}
use lib.ListN.{length}
use Rattle.encoding.specs.Bytes.{big_endian, big_endians}
use Rattle.encoding.proofs.Written.{writtens_eq}
use Rattle.encoding.proofs.Numbers.{length-big_endian, length-big_endians}
use Rattle.history.specs.Record.{byte_width, word_width, pc_at, front_bytes}
use Rattle.history.proofs.layout.put_front.Goals as goal

pub returns : goal.returns
unfolding front_bytes
returns c =
    let p = c in
    let q = p in
    let r = q in
    let s = r in
    let a = s.args in
    rw (p.put_words.ensures, q.put_number-2.ensures, r.put_number.ensures)
    (writtens_eq a.part.now pc_at
    ((byte_width, big_endian byte_width a.pc) ∷ (word_width, big_endian word_width a.ir) ∷ (word_width * length a.registers.now, big_endians word_width a.registers.now) ∷ [])
    (length-big_endian byte_width a.pc, (length-big_endian word_width a.ir, (length-big_endians word_width a.registers.now, tt)))
    (omega (arith, s.requires)))
