-- `put_state` meets its contract: the pieces lie one behind the other. Assumes nothing.
use mathlib.Core.List.{[], ◌∷◌}
use native.Mathlib.Omega.{arith}
use Rattle.encoding.specs.Bytes.{big_endian}
use Rattle.encoding.proofs.Written.{writtens_eq}
use Rattle.encoding.proofs.Numbers.{length-big_endian}
use Rattle.std.specs.Int.{from_bool}
use Rattle.control.specs.Address.{address_width}
use Rattle.history.specs.Record.{byte_width, word_width, mar_at, state_bytes}
use Rattle.history.proofs.layout.put_state.Goals as goal

pub shape_of-part : goal.shape_of-part
shape_of-part c =
    let p = c in
    let q = p in
    let r = q in
    let t = r in
    let u = t in
    let v = u in
    omega (arith, p.put_number-6.auto, q.put_number-5.auto, r.put_number-4.auto, t.put_number-3.auto, u.put_number-2.auto, v.put_number.auto)

pub returns : goal.returns
unfolding state_bytes
returns c =
    let p = c in
    let q = p in
    let r = q in
    let t = r in
    let u = t in
    let v = u in
    let s = v in
    let a = s.args in
    let k = a.control in
    rw (p.put_number-6.ensures, p.from.ensures, q.put_number-5.ensures, r.put_number-4.ensures, t.put_number-3.ensures, u.put_number-2.ensures, v.put_number.ensures)
    (writtens_eq a.part.now mar_at
    ((address_width, big_endian address_width k.mar) ∷ (word_width, big_endian word_width k.mdr) ∷ (byte_width, big_endian byte_width k.instruction_address) ∷ (byte_width, big_endian byte_width k.tick) ∷ (byte_width, big_endian byte_width k.execute_ticks) ∷ (byte_width, big_endian byte_width (from_bool k.halted)) ∷ [])
    (length-big_endian address_width k.mar, (length-big_endian word_width k.mdr, (length-big_endian byte_width k.instruction_address, (length-big_endian byte_width k.tick, (length-big_endian byte_width k.execute_ticks, (length-big_endian byte_width (from_bool k.halted), tt))))))
    (omega (arith, s.requires)))
