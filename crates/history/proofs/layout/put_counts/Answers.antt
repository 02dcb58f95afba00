-- `put_counts` meets its contract: the pieces lie one behind the other. Assumes nothing.
use mathlib.Core.List.{[], ◌∷◌}
use native.Mathlib.Omega.{arith}
use Rattle.encoding.specs.Bytes.{big_endian}
use Rattle.encoding.proofs.Written.{writtens_eq}
use Rattle.encoding.proofs.Numbers.{length-big_endian}
use Rattle.control.specs.Codes.{fault_width, fault_bytes}
use Rattle.control.proofs.Faults.{length-fault}
use Rattle.history.specs.Record.{counter_width, fault_kind_at, count_bytes}
use Rattle.history.proofs.layout.put_counts.Goals as goal

pub returns : goal.returns
unfolding count_bytes
returns c =
    let p = c in
    let q = p in
    let r = q in
    let b = r in
    let s = b in
    let a = s.args in
    rw (p.put_number-2.ensures, q.put_number.ensures, r.put_bytes.ensures, b.fault_bytes-bytes.ensures)
    (writtens_eq a.part.now fault_kind_at
    ((fault_width, fault_bytes a.fault) ∷ (counter_width, big_endian counter_width a.instructions) ∷ (counter_width, big_endian counter_width a.micro_operations) ∷ [])
    (length-fault a.fault, (length-big_endian counter_width a.instructions, (length-big_endian counter_width a.micro_operations, tt)))
    (omega (arith, s.requires)))
