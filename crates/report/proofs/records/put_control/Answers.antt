-- `put_control` meets its contract: its pieces lie one behind the other.
-- Assumes nothing.
use mathlib.Core.Path.{refl}
use mathlib.Core.List.{[], ◌∷◌}
use native.Mathlib.Omega.{arith}
use Rattle.encoding.specs.Bytes.{big_endian}
use Rattle.encoding.proofs.Written.{writtens_eq}
use Rattle.encoding.proofs.Numbers.{length-big_endian}
use Rattle.control.specs.Address.{address_width}
use Rattle.secret.specs.Widths.{value_width}
use Rattle.secret.specs.Report.{address_bytes, control_bytes}
use Rattle.report.proofs.records.put_control.Goals as goal

pub returns : goal.returns
unfolding control_bytes big_endian
returns c =
    let a = c.args in
    rw (c.put_bytes-2.ensures, c.put_number.ensures, c.put_bytes.ensures)
    (writtens_eq a.out.now a.at
    ((3, a.pc ∷ big_endian value_width a.ir) ∷ (address_width, address_bytes a.mar) ∷ (3, a.mark ∷ big_endian value_width a.mdr) ∷ [])
    (refl, (length-big_endian address_width a.mar, (refl, tt)))
    (omega (arith, c.requires)))
