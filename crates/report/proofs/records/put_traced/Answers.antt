-- `put_traced` meets its contract: its pieces lie one behind the other.
-- Assumes nothing.
use mathlib.Core.Path.{refl}
use mathlib.Core.List.{[], ◌∷◌}
use native.Mathlib.Omega.{arith}
use Prim.Native.Nat.{◌+◌}
use Rattle.isa.specs.Sizes.{text_width}
use Rattle.secret.specs.Widths.{kind_width, number_width, place_width, phase_width}
use Rattle.encoding.specs.Bytes.{big_endian}
use Rattle.encoding.proofs.Written.{writtens_eq}
use Rattle.encoding.proofs.Numbers.{length-big_endian}
use Rattle.secret.specs.Report.{trace_bytes}
use Rattle.report.proofs.records.put_traced.Goals as goal

pub returns : goal.returns
unfolding trace_bytes big_endian
returns c =
    let a = c.args in
    rw (c.put_bytes-2.ensures, c.put_bytes.ensures, c.put_number-2.ensures, c.put_number.ensures)
    (writtens_eq a.out.now a.at
    ((kind_width, big_endian kind_width 4) ∷ (number_width, big_endian number_width a.number) ∷ (place_width + phase_width, a.address ∷ a.phase ∷ []) ∷ (text_width, a.text.now) ∷ [])
    (length-big_endian kind_width 4, (length-big_endian number_width a.number, (refl, (c.requires.1, tt))))
    (omega (arith, c.requires)))
