-- Assumes nothing.
use Prim.Native.Nat.{min}
use Rattle.isa.proofs.Texts.{copied_text}
use Rattle.isa.proofs.text.FixedText.from_bytes.Goals as goal

pub returns : goal.returns
returns g c = copied_text g.row.N c.args.s.now (min g.row.N 255) c.min-n.result (rw c.min.ensures at c.min-n.ensures) c.copy_from_slice.ensures.after
