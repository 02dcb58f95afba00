-- Assumes nothing.
use Rattle.control.proofs.control.AluOperation.name.Goals as goal
use Rattle.control.proofs.control.AluOperation.name.Goals.{in-Add, in-Negate, in-Shr, in-Shl, in-And, in-Or, in-Xor}

pub returns : goal.returns
returns c = elim c.match-self.branch [
  | in-Add w ↦ rw (c.from_bytes.ensures, w.name-is, w.in-Add.is)
  | in-Negate w ↦ rw (c.from_bytes.ensures, w.name-is, w.in-Negate.is)
  | in-Shr w ↦ rw (c.from_bytes.ensures, w.name-is, w.in-Shr.is)
  | in-Shl w ↦ rw (c.from_bytes.ensures, w.name-is, w.in-Shl.is)
  | in-And w ↦ rw (c.from_bytes.ensures, w.name-is, w.in-And.is)
  | in-Or w ↦ rw (c.from_bytes.ensures, w.name-is, w.in-Or.is)
  | in-Xor w ↦ rw (c.from_bytes.ensures, w.name-is, w.in-Xor.is)
]
