use mathlib.Core.Path.{◌≡◌}
use mathlib.Core.Bool.{cond}
use Rattle.isa.specs.Word.{digit_x, digit_y}
use Rattle.marks.proofs.Moves.{marks_moved}
use Rattle.marks.proofs.mark_decoded.Goals as goal
use Rattle.marks.proofs.mark_decoded.Goals.{then-m, else-m}

pub returns : goal.returns
returns c =
    let a = c.args in
    let m = c.moves_of-m in
    let to : c.if-m.to ≡ cond m.result.to_y (digit_y a.word) (digit_x a.word) = elim c.if-m.branch [ then-m w ↦ rw w.if-m.true w.to-is | else-m w ↦ rw w.if-m.false w.to-is ] in
    marks_moved a.word a.memory.now a.registers.now a.decoded c.reached_address-at.ensures c.join-both.ensures m.ensures to c.open_cleared.ensures
