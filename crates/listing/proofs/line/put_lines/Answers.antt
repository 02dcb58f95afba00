use native.Mathlib.Omega.{arith}
use mathlib.Core.Path.{sym, ◌∙◌}
use Prim.Native.Nat.{◌+◌, ◌*◌}
use lib.ListN.{length}
use Rattle.encoding.proofs.Written.{each_turn, each_done}
use Rattle.listing.specs.Listing.{line_of}
use Rattle.listing.proofs.Lines.{line_of_lem, length-line_of}
use Rattle.listing.proofs.line.put_lines.Goals as goal

pub loop-i-preserved : goal.loop-i-preserved
loop-i-preserved c =
    let l = c.loop-i in
    let s = c.args in
    let ws = s.words.now in (
      c.put_line.auto.out ∙ l.invariant.0,
      rw (c.put_line.ensures, ← (line_of_lem ws l.i (c.labels-table.ensures l.i (omega arith))))
          (each_turn 45 (line_of ws) l.out s.at l.i (length ws) (length-line_of ws l.i) (omega arith) (omega arith) ∙ l.invariant.1),
    )

pub returns : goal.returns
returns c =
    let l = c.loop-i in
    let s = c.args in
    sym (each_done (line_of s.words.now) l.out (s.at + 45 * l.i) l.i (length s.words.now) (omega arith)) ∙ l.invariant.1
